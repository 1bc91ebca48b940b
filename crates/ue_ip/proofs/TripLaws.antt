-- UE IP Address: reading and writing are inverse, of the values that are served. Assumes nothing.
use Rattle.std.specs.Prelude.{Result, Ok, Err}
use mathlib.Core.Bool.{Bool, true, false, ◌||◌, false≢true}
use mathlib.Core.List.{List, [], ◌∷◌, ◌++◌}
use mathlib.Core.Option.{some}
use mathlib.Core.Path.{◌≡◌, refl, sym, ap, ap₂, subst, ◌∙◌}
use Prim.Native.Nat.{ℕ, ◌+◌, ◌*◌, ◌^◌, ◌≤◌, ◌<◌}
use native.Mathlib.Omega.{arith}
use borrow.Author.Tests.{le-ltb, ltb-true, ltb-false}
use lib.Dec.{T, ltb, ltb→lt, lt→ltb}
use lib.ListN.{length, take, length-append}
use lib.Seq.{take_at, take_all}
use Rattle.octets.specs.Choice.{pick, flag, same_bool}
use Rattle.octets.specs.Octets.{be, bit, number, number_at, part, octet_at, octets}
use Rattle.octets.proofs.Tests.{is_true, and_left}
use Rattle.octets.proofs.Numbers.{length_be, number_be}
use Rattle.octets.proofs.Digits.{be_part, drop_octets}
use Rattle.rules.specs.Elements.{UeIp, ue_given, ue_choose, ue_other, ue_v4, ue_chv4, ue_unsupported, ue_fields, read_ue_ip, ue_allowed, ue_strange, ue_octets, write_ue_ip, refuse, value, too_short, incorrect}
use Rattle.element.proofs.OctetLaws.{no_octets, part_below}
use Rattle.element.proofs.FlagLaws.{eight_bits}
use Rattle.element.proofs.AnswerLaws.{some_same}
use Rattle.element.proofs.TripLaws.{refused_is_not, not_refused, value_same, written, code_inverse}
use Rattle.ue_ip.specs.declared.UeIp as ue
use Rattle.ue_ip.specs.declared.UeIp.TheVariants as ue-case
use Rattle.ue_ip.specs.Meaning.{ue_of, ue_answer}
use Rattle.ue_ip.specs.Trips.{WholeUeIp, UeIpInverse, UeIpCodeInverse, canonical, UeIpCanonical, UeIpCodeCanonical}
use Rattle.element.specs.declared.Refusal as code-refusal

-- an address or a CHOOSE is read from its octets, whatever follows
given_read : (xs rest : List ℕ) → length xs ≡ 4 → read_ue_ip (2 ∷ xs ++ rest) ≡ value (ue_given (number xs))
unfolding read_ue_ip ue_unsupported ue_fields bit number_at
given_read xs rest e =
    let l = length-append xs rest in
    rw (le-ltb (length (xs ++ rest)) 4 (omega arith), take_at xs rest 4 e)

pub ue_read_written : (v : UeIp) (rest : List ℕ) → T (ue_allowed v) → read_ue_ip (ue_octets v ++ rest) ≡ value v
unfolding ue_allowed ue_octets
ue_read_written (ue_given a) rest h =
    given_read (be 4 a) rest (length_be 4 a) ∙ ap (λ (n : ℕ). value (ue_given n)) (number_be 4 a (ltb-true a (2 ^ 32) (is_true (ltb a (2 ^ 32)) h)))
ue_read_written ue_choose rest h = unfold read_ue_ip ue_unsupported ue_fields bit in refl
ue_read_written ue_other rest h = absurd h

-- the octets of an address or a CHOOSE that was read are those it was read from, without what was ignored
pub ue_canonical : UeIpCanonical
unfolding UeIpCanonical read_ue_ip ue_fields number_at canonical ue_octets ue_allowed ue_strange
ue_canonical [] v o h k = refused_is_not h
ue_canonical (f ∷ xs) v o h k =
    by (ue_unsupported f) (same_bool (ue_v4 f) (ue_chv4 f)) (ue_chv4 f) (ltb (length xs) 4) (λ q. ltb-false (length xs) 4 q) h
  where
    by : (u w c l : Bool) → (l ≡ false → 4 ≤ length xs)
        → pick u (value ue_other) (pick w (refuse incorrect) (pick c (value ue_choose) (pick l (refuse too_short) (value (ue_given (number (part 0 4 xs))))))) ≡ value v
        → (ue_octets v ≡ pick c (16 ∷ []) (2 ∷ take 4 xs)) × T (ue_allowed v)
    by true w c l q e = let z : true ≡ false = ap ue_strange (value_same e) ∙ k in absurd (false≢true (sym z))
    by false true c l q e = refused_is_not e
    by false false true l q e =
        let z : ue_choose ≡ v = value_same e in (ap ue_octets (sym z), subst (λ (x : UeIp). T (ue_allowed x)) z tt)
    by false false false true q e = refused_is_not e
    by false false false false q e =
        let z : ue_given (number (part 0 4 xs)) ≡ v = value_same e in
        let p : T (octets xs) = drop_octets 1 (f ∷ xs) o in (
          ap ue_octets (sym z) ∙ ap (λ (l : List ℕ). 2 ∷ l) (be_part 0 4 xs p (q refl)),
          subst (λ (x : UeIp). T (ue_allowed x)) z (lt→ltb (number (part 0 4 xs)) (2 ^ 32) (part_below 0 4 xs p (q refl))),
        )

-- none of four bits
none_set : (a b c d : Bool) → (a || b || c || d) ≡ false → flag a + flag b + flag c + flag d ≡ 0
none_set true b c d e = absurd (false≢true (sym e))
none_set false true c d e = absurd (false≢true (sym e))
none_set false false true d e = absurd (false≢true (sym e))
none_set false false false true e = absurd (false≢true (sym e))
none_set false false false false e = refl

-- of the flags only V4 and CHV4 are set
two_flags : (f : ℕ) → f < 256 → ue_unsupported f ≡ false → bit 2 f ≡ false → bit 7 f ≡ false → f ≡ 2 * flag (bit 1 f) + 16 * flag (bit 4 f)
unfolding ue_unsupported
two_flags f h u d z =
    let e = eight_bits f h in
    let n = none_set (bit 0 f) (bit 3 f) (bit 5 f) (bit 6 f) u in
    let i : flag (bit 2 f) ≡ 0 = ap flag d in
    let j : flag (bit 7 f) ≡ 0 = ap flag z in
    omega arith

-- octets with nothing ignored are canonical
canonical_whole : (s : List ℕ) (v : UeIp) → T (octets s) → read_ue_ip s ≡ value v → WholeUeIp s → canonical s ≡ s
unfolding canonical read_ue_ip octet_at
canonical_whole [] v o h p = refl
canonical_whole (f ∷ xs) v o h p =
    let r : pick (same_bool (ue_v4 f) (ue_chv4 f)) (refuse incorrect) (ue_fields f xs) ≡ value v = rw p.served at h in
    let l : f < 256 = ltb→lt f 256 (and_left (ltb f 256) (octets xs) o) in
    by (ue_v4 f) (ue_chv4 f) (not_refused (same_bool (ue_v4 f) (ue_chv4 f)) incorrect (ue_fields f xs) v r).0
    (two_flags f l p.served p.direction p.spare) p.whole
  where
    by : (a c : Bool) → same_bool a c ≡ false → f ≡ 2 * flag a + 16 * flag c → length (f ∷ xs) ≡ 1 + 4 * flag a → pick c (16 ∷ []) (2 ∷ take 4 xs) ≡ f ∷ xs
    by true true e g n = absurd (false≢true (sym e))
    by true false e g n =
        let two : 2 ≡ f = omega arith in
        ap₂ ◌∷◌ two (take_all 4 xs (omega arith))
    by false true e g n =
        let sixteen : 16 ≡ f = omega arith in
        ap₂ ◌∷◌ sixteen (sym (no_octets xs (omega arith)))
    by false false e g n = absurd (false≢true (sym e))

-- such octets are of no value that is not served
served : (s : List ℕ) (v : UeIp) → read_ue_ip s ≡ value v → WholeUeIp s → ue_strange v ≡ false
unfolding read_ue_ip octet_at ue_fields number_at ue_strange
served [] v h p = refused_is_not h
served (f ∷ xs) v h p =
    let r : pick (same_bool (ue_v4 f) (ue_chv4 f)) (refuse incorrect) (ue_fields f xs) ≡ value v = rw p.served at h in
    by (ue_chv4 f) (ltb (length xs) 4) (not_refused (same_bool (ue_v4 f) (ue_chv4 f)) incorrect (ue_fields f xs) v r).1
  where
    by : (c l : Bool) → pick c (value ue_choose) (pick l (refuse too_short) (value (ue_given (number (part 0 4 xs))))) ≡ value v → ue_strange v ≡ false
    by true l e = ap ue_strange (sym (value_same e))
    by false true e = refused_is_not e
    by false false e = ap ue_strange (sym (value_same e))

pub ue_inverse : UeIpInverse
unfolding UeIpInverse UeIpCanonical
ue_inverse = record {
  back = ue_read_written;
  again = λ s v o h p.
      let c = ue_canonical s v o h (served s v h p) in
      (c.0 ∙ canonical_whole s v o h p, c.1);
}

-- ---- of the code

-- the code's case of a value
abbrev case_of : UeIp → ue.UeIp
case_of (ue_given a) = ue-case.Given a
case_of ue_choose = ue-case.Choose
case_of ue_other = ue-case.Other

case_of_lem : (v : ue.UeIp) → case_of (ue_of v) ≡ v
case_of_lem (ue-case.Given a) = refl
case_of_lem ue-case.Choose = refl
case_of_lem ue-case.Other = refl

ue_answer_lem : (v : ue.UeIp) (x : UeIp) (a : Result ue.UeIp code-refusal.Refusal) → some (ue_of v) ≡ some x → some (ue_answer a) ≡ some (value x) → a ≡ Ok v
ue_answer_lem v x (Ok w) p q = ap Ok (sym (case_of_lem w) ∙ ap case_of (value_same (some_same q) ∙ sym (some_same p)) ∙ case_of_lem v)
ue_answer_lem v x (Err r) p q = refused_is_not (some_same q)

pub ue_code_inverse : UeIpCodeInverse
unfolding UeIpCodeInverse UeIpInverse write_ue_ip
ue_code_inverse = code_inverse ue_allowed ue_octets (λ v. some (ue_of v)) (λ a. some (ue_answer a)) Ok (λ v. refl) ue_answer_lem ue_inverse

pub ue_code_canonical : UeIpCodeCanonical
unfolding UeIpCodeCanonical UeIpCanonical write_ue_ip
ue_code_canonical s v r space after o h k l c =
    written ue_allowed ue_octets space after r (canonical s) (some (ue_of v)) (read_ue_ip s) (ap some h)
    (λ x q. ue_canonical s x o q (ap ue_strange (value_same (sym q ∙ sym h)) ∙ k)) l c
