-- F-TEID: reading and writing are inverse. Assumes nothing.
use Rattle.std.specs.Prelude.{Result, Ok, Err}
use mathlib.Core.Bool.{Bool, true, false}
use mathlib.Core.List.{List, [], ◌∷◌, ◌++◌}
use mathlib.Core.Option.{none, some}
use mathlib.Core.Path.{◌≡◌, refl, sym, ap, ap₂, ◌∙◌}
use Prim.Native.Nat.{ℕ, ◌+◌, ◌*◌, ◌/◌, ◌%◌, ◌≤◌, ◌<◌}
use native.Mathlib.Omega.{arith}
use borrow.Author.Tests.{le-ltb, ltb-false}
use lib.Dec.{T, ltb}
use lib.ListN.{length, get_or, drop, length-append, get_or-append}
use Rattle.octets.specs.Choice.{pick, flag, all_of}
use Rattle.octets.specs.Octets.{number, number_at, part, octet_at, octets}
use Rattle.octets.specs.Fields.{width_of, fields_at, fit, field_octets}
use Rattle.octets.proofs.Tests.{of_true}
use Rattle.octets.proofs.FieldLaws.{first_written, fields_octets, octets_fields_all, first_read, elements_all, length_fields_at, fit_fields_lem}
use Rattle.rules.specs.Elements.{Fteid, choose, v4_flag, v6_flag, ch_flag, chid_flag, wrong_flags, fteid_length, chosen_fields, given_fields, fteid_fields, read_fteid, fteid_allowed, fteid_octets, write_fteid, value, too_short, incorrect}
use Rattle.laws.proofs.ElementLaws.{fteid_back}
use Rattle.fteid.specs.declared.FTeid.{FTeid}
use Rattle.fteid.specs.Meaning.{fteid_widths, fteid_numbers, fteid_tests, fteid_meant, fteid_of, fteid_answer}
use Rattle.fteid.specs.Trips.{WholeFteid, FteidInverse, FteidCodeInverse}
use Rattle.element.proofs.OctetLaws.{part_front, part_below}
use Rattle.element.proofs.FlagLaws.{bit_number, bit_first}
use Rattle.element.proofs.AnswerLaws.{picked, some_same}
use Rattle.fteid.proofs.ValueLaws as ValueLaws
use Rattle.fteid.proofs.ValueLaws.{fteid_octets_lem, fteid_allowed_lem, means, six}
use Rattle.element.proofs.TripLaws.{refused_is_not, not_refused, value_same, map_value, code_inverse}
use Rattle.element.specs.declared.Refusal as code-refusal

-- octets after the value are ignored
chosen_more : (b : Bool) (xs rest : List ℕ) → flag b ≤ length xs → pick b (some (octet_at (xs ++ rest) 0)) none ≡ pick b (some (octet_at xs 0)) none
unfolding octet_at
chosen_more true xs rest h = ap some (get_or-append xs rest 0 0 h)
chosen_more false xs rest h = refl

fields_more : (f : ℕ) (xs rest : List ℕ) → fteid_length f ≤ length xs → fteid_fields f (xs ++ rest) ≡ fteid_fields f xs
unfolding fteid_length fteid_fields chosen_fields given_fields number_at
fields_more f xs rest h = by (ch_flag f) refl
  where
    by : (c : Bool) → ch_flag f ≡ c → fteid_fields f (xs ++ rest) ≡ fteid_fields f xs
    by true c =
        let l : flag (chid_flag f) ≤ length xs = rw c at h in
        rw c (ap (choose (v4_flag f) (v6_flag f)) (chosen_more (chid_flag f) xs rest l))
    by false c =
        let l : 4 + 4 * flag (v4_flag f) + 16 * flag (v6_flag f) ≤ length xs = rw c at h in
        rw (
          c,
          part_front 0 4 xs rest (omega arith),
          part_front 4 (4 * flag (v4_flag f)) xs rest (omega arith),
          part_front (4 + 4 * flag (v4_flag f)) (16 * flag (v6_flag f)) xs rest (omega arith),
        )

pub fteid_more : (e : Bool) (s rest : List ℕ) (v : Fteid) → read_fteid e s ≡ value v → read_fteid e (s ++ rest) ≡ value v
unfolding read_fteid
fteid_more e [] rest v h = refused_is_not h
fteid_more e (f ∷ xs) rest v h =
    let one = not_refused (wrong_flags e f) incorrect _ v h in
    let two = not_refused (ltb (length xs) (fteid_length f)) too_short _ v one.1 in
    let l : fteid_length f ≤ length xs = ltb-false (length xs) (fteid_length f) two.0 in
    let n = length-append xs rest in
    rw (one.0, le-ltb (length (xs ++ rest)) (fteid_length f) (omega arith), fields_more f xs rest l) two.1

-- an allowed value is read from its octets, whatever follows
pub fteid_read_written : (e : Bool) (v : Fteid) (rest : List ℕ) → T (fteid_allowed e v) → read_fteid e (fteid_octets v ++ rest) ≡ value v
fteid_read_written e v rest h = fteid_more e (fteid_octets v) rest v (fteid_back e v h)

-- the struct of the fields of octets
abbrev fteid_in : ℕ → List ℕ → FTeid
fteid_in f vs = record { flags = f; teid = get_or vs 1 0; ipv4 = get_or vs 2 0; ipv6_high = get_or vs 3 0; ipv6_low = get_or vs 4 0; choose_id = get_or vs 5 0 }

-- means the value that is read there
module _ (s : List ℕ) (o : T (octets s)) (f : ℕ) (small : f < 16) (right : wrong_flags false f ≡ false) (enough : fteid_length f < length s) where
  struct_means : fteid_of (fteid_in f (fields_at 0 (fteid_widths f) s)) ≡ some (fteid_fields f (drop 1 s))
  unfolding fteid_widths fields_at number fteid_length
  struct_means = by (ch_flag f) refl
    where
      by : (c : Bool) → ch_flag f ≡ c → fteid_of (fteid_in f (fields_at 0 (fteid_widths f) s)) ≡ some (fteid_fields f (drop 1 s))
      by true c =
          let l : flag (chid_flag f) < length s = rw c at enough in
          let ch : f / 4 % 2 ≡ 1 = sym (bit_number 2 f) ∙ ap flag c in
          let w : flag (chid_flag f) ≡ f / 8 % 2 = bit_number 3 f in
          rw (c, w) (ValueLaws.fields_chosen s f small right enough (number (part 1 (f / 8 % 2) s)) ch refl (part_below 1 (f / 8 % 2) s o (omega arith)))
      by false c =
          let l : 4 + 4 * flag (v4_flag f) + 16 * flag (v6_flag f) < length s = rw c at enough in
          let z : f / 4 % 2 ≡ 0 = sym (bit_number 2 f) ∙ ap flag c in
          let w4 : flag (v4_flag f) ≡ f % 2 = bit_first f in
          let w8 : flag (v6_flag f) ≡ f / 2 % 2 = bit_number 1 f in
          rw (c, w4, w8)
          (ValueLaws.fields_given s f small right enough (number (part 1 4 s)) (number (part 5 (4 * (f % 2)) s)) (number (part (5 + 4 * (f % 2)) (8 * (f / 2 % 2)) s))
          (number (part (5 + 4 * (f % 2) + 8 * (f / 2 % 2)) (8 * (f / 2 % 2)) s)) o (λ q. omega arith) refl (part_below 1 4 s o (omega arith)) refl
          (part_below 5 (4 * (f % 2)) s o (omega arith)) refl (part_below (5 + 4 * (f % 2)) (8 * (f / 2 % 2)) s o (omega arith)) refl
          (part_below (5 + 4 * (f % 2) + 8 * (f / 2 % 2)) (8 * (f / 2 % 2)) s o (omega arith)))

width_whole : (f : ℕ) → width_of (fteid_widths f) ≡ 1 + fteid_length f
unfolding fteid_widths fteid_length
width_whole f = by (ch_flag f)
  where
    by : (c : Bool) → width_of (1 ∷ pick c (0 ∷ 0 ∷ 0 ∷ 0 ∷ flag (chid_flag f) ∷ []) (4 ∷ 4 * flag (v4_flag f) ∷ 8 * flag (v6_flag f) ∷ 8 * flag (v6_flag f) ∷ 0 ∷ []))
        ≡ 1 + pick c (flag (chid_flag f)) (4 + 4 * flag (v4_flag f) + 16 * flag (v6_flag f))
    by true = omega arith
    by false = omega arith

numbers_in : (f : ℕ) (xs : List ℕ) → fteid_numbers (fteid_in f (fields_at 0 (fteid_widths f) (f ∷ xs))) ≡ fields_at 0 (fteid_widths f) (f ∷ xs)
unfolding fteid_widths
numbers_in f xs =
    let vs : List ℕ = fields_at 0 (fteid_widths f) (f ∷ xs) in
    ap (λ (x : ℕ). x ∷ get_or vs 1 0 ∷ get_or vs 2 0 ∷ get_or vs 3 0 ∷ get_or vs 4 0 ∷ get_or vs 5 0 ∷ []) (sym (first_read _ (f ∷ xs)))
    ∙ elements_all 0 6 vs (length_fields_at 0 (fteid_widths f) (f ∷ xs) ∙ six f)

-- the octets of a value that was read, with nothing ignored, are those it was read from
pub fteid_written_read : (e : Bool) (s : List ℕ) (v : Fteid) → T (octets s) → read_fteid e s ≡ value v → WholeFteid s → (fteid_octets v ≡ s) × T (fteid_allowed e v)
unfolding read_fteid octet_at
fteid_written_read e [] v o h p = refused_is_not h
fteid_written_read e (f ∷ xs) v o h p =
    let one = not_refused (wrong_flags e f) incorrect _ v h in
    let two = not_refused (ltb (length xs) (fteid_length f)) too_short _ v one.1 in
    let l : fteid_length f ≤ length xs = ltb-false (length xs) (fteid_length f) two.0 in
    let ws : List ℕ = fteid_widths f in
    let u : FTeid = fteid_in f (fields_at 0 ws (f ∷ xs)) in
    let m : fteid_of u ≡ some v = struct_means (f ∷ xs) o f p.low (ValueLaws.right_anywhere e f one.0) (omega arith) ∙ ap some (value_same two.1) in
    let n : fteid_numbers u ≡ fields_at 0 ws (f ∷ xs) = numbers_in f xs in
    let w : length (f ∷ xs) ≡ width_of ws = p.whole ∙ sym (width_whole f) in
    let g : fit ws (fteid_numbers u) ≡ true = rw n (fit_fields_lem 0 ws (f ∷ xs) o (omega arith)) in (
      fteid_octets_lem u v m ∙ ap (field_octets ws) n ∙ octets_fields_all ws (f ∷ xs) o w,
      of_true (rw m at (fteid_allowed_lem e u p.low) ∙ rw (one.0, g)),
    )

-- one struct means a value
same_fteid : {v w : FTeid} → fteid_numbers v ≡ fteid_numbers w → v ≡ w
same_fteid e = ap (λ (l : List ℕ). fteid_in (get_or l 0 0) l) e

flags_in : (v : FTeid) → fit (fteid_widths v.flags) (fteid_numbers v) ≡ true → get_or (field_octets (fteid_widths v.flags) (fteid_numbers v) ++ []) 0 0 ≡ v.flags
unfolding fteid_widths
flags_in v h = first_written _ (fteid_numbers v) [] h

pub fteid_struct : (v w : FTeid) (x : Fteid) → fteid_of v ≡ some x → fteid_of w ≡ some x → v ≡ w
unfolding fteid_of
fteid_struct v w x p q =
    let a = means v (picked (all_of (fteid_tests v)) (fteid_meant v) x p).0 in
    let b = means w (picked (all_of (fteid_tests w)) (fteid_meant w) x q).0 in
    let o : field_octets (fteid_widths v.flags) (fteid_numbers v) ≡ field_octets (fteid_widths w.flags) (fteid_numbers w) = sym (fteid_octets_lem v x p) ∙ fteid_octets_lem w x q in
    let f : v.flags ≡ w.flags = sym (flags_in v a.fitting) ∙ ap (λ (l : List ℕ). get_or (l ++ []) 0 0) o ∙ flags_in w b.fitting in
    same_fteid
    (sym (fields_octets 0 [] (fteid_widths v.flags) (fteid_numbers v) [] refl a.fitting)
    ∙ ap₂ (λ (n : ℕ) (l : List ℕ). fields_at 0 (fteid_widths n) (l ++ [])) f o
    ∙ fields_octets 0 [] (fteid_widths w.flags) (fteid_numbers w) [] refl b.fitting)

-- an answer of the reader that means the value of a struct is that struct
fteid_answer_lem : (v : FTeid) (x : Fteid) (a : Result FTeid code-refusal.Refusal) → fteid_of v ≡ some x → fteid_answer a ≡ some (value x) → a ≡ Ok v
fteid_answer_lem v x (Ok w) p q = ap Ok (fteid_struct w v x (map_value (fteid_of w) x q) p)
fteid_answer_lem v x (Err r) p q = refused_is_not (some_same q)

pub fteid_inverse : FteidInverse
unfolding FteidInverse
fteid_inverse e = record { back = fteid_read_written e; again = fteid_written_read e }

pub fteid_code_inverse : FteidCodeInverse
unfolding FteidCodeInverse FteidInverse write_fteid
fteid_code_inverse e = code_inverse (fteid_allowed e) fteid_octets fteid_of fteid_answer Ok (λ v. refl) fteid_answer_lem (fteid_inverse e)
