-- A set deletion read element by element: its first fault, and what it lists. Assumes nothing.
use mathlib.Core.Path.{◌≡◌, refl, sym, ap, ◌∙◌}
use Prim.Native.Nat.{ℕ, zero, suc, ◌+◌, ◌*◌, ◌/◌, ◌%◌, ◌≤◌, ◌-◌}
use native.Mathlib.Omega.{arith}
use mathlib.Core.Bool.{Bool, true, false, or-false}
use mathlib.Core.Option.{none, some}
use mathlib.Core.List.{List, [], ◌∷◌, ◌++◌}
use lib.ListN.{length, take, drop, get_or, length-drop}
use lib.Seq.{drop-drop}
use lib.Dec.{ltb, eqb}
use borrow.Author.Tests.{eq-eqb, ne_eqb, ltb-false}
use Rattle.octets.specs.Choice.{pick, all_of, map_option}
use Rattle.octets.specs.Octets.{octet_at, part}
use Rattle.octets.specs.Lists.{member}
use Rattle.octets.proofs.Put.{part_from}
use Rattle.rules.specs.Types as ie
use Rattle.rules.specs.Elements.{Refusal, incorrect, too_short, cause_of, Answer, refuse, value, Fqcsid, sets, address_length, node_type_kept, operator_allowed, count_allowed, csids_read, csid_fields, checked_csid, csid_rest, read_fqcsid}
use Rattle.rules.specs.Message.{Element, set_deletion, acted_on, elements, list_place}
use Rattle.rules.specs.Reading.{Reading, faulty, done, refusal_at, and_then, named, listable, listed_read, list_read}
use Rattle.rules.specs.Causes as why
use Rattle.laws.proofs.MessageLaws.{el}
use Rattle.element.specs.Answers.{refusal_of}
use Rattle.fqcsid.specs.Meaning.{fqcsid_tests, fqcsid_meant, fqcsid_of, fqcsid_answer}
use Rattle.element.specs.declared.Refusal as codes
use Rattle.fqcsid.specs.declared.FqCsid.{FqCsid}
use Rattle.std.specs.Prelude.{Result, Ok, Err}
use Rattle.reading.specs.declared.Fault.{Fault}
use Rattle.reading.specs.Verdicts.{numbered, fault, fine, outcome}
use Rattle.sets.specs.Listed.{blank, gotten, list_step, listed_in, lists_in, Sized}
use Rattle.frame.proofs.Front.{Front, behind}

-- ---- one element

acted : (t : ℕ) → member t (acted_on set_deletion) ≡ eqb t ie.fqcsid
unfolding member acted_on
acted t = or-false (eqb t ie.fqcsid)

-- the first element, then the others
pub head_list : (t p : ℕ) (v : List ℕ) (es : List Element) → blank (list_read (el p t v ∷ es)) ≡ and_then (list_step t p v) (λ _. blank (list_read es))
unfolding list_read list_step
head_list t p v es = rw (acted t) (one (eqb t ie.fqcsid) (listed_read p v) (list_read es))
  where
    one : (b : Bool) (r : Reading Fqcsid) (q : Reading (List Fqcsid)) → blank (pick b (and_then r (λ c. and_then q (λ cs. done (c ∷ cs)))) q) ≡ and_then (pick b (blank r) (done tt)) (λ _. blank q)
    one true (faulty f) q = refl
    one true (done c) (faulty f) = refl
    one true (done c) (done cs) = refl
    one false r q = refl

-- none
pub end_list : (es : List Element) → es ≡ [] → outcome fine tt ≡ numbered (blank (list_read es))
unfolding list_read
end_list es e = rw e

-- ---- the fault of an element

pub skipped_fine : (t p : ℕ) (v : List ℕ) → (t ≡ ie.fqcsid → ⊥) → outcome fine tt ≡ numbered (list_step t p v)
unfolding list_step
skipped_fine t p v n = rw (ne_eqb t ie.fqcsid n)

module _ (t p : ℕ) (v : List ℕ) (is : t ≡ ie.fqcsid) where
  step_is : list_step t p v ≡ blank (listed_read p v)
  unfolding list_step
  step_is = rw (eq-eqb t ie.fqcsid is)

  pub refused_fault : (a : Result FqCsid codes.Refusal) (q : codes.Refusal) {f : Fault} → fqcsid_answer a ≡ some (read_fqcsid v) → a ≡ Err q → f ≡ record { cause = cause_of (refusal_of q); kind = ie.fqcsid; place = p } → outcome {B = Unit {0}} (Err f) tt ≡ numbered (list_step t p v)
  unfolding listed_read
  refused_fault a q e h c = let k : some (refuse (refusal_of q)) ≡ some (read_fqcsid v) = sym (ap fqcsid_answer h) ∙ e in let j : refuse (refusal_of q) ≡ read_fqcsid v = cc in rw (step_is, c, ← j)

  module _ (y : Result FqCsid codes.Refusal) (x : FqCsid) (from : fqcsid_answer y ≡ some (read_fqcsid v)) (is-value : y ≡ Ok x) where
    read : map_option value (fqcsid_of x) ≡ some (read_fqcsid v)
    read = sym (ap fqcsid_answer is-value) ∙ from

    value_read_lem : (c : Fqcsid) → fqcsid_meant x ≡ c → read_fqcsid v ≡ value (fqcsid_meant x)
    unfolding fqcsid_of
    value_read_lem c e = go (all_of (fqcsid_tests x)) read
      where
        go : (b : Bool) → map_option value (pick b (some (fqcsid_meant x)) none) ≡ some (read_fqcsid v) → read_fqcsid v ≡ value (fqcsid_meant x)
        go true h = sym cc
        go false h = let z : ◌≡◌ {A = ℕ} 0 1 = cc in absurd (omega arith)

    pub none_fault : x.count ≡ 0 → outcome {B = Unit {0}} (fault why.incorrect ie.fqcsid p) tt ≡ numbered (list_step t p v)
    unfolding listed_read csid_fields listable cause_of
    none_fault e = rw (step_is, value_read_lem _ refl, e)

    pub some_fine : (x.count ≡ 0 → ⊥) → outcome fine tt ≡ numbered (list_step t p v)
    unfolding listed_read listable csid_fields
    some_fine n = rw (step_is, value_read_lem _ refl) (go x.count n _ _ _ _)
      where
        go : (m : ℕ) → (m ≡ 0 → ⊥) → (k : ℕ) (y z : List ℕ) (j : ℕ) → outcome fine tt ≡ numbered (blank (pick (listable (csid_fields m k y z j)) (done (csid_fields m k y z j)) (refusal_at incorrect ie.fqcsid p)))
        go zero h k y z j = absurd (h refl)
        go (suc m) h k y z j = refl

-- ---- the walk

-- a fault stops it, and where there is none it goes on
pub stops : (x q : Reading (Unit {0})) (r : Result (Unit {0}) Fault) {f : Fault} → outcome r tt ≡ numbered x → r ≡ Err f → outcome r tt ≡ numbered (and_then x (λ _. q))
stops (faulty f) q r e h = e
stops (done a) q r e h = let z : ◌≡◌ {A = ℕ} 0 1 = cc in absurd (omega arith)

pub goes_on : (x q : Reading (Unit {0})) (r : Result (Unit {0}) Fault) → outcome r tt ≡ numbered x → r ≡ fine → and_then x (λ _. q) ≡ q
goes_on (faulty f) q r e h = let z : ◌≡◌ {A = ℕ} 0 1 = cc in absurd (omega arith)
goes_on (done a) q r e h = refl

pub record Lists (s : List ℕ) (at : ℕ) (rest : List ℕ) : Type 0 where
  pub placed : at + length rest ≤ list_place + length s
  pub same : blank (list_read (elements list_place s)) ≡ blank (list_read (elements at rest))

pub lists_none_lem : (s : List ℕ) → Lists s list_place s
lists_none_lem s = record { placed = omega arith; same = refl }

module _ {s : List ℕ} {at : ℕ} {rest : List ℕ} (l : Lists s at rest) where
  pub lists_end : ((p : ℕ) → elements p rest ≡ []) → outcome fine tt ≡ numbered (blank (list_read (elements list_place s)))
  lists_end nil = end_list (elements at rest) (nil at) ∙ ap (λ (x : Reading (Unit {0})). numbered x) (sym l.same)

  module _ {t e : ℕ} (f : Front rest t e) where
    whole : blank (list_read (elements list_place s)) ≡ and_then (list_step t at (take (e - 4) (drop 4 rest))) (λ _. blank (list_read (elements (at + e) (behind rest e))))
    whole = l.same ∙ ap (λ (es : List Element). blank (list_read es)) (f.cons at) ∙ head_list t at (take (e - 4) (drop 4 rest)) (elements (at + e) (behind rest e))

    pub lists_stop : {r : Result (Unit {0}) Fault} {x : Fault} → outcome r tt ≡ numbered (list_step t at (take (e - 4) (drop 4 rest))) → r ≡ Err x → outcome {B = Unit {0}} (Err x) tt ≡ numbered (blank (list_read (elements list_place s)))
    lists_stop {r} {x} h q = sym (ap (λ (z : Result (Unit {0}) Fault). outcome z tt) q) ∙ stops (list_step t at (take (e - 4) (drop 4 rest))) (blank (list_read (elements (at + e) (behind rest e)))) r h q ∙ ap (λ (x : Reading (Unit {0})). numbered x) (sym whole)

    pub lists_on : {r : Result (Unit {0}) Fault} → outcome r tt ≡ numbered (list_step t at (take (e - 4) (drop 4 rest))) → r ≡ fine → Lists s (at + e) (take (length rest - e) (drop e rest))
    lists_on {r} h q =
        record {
          placed = let p = l.placed in let x = f.high in rw (part_from e rest, length-drop) (omega arith);
          same = whole ∙ goes_on (list_step t at (take (e - 4) (drop 4 rest))) (blank (list_read (elements (at + e) (behind rest e)))) r h q;
        }

-- ---- what is listed

-- the octets of an FQ-CSID without a fault
module _ (p : ℕ) (c : Fqcsid) where
  abbrev checked : Answer Fqcsid → Reading Fqcsid
  checked a = and_then (named ie.fqcsid p a) (λ d. pick (listable d) (done d) (refusal_at incorrect ie.fqcsid p))

  fields : (m t : ℕ) (a cs : List ℕ) (n : ℕ) → checked (value (csid_fields m t a cs n)) ≡ done c → c ≡ sets t a cs n
  unfolding csid_fields listable
  fields zero t a cs n h = let z : ◌≡◌ {A = ℕ} 0 1 = cc in absurd (omega arith)
  fields (suc m) t a cs n h = sym cc

  refuses : (r : Refusal) {X : Type 0} → checked (refuse r) ≡ done c → X
  refuses r h = let z : ◌≡◌ {A = ℕ} 0 1 = cc in absurd (omega arith)

  pub listed_octets : (v : List ℕ) → listed_read p v ≡ done c → (c ≡ listed_in v) × Sized v
  unfolding listed_read read_fqcsid csid_rest checked_csid listed_in octet_at
  listed_octets [] h = refuses too_short h
  listed_octets (x ∷ xs) h = go (ltb 2 (x / 16)) (ltb (length xs) (address_length (x / 16) + 2 * (x % 16) + 1))
      (all_of (node_type_kept (octet_at xs (address_length (x / 16) + 2 * (x % 16)) % 16) ∷ operator_allowed (x / 16) (part 0 (address_length (x / 16)) xs) ∷ count_allowed (x % 16) (x / 16) (part 0 (address_length (x / 16)) xs) ∷ [])) refl h
    where
      go : (b d e : Bool) → ltb (length xs) (address_length (x / 16) + 2 * (x % 16) + 1) ≡ d
          → checked (pick b (refuse incorrect) (pick d (refuse too_short) (pick e (value (csid_fields (x % 16) (x / 16) (part 0 (address_length (x / 16)) xs) (csids_read (x % 16) (drop (address_length (x / 16)) xs)) (octet_at xs (address_length (x / 16) + 2 * (x % 16)) % 16))) (refuse incorrect)))) ≡ done c
          → (c ≡ listed_in (x ∷ xs)) × Sized (x ∷ xs)
      go true d e q g = refuses incorrect g
      go false true e q g = refuses too_short g
      go false false false q g = refuses incorrect g
      go false false true q g =
          let l = ltb-false (length xs) (address_length (x / 16) + 2 * (x % 16) + 1) q in
          let k : 1 + address_length (x / 16) + 2 * (x % 16) ≡ suc (address_length (x / 16) + 2 * (x % 16)) = omega arith in (
            fields (x % 16) (x / 16) _ _ _ g
                ∙ (λ i. sets (x / 16) (part 0 (address_length (x / 16)) xs) (csids_read (x % 16) (drop-drop (address_length (x / 16)) 1 (x ∷ xs) i)) (get_or (x ∷ xs) (sym k i) 0 % 16)),
            record { long = omega arith },
          )

-- the first element's, and the others'
module _ (t p : ℕ) (v : List ℕ) (es : List Element) (fine : blank (list_read (el p t v ∷ es)) ≡ done tt) where
  pub rest_fine : blank (list_read es) ≡ done tt
  rest_fine = go (list_step t p v) (sym (head_list t p v es) ∙ fine)
    where
      go : (x : Reading (Unit {0})) → and_then x (λ _. blank (list_read es)) ≡ done tt → blank (list_read es) ≡ done tt
      go (faulty f) h = let z : ◌≡◌ {A = ℕ} 0 1 = cc in absurd (omega arith)
      go (done u) h = h

  -- an FQ-CSID's octets are there
  pub listed_sized : t ≡ ie.fqcsid → Sized v
  unfolding list_step
  listed_sized is = go (listed_read p v) refl (sym (head_list t p v es) ∙ fine)
    where
      go : (r : Reading Fqcsid) → listed_read p v ≡ r → and_then (pick (eqb t ie.fqcsid) (blank (listed_read p v)) (done tt)) (λ _. blank (list_read es)) ≡ done tt → Sized v
      go (faulty f) e h = let k = rw (eq-eqb t ie.fqcsid is, e) at h in let z : ◌≡◌ {A = ℕ} 0 1 = cc in absurd (omega arith)
      go (done c) e h = (listed_octets p c v e).1

  -- what this element lists, then the others
  pub lists_more : lists_in t v ++ gotten (list_read es) ≡ gotten (list_read (el p t v ∷ es))
  unfolding list_read lists_in
  lists_more = rw (acted t) (go (eqb t ie.fqcsid) (listed_read p v) refl (list_read es) (rw (acted t) at fine))
    where
      go : (b : Bool) (r : Reading Fqcsid) → listed_read p v ≡ r → (q : Reading (List Fqcsid)) → blank (pick b (and_then r (λ c. and_then q (λ cs. done (c ∷ cs)))) q) ≡ done tt
          → pick b (listed_in v ∷ []) [] ++ gotten q ≡ gotten (pick b (and_then r (λ c. and_then q (λ cs. done (c ∷ cs)))) q)
      go true (faulty f) e q h = let z : ◌≡◌ {A = ℕ} 0 1 = cc in absurd (omega arith)
      go true (done c) e (faulty f) h = let z : ◌≡◌ {A = ℕ} 0 1 = cc in absurd (omega arith)
      go true (done c) e (done cs) h = ap (λ (d : Fqcsid). d ∷ cs) (sym (listed_octets p c v e).0)
      go false r e q h = refl
