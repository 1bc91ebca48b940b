-- FQ-CSID: what the code tests and reads, in the rules' terms; s the octets. Assumes nothing.
use Rattle.std.specs.Prelude.{Result, Ok, Err}
use mathlib.Core.Bool.{Bool, true, false, not, ◌&&◌, ◌||◌}
use mathlib.Core.List.{List, [], ◌∷◌, ◌++◌, map, append_assoc}
use mathlib.Core.Option.{some}
use mathlib.Core.Path.{◌≡◌, refl, sym, ap, ap₂, ◌∙◌}
use Prim.Native.Nat.{ℕ, zero, suc, ◌+◌, ◌-◌, ◌*◌, ◌/◌, ◌%◌, ◌^◌, ◌≤◌, ◌<◌, min}
use native.Mathlib.Nat.{not-suc-le-zero, zero-add}
use native.Mathlib.Omega.{arith}
use borrow.Author.Tests.{lt-ltb, le-ltb, le-leb, eq-eqb, ne_eqb, eqb-true, eqb-false}
use lib.Dec.{T, leb, eqb, not_T, lit<}
use lib.ListN.{length, get_or, drop, take-append-drop, length-append}
use lib.Seq.{drop-drop, get_or-drop}
use Rattle.octets.specs.Choice.{pick, all_of, map_option}
use Rattle.octets.specs.Octets.{be, number, part, octet_at, octets, slices, zeros, same_octets}
use Rattle.octets.specs.Fields.{width_of, narrow, fields_at, fit, field_octets}
use Rattle.octets.proofs.Tests.{each, of_true, is_true, is_false}
use Rattle.octets.proofs.Put.{length_part}
use Rattle.octets.proofs.Numbers.{number_be, same_eq}
use Rattle.octets.proofs.FieldLaws.{last_read, octets_fields, fit_fields_lem}
use Rattle.rules.specs.Elements as rules
use Rattle.rules.specs.Elements.{Fqcsid, address_length, operator_allowed, node_type_kept, csids_read, count_allowed, checked_csid, csid_rest, read_fqcsid, value, refuse, too_short, incorrect}
use Rattle.rules.specs.Limits.{max_operator}
use Rattle.element.specs.declared.Refusal.{Refusal}
use Rattle.fqcsid.specs.declared.FqCsid.{FqCsid}
use Rattle.element.specs.Answers.{refusal_of}
use Rattle.fqcsid.specs.Meaning.{fqcsid_answer, address_widths, word_width, csid_widths, fqcsid_widths, address_numbers, csid_numbers, csid_address, csids_in, fqcsid_tests, fqcsid_meant, fqcsid_of}
use Rattle.element.proofs.OctetLaws.{fit_at, width_of_two, slices_front}
use Rattle.element.proofs.AnswerLaws.{ReadAs, read_as, some_same}

-- ---- the widths

pub sixteen : (t : ℕ) → t ≡ 1 → (16 ≡ address_length t) × (16 ≤ 16)
unfolding address_length
sixteen t e = (rw (eq-eqb t 1 e), omega arith)

pub four : (t : ℕ) → (t ≡ 1 → ⊥) → (4 ≡ address_length t) × (4 ≤ 16)
unfolding address_length
four t e = (rw (ne_eqb t 1 e), omega arith)

pub widths_long : (t m : ℕ) (a b c d : ℕ) → t ≡ 1 → a ≡ word_width 0 m → b ≡ word_width 1 m → c ≡ word_width 2 m → d ≡ word_width 3 m
    → 1 ∷ 8 ∷ 8 ∷ a ∷ b ∷ c ∷ d ∷ 1 ∷ [] ≡ fqcsid_widths t m
unfolding address_widths csid_widths
widths_long t m a b c d e i j k l = rw (eq-eqb t 1 e, i, j, k, l)

pub widths_small : (t m : ℕ) (a b c d : ℕ) → (t ≡ 1 → ⊥) → a ≡ word_width 0 m → b ≡ word_width 1 m → c ≡ word_width 2 m → d ≡ word_width 3 m
    → 1 ∷ 0 ∷ 4 ∷ a ∷ b ∷ c ∷ d ∷ 1 ∷ [] ≡ fqcsid_widths t m
unfolding address_widths csid_widths
widths_small t m a b c d e i j k l = rw (ne_eqb t 1 e, i, j, k, l)

-- there are two numbers of the address, which take its octets
pub two_widths : (t : ℕ) → length (address_widths t) ≡ 2
unfolding address_widths
two_widths t = by (eqb t 1)
  where
    by : (b : Bool) → length {A = ℕ} (pick b (8 ∷ 8 ∷ []) (0 ∷ 4 ∷ [])) ≡ 2
    by true = refl
    by false = refl

pub width_address : (t : ℕ) → width_of (address_widths t) ≡ address_length t
unfolding address_widths address_length
width_address t = by (eqb t 1)
  where
    by : (b : Bool) → width_of (pick b (8 ∷ 8 ∷ []) (0 ∷ 4 ∷ [])) ≡ pick b 16 4
    by true = refl
    by false = refl

-- m CSIDs take two octets each
word_first : (r : ℕ) → min 8 (r - 0) + (r - 8) ≡ r
word_first r = omega arith

word_step : (r : ℕ) → min 8 r + (r - 8) ≡ r
word_step r = omega arith

word_last : (r : ℕ) → r ≤ 8 → min 8 r ≡ r
word_last r h = omega arith

four_words : (r a b c d : ℕ) → r ≤ 32 → a + (r - 8) ≡ r → b + (r - 8 - 8) ≡ r - 8 → c + (r - 16 - 8) ≡ r - 16 → d ≡ r - 24 → a + (b + (c + (d + 0))) ≡ r
four_words r a b c d h i j k l = omega arith

pub width_csids : (m : ℕ) → m < 16 → width_of (csid_widths m) ≡ 2 * m
unfolding csid_widths
width_csids m h =
    four_words (2 * m) (word_width 0 m) (word_width 1 m) (word_width 2 m) (word_width 3 m) (omega arith) (word_first (2 * m)) (word_step (2 * m - 8)) (word_step (2 * m - 16))
    (word_last (2 * m - 24) (omega arith))

pub eight_widths : (t m : ℕ) → length (fqcsid_widths t m) ≡ 8
unfolding csid_widths
eight_widths t m = ap suc (length-append (address_widths t) (csid_widths m ++ 1 ∷ []) ∙ ap (λ (n : ℕ). n + 5) (two_widths t))

pub width_all : (t m : ℕ) → m < 16 → width_of (fqcsid_widths t m) ≡ 1 + (address_length t + (2 * m + 1))
width_all t m h =
    ap (λ (n : ℕ). 1 + n)
    (width_of_two (address_widths t) (csid_widths m ++ 1 ∷ [])
    ∙ ap₂ ◌+◌ (width_address t) (width_of_two (csid_widths m) (1 ∷ []) ∙ ap (λ (n : ℕ). n + 1) (width_csids m h)))

narrow_word : (k m : ℕ) → word_width k m ≤ 8
narrow_word k m = omega arith

pub narrow_widths : (t m : ℕ) → narrow (fqcsid_widths t m) ≡ true
unfolding address_widths csid_widths narrow
narrow_widths t m = by (eqb t 1)
  where
    by : (b : Bool) → narrow (1 ∷ pick b (8 ∷ 8 ∷ []) (0 ∷ 4 ∷ []) ++ (word_width 0 m ∷ word_width 1 m ∷ word_width 2 m ∷ word_width 3 m ∷ [] ++ 1 ∷ [])) ≡ true
    by true = rw (le-leb (word_width 0 m) 8 (narrow_word 0 m), le-leb (word_width 1 m) 8 (narrow_word 1 m), le-leb (word_width 2 m) 8 (narrow_word 2 m), le-leb (word_width 3 m) 8 (narrow_word 3 m))
    by false = rw (le-leb (word_width 0 m) 8 (narrow_word 0 m), le-leb (word_width 1 m) 8 (narrow_word 1 m), le-leb (word_width 2 m) 8 (narrow_word 2 m), le-leb (word_width 3 m) 8 (narrow_word 3 m))

-- ---- the rules, by the numbers of a struct

-- an address of four octets is the second number's
small_address : (high low : ℕ) → fit (0 ∷ 4 ∷ []) (high ∷ low ∷ []) ≡ true → low < 256 ^ 4
small_address high low h = fit_at 1 (0 ∷ 4 ∷ []) (high ∷ low ∷ []) (lit< tt) h

small_widths : (t : ℕ) → (t ≡ 1 → ⊥) → address_widths t ≡ 0 ∷ 4 ∷ []
unfolding address_widths
small_widths t h = rw (ne_eqb t 1 h)

small_number : (high low : ℕ) → low < 256 ^ 4 → number (field_octets (0 ∷ 4 ∷ []) (high ∷ low ∷ [])) ≡ low
unfolding field_octets be
small_number high low h = number_be 4 low h

small_zero : (high low : ℕ) → low < 256 ^ 4 → same_octets (field_octets (0 ∷ 4 ∷ []) (high ∷ low ∷ [])) (zeros 4) ≡ eqb low 0
unfolding field_octets be zeros same_octets number
small_zero high low h = by (eqb low 0) refl
  where
    by : (b : Bool) → eqb low 0 ≡ b → same_octets (field_octets (0 ∷ 4 ∷ []) (high ∷ low ∷ [])) (zeros 4) ≡ eqb low 0
    by true e = rw (eqb-true low 0 e)
    by false e =
        is_false (same_octets (field_octets (0 ∷ 4 ∷ []) (high ∷ low ∷ [])) (zeros 4))
        (not_T (same_octets (field_octets (0 ∷ 4 ∷ []) (high ∷ low ∷ [])) (zeros 4)) (λ s. eqb-false low 0 e (sym (small_number high low h) ∙ ap number (same_eq (field_octets (0 ∷ 4 ∷ []) (high ∷ low ∷ [])) (zeros 4) s))))
        ∙ sym e

operator_is : (t high low : ℕ) → fit (address_widths t) (high ∷ low ∷ []) ≡ true
    → operator_allowed t (field_octets (address_widths t) (high ∷ low ∷ [])) ≡ (not (eqb t 2) || leb (low / 4096) max_operator)
unfolding operator_allowed
operator_is t high low h = by (eqb t 2) refl
  where
    by : (b : Bool) → eqb t 2 ≡ b → operator_allowed t (field_octets (address_widths t) (high ∷ low ∷ [])) ≡ (not (eqb t 2) || leb (low / 4096) max_operator)
    by true e =
        let two = eqb-true t 2 e in
        let w = small_widths t (λ q. omega arith) in
        rw (w, small_number high low (small_address high low (rw w at h)))
    by false e = rw e

count_is : (m t high low : ℕ) → fit (address_widths t) (high ∷ low ∷ []) ≡ true
    → count_allowed m t (field_octets (address_widths t) (high ∷ low ∷ [])) ≡ (not (eqb m 0) || (eqb t 0 && eqb low 0))
unfolding count_allowed
count_is zero t high low h = by (eqb t 0) refl
  where
    by : (b : Bool) → eqb t 0 ≡ b → (eqb t 0 && same_octets (field_octets (address_widths t) (high ∷ low ∷ [])) (zeros 4)) ≡ (eqb t 0 && eqb low 0)
    by true e =
        let none = eqb-true t 0 e in
        let w = small_widths t (λ q. omega arith) in
        rw (w, small_zero high low (small_address high low (rw w at h)))
    by false e = rw e
count_is (suc m) t high low h = rw (ne_eqb (suc m) 0 (λ q. omega arith))

-- the rules as the code tests them, by the numbers
abbrev pub rule_tests : FqCsid → List Bool
rule_tests v =
    node_type_kept v.node_type
    ∷ (not (eqb v.id_type 2) || leb (v.address_low / 4096) max_operator)
    ∷ (not (eqb v.count 0) || (eqb v.id_type 0 && eqb v.address_low 0))
    ∷ []

pub rules_are : (v : FqCsid) → fit (address_widths v.id_type) (address_numbers v) ≡ true
    → rule_tests v ≡ node_type_kept v.node_type ∷ operator_allowed v.id_type (csid_address v) ∷ count_allowed v.count v.id_type (csid_address v) ∷ []
rules_are v h = rw (operator_is v.id_type v.address_high v.address_low h, count_is v.count v.id_type v.address_high v.address_low h)

-- ---- the answers of the reader: t the Node-ID type and m the count of the octets s

abbrev pub type_of : List ℕ → ℕ
type_of s = get_or s 0 0 / 16

abbrev pub count_in : List ℕ → ℕ
count_in s = get_or s 0 0 % 16

pub read_empty : (s : List ℕ) → length s ≡ 0 → read_fqcsid s ≡ refuse too_short
unfolding read_fqcsid
read_empty [] h = refl
read_empty (x ∷ s) h = absurd (omega arith)

pub read_type : (s : List ℕ) → 0 < length s → 2 < type_of s → read_fqcsid s ≡ refuse incorrect
unfolding read_fqcsid
read_type [] h l = absurd (not-suc-le-zero h)
read_type (x ∷ s) h l = rw (lt-ltb 2 (x / 16) l)

pub read_short : (s ws : List ℕ) → 0 < length s → type_of s ≤ 2 → ws ≡ fqcsid_widths (type_of s) (count_in s) → length s < width_of ws → read_fqcsid s ≡ refuse too_short
unfolding read_fqcsid csid_rest
read_short [] ws h t w l = absurd (not-suc-le-zero h)
read_short (x ∷ s) ws h t w l =
    let e = width_all (x / 16) (x % 16) (omega arith) in
    let n : length s < address_length (x / 16) + 2 * (x % 16) + 1 = omega (arith, ap width_of w) in
    rw (le-ltb 2 (x / 16) t, lt-ltb (length s) (address_length (x / 16) + 2 * (x % 16) + 1) n)

pub read_checked : (s ws : List ℕ) → 0 < length s → type_of s ≤ 2 → ws ≡ fqcsid_widths (type_of s) (count_in s) → width_of ws ≤ length s
    → read_fqcsid s
    ≡ checked_csid (count_in s) (type_of s) (part 1 (address_length (type_of s)) s) (csids_read (count_in s) (drop (1 + address_length (type_of s)) s))
    (get_or s (1 + (address_length (type_of s) + 2 * count_in s)) 0 % 16)
unfolding read_fqcsid csid_rest octet_at
read_checked [] ws h t w l = absurd (not-suc-le-zero h)
read_checked (x ∷ s) ws h t w l =
    let e = width_all (x / 16) (x % 16) (omega arith) in
    let n : address_length (x / 16) + 2 * (x % 16) + 1 ≤ length s = omega (arith, ap width_of w) in
    rw (le-ltb 2 (x / 16) t, le-ltb (length s) (address_length (x / 16) + 2 * (x % 16) + 1) n)
    (ap₂ (λ (xs : List ℕ) (k : ℕ). checked_csid (x % 16) (x / 16) (part 0 (address_length (x / 16)) s) (csids_read (x % 16) xs) (k % 16))
    (drop-drop (address_length (x / 16)) 1 (x ∷ s)) (get_or-drop 1 (x ∷ s) (address_length (x / 16) + 2 * (x % 16)) 0))

-- the struct that the code makes of the type, the count and the numbers vs
abbrev pub struct_of : ℕ → ℕ → List ℕ → FqCsid
struct_of t m vs = record {
  id_type = t;
  count = m;
  address_high = get_or vs 1 0;
  address_low = get_or vs 2 0;
  csids_1 = get_or vs 3 0;
  csids_2 = get_or vs 4 0;
  csids_3 = get_or vs 5 0;
  csids_4 = get_or vs 6 0;
  node_type = get_or vs 7 0 % 16;
}

-- its numbers, where vs are the fields of the octets
address_numbers_lem : (t m : ℕ) (s : List ℕ) → address_numbers (struct_of t m (fields_at 0 (fqcsid_widths t m) s)) ≡ fields_at 1 (address_widths t) s
unfolding address_widths fields_at
address_numbers_lem t m s = by (eqb t 1)
  where
    by : (b : Bool) → address_numbers (struct_of t m (fields_at 0 (1 ∷ pick b (8 ∷ 8 ∷ []) (0 ∷ 4 ∷ []) ++ (csid_widths m ++ 1 ∷ [])) s)) ≡ fields_at 1 (pick b (8 ∷ 8 ∷ []) (0 ∷ 4 ∷ [])) s
    by true = refl
    by false = refl

csid_numbers_lem : (t m : ℕ) (s : List ℕ) → csid_numbers (struct_of t m (fields_at 0 (fqcsid_widths t m) s)) ≡ fields_at (1 + address_length t) (csid_widths m) s
unfolding address_widths csid_widths fields_at address_length
csid_numbers_lem t m s = by (eqb t 1)
  where
    by : (b : Bool) → csid_numbers (struct_of t m (fields_at 0 (1 ∷ pick b (8 ∷ 8 ∷ []) (0 ∷ 4 ∷ []) ++ (csid_widths m ++ 1 ∷ [])) s)) ≡ fields_at (1 + pick b 16 4) (csid_widths m) s
    by true = refl
    by false = refl

before_node : (t m : ℕ) → m < 16 → 0 + width_of (1 ∷ address_widths t ++ csid_widths m) ≡ 1 + (address_length t + 2 * m)
before_node t m h =
    zero-add (1 + width_of (address_widths t ++ csid_widths m))
    ∙ ap (λ (n : ℕ). 1 + n) (width_of_two (address_widths t) (csid_widths m) ∙ ap₂ ◌+◌ (width_address t) (width_csids m h))

pub node_number : (t m : ℕ) (s : List ℕ) → m < 16 → width_of (fqcsid_widths t m) ≤ length s
    → get_or (fields_at 0 (fqcsid_widths t m) s) 7 0 ≡ get_or s (1 + (address_length t + 2 * m)) 0
unfolding csid_widths
node_number t m s h l =
    let aw : List ℕ = address_widths t in
    let cw : List ℕ = csid_widths m in
    let e = width_all t m h in
    let same : fqcsid_widths t m ≡ (1 ∷ aw ++ cw) ++ (1 ∷ []) = ap (λ (l : List ℕ). 1 ∷ l) (sym (append_assoc aw cw (1 ∷ []))) in
    let seven : length (1 ∷ aw ++ cw) ≡ 7 = ap suc (length-append aw cw ∙ ap (λ (n : ℕ). n + 4) (two_widths t)) in
    let sum : 0 + width_of (1 ∷ aw ++ cw) ≡ 1 + (address_length t + 2 * m) = before_node t m h in
    ap (λ (l : List ℕ). get_or (fields_at 0 l s) 7 0) same
    ∙ ap (λ (k : ℕ). get_or (fields_at 0 ((1 ∷ aw ++ cw) ++ (1 ∷ [])) s) k 0) (sym seven)
    ∙ last_read 0 (1 ∷ aw ++ cw) s (omega arith)
    ∙ ap (λ (k : ℕ). get_or s k 0) sum

-- the address, the CSIDs and the node type of the octets
module _ (s : List ℕ) (o : T (octets s)) (t m : ℕ) (h : m < 16) (l : width_of (fqcsid_widths t m) ≤ length s) where
  address_read_lem : csid_address (struct_of t m (fields_at 0 (fqcsid_widths t m) s)) ≡ part 1 (address_length t) s
  address_read_lem =
      let e = width_all t m h in
      let a = width_address t in
      ap (field_octets (address_widths t)) (address_numbers_lem t m s) ∙ octets_fields 1 (address_widths t) s o (omega arith) ∙ ap (λ (n : ℕ). part 1 n s) a

  csids_read_lem : csids_in (struct_of t m (fields_at 0 (fqcsid_widths t m) s)) ≡ csids_read m (drop (1 + address_length t) s)
  unfolding csids_read
  csids_read_lem =
      let e = width_all t m h in
      let c = width_csids m h in
      let at : ℕ = 1 + address_length t in
      let p : field_octets (csid_widths m) (csid_numbers (struct_of t m (fields_at 0 (fqcsid_widths t m) s))) ≡ part at (2 * m) s =
      ap (field_octets (csid_widths m)) (csid_numbers_lem t m s) ∙ octets_fields at (csid_widths m) s o (omega arith) ∙ ap (λ (n : ℕ). part at n s) c in
      let n : length (part at (2 * m) s) ≡ 2 * m = length_part at (2 * m) s (omega arith) in
      let f : slices 2 m (part at (2 * m) s) ≡ slices 2 m (drop at s) =
      sym (slices_front 2 m (part at (2 * m) s) (drop (2 * m) (drop at s)) (omega arith)) ∙ ap (slices 2 m) (take-append-drop (2 * m) (drop at s)) in
      ap (λ (xs : List ℕ). map number (slices 2 m xs)) p ∙ ap (map number) f

  address_fits_lem : fit (address_widths t) (address_numbers (struct_of t m (fields_at 0 (fqcsid_widths t m) s))) ≡ true
  address_fits_lem =
      let e = width_all t m h in
      let a = width_address t in
      rw (address_numbers_lem t m s) (fit_fields_lem 1 (address_widths t) s o (omega arith))

  csids_fit_lem : fit (csid_widths m) (csid_numbers (struct_of t m (fields_at 0 (fqcsid_widths t m) s))) ≡ true
  csids_fit_lem =
      let e = width_all t m h in
      let c = width_csids m h in
      rw (csid_numbers_lem t m s) (fit_fields_lem (1 + address_length t) (csid_widths m) s o (omega arith))

  node_read : (struct_of t m (fields_at 0 (fqcsid_widths t m) s)).node_type ≡ get_or s (1 + (address_length t + 2 * m)) 0 % 16
  node_read = ap (λ (n : ℕ). n % 16) (node_number t m s h l)

-- a struct whose numbers fit means a value, if no CSIDs go with type and address zero
pub meant : (v : FqCsid) → v.id_type < 16 → v.count < 16 → v.node_type < 16 → fit (address_widths v.id_type) (address_numbers v) ≡ true
    → fit (csid_widths v.count) (csid_numbers v) ≡ true → count_allowed v.count v.id_type (csid_address v) ≡ true → fqcsid_of v ≡ some (fqcsid_meant v)
unfolding fqcsid_of fqcsid_tests
meant v h i j k l n = rw (lt-ltb v.id_type 16 h, lt-ltb v.count 16 i, lt-ltb v.node_type 16 j, k, l, n)

-- what the reader answers: vs the fields as the code has them
module _ (s ws vs : List ℕ) (o : T (octets s)) (h : 0 < length s) (type : type_of s ≤ 2) (w : ws ≡ fqcsid_widths (type_of s) (count_in s)) (l : width_of ws ≤ length s)
    (e : vs ≡ fields_at 0 ws s) where
  fields : vs ≡ fields_at 0 (fqcsid_widths (type_of s) (count_in s)) s
  fields = e ∙ ap (λ (l : List ℕ). fields_at 0 l s) w

  enough : width_of (fqcsid_widths (type_of s) (count_in s)) ≤ length s
  enough = rw w at l

  pub small : count_in s < 16
  small = omega arith

  checked : read_fqcsid s
      ≡ checked_csid (count_in s) (type_of s) (csid_address (struct_of (type_of s) (count_in s) vs)) (csids_in (struct_of (type_of s) (count_in s) vs)) (struct_of (type_of s) (count_in s) vs).node_type
  checked =
      read_checked s ws h type w l
      ∙ rw fields
      (λ i.
      checked_csid (count_in s) (type_of s) (sym (address_read_lem s o (type_of s) (count_in s) small enough) i) (sym (csids_read_lem s o (type_of s) (count_in s) small enough) i)
      (sym (node_read s o (type_of s) (count_in s) small enough) i))

  tests_are : all_of (rule_tests (struct_of (type_of s) (count_in s) vs))
      ≡ all_of (node_type_kept (get_or vs 7 0 % 16) ∷ operator_allowed (type_of s) (csid_address (struct_of (type_of s) (count_in s) vs)) ∷ count_allowed (count_in s) (type_of s) (csid_address (struct_of (type_of s) (count_in s) vs)) ∷ [])
  tests_are = ap all_of (rules_are (struct_of (type_of s) (count_in s) vs) (rw fields (address_fits_lem s o (type_of s) (count_in s) small enough)))

  pub read_incorrect : all_of (rule_tests (struct_of (type_of s) (count_in s) vs)) ≡ false → read_fqcsid s ≡ refuse incorrect
  unfolding checked_csid
  read_incorrect b = checked ∙ rw (sym tests_are ∙ b)

  pub read_value_lem : all_of (rule_tests (struct_of (type_of s) (count_in s) vs)) ≡ true → map_option value (fqcsid_of (struct_of (type_of s) (count_in s) vs)) ≡ some (read_fqcsid s)
  unfolding checked_csid
  read_value_lem b =
      let v : FqCsid = struct_of (type_of s) (count_in s) vs in
      let t = sym tests_are ∙ b in
      let c : count_allowed (count_in s) (type_of s) (csid_address v) ≡ true = is_true _ (each (node_type_kept (get_or vs 7 0 % 16) ∷ operator_allowed (type_of s) (csid_address v) ∷ count_allowed (count_in s) (type_of s) (csid_address v) ∷ []) (of_true t)).1.1.0 in
      ap (map_option value)
      (meant v (omega arith) small (omega arith) (rw fields (address_fits_lem s o (type_of s) (count_in s) small enough)) (rw fields (csids_fit_lem s o (type_of s) (count_in s) small enough)) c)
      ∙ ap some (sym (checked ∙ rw t))

-- ---- what callers ask of an answer

-- the reader's answer, where its case is known: a struct means the value that the rules answer, and a refusal is theirs
pub answer_value : {a : Result FqCsid Refusal} {v : FqCsid} {y : rules.Answer Fqcsid} → a ≡ Ok v → fqcsid_answer a ≡ some y → ReadAs (fqcsid_of v) y
answer_value {a} {v} {y} p q = read_as (fqcsid_of v) y (sym (ap fqcsid_answer p) ∙ q)

pub answer_refused : {a : Result FqCsid Refusal} {r : Refusal} {y : rules.Answer Fqcsid} → a ≡ Err r → fqcsid_answer a ≡ some y → y ≡ refuse (refusal_of r)
answer_refused p q = sym (some_same (sym (ap fqcsid_answer p) ∙ q))
