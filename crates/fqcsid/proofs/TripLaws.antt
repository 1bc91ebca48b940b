-- FQ-CSID: reading and writing are inverse. Assumes nothing.
use Rattle.std.specs.Prelude.{Result, Ok, Err}
use mathlib.Core.Bool.{Bool, true, false}
use mathlib.Core.List.{List, [], ◌∷◌, ◌++◌, map, append_assoc}
use mathlib.Core.Option.{some}
use mathlib.Core.Path.{◌≡◌, refl, sym, ap, ap₂, ◌∙◌}
use Prim.Native.Nat.{ℕ, ◌+◌, ◌-◌, ◌*◌, ◌/◌, ◌%◌, ◌^◌, ◌≤◌, ◌<◌}
use native.Mathlib.Nat.{le_of_eq, mod-eq_of_lt, zero-add}
use native.Mathlib.Omega.{arith}
use borrow.Author.Tests.{le-ltb, ltb-true, ltb-false}
use lib.Dec.{T, ltb, ltb→lt, leb→le, eqb→eq}
use lib.ListN.{length, get_or, take, drop, length-append, length-drop, get_or-append}
use lib.Seq.{take_at, drop_at, get_or_at, drop-append-le}
use Rattle.octets.specs.Choice.{all_of}
use Rattle.octets.specs.Octets.{be, number, octet_at, octets, slices, concat_map, zeros, same_octets}
use Rattle.octets.specs.Fields.{width_of, fields_at, fit, field_octets}
use Rattle.octets.specs.Lists.{all}
use Rattle.octets.proofs.Tests.{each, of_true, is_true, and_left, and_right}
use Rattle.octets.proofs.Numbers.{length_be, number_be, length_concat_map, slices_concat_map}
use Rattle.octets.proofs.FieldLaws.{first_written, fields_octets, octets_fields_all, first_read, elements_all, length_fields_at, fit_fields_lem}
use Rattle.rules.specs.Elements.{Fqcsid, sets, removal, address_length, operator_allowed, node_address_tests, node_address_allowed, node_type_kept, csids_read, csid_fields, count_allowed, checked_csid, csid_rest, read_fqcsid, below16, sets_tests, fqcsid_allowed, fqcsid_octets, write_fqcsid, value, too_short, incorrect}
use Rattle.fqcsid.specs.declared.FqCsid.{FqCsid}
use Rattle.element.specs.Answers.{allowed_in}
use Rattle.fqcsid.specs.Meaning.{fqcsid_numbers, fqcsid_widths, fqcsid_of, fqcsid_answer}
use Rattle.fqcsid.specs.Trips.{WholeFqcsid, FqcsidInverse, FqcsidCodeInverse}
use Rattle.element.proofs.OctetLaws.{part_front, slices_front}
use Rattle.element.proofs.AnswerLaws.{some_same}
use Rattle.fqcsid.proofs.ValueLaws as ValueLaws
use Rattle.fqcsid.proofs.ValueLaws.{struct_of, rule_tests, type_of, count_in}
use Rattle.fqcsid.proofs.WriteLaws.{fqcsid_octets_lem, right_allowed, fits_meant, kept_small}
use Rattle.element.proofs.TripLaws.{refused_is_not, not_refused, map_value, code_inverse}
use Rattle.element.specs.declared.Refusal as code-refusal

-- octets after the value are ignored
csids_more : (m a : ℕ) (xs rest : List ℕ) → a + 2 * m ≤ length xs → csids_read m (drop a (xs ++ rest)) ≡ csids_read m (drop a xs)
unfolding csids_read
csids_more m a xs rest h =
    ap (map number)
    (ap (slices 2 m) (drop-append-le a xs rest (omega arith)) ∙ slices_front 2 m (drop a xs) rest (rw length-drop (omega arith)))

pub fqcsid_more : (s rest : List ℕ) (v : Fqcsid) → read_fqcsid s ≡ value v → read_fqcsid (s ++ rest) ≡ value v
unfolding read_fqcsid csid_rest octet_at
fqcsid_more [] rest v h = refused_is_not h
fqcsid_more (x ∷ xs) rest v h =
    let m : ℕ = x % 16 in
    let a : ℕ = address_length (x / 16) in
    let one = not_refused (ltb 2 (x / 16)) incorrect _ v h in
    let two = not_refused (ltb (length xs) (a + 2 * m + 1)) too_short _ v one.1 in
    let l : a + 2 * m + 1 ≤ length xs = ltb-false (length xs) (a + 2 * m + 1) two.0 in
    let n = length-append xs rest in
    rw (
      one.0,
      le-ltb (length (xs ++ rest)) (a + 2 * m + 1) (omega arith),
      part_front 0 a xs rest (omega arith),
      csids_more m a xs rest (omega arith),
      get_or-append xs rest 0 (a + 2 * m) (omega arith),
    )
    two.1

-- the CSIDs of their octets
csids_back : (cs : List ℕ) → T (all below16 cs) → map number (map (be 2) cs) ≡ cs
unfolding all below16
csids_back [] h = refl
csids_back (c ∷ cs) h =
    ap₂ ◌∷◌ (number_be 2 c (ltb→lt c (2 ^ 16) (and_left (ltb c (2 ^ 16)) (all below16 cs) h))) (csids_back cs (and_right (ltb c (2 ^ 16)) (all below16 cs) h))

-- the octets after the first, of m CSIDs
module _ (t : ℕ) (a cs : List ℕ) (n : ℕ) (ha : length a ≡ address_length t) (hc : T (all below16 cs)) where
  after_first : List ℕ
  after_first = a ++ (concat_map (be 2) cs ++ n ∷ [])

  length_csids : length (concat_map (be 2) cs) ≡ 2 * length cs
  length_csids = let e = length_concat_map (be 2) 2 below16 (λ c h. length_be 2 c) cs hc in omega arith

  after_long : length after_first ≡ address_length t + 2 * length cs + 1
  unfolding after_first
  after_long =
      let e = length-append a (concat_map (be 2) cs ++ n ∷ []) in
      let f = length-append (concat_map (be 2) cs) (n ∷ []) in
      let g = length_csids in
      omega arith

  after_csids : csids_read (length cs) (drop (address_length t) after_first) ≡ cs
  unfolding after_first csids_read
  after_csids =
      ap (λ (xs : List ℕ). map number (slices 2 (length cs) xs)) (drop_at a (concat_map (be 2) cs ++ n ∷ []) (address_length t) ha)
      ∙ ap (map number) (slices_concat_map (be 2) 2 below16 (λ c h. length_be 2 c) cs hc (n ∷ []))
      ∙ csids_back cs hc

  after_node : n < 16 → octet_at after_first (address_length t + 2 * length cs) % 16 ≡ n
  unfolding after_first octet_at
  after_node small =
      ap (λ (xs : List ℕ). get_or xs (address_length t + 2 * length cs) 0 % 16) (sym (append_assoc a (concat_map (be 2) cs) (n ∷ [])))
      ∙ ap (λ (k : ℕ). k % 16)
      (get_or_at (a ++ concat_map (be 2) cs) n [] 0 (address_length t + 2 * length cs) (length-append a (concat_map (be 2) cs) ∙ ap₂ ◌+◌ ha length_csids))
      ∙ mod-eq_of_lt small

  after_rest : n < 16 → csid_rest (length cs) t (address_length t) after_first ≡ checked_csid (length cs) t a cs n
  unfolding csid_rest
  after_rest small =
      let e = after_long in
      rw (le-ltb (length after_first) (address_length t + 2 * length cs + 1) (omega arith))
      (λ i. checked_csid (length cs) t (front i) (after_csids i) (after_node small i))
    where
      front : take (address_length t) after_first ≡ a
      front = unfold after_first in (take_at a (concat_map (be 2) cs ++ n ∷ []) (address_length t) ha)

removal_back : (n : ℕ) → T (node_type_kept n) → read_fqcsid (fqcsid_octets (removal n)) ≡ value (removal n)
unfolding read_fqcsid fqcsid_octets zeros csid_rest address_length octet_at checked_csid operator_allowed count_allowed same_octets csid_fields
removal_back n h =
    let l = kept_small n h in
    let e : n % 16 ≡ n = omega arith in
    rw (e, is_true (node_type_kept n) h)

-- an allowed value is read from its octets
pub fqcsid_back : (v : Fqcsid) → T (fqcsid_allowed v) → read_fqcsid (fqcsid_octets v) ≡ value v
unfolding read_fqcsid fqcsid_allowed sets_tests node_address_allowed node_address_tests fqcsid_octets checked_csid count_allowed csid_fields after_first
fqcsid_back (sets t a [] n) h = absurd (each (sets_tests t a [] n) h).1.0
fqcsid_back (sets t a (c ∷ cs) n) h =
    let m : ℕ = length (c ∷ cs) in
    let s = each (sets_tests t a (c ∷ cs) n) h in
    let q = each (node_address_tests t a) s.0 in
    let few : m ≤ 15 = leb→le m 15 s.1.1.0 in
    let kind : t ≤ 2 = leb→le t 2 q.0 in
    let small = kept_small n s.1.1.1.1.0 in
    let d : (t * 16 + m) / 16 ≡ t = omega arith in
    let r : (t * 16 + m) % 16 ≡ m = omega arith in
    rw (
      d,
      r,
      le-ltb 2 t kind,
      after_rest t a (c ∷ cs) n (eqb→eq (length a) (address_length t) q.1.0) s.1.1.1.0 (omega arith),
      is_true (node_type_kept n) s.1.1.1.1.0,
      is_true (operator_allowed t a) q.1.1.1.0,
    )
fqcsid_back (removal n) h = removal_back n h

-- and whatever follows
pub fqcsid_read_written : (v : Fqcsid) (rest : List ℕ) → T (fqcsid_allowed v) → read_fqcsid (fqcsid_octets v ++ rest) ≡ value v
fqcsid_read_written v rest h = fqcsid_more (fqcsid_octets v) rest v (fqcsid_back v h)

module _ (s : List ℕ) (v : Fqcsid) (h : read_fqcsid s ≡ value v) where
  right_type : 0 < length s → type_of s ≤ 2
  right_type l = by (ltb 2 (type_of s)) refl
    where
      by : (b : Bool) → ltb 2 (type_of s) ≡ b → type_of s ≤ 2
      by true e = refused_is_not (sym (ValueLaws.read_type s l (ltb-true 2 (type_of s) e)) ∙ h)
      by false e = ltb-false 2 (type_of s) e

  module _ (o : T (octets s)) (p : WholeFqcsid s) where
    ws : List ℕ
    ws = fqcsid_widths (type_of s) (count_in s)

    vs : List ℕ
    vs = fields_at 0 ws s

    u : FqCsid
    u = struct_of (type_of s) (count_in s) vs

    some_octets : 0 < length s
    unfolding octet_at
    some_octets = omega (arith, p.whole)

    whole_width : length s ≡ width_of ws
    unfolding octet_at ws
    whole_width = let e = ValueLaws.width_all (type_of s) (count_in s) (omega arith) in omega (arith, p.whole)

    rules_hold : all_of (rule_tests u) ≡ true
    unfolding ws vs u
    rules_hold = by (all_of (rule_tests u)) refl
      where
        by : (b : Bool) → all_of (rule_tests u) ≡ b → all_of (rule_tests u) ≡ true
        by true e = e
        by false e =
            refused_is_not
            (sym (ValueLaws.read_incorrect s ws vs o some_octets (right_type some_octets) refl (le_of_eq (sym whole_width)) refl e) ∙ h)

    means_read : fqcsid_of u ≡ some v
    unfolding ws vs u
    means_read =
        map_value (fqcsid_of u) v
        (ValueLaws.read_value_lem s ws vs o some_octets (right_type some_octets) refl (le_of_eq (sym whole_width)) refl rules_hold ∙ ap some h)

    numbers_read : fqcsid_numbers u ≡ vs
    unfolding ws vs u octet_at
    numbers_read =
        let first : get_or vs 0 0 ≡ get_or s 0 0 = first_read _ s in
        let one : 16 * type_of s + count_in s ≡ get_or vs 0 0 = omega arith in
        let l = whole_width in
        let e = ValueLaws.width_all (type_of s) (count_in s) (omega arith) in
        let at : 1 + (address_length (type_of s) + 2 * count_in s) ≡ length s - 1 = omega arith in
        let n : get_or vs 7 0 ≡ get_or s (length s - 1) 0 =
        ValueLaws.node_number (type_of s) (count_in s) s (omega arith) (le_of_eq (sym whole_width)) ∙ ap (λ (k : ℕ). get_or s k 0) at in
        let last : get_or vs 7 0 % 16 ≡ get_or vs 7 0 = mod-eq_of_lt (omega (arith, p.low)) in
        ap₂ (λ (x y : ℕ). x ∷ get_or vs 1 0 ∷ get_or vs 2 0 ∷ get_or vs 3 0 ∷ get_or vs 4 0 ∷ get_or vs 5 0 ∷ get_or vs 6 0 ∷ y ∷ []) one last
        ∙ elements_all 0 8 vs (length_fields_at 0 ws s ∙ ValueLaws.eight_widths (type_of s) (count_in s))

    -- the octets of a value that was read, with nothing ignored, are those it was read from
    pub fqcsid_written_read : (fqcsid_octets v ≡ s) × T (fqcsid_allowed v)
    unfolding ws vs u
    fqcsid_written_read = (
      fqcsid_octets_lem u v means_read ∙ ap (field_octets ws) numbers_read ∙ octets_fields_all ws s o whole_width,
      of_true
          (ap (allowed_in fqcsid_allowed) (sym means_read)
          ∙ right_allowed u (record {
            kind = right_type some_octets;
            few = omega arith;
            rules = rules_hold;
            fits = ap (fit ws) numbers_read ∙ fit_fields_lem 0 ws s o (le_of_eq (zero-add (width_of ws) ∙ sym whole_width));
          })),
    )

-- one struct means a value
same_fqcsid : {v w : FqCsid} → v.id_type ≡ w.id_type → v.count ≡ w.count → fqcsid_numbers v ≡ fqcsid_numbers w → v ≡ w
same_fqcsid t m e = λ i. record {
  id_type = t i;
  count = m i;
  address_high = get_or (e i) 1 0;
  address_low = get_or (e i) 2 0;
  csids_1 = get_or (e i) 3 0;
  csids_2 = get_or (e i) 4 0;
  csids_3 = get_or (e i) 5 0;
  csids_4 = get_or (e i) 6 0;
  node_type = get_or (e i) 7 0;
}

pub fqcsid_struct : (v w : FqCsid) (x : Fqcsid) → fqcsid_of v ≡ some x → fqcsid_of w ≡ some x → v ≡ w
fqcsid_struct v w x p q =
    let a = fits_meant v x p in
    let b = fits_meant w x q in
    let o : field_octets (fqcsid_widths v.id_type v.count) (fqcsid_numbers v) ≡ field_octets (fqcsid_widths w.id_type w.count) (fqcsid_numbers w) =
    sym (fqcsid_octets_lem v x p) ∙ fqcsid_octets_lem w x q in
    let f : 16 * v.id_type + v.count ≡ 16 * w.id_type + w.count =
    sym (first_written _ (fqcsid_numbers v) [] a.fits) ∙ ap (λ (l : List ℕ). get_or (l ++ []) 0 0) o ∙ first_written _ (fqcsid_numbers w) [] b.fits in
    let t : v.id_type ≡ w.id_type = omega (arith, a.few, b.few) in
    let m : v.count ≡ w.count = omega (arith, a.few, b.few) in
    same_fqcsid t m
    (sym (fields_octets 0 [] (fqcsid_widths v.id_type v.count) (fqcsid_numbers v) [] refl a.fits)
    ∙ (λ i. fields_at 0 (fqcsid_widths (t i) (m i)) (o i ++ []))
    ∙ fields_octets 0 [] (fqcsid_widths w.id_type w.count) (fqcsid_numbers w) [] refl b.fits)

-- an answer of the reader that means the value of a struct is that struct
fqcsid_answer_lem : (v : FqCsid) (x : Fqcsid) (a : Result FqCsid code-refusal.Refusal) → fqcsid_of v ≡ some x → fqcsid_answer a ≡ some (value x) → a ≡ Ok v
fqcsid_answer_lem v x (Ok w) p q = ap Ok (fqcsid_struct w v x (map_value (fqcsid_of w) x q) p)
fqcsid_answer_lem v x (Err r) p q = refused_is_not (some_same q)

pub fqcsid_inverse : FqcsidInverse
unfolding FqcsidInverse
fqcsid_inverse = record { back = fqcsid_read_written; again = λ s v o h p. fqcsid_written_read s v h o p }

pub fqcsid_code_inverse : FqcsidCodeInverse
unfolding FqcsidCodeInverse FqcsidInverse write_fqcsid
fqcsid_code_inverse = code_inverse fqcsid_allowed fqcsid_octets fqcsid_of fqcsid_answer Ok (λ v. refl) fqcsid_answer_lem fqcsid_inverse
