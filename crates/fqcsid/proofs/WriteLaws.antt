-- FQ-CSID: the values that are written, as the numbers stand in the octets, and what the writer leaves. Assumes nothing.
use mathlib.Core.Bool.{Bool, true, false, ◌&&◌}
use mathlib.Core.List.{List, [], ◌∷◌, ◌++◌, map, append-nil}
use mathlib.Core.Option.{none, some}
use mathlib.Core.Path.{◌≡◌, refl, sym, ap, ◌∙◌}
use Prim.Native.Nat.{ℕ, zero, suc, ◌+◌, ◌*◌, ◌≤◌, ◌<◌}
use native.Mathlib.Omega.{arith}
use borrow.Author.Tests.{lt-ltb, le-leb, eq-eqb}
use lib.Dec.{T, ltb, leb, eqb, ltb→lt, leb→le, eqb→eq}
use lib.ListN.{length, length-map}
use Rattle.octets.specs.Choice.{all_of}
use Rattle.octets.specs.Octets.{be, number, octets, slices, zeros, same_octets}
use Rattle.octets.specs.Fields.{fit, field_octets}
use Rattle.octets.proofs.Tests.{each, all_of_each, of_true, is_true, and_left, and_right}
use Rattle.octets.proofs.Numbers.{same_eq, length_slices}
use Rattle.octets.proofs.FieldLaws.{length_field_octets}
use Rattle.octets.proofs.Bools.{both_ways}
use Rattle.rules.specs.Elements as rules
use Rattle.rules.specs.Elements.{Fqcsid, address_length, operator_allowed, node_address_tests, node_address_allowed, node_type_kept, csids_read, csid_fields, count_allowed, below16, sets_tests, fqcsid_allowed, fqcsid_octets, write_fqcsid, write_if}
use Rattle.fqcsid.specs.declared.FqCsid.{FqCsid}
use Rattle.element.specs.Answers.{allowed_in, write_meant}
use Rattle.fqcsid.specs.Meaning.{fqcsid_numbers, address_widths, csid_widths, fqcsid_widths, address_numbers, csid_numbers, csid_address, csids_in, fqcsid_tests, fqcsid_meant, fqcsid_of}
use Rattle.element.proofs.OctetLaws.{no_octets, one_octet, octets_field_octets, field_octets_two, fit_two, concat_slices, below_slices}
use Rattle.element.proofs.AnswerLaws.{picked, allowed_picked, never, not_allowed, allowed_fields}
use Rattle.fqcsid.proofs.ValueLaws.{two_widths, width_address, width_csids, rule_tests, rules_are, meant}

-- ---- the values that are written: the numbers as they stand in the octets

length_address : (v : FqCsid) → length (csid_address v) ≡ address_length v.id_type
length_address v = length_field_octets (address_widths v.id_type) (address_numbers v) (sym (two_widths v.id_type)) ∙ width_address v.id_type

length_words : (v : FqCsid) → v.count < 16 → length (field_octets (csid_widths v.count) (csid_numbers v)) ≡ 2 * v.count
unfolding csid_widths
length_words v h = length_field_octets (csid_widths v.count) (csid_numbers v) refl ∙ width_csids v.count h

pub octets_split : (v : FqCsid) → field_octets (fqcsid_widths v.id_type v.count) (fqcsid_numbers v)
    ≡ be 1 (16 * v.id_type + v.count) ++ (csid_address v ++ (field_octets (csid_widths v.count) (csid_numbers v) ++ be 1 v.node_type))
unfolding field_octets csid_widths
octets_split v =
    let aw : List ℕ = address_widths v.id_type in
    let cw : List ℕ = csid_widths v.count in
    let last : field_octets (cw ++ 1 ∷ []) (csid_numbers v ++ v.node_type ∷ []) ≡ field_octets cw (csid_numbers v) ++ be 1 v.node_type =
    field_octets_two cw (csid_numbers v) (1 ∷ []) (v.node_type ∷ []) refl ∙ ap (λ (l : List ℕ). field_octets cw (csid_numbers v) ++ l) (append-nil (be 1 v.node_type)) in
    ap (λ (l : List ℕ). be 1 (16 * v.id_type + v.count) ++ l)
    (field_octets_two aw (address_numbers v) (cw ++ 1 ∷ []) (csid_numbers v ++ v.node_type ∷ []) (sym (two_widths v.id_type)) ∙ ap (λ (l : List ℕ). csid_address v ++ l) last)

pub fit_split : (v : FqCsid) → fit (fqcsid_widths v.id_type v.count) (fqcsid_numbers v)
    ≡ all_of (ltb (16 * v.id_type + v.count) 256 ∷ fit (address_widths v.id_type) (address_numbers v) ∷ fit (csid_widths v.count) (csid_numbers v) ∷ ltb v.node_type 256 ∷ [])
unfolding fit csid_widths
fit_split v =
    let aw : List ℕ = address_widths v.id_type in
    let cw : List ℕ = csid_widths v.count in
    ap (λ (b : Bool). ltb (16 * v.id_type + v.count) 256 && b)
    (fit_two aw (address_numbers v) (cw ++ 1 ∷ []) (csid_numbers v ++ v.node_type ∷ []) (sym (two_widths v.id_type))
    ∙ ap (λ (b : Bool). fit aw (address_numbers v) && b) (fit_two cw (csid_numbers v) (1 ∷ []) (v.node_type ∷ []) refl))

-- the octets of a value, by its count: ys those of the CSIDs
octets_of_lem : (m t : ℕ) (address ys : List ℕ) (n : ℕ) → T (count_allowed m t address) → T (octets ys) → length ys ≡ 2 * m → m < 16 → t < 16 → n < 16
    → fqcsid_octets (csid_fields m t address (csids_read m ys) n) ≡ be 1 (16 * t + m) ++ (address ++ (ys ++ be 1 n))
unfolding count_allowed csid_fields csids_read fqcsid_octets be zeros
octets_of_lem zero t address ys n c o e h i j =
    let z : t ≡ 0 = eqb→eq t 0 (and_left (eqb t 0) (same_octets address (zeros 4)) c) in
    let a : address ≡ zeros 4 = same_eq address (zeros 4) (and_right (eqb t 0) (same_octets address (zeros 4)) c) in
    rw (z, a, no_octets ys e, one_octet n (omega arith))
octets_of_lem (suc m) t address ys n c o e h i j =
    let l : length (map number (slices 2 (suc m) ys)) ≡ suc m = length-map (slices 2 (suc m) ys) number ∙ length_slices 2 (suc m) ys in
    let first : t * 16 + length (map number (slices 2 (suc m) ys)) ≡ 16 * t + suc m = omega arith in
    rw (concat_slices 2 (suc m) ys o (omega arith), first, one_octet (16 * t + suc m) (omega arith), one_octet n (omega arith))

-- the octets of the value that a struct means
pub fqcsid_octets_lem : (v : FqCsid) (x : Fqcsid) → fqcsid_of v ≡ some x → fqcsid_octets x ≡ field_octets (fqcsid_widths v.id_type v.count) (fqcsid_numbers v)
unfolding fqcsid_of fqcsid_tests
fqcsid_octets_lem v x e =
    let p = picked (all_of (fqcsid_tests v)) (fqcsid_meant v) x e in
    let t = each (fqcsid_tests v) p.0 in
    let few : v.count < 16 = ltb→lt v.count 16 t.1.0 in
    ap fqcsid_octets p.1
    ∙ octets_of_lem v.count v.id_type (csid_address v) (field_octets (csid_widths v.count) (csid_numbers v)) v.node_type t.1.1.1.1.1.0
    (octets_field_octets (csid_widths v.count) (csid_numbers v)) (length_words v few) few (ltb→lt v.id_type 16 t.0) (ltb→lt v.node_type 16 t.1.1.0)
    ∙ sym (octets_split v)

no_operator : (address : List ℕ) → T (operator_allowed 0 address)
unfolding operator_allowed
no_operator address = tt

-- what an allowed value says, by its count, and when it is allowed
facts_of : (m t : ℕ) (address cs : List ℕ) (n : ℕ) → T (count_allowed m t address) → T (fqcsid_allowed (csid_fields m t address cs n))
    → (t ≤ 2) × T (node_type_kept n) × T (operator_allowed t address)
unfolding count_allowed csid_fields fqcsid_allowed sets_tests node_address_allowed node_address_tests
facts_of zero t address cs n c h =
    let z : t ≡ 0 = eqb→eq t 0 (and_left (eqb t 0) (same_octets address (zeros 4)) c) in
    (omega arith, h, rw z (no_operator address))
facts_of (suc m) t address cs n c h =
    let s = each (sets_tests t address cs n) h in
    let a = each (node_address_tests t address) s.0 in
    (leb→le t 2 a.0, s.1.1.1.1.0, a.1.1.1.0)

allowed_from : (m t : ℕ) (address ys : List ℕ) (n : ℕ) → t ≤ 2 → T (node_type_kept n) → T (operator_allowed t address) → length address ≡ address_length t
    → T (octets address) → T (octets ys) → length ys ≡ 2 * m → m < 16 → T (fqcsid_allowed (csid_fields m t address (csids_read m ys) n))
unfolding csid_fields csids_read fqcsid_allowed sets_tests node_address_allowed node_address_tests below16
allowed_from zero t address ys n h k o l b p e f = k
allowed_from (suc m) t address ys n h k o l b p e f =
    let cs : List ℕ = map number (slices 2 (suc m) ys) in
    let c : length cs ≡ suc m = length-map (slices 2 (suc m) ys) number ∙ length_slices 2 (suc m) ys in
    let one : leb 1 (length cs) ≡ true = le-leb 1 (length cs) (omega arith) in
    let few : leb (length cs) 15 ≡ true = le-leb (length cs) 15 (omega arith) in
    all_of_each (sets_tests t address cs n) (
      all_of_each (node_address_tests t address) (of_true (le-leb t 2 h), (of_true (eq-eqb (length address) (address_length t) l), (b, (o, tt)))),
      (of_true one, (of_true few, (below_slices 2 (suc m) ys p (omega arith), (k, tt)))),
    )

-- a struct that means a value has numbers that fit
pub record Fits (v : FqCsid) : Type 0 where
  pub few : v.count < 16
  pub fits : fit (fqcsid_widths v.id_type v.count) (fqcsid_numbers v) ≡ true

fits_tests : (v : FqCsid) → T (all_of (fqcsid_tests v)) → Fits v
unfolding fqcsid_tests
fits_tests v h =
    let t = each (fqcsid_tests v) h in
    let m : v.count < 16 = ltb→lt v.count 16 t.1.0 in
    let k : v.id_type < 16 = ltb→lt v.id_type 16 t.0 in
    let n : v.node_type < 16 = ltb→lt v.node_type 16 t.1.1.0 in
    record {
      few = m;
      fits =
          fit_split v
          ∙ is_true _
          (all_of_each (ltb (16 * v.id_type + v.count) 256 ∷ fit (address_widths v.id_type) (address_numbers v) ∷ fit (csid_widths v.count) (csid_numbers v) ∷ ltb v.node_type 256 ∷ [])
          (of_true (lt-ltb (16 * v.id_type + v.count) 256 (omega arith)), (t.1.1.1.0, (t.1.1.1.1.0, (of_true (lt-ltb v.node_type 256 (omega arith)), tt)))));
    }

pub fits_meant : (v : FqCsid) (x : Fqcsid) → fqcsid_of v ≡ some x → Fits v
unfolding fqcsid_of
fits_meant v x e = fits_tests v (picked (all_of (fqcsid_tests v)) (fqcsid_meant v) x e).0

-- whether a struct means a value that is allowed, by the tests of the code
pub record Right (v : FqCsid) : Type 0 where
  pub kind : v.id_type ≤ 2
  pub few : v.count < 16
  pub rules : all_of (rule_tests v) ≡ true
  pub fits : fit (fqcsid_widths v.id_type v.count) (fqcsid_numbers v) ≡ true

pub kept_small : (n : ℕ) → T (node_type_kept n) → n < 6
unfolding node_type_kept
kept_small n h = ltb→lt n 6 h

pub right : (v : FqCsid) → T (allowed_in fqcsid_allowed (fqcsid_of v)) → Right v
unfolding fqcsid_of fqcsid_tests
right v h =
    let p = allowed_picked fqcsid_allowed (all_of (fqcsid_tests v)) (fqcsid_meant v) h in
    let t = each (fqcsid_tests v) p.0 in
    let a = t.1.1.1.0 in
    let c = t.1.1.1.1.1.0 in
    let z = fits_tests v p.0 in
    let f = facts_of v.count v.id_type (csid_address v) (csids_in v) v.node_type c p.1 in
    record {
      kind = f.0;
      few = z.few;
      rules =
          ap all_of (rules_are v (is_true _ a))
          ∙ is_true _
          (all_of_each (node_type_kept v.node_type ∷ operator_allowed v.id_type (csid_address v) ∷ count_allowed v.count v.id_type (csid_address v) ∷ [])
          (f.1, (f.2, (c, tt))));
      fits = z.fits;
    }

pub right_allowed : (v : FqCsid) → Right v → allowed_in fqcsid_allowed (fqcsid_of v) ≡ true
right_allowed v r =
    let g = each (ltb (16 * v.id_type + v.count) 256 ∷ fit (address_widths v.id_type) (address_numbers v) ∷ fit (csid_widths v.count) (csid_numbers v) ∷ ltb v.node_type 256 ∷ [])
    (of_true (sym (fit_split v) ∙ r.fits)) in
    let a = is_true _ g.1.0 in
    let k = each (node_type_kept v.node_type ∷ operator_allowed v.id_type (csid_address v) ∷ count_allowed v.count v.id_type (csid_address v) ∷ [])
    (of_true (sym (ap all_of (rules_are v a)) ∙ r.rules)) in
    let kind : v.id_type ≤ 2 = r.kind in
    let small = kept_small v.node_type k.0 in
    ap (allowed_in fqcsid_allowed) (meant v (omega arith) r.few (omega arith) a (is_true _ g.1.1.0) (is_true _ k.1.1.0))
    ∙ is_true _
    (allowed_from v.count v.id_type (csid_address v) (field_octets (csid_widths v.count) (csid_numbers v)) v.node_type r.kind k.0 k.1.0 (length_address v)
    (octets_field_octets (address_widths v.id_type) (address_numbers v)) (octets_field_octets (csid_widths v.count) (csid_numbers v)) (length_words v r.few) r.few)

pub not_right : (v : FqCsid) → (Right v → ⊥) → allowed_in fqcsid_allowed (fqcsid_of v) ≡ false
not_right v f = never _ (λ h. f (right v h))

pub right_where : (v : FqCsid) → v.id_type ≤ 2 → v.count < 16 → all_of (rule_tests v) ≡ true
    → fit (fqcsid_widths v.id_type v.count) (fqcsid_numbers v) ≡ allowed_in fqcsid_allowed (fqcsid_of v)
right_where v h i j =
    both_ways _ _ (λ f. of_true (right_allowed v (record { kind = h; few = i; rules = j; fits = is_true _ f }))) (λ a. of_true (right v a).fits)

-- ---- what the writer leaves: us and xs the widths and the numbers as the code has them

module _ (v : FqCsid) (s : List ℕ) where
  pub write_refused : allowed_in fqcsid_allowed (fqcsid_of v) ≡ false → record { count = none; space = s } ≡ write_meant write_fqcsid (fqcsid_of v) s
  unfolding write_fqcsid
  write_refused h = not_allowed fqcsid_allowed fqcsid_octets s (fqcsid_of v) h

  pub write_allowed : (us xs : List ℕ) {w : rules.Written} → allowed_in fqcsid_allowed (fqcsid_of v) ≡ true → us ≡ fqcsid_widths v.id_type v.count → xs ≡ fqcsid_numbers v
      → w ≡ write_if true (field_octets us xs) s → w ≡ write_meant write_fqcsid (fqcsid_of v) s
  unfolding write_fqcsid
  write_allowed us xs ok p q k =
      allowed_fields fqcsid_allowed fqcsid_octets s (fqcsid_of v) (fqcsid_widths v.id_type v.count) (fqcsid_numbers v) us xs (fqcsid_octets_lem v) ok p q k
