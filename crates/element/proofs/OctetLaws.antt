-- Laws of general use about octets, parts and fields. Assumes nothing.
use mathlib.Core.Bool.{Bool, true, ◌&&◌, false≢true}
use mathlib.Core.List.{List, [], ◌∷◌, ◌++◌, map, append_assoc}
use mathlib.Core.Path.{◌≡◌, refl, sym, ap, ◌∙◌}
use Prim.Native.Nat.{ℕ, zero, suc, ◌+◌, ◌*◌, ◌/◌, ◌%◌, ◌^◌, ◌≤◌, ◌<◌}
use native.Mathlib.Nat.{not-suc-le-zero, le_of_suc-le-suc, suc_inj, suc-mul, zero-mul, zero-add, add_assoc}
use native.Mathlib.Omega.{arith}
use borrow.Author.Tests.{ltb-true}
use lib.Dec.{T, ltb, lt→ltb}
use lib.ListN.{length, get_or, take, drop, length-drop, take-append-drop}
use lib.Seq.{drop-drop, take-append-le, drop-append-le, length-take-le}
use Rattle.octets.specs.Octets.{put, be, number, part, octets, slices, concat_map}
use Rattle.octets.specs.Lists.{all}
use Rattle.octets.specs.Fields.{width_of, narrow, fit, field_octets}
use Rattle.octets.proofs.Bools.{and_assoc}
use Rattle.octets.proofs.Tests.{both as both_hold}
use Rattle.octets.proofs.Put.{length_part}
use Rattle.octets.proofs.Numbers.{bytes_be}
use Rattle.octets.proofs.Digits.{be_part, octets_append, part_octets, take_octets, drop_octets, number_below}
use Rattle.octets.proofs.FieldLaws.{both}

-- a part of the octets after the first
pub part_after : (at n : ℕ) (s : List ℕ) → part at n (drop 1 s) ≡ part (1 + at) n s
part_after at n s = ap (take n) (drop-drop at 1 s)

pub no_octets : (xs : List ℕ) → length xs ≡ 0 → xs ≡ []
no_octets [] e = refl
no_octets (x ∷ xs) e = absurd (omega arith)

pub one_octet : (n : ℕ) → n < 256 → n / 1 % 256 ≡ n
one_octet n h = omega arith

-- a number that fits its width
pub fit_at : (k : ℕ) (ws vs : List ℕ) → k < length ws → fit ws vs ≡ true → get_or vs k 0 < 256 ^ get_or ws k 0
unfolding fit
fit_at k [] vs h e = absurd (not-suc-le-zero h)
fit_at k (w ∷ ws) [] h e = absurd (false≢true e)
fit_at zero (w ∷ ws) (v ∷ vs) h e = ltb-true v (256 ^ w) (both (ltb v (256 ^ w)) (fit ws vs) e).0
fit_at (suc k) (w ∷ ws) (v ∷ vs) h e = fit_at k ws vs (le_of_suc-le-suc h) (both (ltb v (256 ^ w)) (fit ws vs) e).1

-- the octets of fields are octets
pub octets_field_octets : (ws vs : List ℕ) → T (octets (field_octets ws vs))
unfolding field_octets
octets_field_octets [] vs = tt
octets_field_octets (w ∷ ws) [] = tt
octets_field_octets (w ∷ ws) (v ∷ vs) = octets_append (be w v) (field_octets ws vs) (bytes_be w v) (octets_field_octets ws vs)

-- fields side by side
pub field_octets_two : (ws vs us xs : List ℕ) → length vs ≡ length ws → field_octets (ws ++ us) (vs ++ xs) ≡ field_octets ws vs ++ field_octets us xs
unfolding field_octets
field_octets_two [] [] us xs e = refl
field_octets_two [] (v ∷ vs) us xs e = absurd (omega arith)
field_octets_two (w ∷ ws) [] us xs e = absurd (omega arith)
field_octets_two (w ∷ ws) (v ∷ vs) us xs e =
    ap (λ (l : List ℕ). be w v ++ l) (field_octets_two ws vs us xs (suc_inj e)) ∙ sym (append_assoc (be w v) (field_octets ws vs) (field_octets us xs))

pub width_of_two : (ws us : List ℕ) → width_of (ws ++ us) ≡ width_of ws + width_of us
width_of_two [] us = sym (zero-add (width_of us))
width_of_two (w ∷ ws) us = ap (λ (n : ℕ). w + n) (width_of_two ws us) ∙ sym (add_assoc w (width_of ws) (width_of us))

pub fit_two : (ws vs us xs : List ℕ) → length vs ≡ length ws → fit (ws ++ us) (vs ++ xs) ≡ (fit ws vs && fit us xs)
unfolding fit
fit_two [] [] us xs e = refl
fit_two [] (v ∷ vs) us xs e = absurd (omega arith)
fit_two (w ∷ ws) [] us xs e = absurd (omega arith)
fit_two (w ∷ ws) (v ∷ vs) us xs e = ap (λ (b : Bool). ltb v (256 ^ w) && b) (fit_two ws vs us xs (suc_inj e)) ∙ sym (and_assoc (ltb v (256 ^ w)) (fit ws vs) (fit us xs))

-- a part that lies within the first octets
pub part_front : (at n : ℕ) (xs ys : List ℕ) → at + n ≤ length xs → part at n (xs ++ ys) ≡ part at n xs
part_front at n xs ys h = rw (drop-append-le at xs ys (omega arith)) (take-append-le n (drop at xs) ys (rw length-drop (omega arith)))

-- slices of w octets: those that lie within the first octets, their lengths, and their octets one after the other
pub slices_front : (w m : ℕ) (xs ys : List ℕ) → m * w ≤ length xs → slices w m (xs ++ ys) ≡ slices w m xs
unfolding slices
slices_front w zero xs ys h = refl
slices_front w (suc m) xs ys h =
    let e : suc m * w ≡ m * w + w = suc-mul m w in
    let l : w ≤ length xs = omega arith in
    rw (take-append-le w xs ys l, drop-append-le w xs ys l) (ap (λ (l : List (List ℕ)). take w xs ∷ l) (slices_front w m (drop w xs) ys (rw length-drop (omega arith))))

-- the numbers of slices, their octets one after the other
pub concat_slices : (w m : ℕ) (xs : List ℕ) → T (octets xs) → length xs ≡ m * w → concat_map (be w) (map number (slices w m xs)) ≡ xs
unfolding slices concat_map
concat_slices w zero [] o e = refl
concat_slices w zero (x ∷ xs) o e = absurd (omega (arith, zero-mul w))
concat_slices w (suc m) xs o e =
    let s : suc m * w ≡ m * w + w = suc-mul m w in
    let l : w ≤ length xs = omega arith in
    rw (be_part 0 w xs o (omega arith), concat_slices w m (drop w xs) (drop_octets w xs o) (rw length-drop (omega arith))) (take-append-drop w xs)

-- each is a number of w octets
pub below_slices : (w m : ℕ) (xs : List ℕ) → T (octets xs) → m * w ≤ length xs → T (all (λ n. ltb n (256 ^ w)) (map number (slices w m xs)))
unfolding slices all
below_slices w zero xs o h = tt
below_slices w (suc m) xs o h =
    let s : suc m * w ≡ m * w + w = suc-mul m w in
    let l : length (take w xs) ≡ w = length-take-le w xs (omega arith) in
    let b : number (take w xs) < 256 ^ w = rw l at (number_below (take w xs) (take_octets w xs o)) in
    both_hold (ltb (number (take w xs)) (256 ^ w)) _ (lt→ltb _ _ b) (below_slices w m (drop w xs) (drop_octets w xs o) (rw length-drop (omega arith)))

-- the number of a part
pub part_below : (at n : ℕ) (s : List ℕ) → T (octets s) → at + n ≤ length s → number (part at n s) < 256 ^ n
part_below at n s o h = rw (length_part at n s h) at (number_below (part at n s) (part_octets at n s o))

-- fields of the widths us and the numbers xs as the code has them: what writing them asks, at the start and from a place on, and what it leaves
pub fields_ready : (ws vs us xs : List ℕ) → length ws ≡ length vs → narrow ws ≡ true → us ≡ ws → xs ≡ vs → (length us ≡ length xs) × (narrow us ≡ true)
fields_ready ws vs us xs l n e f = (rw (e, f) l, rw e n)

pub fields_fit : (at : ℕ) (ws vs us xs s : List ℕ) → at + width_of ws ≤ length s → length ws ≡ length vs → narrow ws ≡ true → us ≡ ws → xs ≡ vs
    → (at + width_of us ≤ length s) × (length us ≡ length xs) × (narrow us ≡ true)
fields_fit at ws vs us xs s h l n e f = let r = fields_ready ws vs us xs l n e f in (rw e h, r.0, r.1)

pub fields_at : (at : ℕ) (ws vs us xs s : List ℕ) {t : List ℕ} {n : ℕ} → us ≡ ws → xs ≡ vs → (n ≡ at + width_of us) × (t ≡ put at (field_octets us xs) s)
    → (n ≡ at + width_of ws) × (t ≡ put at (field_octets ws vs) s)
fields_at at ws vs us xs s e f p = (p.0 ∙ rw e, p.1 ∙ rw (e, f))
