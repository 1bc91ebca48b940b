-- Fields and octets: each way back, for all widths. Assumes nothing.
use mathlib.Core.Bool.{Bool, true, false, ◌&&◌, false≢true}
use mathlib.Core.List.{List, [], ◌∷◌, ◌++◌, append_assoc, append-nil}
use mathlib.Core.Path.{◌≡◌, refl, sym, ap, ◌∙◌}
use Prim.Native.Nat.{ℕ, zero, suc, ◌+◌, ◌*◌, ◌^◌, ◌≤◌, ◌<◌}
use native.Mathlib.Nat.{suc-ne-zero, suc_inj, zero-add, zero-mul, suc-mul, one-le-pow, add-zero, le_of_suc-le-suc}
use native.Mathlib.Numerals.{add-one}
use native.Mathlib.Omega.{arith}
use borrow.Author.Tests.{ltb-true, lt-ltb, leb-true, ne_eqb}
use lib.Dec.{ltb, leb, eqb, lit<}
use lib.ListN.{length, get_or, take, drop, set, drop_of_length-le, length-append}
use lib.Seq.{take_all, take-suc-set, append_snoc, drop-cons, take_at, drop_at, take-add, drop-drop}
use lib.Dec.{T}
use Rattle.std.specs.List.{sum, list_all, zip}
use Rattle.std.proofs.lemmas.List.Sums.{sum_by-cons}
use Rattle.octets.specs.Octets.{part, put, number, be, octets, same_octets, all_zero}
use Rattle.octets.specs.Fields.{width_of, narrow, fields_at, fit, field_octets}
use Rattle.octets.proofs.Parts.{part_first}
use Rattle.octets.proofs.Put.{length_part, put_put, put_over}
use Rattle.octets.proofs.Numbers.{length_be, number_be, same_refl, same_eq}
use Rattle.octets.proofs.Tests.{of_true, is_true}
use Rattle.octets.proofs.Digits.{number_one, be_number, number_below, part_octets}

-- both of two tests that hold together
pub both : (a b : Bool) → (a && b) ≡ true → (a ≡ true) × (b ≡ true)
both true b e = (refl, e)
both false b e = absurd (false≢true e)

pub length_field_octets : (ws vs : List ℕ) → length vs ≡ length ws → length (field_octets ws vs) ≡ width_of ws
unfolding field_octets
length_field_octets [] vs e = refl
length_field_octets (w ∷ ws) [] e = absurd (suc-ne-zero (length ws) (sym e))
length_field_octets (w ∷ ws) (v ∷ vs) e = rw (length-append, length_be, length_field_octets ws vs (suc_inj e))

-- the fields of the fields' octets, whatever stands before and after them
pub fields_octets : (at : ℕ) (p ws vs rest : List ℕ) → length p ≡ at → fit ws vs ≡ true → fields_at at ws (p ++ field_octets ws vs ++ rest) ≡ vs
unfolding fit field_octets fields_at
fields_octets at p [] [] rest e h = refl
fields_octets at p [] (v ∷ vs) rest e h = absurd (false≢true h)
fields_octets at p (w ∷ ws) [] rest e h = absurd (false≢true h)
fields_octets at p (w ∷ ws) (v ∷ vs) rest e h =
    let k : (ltb v (256 ^ w) ≡ true) × (fit ws vs ≡ true) = both (ltb v (256 ^ w)) (fit ws vs) h in
    let first : p ++ (be w v ++ field_octets ws vs) ++ rest ≡ p ++ (be w v ++ (field_octets ws vs ++ rest)) = simp append_assoc in
    let then : p ++ (be w v ++ field_octets ws vs) ++ rest ≡ p ++ be w v ++ field_octets ws vs ++ rest = simp append_assoc in
    let l : length (p ++ be w v) ≡ at + w = simp (length-append, length_be) (omega arith) in
    let n : number (part at w (p ++ (be w v ++ field_octets ws vs) ++ rest)) ≡ v =
    rw (first, drop_at p (be w v ++ (field_octets ws vs ++ rest)) at e, take_at (be w v) (field_octets ws vs ++ rest) w (length_be w v)) (number_be w v (ltb-true _ _ k.0)) in
    let f : fields_at (at + w) ws (p ++ (be w v ++ field_octets ws vs) ++ rest) ≡ vs =
    rw then (fields_octets (at + w) (p ++ be w v) ws vs rest l k.1) in
    rw (n, f)

-- the octets of the fields of octets
pub octets_fields : (at : ℕ) (ws s : List ℕ) → T (octets s) → at + width_of ws ≤ length s → field_octets ws (fields_at at ws s) ≡ part at (width_of ws) s
unfolding field_octets fields_at
octets_fields at [] s o h = refl
octets_fields at (w ∷ ws) s o h =
    let e : be w (number (part at w s)) ≡ part at w s = rw (length_part at w s (omega arith)) at (be_number (part at w s) (part_octets at w s o)) in
    rw (e, octets_fields (at + w) ws s o (omega arith), take-add w (width_of ws) (drop at s), drop-drop w at s)

-- the same of all the octets
pub octets_fields_all : (ws s : List ℕ) → T (octets s) → length s ≡ width_of ws → field_octets ws (fields_at 0 ws s) ≡ s
octets_fields_all ws s o e = octets_fields 0 ws s o (omega arith) ∙ take_all (width_of ws) s (omega arith)

-- the fields of octets fit their widths
pub fit_fields_lem : (at : ℕ) (ws s : List ℕ) → T (octets s) → at + width_of ws ≤ length s → fit ws (fields_at at ws s) ≡ true
unfolding fit fields_at
fit_fields_lem at [] s o h = refl
fit_fields_lem at (w ∷ ws) s o h =
    let b : number (part at w s) < 256 ^ w = rw (length_part at w s (omega arith)) at (number_below (part at w s) (part_octets at w s o)) in
    rw (lt-ltb _ _ b) (fit_fields_lem (at + w) ws s o (omega arith))

-- ---- the loops over widths and numbers: what stands at index i, and the rest

next : (l : List ℕ) (i : ℕ) → i < length l → drop i l ≡ get_or l i 0 ∷ drop (i + 1) l
next l i h = rw add-one (drop-cons l i 0 h)

module _ (ws : List ℕ) (i : ℕ) (h : i < length ws) where
  pub width_next : width_of (drop i ws) ≡ get_or ws i 0 + width_of (drop (i + 1) ws)
  width_next = rw (next ws i h)

  pub narrow_next : narrow (drop i ws) ≡ true → (get_or ws i 0 ≤ 8) × (narrow (drop (i + 1) ws) ≡ true)
  unfolding narrow
  narrow_next e =
      let k : (leb (get_or ws i 0) 8 ≡ true) × (narrow (drop (i + 1) ws) ≡ true) = both _ _ (rw (next ws i h) at e) in
      (leb-true _ _ k.0, k.1)

  pub fields_next : (at : ℕ) (s : List ℕ) → fields_at at (drop i ws) s ≡ number (part at (get_or ws i 0) s) ∷ fields_at (at + get_or ws i 0) (drop (i + 1) ws) s
  unfolding fields_at
  fields_next at s = rw (next ws i h)

  pub octets_next : (vs : List ℕ) → i < length vs → field_octets (drop i ws) (drop i vs) ≡ be (get_or ws i 0) (get_or vs i 0) ++ field_octets (drop (i + 1) ws) (drop (i + 1) vs)
  unfolding field_octets
  octets_next vs k = rw (next ws i h, next vs i k)

  -- a turn of the loop that reads fields, and of the one that writes them
  pub read_turn : (at r : ℕ) (vs s : List ℕ) → i < length vs → r ≡ number (part at (get_or ws i 0) s)
      → take (i + 1) (set vs i r) ++ fields_at (at + get_or ws i 0) (drop (i + 1) ws) s ≡ take i vs ++ fields_at at (drop i ws) s
  read_turn at r vs s k e =
      let f : take (i + 1) (set vs i r) ≡ take i vs ++ (r ∷ []) = rw add-one (take-suc-set vs i r k) in
      rw (f, fields_next at s, ← e) (append_snoc (take i vs) r (fields_at (at + get_or ws i 0) (drop (i + 1) ws) s))

  pub write_turn : (at : ℕ) (vs s t : List ℕ) → i < length vs → at + get_or ws i 0 ≤ length s → t ≡ put at (be (get_or ws i 0) (get_or vs i 0)) s
      → put (at + get_or ws i 0) (field_octets (drop (i + 1) ws) (drop (i + 1) vs)) t ≡ put at (field_octets (drop i ws) (drop i vs)) s
  write_turn at vs s t k l e =
      rw (e, octets_next vs k)
      (put_put at (get_or ws i 0) (be (get_or ws i 0) (get_or vs i 0)) (field_octets (drop (i + 1) ws) (drop (i + 1) vs)) s (length_be (get_or ws i 0) (get_or vs i 0)) l)

pub narrow_width : (ws : List ℕ) → narrow ws ≡ true → width_of ws ≤ 8 * length ws
unfolding narrow
narrow_width [] e = omega arith
narrow_width (w ∷ ws) e =
    let k : (leb w 8 ≡ true) × (narrow ws ≡ true) = both (leb w 8) (narrow ws) e in
    omega (arith, leb-true w 8 k.0, narrow_width ws k.1)

pub sum_width : (ws : List ℕ) → sum ws ≡ width_of ws
sum_width [] = refl
sum_width (w ∷ ws) = sum_by-cons (λ (x : ℕ). x) w ws ∙ ap (λ (n : ℕ). w + n) (sum_width ws)

-- the pairs of widths and numbers
pub fit_pairs : (ws vs : List ℕ) → length ws ≡ length vs → list_all (λ (p : ℕ × ℕ). ltb p.1 (256 ^ p.0)) (zip ws vs) ≡ fit ws vs
unfolding fit
fit_pairs [] [] e = refl
fit_pairs [] (v ∷ vs) e = absurd (suc-ne-zero (length vs) (sym e))
fit_pairs (w ∷ ws) [] e = absurd (suc-ne-zero (length ws) e)
fit_pairs (w ∷ ws) (v ∷ vs) e = ap (λ (t : Bool). ltb v (256 ^ w) && t) (fit_pairs ws vs (suc_inj e))

pub length_fields_at : (at : ℕ) (ws s : List ℕ) → length (fields_at at ws s) ≡ length ws
unfolding fields_at
length_fields_at at [] s = refl
length_fields_at at (w ∷ ws) s = ap suc (length_fields_at (at + w) ws s)

-- ---- a list by its elements, as code takes an array apart: n of them from index i

abbrev pub elements : ℕ → ℕ → List ℕ → List ℕ
elements i zero l = []
elements i (suc n) l = get_or l i 0 ∷ elements (suc i) n l

pub elements_all : (i n : ℕ) (l : List ℕ) → length l ≡ i + n → elements i n l ≡ drop i l
elements_all i zero l e = sym (drop_of_length-le l {i = i} (omega arith))
elements_all i (suc n) l e = rw (elements_all (suc i) n l (omega arith)) (sym (drop-cons l i 0 (omega arith)))

-- ---- a field of one octet is the octet
pub first_written : (ws vs rest : List ℕ) → fit (1 ∷ ws) vs ≡ true → get_or (field_octets (1 ∷ ws) vs ++ rest) 0 0 ≡ get_or vs 0 0
unfolding fit field_octets be
first_written ws [] rest h = absurd (false≢true h)
first_written ws (v ∷ vs) rest h =
    let l : v < 256 = ltb-true v 256 (both (ltb v 256) (fit ws vs) h).0 in
    omega arith

pub octet_read : (at : ℕ) (s : List ℕ) → at < length s → number (part at 1 s) ≡ get_or s at 0
octet_read at s h = rw (part_first at 1 s (lit< tt) (omega arith)) (number_one (get_or s at 0))

pub first_read : (ws s : List ℕ) → get_or (fields_at 0 (1 ∷ ws) s) 0 0 ≡ get_or s 0 0
unfolding fields_at number
first_read ws [] = refl
first_read ws (x ∷ s) = number_one x

pub last_read : (at : ℕ) (ws s : List ℕ) → at + width_of ws < length s → get_or (fields_at at (ws ++ (1 ∷ [])) s) (length ws) 0 ≡ get_or s (at + width_of ws) 0
unfolding fields_at
last_read at [] s h = octet_read at s (omega arith) ∙ ap (λ (i : ℕ). get_or s i 0) (omega arith)
last_read at (w ∷ ws) s h =
    last_read (at + w) ws s (omega arith) ∙ ap (λ (i : ℕ). get_or s i 0) (omega arith)

-- wherever it stands, also past the end
pub octet_field : (at : ℕ) (s : List ℕ) → number (part at 1 s) ≡ get_or s at 0
unfolding number
octet_field zero [] = refl
octet_field zero (x ∷ s) = number_one x
octet_field (suc at) [] = refl
octet_field (suc at) (x ∷ s) = octet_field at s

-- ---- octets are zeros exactly when their number is 0, and when their fields are

both_zero : (x p n : ℕ) → 1 ≤ p → eqb (x * p + n) 0 ≡ (eqb x 0 && eqb n 0)
both_zero zero p n h = ap (λ (k : ℕ). eqb (k + n) 0) (zero-mul p) ∙ ap (λ (k : ℕ). eqb k 0) (zero-add n)
both_zero (suc x) p n h =
    let e : suc x * p ≡ x * p + p = suc-mul x p in
    ne_eqb (suc x * p + n) 0 (λ q. omega arith) ∙ sym (rw (ne_eqb (suc x) 0 (λ q. omega arith)))

pub zero_number : (xs : List ℕ) → all_zero xs ≡ eqb (number xs) 0
unfolding all_zero number
zero_number [] = refl
zero_number (x ∷ xs) = ap (λ (b : Bool). eqb x 0 && b) (zero_number xs) ∙ sym (both_zero x (256 ^ length xs) (number xs) (one-le-pow (length xs) 256 (lit< tt)))

pub zero_append : (xs ys : List ℕ) → all_zero (xs ++ ys) ≡ (all_zero xs && all_zero ys)
unfolding all_zero
zero_append [] ys = refl
zero_append (x ∷ xs) ys = ap (λ (b : Bool). eqb x 0 && b) (zero_append xs ys) ∙ sym (and_assoc (eqb x 0) (all_zero xs) (all_zero ys))
  where
    and_assoc : (a b c : Bool) → ((a && b) && c) ≡ (a && (b && c))
    and_assoc true b c = refl
    and_assoc false b c = refl

pub zero_fields : (at : ℕ) (ws s : List ℕ) → all_zero (part at (width_of ws) s) ≡ all_zero (fields_at at ws s)
unfolding fields_at all_zero
zero_fields at [] s = refl
zero_fields at (w ∷ ws) s =
    ap all_zero (take-add w (width_of ws) (drop at s)) ∙ zero_append (part at w s) (take (width_of ws) (drop w (drop at s)))
    ∙ rw (drop-drop w at s, zero_number (part at w s), zero_fields (at + w) ws s)

-- ---- a record as a list of fields: the numbers of a record, and the record of numbers

-- each number fits its width
abbrev pub Fits : List ℕ → List ℕ → Type 0
Fits [] [] = Unit {0}
Fits [] (v ∷ vs) = ⊥
Fits (w ∷ ws) [] = ⊥
Fits (w ∷ ws) (v ∷ vs) = (v < 256 ^ w) × Fits ws vs

pub all_fit : (ws vs : List ℕ) → Fits ws vs → fit ws vs ≡ true
unfolding fit
all_fit [] [] h = refl
all_fit [] (v ∷ vs) h = absurd h
all_fit (w ∷ ws) [] h = absurd h
all_fit (w ∷ ws) (v ∷ vs) h = rw (lt-ltb v (256 ^ w) h.0) (all_fit ws vs h.1)

pub each_fit : (ws vs : List ℕ) → fit ws vs ≡ true → Fits ws vs
unfolding fit
each_fit [] [] h = tt
each_fit [] (v ∷ vs) h = absurd (false≢true h)
each_fit (w ∷ ws) [] h = absurd (false≢true h)
each_fit (w ∷ ws) (v ∷ vs) h = let k = both (ltb v (256 ^ w)) (fit ws vs) h in (ltb-true v (256 ^ w) k.0, each_fit ws vs k.1)

pub fields_back : (ws vs : List ℕ) → fit ws vs ≡ true → fields_at 0 ws (field_octets ws vs) ≡ vs
fields_back ws vs f = rw append-nil at (fields_octets 0 [] ws vs [] refl f)

-- one field written anew, whatever stands before them
put_field_after : (p : List ℕ) (at k : ℕ) (ws vs : List ℕ) (v : ℕ) → length p ≡ at → k < length ws → length vs ≡ length ws
    → put (at + width_of (take k ws)) (be (get_or ws k 0) v) (p ++ field_octets ws vs) ≡ p ++ field_octets ws (set vs k v)
unfolding field_octets
put_field_after p at k [] vs v l h e = absurd (omega arith)
put_field_after p at k (w ∷ ws) [] v l h e = absurd (suc-ne-zero (length ws) (sym e))
put_field_after p at zero (w ∷ ws) (x ∷ vs) v l h e =
    rw add-zero (put_over p (be w x) (field_octets ws vs) (be w v) at l (length_be w v ∙ sym (length_be w x)))
put_field_after p at (suc k) (w ∷ ws) (x ∷ vs) v l h e =
    let g : length (p ++ be w x) ≡ at + w = simp (length-append, length_be) (omega arith) in
    let m : at + (w + width_of (take k ws)) ≡ at + w + width_of (take k ws) = omega arith in
    rw (m, ← append_assoc p (be w x) (field_octets ws vs), ← append_assoc p (be w x) (field_octets ws (set vs k v)))
    (put_field_after (p ++ be w x) (at + w) k ws vs v g (le_of_suc-le-suc h) (suc_inj e))

pub put_field : (k : ℕ) (ws vs : List ℕ) (v : ℕ) → k < length ws → length vs ≡ length ws
    → put (width_of (take k ws)) (be (get_or ws k 0) v) (field_octets ws vs) ≡ field_octets ws (set vs k v)
put_field k ws vs v h e = rw zero-add at (put_field_after [] 0 k ws vs v refl h e)

-- octets are those of numbers exactly when their fields are the numbers
pub same_fields : (ws vs xs : List ℕ) → length xs ≡ width_of ws → T (octets xs) → fit ws vs ≡ true
    → same_octets (field_octets ws vs) xs ≡ same_octets vs (fields_at 0 ws xs)
same_fields ws vs xs e o f =
    go (same_octets (field_octets ws vs) xs) (same_octets vs (fields_at 0 ws xs))
    (λ h. of_true (ap (λ (l : List ℕ). same_octets vs (fields_at 0 ws l)) (sym (same_eq (field_octets ws vs) xs h)) ∙ rw (fields_back ws vs f) (same_refl vs)))
    (λ h. of_true (ap (λ (l : List ℕ). same_octets (field_octets ws l) xs) (same_eq vs (fields_at 0 ws xs) h) ∙ rw (octets_fields_all ws xs o e) (same_refl xs)))
  where
    go : (a b : Bool) → (T a → T b) → (T b → T a) → a ≡ b
    go true b f g = sym (is_true b (f tt))
    go false true f g = absurd (g tt)
    go false false f g = refl

module _ {A : Type 0} (ws : List ℕ) (numbers : A → List ℕ) (from : List ℕ → A) where
  -- a record is read back from its octets
  pub record_back : (r : A) → fit ws (numbers r) ≡ true → from (numbers r) ≡ r → from (fields_at 0 ws (field_octets ws (numbers r))) ≡ r
  record_back r f e = ap from (fields_back ws (numbers r) f) ∙ e

  -- a slot is that of an allowed record exactly when its numbers pass a test
  pub slot_law : (allowed : A → Bool) (test : List ℕ → Bool) → ((r : A) → T (allowed r) → fit ws (numbers r) ≡ true)
      → (xs : List ℕ) → length xs ≡ width_of ws → T (octets xs)
      → (allowed (from (fields_at 0 ws xs)) && same_octets (numbers (from (fields_at 0 ws xs))) (fields_at 0 ws xs)) ≡ test (fields_at 0 ws xs)
      → (allowed (from (fields_at 0 ws xs)) && same_octets (field_octets ws (numbers (from (fields_at 0 ws xs)))) xs) ≡ test (fields_at 0 ws xs)
  slot_law allowed test fits xs e o same = go (allowed (from (fields_at 0 ws xs))) refl ∙ same
    where
      r : A
      r = from (fields_at 0 ws xs)

      go : (b : Bool) → allowed r ≡ b → (b && same_octets (field_octets ws (numbers r)) xs) ≡ (b && same_octets (numbers r) (fields_at 0 ws xs))
      go true a = same_fields ws (numbers r) xs e o (fits r (of_true a))
      go false a = refl
