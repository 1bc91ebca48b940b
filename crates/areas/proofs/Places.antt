-- A key's place among records of any type: what `lookup` answers, and that to insert, remove or replace at that place is to do
-- so by the key, as the rules do it.
-- Assumes nothing.
use Rattle.std.specs.Prelude.{Ok, Err}
use mathlib.Core.Path.{◌≡◌, refl, sym, ap, subst, ◌∙◌}
use mathlib.Core.Bool.{Bool, true, false, not}
use mathlib.Core.List.{List, [], ◌∷◌, ◌++◌, map}
use mathlib.Core.Option.{none, some}
use Prim.Native.Nat.{ℕ, suc, ◌+◌, ◌≤◌, ◌<◌, zero-le}
use native.Mathlib.Nat.{add-zero, suc-add, add-suc}
use native.Mathlib.Omega.{arith}
use borrow.Author.Tests.{le-leb, lt-leb, eqb-true, eqb-false, eq-eqb, ne_eqb}
use lib.Dec.{T, leb, ltb, eqb, ltb→lt, lt→ltb}
use lib.ListN.{length, take, drop, set, get_or}
use Rattle.octets.specs.Choice.{pick}
use Rattle.octets.specs.Lists.{keep, find_by, insert_by, ascending, all}
use Rattle.octets.proofs.Tests.{all_head, all_tail, all_cons, no_eqb, ascending_tail}
use Rattle.octets.proofs.Ordered.{orders, up_pairs, pairs_head, below_key}
use Rattle.areas.specs.Records.{lookup, lookup_from}

-- by place
module _ {A : Type 0} where
  unfoldable pub insert_at : ℕ → A → List A → List A
  insert_at p r rs = take p rs ++ (r ∷ drop p rs)

  unfoldable pub remove_at : ℕ → List A → List A
  remove_at p rs = take p rs ++ drop (suc p) rs

module _ {A : Type 0} (key : A → ℕ) where
  -- how many records stand before the first whose key is not below x, and whether that one's key is x
  unfoldable pub place : ℕ → List A → ℕ
  place x [] = 0
  place x (r ∷ rs) = pick (leb x (key r)) 0 (suc (place x rs))

  unfoldable pub holds : ℕ → List A → Bool
  holds x [] = false
  holds x (r ∷ rs) = pick (leb x (key r)) (eqb (key r) x) (holds x rs)

  -- has another key than x
  abbrev pub other_than : ℕ → A → Bool
  other_than x r = not (eqb (key r) x)

  lookup_split : (i x : ℕ) (rs : List A) → lookup_from i x (map key rs) ≡ pick (holds x rs) (Ok (i + place x rs)) (Err (i + place x rs))
  unfolding lookup_from place holds
  lookup_split i x [] = rw add-zero
  lookup_split i x (r ∷ rs) =
      orders x (key r)
      (λ l. simp (le-leb x (key r) l, add-zero))
      (λ l. simp (lt-leb x (key r) l, add-suc) (lookup_split (suc i) x rs ∙ rw suc-add))

  -- what the two answers say
  found_is : (x p : ℕ) (rs : List A) → lookup x (map key rs) ≡ Ok p → (holds x rs ≡ true) × (p ≡ place x rs)
  found_is x p rs e = go (holds x rs) (sym (lookup_split 0 x rs) ∙ e)
    where
      go : (b : Bool) → pick b (Ok (0 + place x rs)) (Err (0 + place x rs)) ≡ Ok p → (b ≡ true) × (p ≡ place x rs)
      go true e = (refl, (let q : 0 + place x rs ≡ p = cc in omega arith))
      go false e = absurd (let z : ◌≡◌ {A = ℕ} 0 1 = cc in omega arith)

  absent_is : (x p : ℕ) (rs : List A) → lookup x (map key rs) ≡ Err p → (holds x rs ≡ false) × (p ≡ place x rs)
  absent_is x p rs e = go (holds x rs) (sym (lookup_split 0 x rs) ∙ e)
    where
      go : (b : Bool) → pick b (Ok (0 + place x rs)) (Err (0 + place x rs)) ≡ Err p → (b ≡ false) × (p ≡ place x rs)
      go false e = (refl, (let q : 0 + place x rs ≡ p = cc in omega arith))
      go true e = absurd (let z : ◌≡◌ {A = ℕ} 0 1 = cc in omega arith)

  place_within : (x : ℕ) (rs : List A) → place x rs ≤ length rs
  unfolding place
  place_within x [] = zero-le
  place_within x (r ∷ rs) =
      orders x (key r)
      (λ l. simp (le-leb x (key r) l) (omega arith))
      (λ l. simp (lt-leb x (key r) l) (omega (arith, place_within x rs)))

  -- by place is by key
  at_place : (r : A) (rs : List A) → insert_at (place (key r) rs) r rs ≡ insert_by key r rs
  unfolding place insert_at insert_by
  at_place r [] = refl
  at_place r (x ∷ xs) =
      orders (key r) (key x)
      (λ l. simp (le-leb (key r) (key x) l))
      (λ l. simp (lt-leb (key r) (key x) l) (ap (λ (l : List A). x ∷ l) (at_place r xs)))

  -- a held key stands at its place, and no key before it is that key
  held_past : (x : ℕ) (r : A) (rs : List A) → key r < x → holds x (r ∷ rs) ≡ true → holds x rs ≡ true
  unfolding holds
  held_past x r rs l h = simp (lt-leb x (key r) l) at h

  held_here : (x : ℕ) (r : A) (rs : List A) → x ≤ key r → holds x (r ∷ rs) ≡ true → key r ≡ x
  unfolding holds
  held_here x r rs l h = eqb-true (key r) x (simp (le-leb x (key r) l) at h)

  held_within : (x : ℕ) (rs : List A) → holds x rs ≡ true → place x rs < length rs
  unfolding place holds
  held_within x [] h = absurd (let z : ◌≡◌ {A = ℕ} 0 1 = cc in omega arith)
  held_within x (r ∷ rs) h =
      orders x (key r)
      (λ l. simp (le-leb x (key r) l) (omega arith))
      (λ l. simp (lt-leb x (key r) l) (omega (arith, held_within x rs (held_past x r rs l h))))

  -- records with keys above x are all kept where x goes
  keep_above : (x : ℕ) (rs : List A) → T (all (λ y. ltb x (key y)) rs) → keep (other_than x) rs ≡ rs
  unfolding keep
  keep_above x [] h = refl
  keep_above x (r ∷ rs) h =
      let l = ltb→lt x (key r) (all_head (λ y. ltb x (key y)) r rs h) in
      simp (ne_eqb (key r) x (omega arith)) (ap (λ (l : List A). r ∷ l) (keep_above x rs (all_tail (λ y. ltb x (key y)) r rs h)))

  above_all : (x : ℕ) (r : A) (rs : List A) → key r ≡ x → T (ascending (map key (r ∷ rs))) → T (all (λ y. ltb x (key y)) rs)
  above_all x r rs e h = subst (λ (k : ℕ). T (all (λ y. ltb k (key y)) rs)) e (pairs_head (below_key key) r rs (up_pairs key (r ∷ rs) h))

  insert_front : (x : ℕ) (r : A) (rs : List A) → key r ≡ x → T (all (λ y. ltb x (key y)) rs) → insert_by key r rs ≡ r ∷ rs
  unfolding insert_by
  insert_front x r [] e h = refl
  insert_front x r (y ∷ ys) e h =
      let l = ltb→lt x (key y) (all_head (λ y. ltb x (key y)) y ys h) in
      simp (le-leb (key r) (key y) (omega arith))

  removed_at : (x : ℕ) (rs : List A) → T (ascending (map key rs)) → holds x rs ≡ true → remove_at (place x rs) rs ≡ keep (other_than x) rs
  unfolding place remove_at keep
  removed_at x [] up h = refl
  removed_at x (r ∷ rs) up h =
      orders x (key r)
      (λ l.
      let e = held_here x r rs l h in
      simp (le-leb x (key r) l, eq-eqb (key r) x e) (sym (keep_above x rs (above_all x r rs e up))))
      (λ l.
      simp (lt-leb x (key r) l, ne_eqb (key r) x (omega arith))
      (ap (λ (l : List A). r ∷ l) (removed_at x rs (ascending_tail (key r) (map key rs) up) (held_past x r rs l h))))

  replaced_at : (r : A) (rs : List A) → T (ascending (map key rs)) → holds (key r) rs ≡ true
      → set rs (place (key r) rs) r ≡ insert_by key r (keep (other_than (key r)) rs)
  unfolding place keep
  replaced_at r [] up h = absurd (let z : ◌≡◌ {A = ℕ} 0 1 = unfold holds in cc in omega arith)
  replaced_at r (x ∷ xs) up h =
      orders (key r) (key x)
      (λ l.
      let e = held_here (key r) x xs l h in
      let a : T (all (λ y. ltb (key r) (key y)) xs) = above_all (key r) x xs e up in
      simp (le-leb (key r) (key x) l, eq-eqb (key x) (key r) e)
      (sym (ap (insert_by key r) (keep_above (key r) xs a) ∙ insert_front (key r) r xs refl a)))
      (λ l.
      let later : insert_by key r (x ∷ keep (other_than (key r)) xs) ≡ x ∷ insert_by key r (keep (other_than (key r)) xs) = unfold insert_by in simp (lt-leb (key r) (key x) l) in
      simp (lt-leb (key r) (key x) l, ne_eqb (key x) (key r) (omega arith))
      (ap (λ (l : List A). x ∷ l) (replaced_at r xs (ascending_tail (key x) (map key xs) up) (held_past (key r) x xs l h)) ∙ sym later))

  -- a change that concerns the record of one key alone
  same_above : (f : A → A) (x : ℕ) → ((y : A) → T (other_than x y) → f y ≡ y) → (ys : List A) → T (all (λ y. ltb x (key y)) ys) → map f ys ≡ ys
  same_above f x other [] h = refl
  same_above f x other (y ∷ ys) h =
      let l = ltb→lt x (key y) (all_head (λ y. ltb x (key y)) y ys h) in
      λ i. other y (no_eqb (key y) x (omega arith)) i ∷ same_above f x other ys (all_tail (λ y. ltb x (key y)) y ys h) i

  changed_at : (d : A) (f : A → A) (x : ℕ) → ((y : A) → T (other_than x y) → f y ≡ y) → (rs : List A) → T (ascending (map key rs)) → holds x rs ≡ true
      → set rs (place x rs) (f (get_or rs (place x rs) d)) ≡ map f rs
  unfolding place
  changed_at d f x other [] up h = refl
  changed_at d f x other (r ∷ rs) up h =
      orders x (key r)
      (λ l.
      let e = held_here x r rs l h in
      simp (le-leb x (key r) l) (ap (λ (l : List A). f r ∷ l) (sym (same_above f x other rs (above_all x r rs e up)))))
      (λ l.
      simp (lt-leb x (key r) l)
      (λ i. sym (other r (no_eqb (key r) x (omega arith))) i ∷ changed_at d f x other rs (ascending_tail (key r) (map key rs) up) (held_past x r rs l h) i))

  -- the first record of the key, and none
  found_first : (d : A) (x : ℕ) (rs : List A) → holds x rs ≡ true → find_by (λ y. eqb (key y) x) rs ≡ some (get_or rs (place x rs) d)
  unfolding place find_by
  found_first d x [] h = absurd (let z : ◌≡◌ {A = ℕ} 0 1 = unfold holds in cc in omega arith)
  found_first d x (r ∷ rs) h =
      orders x (key r)
      (λ l. simp (le-leb x (key r) l, eq-eqb (key r) x (held_here x r rs l h)))
      (λ l. simp (lt-leb x (key r) l, ne_eqb (key r) x (omega arith)) (found_first d x rs (held_past x r rs l h)))

  lift : (x y : ℕ) (rs : List A) → x ≤ y → T (all (λ r. ltb y (key r)) rs) → T (all (λ r. ltb x (key r)) rs)
  unfolding all
  lift x y [] l h = tt
  lift x y (r ∷ rs) l h =
      let k = ltb→lt y (key r) (all_head (λ r. ltb y (key r)) r rs h) in
      all_cons (λ r. ltb x (key r)) r rs (lt→ltb x (key r) (omega arith)) (lift x y rs l (all_tail (λ r. ltb y (key r)) r rs h))

  none_above : (x : ℕ) (rs : List A) → T (all (λ y. ltb x (key y)) rs) → find_by (λ y. eqb (key y) x) rs ≡ none
  unfolding find_by
  none_above x [] h = refl
  none_above x (r ∷ rs) h =
      let l = ltb→lt x (key r) (all_head (λ y. ltb x (key y)) r rs h) in
      simp (ne_eqb (key r) x (omega arith)) (none_above x rs (all_tail (λ y. ltb x (key y)) r rs h))

  unheld_none : (x : ℕ) (rs : List A) → T (ascending (map key rs)) → holds x rs ≡ false → find_by (λ y. eqb (key y) x) rs ≡ none
  unfolding find_by holds
  unheld_none x [] up h = refl
  unheld_none x (r ∷ rs) up h =
      orders x (key r)
      (λ l.
      let ne = eqb-false (key r) x (simp (le-leb x (key r) l) at h) in
      simp (ne_eqb (key r) x ne) (none_above x rs (lift x (key r) rs (omega arith) (above_all (key r) r rs refl up))))
      (λ l. simp (ne_eqb (key r) x (omega arith)) (unheld_none x rs (ascending_tail (key r) (map key rs) up) (simp (lt-leb x (key r) l) at h)))

  -- What an answer of `lookup` is good for.
  module _ (x p : ℕ) (rs : List A) where
    pub found_within : lookup x (map key rs) ≡ Ok p → p < length rs
    found_within e = let i = found_is x p rs e in rw i.1 (held_within x rs i.0)

    pub absent_within : lookup x (map key rs) ≡ Err p → p ≤ length rs
    absent_within e = rw (absent_is x p rs e).1 (place_within x rs)

    pub found_record : (d : A) → lookup x (map key rs) ≡ Ok p → find_by (λ y. eqb (key y) x) rs ≡ some (get_or rs p d)
    found_record d e = let i = found_is x p rs e in rw i.1 (found_first d x rs i.0)

    module _ (up : T (ascending (map key rs))) where
      pub absent_record : lookup x (map key rs) ≡ Err p → find_by (λ y. eqb (key y) x) rs ≡ none
      absent_record e = unheld_none x rs up (absent_is x p rs e).0

      pub remove_found : lookup x (map key rs) ≡ Ok p → remove_at p rs ≡ keep (other_than x) rs
      remove_found e = let i = found_is x p rs e in rw i.1 (removed_at x rs up i.0)

      pub change_found : (d : A) (f : A → A) → ((y : A) → T (other_than x y) → f y ≡ y) → lookup x (map key rs) ≡ Ok p → set rs p (f (get_or rs p d)) ≡ map f rs
      change_found d f other e = let i = found_is x p rs e in rw i.1 (changed_at d f x other rs up i.0)

  module _ (r : A) (p : ℕ) (rs : List A) where
    pub insert_absent : lookup (key r) (map key rs) ≡ Err p → insert_at p r rs ≡ insert_by key r rs
    insert_absent e = rw (absent_is (key r) p rs e).1 (at_place r rs)

    pub replace_found : T (ascending (map key rs)) → lookup (key r) (map key rs) ≡ Ok p → set rs p r ≡ insert_by key r (keep (other_than (key r)) rs)
    replace_found up e = let i = found_is (key r) p rs e in rw i.1 (replaced_at r rs up i.0)
