-- Two lists merged into one, each in its own order: what a test of some element, or of some two, says of the lists one after the other
-- it says of the merged list. Of general use, about lists alone. Assumes nothing.
use mathlib.Core.Path.{◌≡◌, refl, sym, ap, ap₂, ◌∙◌}
use mathlib.Core.Bool.{Bool, true, false, ◌||◌, false≢true}
use mathlib.Core.Option.{Option, none, some}
use mathlib.Core.List.{List, [], ◌∷◌, ◌++◌}
use Rattle.octets.specs.Choice.{pick, cons_option}
use Rattle.octets.specs.Lists.{any, keep, collect}
use Rattle.plan.proofs.ListLaws.{any_pair}
use Rattle.octets.proofs.Bools.{or_swap, or_four}

pub data Merge {A : Type 0} : List A → List A → List A → Type 0 where
  empty : Merge [] [] []
  left : {x : A} {xs ys zs : List A} → Merge xs ys zs → Merge (x ∷ xs) ys (x ∷ zs)
  right : {y : A} {xs ys zs : List A} → Merge xs ys zs → Merge xs (y ∷ ys) (y ∷ zs)

module _ {A : Type 0} (q : A → Bool) where
  pub any_middle : (xs : List A) (y : A) (ys : List A) → any q (xs ++ (y ∷ ys)) ≡ (q y || any q (xs ++ ys))
  unfolding any
  any_middle [] y ys = refl
  any_middle (x ∷ xs) y ys = ap (λ (b : Bool). q x || b) (any_middle xs y ys) ∙ or_swap (q x) (q y) (any q (xs ++ ys))

  pub any_merge : {xs ys zs : List A} → Merge xs ys zs → any q (xs ++ ys) ≡ any q zs
  unfolding any
  any_merge empty = refl
  any_merge (left {x} m) = ap (λ (b : Bool). q x || b) (any_merge m)
  any_merge {xs} (right {y} {ys = ys} m) = any_middle xs y ys ∙ ap (λ (b : Bool). q y || b) (any_merge m)

module _ {A : Type 0} (q : A → A → Bool) (even : (x y : A) → q x y ≡ q y x) where
  pair_middle : (xs : List A) (y : A) (ys : List A) → any_pair q (xs ++ (y ∷ ys)) ≡ (any (q y) (xs ++ ys) || any_pair q (xs ++ ys))
  unfolding any any_pair
  pair_middle [] y ys = refl
  pair_middle (x ∷ xs) y ys =
      ap₂ ◌||◌ (any_middle (q x) xs y ys) (pair_middle xs y ys)
      ∙ ap (λ (b : Bool). (b || any (q x) (xs ++ ys)) || (any (q y) (xs ++ ys) || any_pair q (xs ++ ys))) (even x y)
      ∙ or_four (q y x) (any (q x) (xs ++ ys)) (any (q y) (xs ++ ys)) (any_pair q (xs ++ ys))

  pub pair_merge : {xs ys zs : List A} → Merge xs ys zs → any_pair q (xs ++ ys) ≡ any_pair q zs
  unfolding any_pair
  pair_merge empty = refl
  pair_merge (left {x} m) = ap₂ ◌||◌ (any_merge (q x) m) (pair_merge m)
  pair_merge {xs} (right {y} {ys = ys} m) = pair_middle xs y ys ∙ ap₂ ◌||◌ (any_merge (q y) m) (pair_merge m)

front : {B : Type 0} {xs ys zs : List B} (o : Option B) → Merge xs ys zs → Merge (cons_option o xs) ys (cons_option o zs)
front none m = m
front (some x) m = left m

back : {B : Type 0} {xs ys zs : List B} (o : Option B) → Merge xs ys zs → Merge xs (cons_option o ys) (cons_option o zs)
back none m = m
back (some x) m = right m

-- elements of two kinds, kind by kind, and in their own order
abbrev pub either : {A B : Type 0} (t u : A → Bool) (f g : A → Option B) → A → Option B
either t u f g x = pick (t x) (f x) (pick (u x) (g x) none)

module _ {A B : Type 0} (t u : A → Bool) (apart : (x : A) → t x ≡ true → u x ≡ false) (f g : A → Option B) where
  pub merged : (xs : List A) → Merge (collect f (keep t xs)) (collect g (keep u xs)) (collect (either t u f g) xs)
  unfolding collect keep
  merged [] = empty
  merged (x ∷ xs) = one (t x) (u x) (apart x) (merged xs)
    where
      one : (a b : Bool) → (a ≡ true → b ≡ false) → Merge (collect f (keep t xs)) (collect g (keep u xs)) (collect (either t u f g) xs)
          → Merge (collect f (pick a (x ∷ keep t xs) (keep t xs))) (collect g (pick b (x ∷ keep u xs) (keep u xs)))
          (cons_option (pick a (f x) (pick b (g x) none)) (collect (either t u f g) xs))
      one true true h m = absurd (false≢true (sym (h refl)))
      one true false h m = front (f x) m
      one false true h m = back (g x) m
      one false false h m = m
