-- Tests on some element of a list, and on some two: of general use, about lists alone. Assumes nothing.
use mathlib.Core.Path.{◌≡◌, refl, sym, ap, ap₂, ◌∙◌}
use mathlib.Core.Bool.{Bool, true, false, not, ◌&&◌, ◌||◌, or_assoc}
use mathlib.Core.Option.{Option, none, some}
use mathlib.Core.List.{List, [], ◌∷◌, ◌++◌, map}
use Prim.Native.Nat.{ℕ}
use lib.Dec.{eqb}
use Rattle.octets.specs.Choice.{pick, cons_option}
use Rattle.octets.specs.Lists.{member, any_in, all_in, has_repeat, any, all, all_pairs, keep, collect}
use Rattle.octets.proofs.Bools.{or_four}
use Rattle.plan.specs.RowRules.{on_some}

-- ---- some element

module _ {A : Type 0} where
  pub any_ext : (p q : A → Bool) → ((x : A) → p x ≡ q x) → (xs : List A) → any p xs ≡ any q xs
  unfolding any
  any_ext p q h [] = refl
  any_ext p q h (x ∷ xs) = ap₂ ◌||◌ (h x) (any_ext p q h xs)

  pub any_or : (p q : A → Bool) (xs : List A) → (any p xs || any q xs) ≡ any (λ x. p x || q x) xs
  unfolding any
  any_or p q [] = refl
  any_or p q (x ∷ xs) = or_four (p x) (any p xs) (q x) (any q xs) ∙ ap (λ (b : Bool). (p x || q x) || b) (any_or p q xs)

  pub any_append : (p : A → Bool) (xs ys : List A) → any p (xs ++ ys) ≡ (any p xs || any p ys)
  unfolding any
  any_append p [] ys = refl
  any_append p (x ∷ xs) ys = ap (λ (b : Bool). p x || b) (any_append p xs ys) ∙ sym (or_assoc (p x) (any p xs) (any p ys))

  pub any_keep : (p t : A → Bool) (xs : List A) → any p (keep t xs) ≡ any (λ x. t x && p x) xs
  unfolding any keep
  any_keep p t [] = refl
  any_keep p t (x ∷ xs) = one (t x) (any_keep p t xs)
    where
      one : (b : Bool) → any p (keep t xs) ≡ any (λ y. t y && p y) xs → any p (pick b (x ∷ keep t xs) (keep t xs)) ≡ ((b && p x) || any (λ y. t y && p y) xs)
      one true e = ap (λ (c : Bool). p x || c) e
      one false e = e

  -- a test that joins with one that does not look at the element
  pub any_and : (b : Bool) (p : A → Bool) (xs : List A) → any (λ x. b && p x) xs ≡ (b && any p xs)
  unfolding any
  any_and true p [] = refl
  any_and true p (x ∷ xs) = ap (λ (c : Bool). p x || c) (any_and true p xs)
  any_and false p [] = refl
  any_and false p (x ∷ xs) = any_and false p xs

  pub not_all : (p : A → Bool) (xs : List A) → not (all p xs) ≡ any (λ x. not (p x)) xs
  unfolding any all
  not_all p [] = refl
  not_all p (x ∷ xs) = one (p x) (not_all p xs)
    where
      one : (b : Bool) → not (all p xs) ≡ any (λ y. not (p y)) xs → not (b && all p xs) ≡ (not b || any (λ y. not (p y)) xs)
      one true e = e
      one false e = refl

module _ {A B : Type 0} where
  pub any_map : (p : B → Bool) (f : A → B) (xs : List A) → any p (map f xs) ≡ any (λ x. p (f x)) xs
  unfolding any
  any_map p f [] = refl
  any_map p f (x ∷ xs) = ap (λ (b : Bool). p (f x) || b) (any_map p f xs)

  pub any_collect : (p : B → Bool) (f : A → Option B) (xs : List A) → any p (collect f xs) ≡ any (λ x. on_some p (f x)) xs
  unfolding any collect on_some
  any_collect p f [] = refl
  any_collect p f (x ∷ xs) = one (f x) (any_collect p f xs)
    where
      one : (o : Option B) → any p (collect f xs) ≡ any (λ y. on_some p (f y)) xs
          → any p (cons_option o (collect f xs)) ≡ (on_some p o || any (λ y. on_some p (f y)) xs)
      one none e = e
      one (some y) e = ap (λ (b : Bool). p y || b) e

pub any_in_lem : (xs ys : List ℕ) → any_in xs ys ≡ any (λ x. member x ys) xs
unfolding any any_in
any_in_lem [] ys = refl
any_in_lem (x ∷ xs) ys = ap (λ (b : Bool). member x ys || b) (any_in_lem xs ys)

pub not_all_in : (xs ys : List ℕ) → not (all_in xs ys) ≡ any (λ x. not (member x ys)) xs
unfolding any all_in
not_all_in [] ys = refl
not_all_in (x ∷ xs) ys = one (member x ys) (not_all_in xs ys)
  where
    one : (b : Bool) → not (all_in xs ys) ≡ any (λ y. not (member y ys)) xs → not (b && all_in xs ys) ≡ (not b || any (λ y. not (member y ys)) xs)
    one true e = e
    one false e = refl

-- ---- some two, the earlier one first

module _ {A : Type 0} where
  unfoldable pub any_pair : (A → A → Bool) → List A → Bool
  any_pair q [] = false
  any_pair q (x ∷ xs) = any (q x) xs || any_pair q xs

  pub pair_or : (p q : A → A → Bool) (xs : List A) → (any_pair p xs || any_pair q xs) ≡ any_pair (λ x y. p x y || q x y) xs
  unfolding any_pair
  pair_or p q [] = refl
  pair_or p q (x ∷ xs) = or_four (any (p x) xs) (any_pair p xs) (any (q x) xs) (any_pair q xs) ∙ ap₂ ◌||◌ (any_or (p x) (q x) xs) (pair_or p q xs)

  pub not_pairs : (p : A → A → Bool) (xs : List A) → not (all_pairs p xs) ≡ any_pair (λ x y. not (p x y)) xs
  unfolding any_pair all_pairs
  not_pairs p [] = refl
  not_pairs p (x ∷ xs) = one (all (p x) xs) (not_all (p x) xs) (not_pairs p xs)
    where
      one : (b : Bool) → not b ≡ any (λ y. not (p x y)) xs → not (all_pairs p xs) ≡ any_pair (λ y z. not (p y z)) xs
          → not (b && all_pairs p xs) ≡ (any (λ y. not (p x y)) xs || any_pair (λ y z. not (p y z)) xs)
      one true e f = rw (← e) f
      one false e f = rw (← e)

  pub pair_keep : (q : A → A → Bool) (t : A → Bool) (xs : List A) → any_pair q (keep t xs) ≡ any_pair (λ x y. t x && (t y && q x y)) xs
  unfolding any_pair keep
  pair_keep q t [] = refl
  pair_keep q t (x ∷ xs) = one (t x) (pair_keep q t xs) ∙ ap (λ (b : Bool). b || any_pair (λ y z. t y && (t z && q y z)) xs) (sym (any_and (t x) (λ y. t y && q x y) xs))
    where
      one : (b : Bool) → any_pair q (keep t xs) ≡ any_pair (λ y z. t y && (t z && q y z)) xs
          → any_pair q (pick b (x ∷ keep t xs) (keep t xs)) ≡ ((b && any (λ y. t y && q x y) xs) || any_pair (λ y z. t y && (t z && q y z)) xs)
      one true e = ap₂ ◌||◌ (any_keep (q x) t xs) e
      one false e = e

module _ {A B : Type 0} where
  pub pair_map : (q : B → B → Bool) (f : A → B) (xs : List A) → any_pair q (map f xs) ≡ any_pair (λ x y. q (f x) (f y)) xs
  unfolding any_pair
  pair_map q f [] = refl
  pair_map q f (x ∷ xs) = ap₂ ◌||◌ (any_map (q (f x)) f xs) (pair_map q f xs)

pub repeat_pairs : (xs : List ℕ) → has_repeat xs ≡ any_pair eqb xs
unfolding has_repeat any_pair member any
repeat_pairs [] = refl
repeat_pairs (x ∷ xs) = ap₂ ◌||◌ (member_any x xs) (repeat_pairs xs)
  where
    member_any : (n : ℕ) (ys : List ℕ) → member n ys ≡ any (eqb n) ys
    member_any n [] = refl
    member_any n (y ∷ ys) = ap (λ (b : Bool). eqb n y || b) (member_any n ys)
