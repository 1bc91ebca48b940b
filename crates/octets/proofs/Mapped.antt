-- Searches and insertions in a list of values made from others, each once for any values, test and key.
-- Assumes nothing.
use mathlib.Core.Path.{◌≡◌, refl, ap, ◌∙◌}
use Prim.Native.Nat.{ℕ}
use mathlib.Core.Bool.{Bool, true, false}
use mathlib.Core.Option.{some}
use mathlib.Core.List.{List, [], ◌∷◌, map}
use lib.Dec.{leb}
use Rattle.octets.specs.Choice.{pick, map_option}
use Rattle.octets.specs.Lists.{keep, find_by, insert_by, insert_all}

-- a value made from one of two
pub of_pick : {A B : Type 0} (f : A → B) (b : Bool) (x y : A) → f (pick b x y) ≡ pick b (f x) (f y)
of_pick f true x y = refl
of_pick f false x y = refl

module _ {A B : Type 0} (f : A → B) where
  -- those for which a test holds
  pub keep_map : (p : B → Bool) (xs : List A) → keep p (map f xs) ≡ map f (keep (λ a. p (f a)) xs)
  unfolding keep
  keep_map p [] = refl
  keep_map p (x ∷ xs) = one (p (f x)) (keep_map p xs)
    where
      one : (b : Bool) → keep p (map f xs) ≡ map f (keep (λ a. p (f a)) xs)
          → pick b (f x ∷ keep p (map f xs)) (keep p (map f xs)) ≡ map f (pick b (x ∷ keep (λ a. p (f a)) xs) (keep (λ a. p (f a)) xs))
      one true e = ap (λ (l : List B). f x ∷ l) e
      one false e = e

  -- the first for which a test holds
  pub find_map : (p : B → Bool) (xs : List A) → find_by p (map f xs) ≡ map_option f (find_by (λ a. p (f a)) xs)
  unfolding find_by
  find_map p [] = refl
  find_map p (x ∷ xs) = one (p (f x)) (find_map p xs)
    where
      one : (b : Bool) → find_by p (map f xs) ≡ map_option f (find_by (λ a. p (f a)) xs)
          → pick b (some (f x)) (find_by p (map f xs)) ≡ map_option f (pick b (some x) (find_by (λ a. p (f a)) xs))
      one true e = refl
      one false e = e

  module _ (key : B → ℕ) where
    -- one more, by the key of its value
    pub insert_map : (a : A) (xs : List A) → insert_by key (f a) (map f xs) ≡ map f (insert_by (λ b. key (f b)) a xs)
    unfolding insert_by
    insert_map a [] = refl
    insert_map a (x ∷ xs) = one (leb (key (f a)) (key (f x))) (insert_map a xs)
      where
        one : (b : Bool) → insert_by key (f a) (map f xs) ≡ map f (insert_by (λ c. key (f c)) a xs)
            → pick b (f a ∷ f x ∷ map f xs) (f x ∷ insert_by key (f a) (map f xs)) ≡ map f (pick b (a ∷ x ∷ xs) (x ∷ insert_by (λ c. key (f c)) a xs))
        one true e = refl
        one false e = ap (λ (l : List B). f x ∷ l) e

    -- and all of a list
    pub insert_all_map : (as' xs : List A) → insert_all key (map f as') (map f xs) ≡ map f (insert_all (λ b. key (f b)) as' xs)
    unfolding insert_all
    insert_all_map [] xs = refl
    insert_all_map (a ∷ as') xs = ap (insert_all key (map f as')) (insert_map a xs) ∙ insert_all_map as' (insert_by (λ b. key (f b)) a xs)
