-- The questions on lists of numbers, one element at a time, over lists joined, and turned round. Of use to every crate.
-- Assumes nothing.
use mathlib.Core.Path.{◌≡◌, refl, sym, ◌∙◌, ap, ap₂}
use mathlib.Core.Bool.{Bool, false, ◌||◌, or_assoc}
use mathlib.Core.List.{List, [], ◌∷◌, ◌++◌}
use Prim.Native.Nat.{ℕ}
use lib.Dec.{eqb}
use Rattle.std.specs.List.{list_any}
use Rattle.octets.proofs.Bools.{eqb_turn, or_swap, or_four}
use Rattle.octets.specs.Lists.{member, any_in}

pub member_nil : (x : ℕ) → member x [] ≡ false
unfolding member
member_nil x = refl

pub member_cons : (x y : ℕ) (ys : List ℕ) → member x (y ∷ ys) ≡ (eqb x y || member x ys)
unfolding member
member_cons x y ys = refl

pub any_nil : (ys : List ℕ) → any_in [] ys ≡ false
unfolding any_in
any_nil ys = refl

pub any_cons : (x : ℕ) (xs ys : List ℕ) → any_in (x ∷ xs) ys ≡ (member x ys || any_in xs ys)
unfolding any_in
any_cons x xs ys = refl

-- std's search for an element
pub member_any : (x : ℕ) (xs : List ℕ) → list_any (λ y. eqb y x) xs ≡ member x xs
unfolding member
member_any x [] = refl
member_any x (y ∷ ys) = ap₂ ◌||◌ (eqb_turn y x) (member_any x ys)

-- ---- lists joined

pub member_append : (x : ℕ) (xs ys : List ℕ) → member x (xs ++ ys) ≡ (member x xs || member x ys)
unfolding member
member_append x [] ys = refl
member_append x (y ∷ xs) ys = ap (λ (b : Bool). eqb x y || b) (member_append x xs ys) ∙ sym (or_assoc (eqb x y) (member x xs) (member x ys))

-- a number is found wherever it stands
pub member_middle : (x t : ℕ) (xs ys : List ℕ) → member x (xs ++ t ∷ ys) ≡ (eqb x t || member x (xs ++ ys))
unfolding member
member_middle x t [] ys = refl
member_middle x t (y ∷ xs) ys = ap (λ (b : Bool). eqb x y || b) (member_middle x t xs ys) ∙ or_swap (eqb x y) (eqb x t) (member x (xs ++ ys))

-- ---- numbers in common

any_none : (xs : List ℕ) → any_in xs [] ≡ false
unfolding any_in member
any_none [] = refl
any_none (x ∷ xs) = any_none xs

any_last : (xs : List ℕ) (y : ℕ) (ys : List ℕ) → any_in xs (y ∷ ys) ≡ (member y xs || any_in xs ys)
unfolding any_in member
any_last [] y ys = refl
any_last (x ∷ xs) y ys =
    (λ i. (eqb_turn x y i || member x ys) || any_last xs y ys i) ∙ or_four (eqb y x) (member x ys) (member y xs) (any_in xs ys)

pub any_turn : (xs ys : List ℕ) → any_in xs ys ≡ any_in ys xs
unfolding any_in
any_turn xs [] = any_none xs
any_turn xs (y ∷ ys) = any_last xs y ys ∙ ap (λ (b : Bool). member y xs || b) (any_turn xs ys)
