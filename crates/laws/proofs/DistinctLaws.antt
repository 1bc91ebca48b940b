-- How many different numbers there are in lists: in a part of another, and in two together.
-- Assumes nothing.
use mathlib.Core.Path.{◌≡◌, refl, sym, ap, subst}
use Prim.Native.Nat.{ℕ, ◌+◌, ◌≤◌}
use native.Mathlib.Omega.{arith}
use mathlib.Core.Bool.{Bool, true, false, not, ◌||◌}
use mathlib.Core.List.{List, [], ◌∷◌, ◌++◌}
use lib.ListN.{length}
use lib.Dec.{T, eqb, eqb→eq}
use Rattle.octets.specs.Choice.{pick, flag}
use Rattle.octets.specs.Lists.{member, any_in, distinct, all}
use Rattle.octets.proofs.Tests.{is_false}
use Rattle.octets.proofs.Bools.{not_or}
use Rattle.octets.proofs.ListLaws.{all_imply, by_test, or_right}
use Rattle.octets.proofs.MemberLaws.{member_front}
use Rattle.laws.proofs.RangeLaws.{without_count}

-- each number once
unfoldable once : List ℕ → List ℕ
once [] = []
once (x ∷ xs) = let t = once xs in pick (member x xs) t (x ∷ t)

length_once : (xs : List ℕ) → length (once xs) ≡ distinct xs
unfolding once distinct
length_once [] = refl
length_once (x ∷ xs) = one (member x xs) (length_once xs)
  where
    one : (b : Bool) → length (once xs) ≡ distinct xs → length (pick b (once xs) (x ∷ once xs)) ≡ flag (not b) + distinct xs
    one true e = omega arith
    one false e = omega arith

once_member : (k : ℕ) (xs : List ℕ) → T (member k xs) → T (member k (once xs))
unfolding once member
once_member k [] h = h
once_member k (x ∷ xs) h = one (λ g. once_member k xs g) (member x xs) refl
  where
    -- the first one, which stands again later
    later : T (member x xs) → T (member k xs)
    later g = by_test (eqb k x) (λ e. subst (λ (n : ℕ). T (member n xs)) (sym (eqb→eq k x e)) g) (λ e. or_right (eqb k x) (member k xs) h e)

    one : (T (member k xs) → T (member k (once xs))) → (b : Bool) → member x xs ≡ b → T (member k (pick b (once xs) (x ∷ once xs)))
    one ih true e = ih (later (subst T (sym e) tt))
    one ih false e = by_test (eqb k x) (λ f. left (eqb k x) (member k (once xs)) f) (λ f. right (eqb k x) (member k (once xs)) (ih (or_right (eqb k x) (member k xs) h f)))
      where
        left : (a b : Bool) → T a → T (a || b)
        left true b g = tt
        left false b g = absurd g

        right : (a b : Bool) → T b → T (a || b)
        right true b g = tt
        right false b g = g

-- numbers of another list are no more than that one's
pub distinct_within : (xs ys : List ℕ) → T (all (λ n. member n ys) xs) → distinct xs ≤ distinct ys
distinct_within xs ys h =
    let a = without_count (once ys) xs (all_imply (λ n. member n ys) (λ n. member n (once ys)) (λ n g. once_member n ys g) xs h) in
    let b = length_once ys in
    omega arith

-- two lists together
pub distinct_both : (xs ys : List ℕ) → distinct (xs ++ ys) ≤ distinct xs + distinct ys
unfolding distinct
distinct_both [] ys = omega arith
distinct_both (x ∷ xs) ys = one (member x xs) refl (member x (xs ++ ys)) refl (distinct_both xs ys)
  where
    one : (a : Bool) → member x xs ≡ a → (b : Bool) → member x (xs ++ ys) ≡ b → distinct (xs ++ ys) ≤ distinct xs + distinct ys
        → flag (not b) + distinct (xs ++ ys) ≤ flag (not a) + distinct xs + distinct ys
    one true e true f k = omega arith
    one true e false f k = absurd (subst T f (member_front x xs ys (subst T (sym e) tt)))
    one false e true f k = omega arith
    one false e false f k = omega arith

-- and two that have none in common
member_both : (x : ℕ) (xs ys : List ℕ) → T (not (member x ys)) → member x (xs ++ ys) ≡ member x xs
unfolding member
member_both x [] ys h = is_false (member x ys) h
member_both x (y ∷ xs) ys h = ap (λ (b : Bool). eqb x y || b) (member_both x xs ys h)

pub distinct_apart : (xs ys : List ℕ) → T (not (any_in xs ys)) → distinct (xs ++ ys) ≡ distinct xs + distinct ys
unfolding distinct any_in
distinct_apart [] ys h = omega arith
distinct_apart (x ∷ xs) ys h =
    let g = not_or (member x ys) (any_in xs ys) h in
    let a = ap (λ (b : Bool). flag (not b)) (member_both x xs ys g.0) in
    let b = distinct_apart xs ys g.1 in
    omega arith
