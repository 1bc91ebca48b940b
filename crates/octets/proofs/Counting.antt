-- Counting numbers at their first place in a list, as marking does, counts the different ones. Of use to every crate.
-- Assumes nothing.
use mathlib.Core.Path.{◌≡◌, refl, sym, ap}
use mathlib.Core.Bool.{Bool, true, false, not, ◌||◌}
use mathlib.Core.List.{List, [], ◌∷◌, ◌++◌, append-nil}
use Prim.Native.Nat.{ℕ, zero, suc, ◌+◌, ◌≤◌, ◌<◌}
use native.Mathlib.Decide.{ℕ_discrete}
use native.Mathlib.Omega.{arith}
use borrow.Author.Tests.{eq-eqb, ne_eqb}
use lib.Dec.{T, eqb, ltb, ltb→lt}
use lib.ListN.{length}
use Rattle.octets.specs.Choice.{pick, flag}
use Rattle.octets.specs.Lists.{member, distinct, range, without, all}
use Rattle.octets.proofs.Questions.{member_middle}
use Rattle.octets.proofs.Tests.{all_head, all_tail}

-- how many numbers of a list are neither among those seen nor earlier in the list
unfoldable pub new_in : List ℕ → List ℕ → ℕ
new_in seen [] = 0
new_in seen (t ∷ ts) = flag (not (member t seen)) + new_in (t ∷ seen) ts

-- a number counts the same wherever it stands
pub distinct_middle : (t : ℕ) (xs ys : List ℕ) → distinct (xs ++ t ∷ ys) ≡ flag (not (member t (xs ++ ys))) + distinct (xs ++ ys)
unfolding distinct member
distinct_middle t [] ys = refl
distinct_middle t (x ∷ xs) ys = go (ℕ_discrete x t) (distinct_middle t xs ys)
  where
    go : Dec (x ≡ t) → distinct (xs ++ t ∷ ys) ≡ flag (not (member t (xs ++ ys))) + distinct (xs ++ ys)
        → flag (not (member x (xs ++ t ∷ ys))) + distinct (xs ++ t ∷ ys)
        ≡ flag (not (eqb t x || member t (xs ++ ys))) + (flag (not (member x (xs ++ ys))) + distinct (xs ++ ys))
    go (yes e) ih =
        let f = member_middle x t xs ys in
        let g = ap (λ (z : ℕ). member z (xs ++ ys)) e in
        rw (f, eq-eqb x t e, eq-eqb t x (sym e), g) (omega arith)
    go (no n) ih =
        let f = member_middle x t xs ys in
        rw (f, ne_eqb x t n, ne_eqb t x (λ e. n (sym e))) (omega arith)

new_distinct_from : (seen ts : List ℕ) → new_in seen ts + distinct seen ≡ distinct (ts ++ seen)
unfolding new_in
new_distinct_from seen [] = omega arith
new_distinct_from seen (t ∷ ts) =
    let ih = new_distinct_from (t ∷ seen) ts in
    let e = distinct_middle t [] seen in
    let f = distinct_middle t ts seen in
    let g = distinct_middle t [] (ts ++ seen) in
    omega arith

pub new_distinct : (ts : List ℕ) → new_in [] ts ≡ distinct ts
new_distinct ts =
    let e = new_distinct_from [] ts in
    let f = ap distinct (append-nil ts) in
    let z : distinct [] ≡ 0 = unfold distinct in refl in
    omega arith

-- ---- how many of a range are free

outside : (x i n : ℕ) (xs : List ℕ) → x < i → without (range i n) (x ∷ xs) ≡ without (range i n) xs
unfolding without range member
outside x i zero xs h = refl
outside x i (suc n) xs h =
    let e = ne_eqb i x (λ g. omega arith) in
    let f = outside x (i + 1) n xs (omega arith) in
    rw (e, f)

-- one number more that is held takes one away, unless it was held
without_one : (x i n : ℕ) (xs : List ℕ) → i ≤ x → x < i + n → length (without (range i n) xs) ≡ flag (not (member x xs)) + length (without (range i n) (x ∷ xs))
without_one x i zero xs l u = absurd (omega arith)
without_one x i (suc n) xs l u = go (ℕ_discrete i x) (without_one x (i + 1) n xs)
  where
    more : (b : Bool) (k : ℕ) (us : List ℕ) → length (pick b us (k ∷ us)) ≡ flag (not b) + length us
    more true k us = omega arith
    more false k us = omega arith

    go : Dec (i ≡ x)
        → (i + 1 ≤ x → x < i + 1 + n → length (without (range (i + 1) n) xs) ≡ flag (not (member x xs)) + length (without (range (i + 1) n) (x ∷ xs)))
        → length (without (range i (suc n)) xs) ≡ flag (not (member x xs)) + length (without (range i (suc n)) (x ∷ xs))
    go (yes e) ih =
        unfold without range member in (
        rw (e, eq-eqb x x refl, outside x (x + 1) n xs (omega arith)) (more (member x xs) x (without (range (x + 1) n) xs)))
    go (no ne) ih =
        unfold without range member in (
        let k = ih (omega (arith, ne)) (omega arith) in
        let a = more (member i xs) i (without (range (i + 1) n) xs) in
        let b = more (member i xs) i (without (range (i + 1) n) (x ∷ xs)) in
        rw (ne_eqb i x ne) (omega arith))

none_held : (i n : ℕ) → length (without (range i n) []) ≡ n
unfolding without range member
none_held i zero = refl
none_held i (suc n) = ap suc (none_held (i + 1) n)

-- the free numbers and the different numbers held make the range
pub free_distinct : (i n : ℕ) (held : List ℕ) → T (all (λ t. ltb t (i + n)) held) → T (all (λ t. ltb i (t + 1)) held)
    → length (without (range i n) held) + distinct held ≡ n
unfolding distinct
free_distinct i n [] h g = let e = none_held i n in omega arith
free_distinct i n (t ∷ held) h g =
    let below = ltb→lt t (i + n) (all_head (λ x. ltb x (i + n)) t held h) in
    let from = ltb→lt i (t + 1) (all_head (λ x. ltb i (x + 1)) t held g) in
    let one = without_one t i n held (omega arith) below in
    let ih = free_distinct i n held (all_tail (λ x. ltb x (i + n)) t held h) (all_tail (λ x. ltb i (x + 1)) t held g) in
    omega arith
