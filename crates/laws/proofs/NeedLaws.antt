-- How many TEIDs CHOOSEs need, counted as they are given: at the first CHOOSE of each CHOOSE ID. It is as many as there are CHOOSEs without an ID
-- and different CHOOSE IDs.
-- Assumes nothing.
use mathlib.Core.Path.{◌≡◌, refl, ap, ap₂, ◌∙◌}
use Prim.Native.Nat.{ℕ, ◌+◌, ◌≤◌}
use native.Mathlib.Nat.{le_trans, le_of_eq}
use native.Mathlib.Omega.{arith}
use mathlib.Core.Bool.{Bool, true, false, not, ◌&&◌, ◌||◌, and-false}
use mathlib.Core.Option.{Option, none, some}
use mathlib.Core.List.{List, [], ◌∷◌}
use lib.ListN.{length}
use lib.Dec.{eqb, eqb_refl}
use borrow.Author.Tests.{eqb-true}
use Rattle.octets.specs.Choice.{pick, flag, cons_option, is_some}
use Rattle.octets.specs.Lists.{member, distinct, keep, collect}
use Rattle.octets.proofs.Tests.{is_true}
use Rattle.octets.proofs.Bools.{eqb_turn, or_swap}
use Rattle.rules.specs.Request.{Request}
use Rattle.rules.specs.Grants.{Choice, choices, choice_id, is_alone, need_of, need}

-- whether a CHOOSE needs a TEID, where these IDs have theirs, and the IDs that have theirs after it
unfoldable pub is_fresh : List ℕ → Option ℕ → Bool
is_fresh seen none = true
is_fresh seen (some i) = not (member i seen)

unfoldable pub noted : List ℕ → Option ℕ → List ℕ
noted seen none = seen
noted seen (some i) = i ∷ seen

unfoldable pub need_from : List ℕ → List Choice → ℕ
need_from seen [] = 0
need_from seen (c ∷ more) = pick (is_fresh seen c.choose_id) 1 0 + need_from (noted seen c.choose_id) more

-- the IDs that are left
abbrev later : ℕ → List Choice → Bool
later i cs = member i (collect choice_id cs)

-- what was seen counts only by what is in it
need_ext : (s s' : List ℕ) → ((x : ℕ) → member x s ≡ member x s') → (cs : List Choice) → need_from s cs ≡ need_from s' cs
unfolding need_from is_fresh noted member
need_ext s s' h [] = refl
need_ext s s' h (c ∷ cs) = one c.choose_id (λ a b g. need_ext a b g cs)
  where
    one : (o : Option ℕ) → ((a b : List ℕ) → ((x : ℕ) → member x a ≡ member x b) → need_from a cs ≡ need_from b cs)
        → pick (is_fresh s o) 1 0 + need_from (noted s o) cs ≡ pick (is_fresh s' o) 1 0 + need_from (noted s' o) cs
    one none ih = ap (λ (n : ℕ). 1 + n) (ih s s' h)
    one (some j) ih = ap₂ ◌+◌ (ap (λ (b : Bool). pick (not b) 1 0) (h j)) (ih (j ∷ s) (j ∷ s') (λ x. ap (λ (b : Bool). eqb x j || b) (h x)))

swap : (i j : ℕ) (seen : List ℕ) (cs : List Choice) → need_from (i ∷ j ∷ seen) cs ≡ need_from (j ∷ i ∷ seen) cs
unfolding member
swap i j seen cs = need_ext (i ∷ j ∷ seen) (j ∷ i ∷ seen) (λ x. or_swap (eqb x i) (eqb x j) (member x seen)) cs

-- the numbers alone: t says that two IDs are equal, s that the first comes again, m and k that they were seen
equal_ids : (x y : ℕ) (s m : Bool) → x ≡ flag (s && false) + y → pick (not m) 1 0 + x ≡ flag (not m) + (0 + y)
equal_ids x y s m e = one m (e ∙ ap (λ (b : Bool). flag b + y) (and-false s))
  where
    one : (m : Bool) → x ≡ 0 + y → pick (not m) 1 0 + x ≡ flag (not m) + (0 + y)
    one true k = omega arith
    one false k = omega arith

other_ids : (x y : ℕ) (s m k : Bool) → x ≡ flag (s && not m) + y → pick (not k) 1 0 + x ≡ flag (s && not m) + (pick (not k) 1 0 + y)
other_ids x y s m true e = omega arith
other_ids x y s m false e = omega arith

-- one more seen
more : (i : ℕ) (seen : List ℕ) (cs : List Choice) → need_from seen cs ≡ flag (later i cs && not (member i seen)) + need_from (i ∷ seen) cs
unfolding need_from is_fresh noted member collect
more i seen [] = refl
more i seen (c ∷ cs) = one c.choose_id (λ a. more i a cs)
  where
    count : (t : Bool) (j : ℕ) → eqb i j ≡ t → ((a : List ℕ) → need_from a cs ≡ flag (later i cs && not (member i a)) + need_from (i ∷ a) cs)
        → pick (not (member j seen)) 1 0 + need_from (j ∷ seen) cs
        ≡ flag ((t || later i cs) && not (member i seen)) + (pick (not (t || member j seen)) 1 0 + need_from (j ∷ i ∷ seen) cs)
    count true j e ih =
        rw (← eqb-true i j e)
        (equal_ids (need_from (i ∷ seen) cs) (need_from (i ∷ i ∷ seen) cs) (later i cs) (member i seen)
        (ih (i ∷ seen) ∙ ap (λ (b : Bool). flag (later i cs && not (b || member i seen)) + need_from (i ∷ i ∷ seen) cs) (is_true (eqb i i) (eqb_refl i))))
    count false j e ih =
        other_ids (need_from (j ∷ seen) cs) (need_from (j ∷ i ∷ seen) cs) (later i cs) (member i seen) (member j seen)
        (ih (j ∷ seen) ∙ ap₂ (λ (b : Bool) (n : ℕ). flag (later i cs && not (b || member i seen)) + n) e (swap i j seen cs))

    one : (o : Option ℕ) → ((a : List ℕ) → need_from a cs ≡ flag (later i cs && not (member i a)) + need_from (i ∷ a) cs)
        → pick (is_fresh seen o) 1 0 + need_from (noted seen o) cs
        ≡ flag (member i (cons_option o (collect choice_id cs)) && not (member i seen)) + (pick (is_fresh (i ∷ seen) o) 1 0 + need_from (noted (i ∷ seen) o) cs)
    one none ih = omega (arith, ih seen)
    one (some j) ih = rw (eqb_turn j i) (count (eqb i j) j refl ih)

-- as many are given as are needed
pub need_from_lem : (cs : List Choice) → need_from [] cs ≡ need_of cs
unfolding need_from need_of is_fresh noted member keep is_alone distinct collect
need_from_lem [] = refl
need_from_lem (c ∷ cs) = one c.choose_id (need_from_lem cs)
  where
    all_in_lem : (s : Bool) (x y n k : ℕ) → x ≡ flag (s && true) + y → x ≡ n + k → 1 + y ≡ n + (flag (not s) + k)
    all_in_lem true x y n k e f = omega arith
    all_in_lem false x y n k e f = omega arith

    one : (o : Option ℕ) → need_from [] cs ≡ length (keep is_alone cs) + distinct (collect choice_id cs)
        → pick (is_fresh [] o) 1 0 + need_from (noted [] o) cs
        ≡ length (pick (not (is_some o)) (c ∷ keep is_alone cs) (keep is_alone cs)) + distinct (cons_option o (collect choice_id cs))
    one none ih = omega (arith, ih)
    one (some i) ih = all_in_lem (later i cs) (need_from [] cs) (need_from (i ∷ []) cs) (length (keep is_alone cs)) (distinct (collect choice_id cs)) (more i [] cs) ih

pub need_given : (r : Request) → need_from [] (choices r) ≡ need r
unfolding need
need_given r = need_from_lem (choices r)

-- where as many are free, there is one for each
pub enough_given : (r : Request) (n : ℕ) → need r ≤ n → need_from [] (choices r) ≤ n
enough_given r n h = le_trans (le_of_eq (need_given r)) h
