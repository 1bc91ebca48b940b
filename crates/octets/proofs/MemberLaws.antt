-- Tests of numbers in lists of numbers, as tests of every element.
-- Assumes nothing.
use mathlib.Core.Path.{◌≡◌, refl, sym, ap, subst}
use Prim.Native.Nat.{ℕ}
use mathlib.Core.Bool.{Bool, true, false, not}
use mathlib.Core.List.Permᴰ
use mathlib.Core.List.{List, [], ◌∷◌, ◌++◌, map, Permᴰ}
use lib.Dec.{T, not_T, T_not, eqb, eqb→eq, eqb_refl}
use Rattle.octets.specs.Choice.{pick}
use Rattle.octets.specs.Lists.{member, any_in, all_in, has_repeat, without, all, all_pairs, keep}
use Rattle.octets.proofs.Tests.{and_left, and_right, neither_one, all_head, all_tail, all_cons, no_eqb}
use Rattle.octets.proofs.Ordered.{pairs_cons, ne_of, all_perm}
use Rattle.octets.proofs.ListLaws.{pick_cases, or_right, or_by_left, or_by_right, by_test, all_imply}
use Rattle.octets.proofs.Bools.{not_or}

-- two numbers differ, the other way round
pub differ_turn : (a b : ℕ) → T (not (eqb a b)) → T (not (eqb b a))
differ_turn a b h = no_eqb b a (λ e. ne_of a b h (sym e))

-- a number that is not in a list differs from each in it
pub absent_each : (k : ℕ) (xs : List ℕ) → T (not (member k xs)) → T (all (λ n. not (eqb k n)) xs)
unfolding member all
absent_each k [] h = tt
absent_each k (x ∷ xs) h = let e = not_or (eqb k x) (member k xs) h in all_cons (λ n. not (eqb k n)) x xs e.0 (absent_each k xs e.1)

-- and the other way round
pub each_absent : (k : ℕ) (xs : List ℕ) → T (all (λ n. not (eqb k n)) xs) → T (not (member k xs))
unfolding member
each_absent k [] h = tt
each_absent k (x ∷ xs) h = neither_one (eqb k x) (member k xs) (all_head (λ n. not (eqb k n)) x xs h) (each_absent k xs (all_tail (λ n. not (eqb k n)) x xs h))

-- what holds of each in a list holds of a number in it
pub member_passes : (p : ℕ → Bool) (k : ℕ) (xs : List ℕ) → T (member k xs) → T (all p xs) → T (p k)
unfolding member
member_passes p k [] m h = absurd m
member_passes p k (x ∷ xs) m h =
    by_test (eqb k x) (λ e. subst (λ (n : ℕ). T (p n)) (sym (eqb→eq k x e)) (all_head p x xs h))
    (λ e. member_passes p k xs (or_right (eqb k x) (member k xs) m e) (all_tail p x xs h))

-- a number that is in no larger list is in none of its parts
pub absent_part : (k : ℕ) (xs ys : List ℕ) → T (all (λ n. member n ys) xs) → T (not (member k ys)) → T (not (member k xs))
absent_part k xs ys h g = not_T (member k xs) (λ m. T_not (member k ys) g (member_passes (λ n. member n ys) k xs m h))

-- the first of a list is in it
pub member_first : (k : ℕ) (xs : List ℕ) → T (member k (k ∷ xs))
unfolding member
member_first k xs = or_by_left (eqb k k) (member k xs) (eqb_refl k)

-- a number in a list is in a longer one
pub member_front : (k : ℕ) (xs ys : List ℕ) → T (member k xs) → T (member k (xs ++ ys))
unfolding member
member_front k [] ys h = absurd h
member_front k (x ∷ xs) ys h =
    by_test (eqb k x) (λ e. or_by_left (eqb k x) (member k (xs ++ ys)) e)
    (λ e. or_by_right (eqb k x) (member k (xs ++ ys)) (member_front k xs ys (or_right (eqb k x) (member k xs) h e)))

-- also if it stands in the second
pub member_behind : (k : ℕ) (xs ys : List ℕ) → T (member k ys) → T (member k (xs ++ ys))
unfolding member
member_behind k [] ys h = h
member_behind k (x ∷ xs) ys h = or_by_right (eqb k x) (member k (xs ++ ys)) (member_behind k xs ys h)

-- every number of a list is in it
pub all_members : (xs : List ℕ) → T (all (λ n. member n xs) xs)
unfolding all
all_members [] = tt
all_members (x ∷ xs) =
    all_cons (λ n. member n (x ∷ xs)) x xs (member_first x xs)
    (all_imply (λ n. member n xs) (λ n. member n (x ∷ xs)) (λ n h. member_behind n (x ∷ []) xs h) xs (all_members xs))

-- a number in a list is in it in any order
pub member_perm : (k : ℕ) {xs ys : List ℕ} → Permᴰ xs ys → T (member k xs) → T (member k ys)
member_perm k {xs} {ys} π h =
    by_test (member k ys) (λ m. m)
    (λ g. absurd (T_not (member k xs) (each_absent k xs (all_perm (λ n. not (eqb k n)) (Permᴰ.symm π) (absent_each k ys g))) h))

-- ---- tests on two lists

-- no number of the first is in the second
pub none_in : (xs ys : List ℕ) → T (not (any_in xs ys)) → T (all (λ n. not (member n ys)) xs)
unfolding any_in all
none_in [] ys h = tt
none_in (x ∷ xs) ys h = let e = not_or (member x ys) (any_in xs ys) h in all_cons (λ n. not (member n ys)) x xs e.0 (none_in xs ys e.1)

-- and the other way round
pub in_none : (xs ys : List ℕ) → T (all (λ n. not (member n ys)) xs) → T (not (any_in xs ys))
unfolding any_in
in_none [] ys h = tt
in_none (x ∷ xs) ys h = neither_one (member x ys) (any_in xs ys) (all_head (λ n. not (member n ys)) x xs h) (in_none xs ys (all_tail (λ n. not (member n ys)) x xs h))

-- every number of the first is in the second
pub all_in_lem : (xs ys : List ℕ) → T (all_in xs ys) → T (all (λ n. member n ys) xs)
unfolding all_in all
all_in_lem [] ys h = tt
all_in_lem (x ∷ xs) ys h = all_cons (λ n. member n ys) x xs (and_left (member x ys) (all_in xs ys) h) (all_in_lem xs ys (and_right (member x ys) (all_in xs ys) h))

-- numbers without a repeat differ
pub once_differ : (xs : List ℕ) → T (not (has_repeat xs)) → T (all_pairs (λ a b. not (eqb a b)) xs)
unfolding has_repeat all_pairs
once_differ [] h = tt
once_differ (x ∷ xs) h = let e = not_or (member x xs) (has_repeat xs) h in pairs_cons (λ a b. not (eqb a b)) x xs (absent_each x xs e.0) (once_differ xs e.1)

-- ---- keys

module _ {A : Type 0} (key : A → ℕ) (gone : List ℕ) where
  -- those whose key is not among some
  abbrev pub kept_key : A → Bool
  kept_key a = not (member (key a) gone)

  -- their keys are the keys without those
  pub without_keys : (xs : List A) → without (map key xs) gone ≡ map key (keep kept_key xs)
  unfolding without keep
  without_keys [] = refl
  without_keys (x ∷ xs) = one (member (key x) gone) (without_keys xs)
    where
      one : (b : Bool) → without (map key xs) gone ≡ map key (keep kept_key xs)
          → pick b (without (map key xs) gone) (key x ∷ without (map key xs) gone) ≡ map key (pick (not b) (x ∷ keep kept_key xs) (keep kept_key xs))
      one true e = e
      one false e = ap (λ (l : List ℕ). key x ∷ l) e

-- a number of a list that is not among some stays
pub member_without : (k : ℕ) (xs gone : List ℕ) → T (member k xs) → T (not (member k gone)) → T (member k (without xs gone))
unfolding member without
member_without k [] gone h g = h
member_without k (x ∷ xs) gone h g =
    let later : T (not (eqb k x)) → T (member k (without xs gone)) = λ e. member_without k xs gone (or_right (eqb k x) (member k xs) h e) g in
    pick_cases (λ (l : List ℕ). T (member k l)) (member x gone) (without xs gone) (x ∷ without xs gone)
    (λ there. by_test (eqb k x) (λ e. absurd (T_not (member k gone) g (subst (λ (n : ℕ). T (member n gone)) (sym (eqb→eq k x e)) there))) later)
    (λ gone'. by_test (eqb k x) (λ e. or_by_left (eqb k x) (member k (without xs gone)) e) (λ e. or_by_right (eqb k x) (member k (without xs gone)) (later e)))
