-- Tests that hold, lists of them, and choosing by them; numbers in ascending order.
-- Assumes nothing.
use mathlib.Core.Path.{◌≡◌, refl, sym, subst}
use Prim.Native.Nat.{ℕ, zero, suc, ◌≤◌, ◌<◌}
use mathlib.Core.Logic.{◌≢◌}
use native.Mathlib.Nat.{le_trans}
use native.Mathlib.Omega.{arith}
use mathlib.Core.Bool.{Bool, true, false, not, ◌&&◌, ◌||◌}
use mathlib.Core.List.{List, [], ◌∷◌}
use lib.ListN.{length, get_or}
use lib.Dec.{T, ltb, eqb, eqb→eq, ltb→lt, lt→ltb, not_T}
use Rattle.octets.specs.Choice.{pick, all_of, is_nil, head_or}
use Rattle.octets.specs.Lists.{member, ascending, all}

-- ---- tests

pub and_left : (a b : Bool) → T (a && b) → T a
and_left true b h = tt
and_left false b h = absurd h

pub and_right : (a b : Bool) → T (a && b) → T b
and_right true b h = h
and_right false b h = absurd h

pub both : (a b : Bool) → T a → T b → T (a && b)
both true b h k = k
both false b h k = absurd h

pub is_true : (b : Bool) → T b → b ≡ true
is_true true h = refl
is_true false h = absurd h

pub is_false : (b : Bool) → T (not b) → b ≡ false
is_false true h = absurd h
is_false false h = refl

pub of_true : {b : Bool} → b ≡ true → T b
of_true e = subst T (sym e) tt

-- each of a list of tests holds
abbrev pub Each : List Bool → Type 0
Each [] = Unit {0}
Each (b ∷ bs) = T b × Each bs

pub each : (bs : List Bool) → T (all_of bs) → Each bs
each [] h = tt
each (b ∷ bs) h = (and_left b (all_of bs) h, each bs (and_right b (all_of bs) h))

pub all_of_each : (bs : List Bool) → Each bs → T (all_of bs)
all_of_each [] h = tt
all_of_each (b ∷ bs) h = both b (all_of bs) h.0 (all_of_each bs h.1)

-- a test of every element holds of one more element's list
pub all_head : {A : Type 0} (p : A → Bool) (a : A) (as' : List A) → T (all p (a ∷ as')) → T (p a)
unfolding all
all_head p a as' h = and_left (p a) (all p as') h

pub all_tail : {A : Type 0} (p : A → Bool) (a : A) (as' : List A) → T (all p (a ∷ as')) → T (all p as')
unfolding all
all_tail p a as' h = and_right (p a) (all p as') h

-- and of the one at a place
pub all_at : {A : Type 0} (p : A → Bool) (d : A) (as' : List A) (n : ℕ) → n < length as' → T (all p as') → T (p (get_or as' n d))
all_at p d [] n l h = absurd (omega arith)
all_at p d (a ∷ as') zero l h = all_head p a as' h
all_at p d (a ∷ as') (suc n) l h = all_at p d as' n (omega arith) (all_tail p a as' h)

-- ---- choosing by a test

pub pick_yes {ℓ} : {X : Type ℓ} (b : Bool) (x y : X) → T b → pick b x y ≡ x
pick_yes true x y h = refl
pick_yes false x y h = absurd h

-- what holds of both holds of the one that is chosen
pub pick_either {ℓ} : {X : Type ℓ} (P : X → Type 0) (b : Bool) (x y : X) → P x → P y → P (pick b x y)
pick_either P true x y h k = h
pick_either P false x y h k = k

pub pick_no {ℓ} : {X : Type ℓ} (b : Bool) (x y : X) → T (not b) → pick b x y ≡ y
pick_no true x y h = absurd h
pick_no false x y h = refl

-- ---- lists of numbers

pub all_cons : {A : Type 0} (p : A → Bool) (a : A) (as' : List A) → T (p a) → T (all p as') → T (all p (a ∷ as'))
unfolding all
all_cons p a as' h g = both (p a) (all p as') h g

pub neither_one : (a b : Bool) → T (not a) → T (not b) → T (not (a || b))
neither_one true b g l = absurd g
neither_one false b g l = l

pub no_eqb : (k n : ℕ) → k ≢ n → T (not (eqb k n))
no_eqb k n l = not_T (eqb k n) (λ e. l (eqb→eq k n e))

-- a number above all of a list is not in it
pub below_not_member : (k : ℕ) (ns : List ℕ) → T (all (λ n. ltb n k) ns) → T (not (member k ns))
unfolding member
below_not_member k [] h = tt
below_not_member k (n ∷ ns) h =
    let less = ltb→lt n k (all_head (λ m. ltb m k) n ns h) in
    neither_one (eqb k n) (member k ns) (no_eqb k n (omega arith)) (below_not_member k ns (all_tail (λ m. ltb m k) n ns h))

pub below_mono : (j k : ℕ) (ns : List ℕ) → j ≤ k → T (all (λ n. ltb n j) ns) → T (all (λ n. ltb n k) ns)
unfolding all
below_mono j k [] h g = tt
below_mono j k (n ∷ ns) h g =
    all_cons (λ m. ltb m k) n ns (lt→ltb n k (le_trans (ltb→lt n j (all_head (λ m. ltb m j) n ns g)) h)) (below_mono j k ns h (all_tail (λ m. ltb m j) n ns g))

pub ascending_head : (x y : ℕ) (xs : List ℕ) → T (ascending (x ∷ y ∷ xs)) → x < y
unfolding ascending
ascending_head x y xs h = ltb→lt x y (and_left (ltb x y) (ascending (y ∷ xs)) h)

pub ascending_tail : (x : ℕ) (xs : List ℕ) → T (ascending (x ∷ xs)) → T (ascending xs)
unfolding ascending
ascending_tail x xs h = and_right (is_nil xs || ltb x (head_or 0 xs)) (ascending xs) h
