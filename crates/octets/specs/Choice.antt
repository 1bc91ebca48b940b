-- Choosing by a test, and values that may be absent. A test is a Bool, and `pick` chooses by one test at a time.
-- Assumes nothing.
use Rattle.std.specs.Prelude.{ℕ, Bool, true, false, not, ◌&&◌, ◌||◌, List, [], ◌∷◌}
use Rattle.std.proofs.Math.Option.{Option, none, some}

-- one of two values, by a test
abbrev pub pick {ℓ} : {X : Type ℓ} → Bool → X → X → X
pick true x y = x
pick false x y = y

-- the first of two that is there
abbrev pub or_else {ℓ} : {X : Type ℓ} → Option X → Option X → Option X
or_else none y = y
or_else (some x) y = some x

-- the value, or another where there is none
abbrev pub value_or {ℓ} : {X : Type ℓ} → X → Option X → X
value_or d none = d
value_or d (some x) = x

abbrev pub map_option {ℓ κ} : {X : Type ℓ} {Y : Type κ} → (X → Y) → Option X → Option Y
map_option f none = none
map_option f (some x) = some (f x)

abbrev pub bind_option {ℓ κ} : {X : Type ℓ} {Y : Type κ} → Option X → (X → Option Y) → Option Y
bind_option none f = none
bind_option (some x) f = f x

-- a list with one more in front, if there is one
abbrev pub cons_option {ℓ} : {X : Type ℓ} → Option X → List X → List X
cons_option none xs = xs
cons_option (some x) xs = x ∷ xs

-- the first element and the rest, of a list that may be empty
abbrev pub head_or {ℓ} : {X : Type ℓ} → X → List X → X
head_or d [] = d
head_or d (x ∷ xs) = x

abbrev pub rest {ℓ} : {X : Type ℓ} → List X → List X
rest [] = []
rest (x ∷ xs) = xs

abbrev pub is_some {ℓ} : {X : Type ℓ} → Option X → Bool
is_some none = false
is_some (some x) = true

abbrev pub is_nil {ℓ} : {X : Type ℓ} → List X → Bool
is_nil [] = true
is_nil (x ∷ xs) = false

-- 1 for a test that holds, 0 for one that does not
abbrev pub flag : Bool → ℕ
flag true = 1
flag false = 0

-- all of the tests hold; one of them at least holds
abbrev pub all_of : List Bool → Bool
all_of [] = true
all_of (b ∷ bs) = b && all_of bs

abbrev pub one_of : List Bool → Bool
one_of [] = false
one_of (b ∷ bs) = b || one_of bs

abbrev pub same_bool : Bool → Bool → Bool
same_bool true b = b
same_bool false b = not b
