-- Tests and searches on lists, and lists kept in ascending order of a key.
-- Assumes nothing.
use Rattle.std.specs.Prelude.{ℕ, zero, suc, ◌+◌, Bool, true, false, not, ◌&&◌, ◌||◌, List, [], ◌∷◌, leb, ltb, eqb}
use Rattle.std.proofs.Math.Option.{Option, none, some}
use Rattle.octets.specs.Choice.{pick, cons_option, head_or, is_nil, flag}

-- ---- lists of numbers

unfoldable pub member : ℕ → List ℕ → Bool
member n [] = false
member n (x ∷ xs) = eqb n x || member n xs

-- some element of the first is in the second
unfoldable pub any_in : List ℕ → List ℕ → Bool
any_in [] ys = false
any_in (x ∷ xs) ys = member x ys || any_in xs ys

-- every element of the first is in the second
unfoldable pub all_in : List ℕ → List ℕ → Bool
all_in [] ys = true
all_in (x ∷ xs) ys = member x ys && all_in xs ys

unfoldable pub has_repeat : List ℕ → Bool
has_repeat [] = false
has_repeat (x ∷ xs) = member x xs || has_repeat xs

-- how many different numbers there are
unfoldable pub distinct : List ℕ → ℕ
distinct [] = 0
distinct (x ∷ xs) = flag (not (member x xs)) + distinct xs

-- each is less than the next
unfoldable pub ascending : List ℕ → Bool
ascending [] = true
ascending (x ∷ xs) = (is_nil xs || ltb x (head_or 0 xs)) && ascending xs

-- n numbers from a first one on
unfoldable pub range : ℕ → ℕ → List ℕ
range x zero = []
range x (suc n) = let t = range (x + 1) n in x ∷ t

-- the numbers of the first that are not in the second
unfoldable pub without : List ℕ → List ℕ → List ℕ
without [] ys = []
without (x ∷ xs) ys = let t = without xs ys in pick (member x ys) t (x ∷ t)

-- ---- lists of anything

module _ {A : Type 0} where
  unfoldable pub all : (A → Bool) → List A → Bool
  all p [] = true
  all p (x ∷ xs) = p x && all p xs

  unfoldable pub any : (A → Bool) → List A → Bool
  any p [] = false
  any p (x ∷ xs) = p x || any p xs

  -- every two, the earlier one first
  unfoldable pub all_pairs : (A → A → Bool) → List A → Bool
  all_pairs p [] = true
  all_pairs p (x ∷ xs) = all (p x) xs && all_pairs p xs

  -- those for which a test holds
  unfoldable pub keep : (A → Bool) → List A → List A
  keep p [] = []
  keep p (x ∷ xs) = let t = keep p xs in pick (p x) (x ∷ t) t

  -- the first for which a test holds
  unfoldable pub find_by : (A → Bool) → List A → Option A
  find_by p [] = none
  find_by p (x ∷ xs) = let t = find_by p xs in pick (p x) (some x) t

  -- a list in ascending order of a key, with one more element
  unfoldable pub insert_by : (A → ℕ) → A → List A → List A
  insert_by key a [] = a ∷ []
  insert_by key a (x ∷ xs) = let t = insert_by key a xs in pick (leb (key a) (key x)) (a ∷ x ∷ xs) (x ∷ t)

  -- the elements of a list put in one by one
  unfoldable pub insert_all : (A → ℕ) → List A → List A → List A
  insert_all key [] xs = xs
  insert_all key (a ∷ as') xs = insert_all key as' (insert_by key a xs)

-- the parts of those elements that have one
unfoldable pub collect : {A B : Type 0} → (A → Option B) → List A → List B
collect f [] = []
collect f (x ∷ xs) = cons_option (f x) (collect f xs)

-- names what computes here
unfoldable pub computing : ℕ
unfolding member any_in all_in has_repeat distinct ascending range without all any all_pairs keep find_by insert_by insert_all collect
computing = 0
