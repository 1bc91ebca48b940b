-- Laws for loops over slices, of use to every crate. A loop that reads from the front: what is left at i is the element there and then
-- what is left at i + 1. A loop that stores from the front: `sets` stores one after the other, and past the end nothing.
-- Assumes nothing.
use mathlib.Core.Path.{◌≡◌}
use mathlib.Core.List.{List, [], ◌∷◌}
use Prim.Native.Nat.{ℕ, zero, suc, ◌+◌, ◌-◌, ◌*◌, ◌≤◌, ◌<◌}
use native.Mathlib.Nat.{zero-add, suc-mul}
use native.Mathlib.Numerals.{add-one}
use native.Mathlib.Omega.{arith}
use lib.ListN.{length, take, drop, get_or, set, length-drop, drop_of_length-le}
use lib.Seq.{drop-cons, take_all, sets, sets-eq, take-append_seam}

-- ---- reading

pub left_more : (a : List ℕ) (i : ℕ) → i < length a → drop i a ≡ get_or a i 0 ∷ drop (i + 1) a
left_more a i h = rw (add-one, drop-cons a i 0)

pub left_none : (a : List ℕ) (i : ℕ) → length a ≤ i → drop i a ≡ []
left_none a i h = drop_of_length-le a h

-- the part `&a[j..]` is what is left at j
pub left_part : (a : List ℕ) (j : ℕ) → take (length a - j) (drop j a) ≡ drop j a
left_part a j = take_all (length a - j) (drop j a) (omega (arith, length-drop j a))

-- the next of the rows that are left takes one width
pub width_more : (left width : ℕ) → 0 < left → left * width ≡ (left - 1) * width + width
width_more zero width h = absurd (omega arith)
width_more (suc n) width h = let e : suc n - 1 ≡ n = omega arith in rw (e, suc-mul)

-- ---- storing

pub sets_more : (l : List ℕ) (n x : ℕ) (xs : List ℕ) → sets l n (x ∷ xs) ≡ sets (set l n x) (n + 1) xs
sets_more l n x xs = rw add-one

-- what was stored from the front on is the front
pub take_sets : (l xs : List ℕ) → length xs ≤ length l → take (length xs) (sets l 0 xs) ≡ xs
take_sets l xs h = rw (sets-eq xs l 0 (rw zero-add h)) (take-append_seam xs (drop (0 + length xs) l))

-- a part `&out[..n]` after n words were stored
pub stored : (l xs out : List ℕ) (n : ℕ) → n ≡ length xs → out ≡ sets l 0 xs → length xs ≤ length l → take n out ≡ xs
stored l xs out n e f h = rw (e, f) (take_sets l xs h)
