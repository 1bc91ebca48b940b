-- Octets as numbers in a list, the first octet first; numbers in network order (the most significant octet first).
-- A place in octets is counted from 0.
-- Assumes nothing.
use Rattle.std.specs.Prelude.{ℕ, zero, suc, ◌+◌, ◌-◌, ◌*◌, ◌/◌, ◌%◌, ◌^◌, Bool, true, false, ◌&&◌, List, [], ◌∷◌, ◌++◌, length, take, drop, replicate, get_or, eqb}
use Rattle.std.proofs.Math.Pow.{are_bytes}

-- n in w octets, the most significant first
unfoldable pub be : ℕ → ℕ → List ℕ
be zero n = []
be (suc w) n = n / (256 ^ w) % 256 ∷ be w n

-- the number that octets spell, the most significant first
unfoldable pub number : List ℕ → ℕ
number [] = 0
number (x ∷ xs) = x * (256 ^ length xs) + number xs

-- the n octets from a place on; fewer where the list ends before
abbrev pub part : ℕ → ℕ → List ℕ → List ℕ
part at n s = take n (drop at s)

-- the number in the n octets from a place on
unfoldable pub number_at : ℕ → ℕ → List ℕ → ℕ
number_at at n s = number (part at n s)

-- octets written over a list from a place on; what stands before and after them stays
unfoldable pub put : ℕ → List ℕ → List ℕ → List ℕ
put at xs s = take at s ++ (xs ++ drop (at + length xs) s)

-- the octet at a place, 0 past the end
unfoldable pub octet_at : List ℕ → ℕ → ℕ
octet_at xs at = get_or xs at 0

-- bit k of an octet, the lowest is 0 (01 and the standard count from 1)
unfoldable pub bit : ℕ → ℕ → Bool
bit k n = eqb (n / (2 ^ k) % 2) 1

unfoldable pub zeros : ℕ → List ℕ
zeros n = replicate n 0

unfoldable pub all_zero : List ℕ → Bool
all_zero [] = true
all_zero (x ∷ xs) = eqb x 0 && all_zero xs

unfoldable pub same_octets : List ℕ → List ℕ → Bool
same_octets [] [] = true
same_octets [] (y ∷ ys) = false
same_octets (x ∷ xs) [] = false
same_octets (x ∷ xs) (y ∷ ys) = eqb x y && same_octets xs ys

-- every number is below 256
abbrev pub octets : List ℕ → Bool
octets xs = are_bytes xs

-- octets, then zeros up to n in all
unfoldable pub padded : ℕ → List ℕ → List ℕ
padded n xs = xs ++ zeros (n - length xs)

-- the octets of each, one after the other
unfoldable pub concat_map : {A : Type 0} → (A → List ℕ) → List A → List ℕ
concat_map f [] = []
concat_map f (x ∷ xs) = f x ++ concat_map f xs

-- n slices of w octets each, from the front
unfoldable pub slices : ℕ → ℕ → List ℕ → List (List ℕ)
slices w zero xs = []
slices w (suc n) xs = take w xs ∷ slices w n (drop w xs)

-- names what computes here: `unfolding Octets.computing` opens all of it
unfoldable pub computing : ℕ
unfolding be number number_at put octet_at bit zeros all_zero same_octets padded concat_map slices
computing = 0
