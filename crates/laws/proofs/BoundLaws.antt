-- Bounds of numbers that are read from octets, and the elements of octets.
-- Assumes nothing.
use mathlib.Core.Path.{sym, ◌∙◌}
use Prim.Native.Nat.{ℕ, zero, suc, ◌+◌, ◌^◌, ◌<◌}
use native.Mathlib.Nat.{le_trans, le_of_eq, zero-lt-suc, lt_of_lt_of_le, pow-suc, mul_comm, pow-le-pow_right, min-le_left}
use mathlib.Core.Bool.{Bool}
use mathlib.Core.List.{List, [], ◌∷◌}
use lib.ListN.{length, take, drop, length-take}
use lib.Dec.{T, ltb, ltb→lt, lit<}
use lib.Arith.{digits_lt}
use lib.Pow.{are_bytes}
use Rattle.octets.specs.Octets.{number, number_at}
use Rattle.octets.specs.Lists.{all}
use Rattle.octets.proofs.Tests.{pick_either, and_left, and_right, both}
use Rattle.rules.specs.Message.{Element, element_length, elements_up_to, elements, header_length, body}

-- ---- octets

pub number_bound : (xs : List ℕ) → T (are_bytes xs) → number xs < 256 ^ length xs
unfolding number
number_bound [] h = lit< tt
number_bound (x ∷ xs) h =
    lt_of_lt_of_le (digits_lt (ltb→lt x 256 (and_left (ltb x 256) (are_bytes xs) h)) (number_bound xs (and_right (ltb x 256) (are_bytes xs) h)))
    (le_of_eq (mul_comm 256 (256 ^ length xs) ∙ sym (pow-suc 256 (length xs))))

pub bytes_take : (n : ℕ) (xs : List ℕ) → T (are_bytes xs) → T (are_bytes (take n xs))
bytes_take zero xs h = tt
bytes_take (suc n) [] h = tt
bytes_take (suc n) (x ∷ xs) h = both (ltb x 256) (are_bytes (take n xs)) (and_left (ltb x 256) (are_bytes xs) h) (bytes_take n xs (and_right (ltb x 256) (are_bytes xs) h))

pub bytes_drop : (n : ℕ) (xs : List ℕ) → T (are_bytes xs) → T (are_bytes (drop n xs))
bytes_drop zero xs h = h
bytes_drop (suc n) [] h = tt
bytes_drop (suc n) (x ∷ xs) h = bytes_drop n xs (and_right (ltb x 256) (are_bytes xs) h)

-- a field of w octets is below 256 ^ w
pub field_bound : (w : ℕ) (xs : List ℕ) → T (are_bytes xs) → number_at 0 w xs < 256 ^ w
unfolding number_at
field_bound w xs h =
    lt_of_lt_of_le (number_bound (take w xs) (bytes_take w xs h)) (pow-le-pow_right (zero-lt-suc 255) (le_trans (le_of_eq (length-take w xs)) (min-le_left w (length xs))))

-- ---- elements

abbrev pub clean : Element → Bool
clean e = are_bytes e.content

clean_up_to : (n at : ℕ) (xs : List ℕ) → T (are_bytes xs) → T (all clean (elements_up_to n at xs))
unfolding elements_up_to all
clean_up_to zero at xs h = tt
clean_up_to (suc n) at xs h =
    pick_either (λ (es : List Element). T (all clean es)) (ltb (length xs) 4) [] _ tt
    (both (are_bytes (take (element_length xs) (drop 4 xs))) (all clean (elements_up_to n (at + (4 + element_length xs)) (drop (4 + element_length xs) xs)))
    (bytes_take (element_length xs) (drop 4 xs) (bytes_drop 4 xs h))
    (clean_up_to n (at + (4 + element_length xs)) (drop (4 + element_length xs) xs) (bytes_drop (4 + element_length xs) xs h)))

pub clean_elements : (at : ℕ) (xs : List ℕ) → T (are_bytes xs) → T (all clean (elements at xs))
unfolding elements
clean_elements at xs h = clean_up_to (length xs) at xs h

pub clean_body : (msg : List ℕ) → T (are_bytes msg) → T (all clean (elements (header_length msg) (body msg)))
unfolding body
clean_body msg h = clean_elements (header_length msg) (drop (header_length msg) msg) (bytes_drop (header_length msg) msg h)
