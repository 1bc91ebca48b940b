-- Numbers digit by digit, as loops read and write them. Assumes nothing.
use mathlib.Core.Bool.{Bool, true, false}
use mathlib.Core.List.{List, [], ◌∷◌, ◌++◌, append-nil}
use mathlib.Core.Path.{◌≡◌, refl, sym, ap, ◌∙◌}
use Prim.Native.Nat.{ℕ, zero, suc, ◌+◌, ◌-◌, ◌*◌, ◌/◌, ◌%◌, ◌^◌, ◌≤◌, ◌<◌}
use native.Mathlib.Nat.{add-zero, pow-suc, not-suc-le-zero, lt_of_lt_of_le, pow-le-pow_right, one-le-pow, div-eq_of_lt, lt-div-mul-add}
use native.Mathlib.Omega.{arith}
use borrow.Author.Tests.{eq-eqb, ne_eqb, lt-ltb, ltb-true, ltb-false}
use lib.Dec.{eqb, ltb, lit<}
use lib.ListN.{length, get_or, take, drop}
use lib.Pow.{pow-add}
use lib.Seq.{append_snoc, take-suc}
use native.Mathlib.Numerals.{add-one}
use Rattle.octets.specs.Octets.{part, be, number}
use native.Mathlib.Nat.{mod-eq_of_lt, add_assoc, add-mul, mul_assoc, mul_comm, mul-one, zero-mul, zero-add, div-div-eq-div-mul, div-one}
use lib.Pow.{are_bytes}
use lib.Dec.{T, ltb→lt, lt→ltb}
use Rattle.octets.specs.Octets.{octets}
use Rattle.octets.proofs.Tests.{and_left, and_right, both}
use Rattle.octets.proofs.Put.{length_part}

-- the number with v before the octets, as a loop over the octets has it
unfoldable pub number_after : ℕ → List ℕ → ℕ
number_after v [] = v
number_after v (x ∷ xs) = number_after (v * 256 + x) xs

-- it is the number of the octets with v times a power of 256 added
pub after_number : (v : ℕ) (xs : List ℕ) → number_after v xs ≡ v * (256 ^ length xs) + number xs
unfolding number_after number
after_number v [] = rw (mul-one, add-zero)
after_number v (x ∷ xs) =
    let p : ℕ = 256 ^ length xs in
    let e : (v * 256 + x) * p ≡ v * (p * 256) + x * p = rw (add-mul, mul_assoc v 256 p, mul_comm 256 p) in
    after_number (v * 256 + x) xs ∙ rw (e, pow-suc, add_assoc)

-- from 0 it is the number
pub from_zero : (xs : List ℕ) → number_after 0 xs ≡ number xs
from_zero xs = after_number 0 xs ∙ rw (zero-mul, zero-add)

-- the number of a single octet is the octet
pub number_one : (x : ℕ) → number (x ∷ []) ≡ x
unfolding number
number_one x = rw (mul-one, add-zero)

-- the last octet of a number is its remainder, and the ones before it are those of its quotient
pub be_snoc : (n v : ℕ) → be (suc n) v ≡ be n (v / 256) ++ (v % 256 ∷ [])
unfolding be
be_snoc zero v = rw div-one
be_snoc (suc n) v =
    let e : v / (256 ^ suc n) ≡ v / 256 / (256 ^ n) = rw (div-div-eq-div-mul, pow-suc, mul_comm (256 ^ n) 256) in
    ap (λ (x : ℕ). x % 256 ∷ be (suc n) v) e ∙ ap (λ (xs : List ℕ). v / 256 / (256 ^ n) % 256 ∷ xs) (be_snoc n v)

pub be_last : (n v : ℕ) → 0 < n → be n v ≡ be (n - 1) (v / 256) ++ (v % 256 ∷ [])
be_last zero v p = absurd (not-suc-le-zero p)
be_last (suc n) v p = let e : suc n - 1 ≡ n = omega arith in rw e (be_snoc n v)

-- octets are those of their number
be_after : (xs : List ℕ) (k v : ℕ) → T (octets xs) → be (k + length xs) (number_after v xs) ≡ be k v ++ xs
unfolding number_after
be_after [] k v o = rw (add-zero, append-nil)
be_after (x ∷ xs) k v o =
    let h : x < 256 = ltb→lt x 256 (and_left (ltb x 256) (are_bytes xs) o) in
    let d : (v * 256 + x) / 256 ≡ v = omega arith in
    let m : (v * 256 + x) % 256 ≡ x = omega arith in
    let e : k + suc (length xs) ≡ suc k + length xs = omega arith in
    rw (e, be_after xs (suc k) (v * 256 + x) (and_right (ltb x 256) (are_bytes xs) o), be_snoc, d, m) (append_snoc (be k v) x xs)

pub be_number : (xs : List ℕ) → T (octets xs) → be (length xs) (number xs) ≡ xs
unfolding be
be_number xs o = let e : 0 + length xs ≡ length xs = omega arith in rw (← from_zero xs) (rw e at (be_after xs 0 0 o))

-- the octets of a number that was read from as many
pub be_back : (n : ℕ) (xs : List ℕ) → length xs ≡ n → T (octets xs) → be n (number xs) ≡ xs
be_back n xs e o = rw (← e) (be_number xs o)

-- a number of k octets and one more octet are a number of k + 1 octets
pub grows : (v x k : ℕ) → v < 256 ^ k → x < 256 → v * 256 + x < 256 ^ suc k
grows v x k h l = rw pow-suc (omega arith)

-- which a u64 holds where k is below 8
pub grows_fits : (v x k : ℕ) → v < 256 ^ k → x < 256 → k < 8 → v * 256 + x < 2 ^ 64
grows_fits v x k h l p = lt_of_lt_of_le (grows v x k h l) (pow-le-pow_right (lit< tt) p)

-- a number without its n last octets is 0 exactly if it has at most n
power : (n : ℕ) → 2 ^ (8 * n) ≡ 256 ^ n
power zero = refl
power (suc n) =
    let e : 8 * suc n ≡ 8 * n + 8 = omega arith in
    rw (e, pow-add 2 (8 * n) 8, power n, pow-suc 256 n)

none_left : (v p : ℕ) → 0 < p → eqb (v / p) 0 ≡ ltb v p
none_left v p h = go (ltb v p) refl
  where
    go : (b : Bool) → ltb v p ≡ b → eqb (v / p) 0 ≡ b
    go true e = eq-eqb (v / p) 0 (div-eq_of_lt (ltb-true v p e))
    go false e = ne_eqb (v / p) 0 (λ q. let l : v < 0 * p + p = rw q at (lt-div-mul-add {a = v} h) in absurd (omega (arith, ltb-false v p e)))

pub fits_shifted : (v n : ℕ) → eqb (v / 2 ^ (8 * n)) 0 ≡ ltb v (256 ^ n)
fits_shifted v n = rw (power n) (none_left v (256 ^ n) (one-le-pow n 256 (lit< tt)))

-- a number of the machine has at most 8
pub fits_all : (v n : ℕ) → v < 2 ^ 64 → 8 ≤ n → ltb v (256 ^ n) ≡ true
fits_all v n h l = lt-ltb v (256 ^ n) (lt_of_lt_of_le h (pow-le-pow_right (lit< tt) l))

after_snoc : (v : ℕ) (xs : List ℕ) (x : ℕ) → number_after v (xs ++ (x ∷ [])) ≡ number_after v xs * 256 + x
unfolding number_after
after_snoc v [] x = refl
after_snoc v (y ∷ xs) x = after_snoc (v * 256 + y) xs x

-- one octet more behind a number
pub number_snoc : (xs : List ℕ) (x : ℕ) → number (xs ++ (x ∷ [])) ≡ number xs * 256 + x
number_snoc xs x = sym (from_zero (xs ++ (x ∷ []))) ∙ after_snoc 0 xs x ∙ ap (λ (n : ℕ). n * 256 + x) (from_zero xs)

pub number_none : number [] ≡ 0
unfolding number
number_none = refl

pub number_more : (xs : List ℕ) (i : ℕ) → i < length xs → number (take (i + 1) xs) ≡ number (take i xs) * 256 + get_or xs i 0
number_more xs i h = rw (add-one, take-suc xs i 0 h) (number_snoc (take i xs) (get_or xs i 0))

below_after : (xs : List ℕ) (k v : ℕ) → T (octets xs) → v < 256 ^ k → number_after v xs < 256 ^ (k + length xs)
unfolding number_after
below_after [] k v o h = rw add-zero h
below_after (x ∷ xs) k v o h =
    let e : k + suc (length xs) ≡ suc k + length xs = omega arith in
    rw e (below_after xs (suc k) (v * 256 + x) (and_right (ltb x 256) (are_bytes xs) o) (grows v x k h (ltb→lt x 256 (and_left (ltb x 256) (are_bytes xs) o))))

-- the number of octets is below a power of 256
pub number_below : (xs : List ℕ) → T (octets xs) → number xs < 256 ^ length xs
number_below xs o =
    let e : 0 + length xs ≡ length xs = omega arith in
    let h : number_after 0 xs < 256 ^ length xs = rw e at (below_after xs 0 0 o (lit< tt)) in
    rw from_zero at h

-- a part of octets
pub take_octets : (n : ℕ) (s : List ℕ) → T (octets s) → T (octets (take n s))
take_octets zero s o = tt
take_octets (suc n) [] o = tt
take_octets (suc n) (x ∷ s) o = both (ltb x 256) (are_bytes (take n s)) (and_left (ltb x 256) (are_bytes s) o) (take_octets n s (and_right (ltb x 256) (are_bytes s) o))

pub drop_octets : (n : ℕ) (s : List ℕ) → T (octets s) → T (octets (drop n s))
drop_octets zero s o = o
drop_octets (suc n) [] o = tt
drop_octets (suc n) (x ∷ s) o = drop_octets n s (and_right (ltb x 256) (are_bytes s) o)

pub part_octets : (at n : ℕ) (s : List ℕ) → T (octets s) → T (octets (part at n s))
part_octets at n s o = take_octets n (drop at s) (drop_octets at s o)

-- one octet is its number
pub be_one : (n : ℕ) → n < 256 → be 1 n ≡ n ∷ []
unfolding be
be_one n h = rw (div-one, mod-eq_of_lt h)

-- a field's number is written back as its octets
pub be_part : (at n : ℕ) (s : List ℕ) → T (octets s) → at + n ≤ length s → be n (number (part at n s)) ≡ part at n s
be_part at n s o h = be_back n (part at n s) (length_part at n s h) (part_octets at n s o)

-- two lists of octets
pub octets_append : (xs ys : List ℕ) → T (octets xs) → T (octets ys) → T (octets (xs ++ ys))
octets_append [] ys h g = g
octets_append (x ∷ xs) ys h g = both (ltb x 256) (are_bytes (xs ++ ys)) (and_left (ltb x 256) (are_bytes xs) h) (octets_append xs ys (and_right (ltb x 256) (are_bytes xs) h) g)

-- what a slice of u8 holds are octets
pub octets_known : (s : List ℕ) → ((i : ℕ) → get_or s i 0 < 256) → T (octets s)
octets_known [] f = tt
octets_known (x ∷ s) f = both (ltb x 256) (are_bytes s) (lt→ltb x 256 (f 0)) (octets_known s (λ i. f (suc i)))
