-- The bits of a word: setting one, a word from its bits, and the lowest that is not set. Assumes nothing.
use mathlib.Core.Path.{◌≡◌, refl, sym, ◌∙◌, ap}
use mathlib.Core.Logic.{◌≢◌}
use mathlib.Core.Bool.{true, false}
use Prim.Native.Nat.{ℕ, zero, suc, ◌+◌, ◌-◌, ◌*◌, ◌/◌, ◌%◌, ◌^◌, ◌<◌, max}
use native.Mathlib.Nat.{max-zero, one-mul, mod-lt, pow-suc, div-eq_of_lt, zero-div, lt_of_lt_of_le, lt_of_le_of_lt}
use native.Mathlib.Decide.{dec_lt}
use native.Mathlib.Numerals.{one-add}
use native.Mathlib.Omega.{arith}
use lib.Bits.{bit_or, or_shr, or_mod, or_zero_r, or_step}
use lib.Count.{count_trailing_zeros, under}
use borrow.Author.Tests.{eqb-true}
use lib.Dec.{eqb, lit<}
use lib.Pow.{shl_exact, shl-shr, shr-shr, shr_le, pow-lt, pow_mono, pow-add, ones_lt}
use Rattle.octets.specs.Choice.{flag}
use Rattle.octets.specs.Octets.{bit}
use Rattle.octets.proofs.Bools.{flag_bit}

-- 1 shifted by less than a word's width
pub one_shl : (b w : ℕ) → b < w → 1 * 2 ^ b % 2 ^ w ≡ 2 ^ b
one_shl b w h = shl_exact 1 b w (lit< tt) (omega arith) ∙ one-mul (2 ^ b)

-- a bit as a number
abbrev digit : ℕ → ℕ → ℕ
digit w k = w / 2 ^ k % 2

digit_or : (a b k : ℕ) → digit (bit_or a b) k ≡ bit_or (digit a k) (digit b k)
digit_or a b k = ap (λ (x : ℕ). x % 2) (or_shr a b k) ∙ or_mod (a / 2 ^ k) (b / 2 ^ k) 1

-- a power of 2 has its own bit set, and no other
digit_pow_same : (k : ℕ) → digit (2 ^ k) k ≡ 1
digit_pow_same k = ap (λ (x : ℕ). x / 2 ^ k % 2) (sym (one-mul (2 ^ k))) ∙ ap (λ (x : ℕ). x % 2) (shl-shr 1 k)

digit_pow_below : (d k : ℕ) → digit (2 ^ (suc d + k)) k ≡ 0
digit_pow_below d k =
    ap (λ (x : ℕ). x / 2 ^ k % 2) (pow-add 2 (suc d) k) ∙ ap (λ (x : ℕ). x % 2) (shl-shr (2 ^ suc d) k)
    ∙ rw (pow-suc 2 d) (omega arith)

digit_pow_other : (j k : ℕ) → j ≢ k → digit (2 ^ j) k ≡ 0
digit_pow_other j k ne = go (dec_lt j k)
  where
    go : Dec (j < k) → digit (2 ^ j) k ≡ 0
    go (yes h) = ap (λ (x : ℕ). x % 2) (div-eq_of_lt (pow-lt h))
    go (no h) =
        let e : j ≡ suc (j - suc k) + k = omega (arith, ne) in
        ap (λ (x : ℕ). digit (2 ^ x) k) e ∙ digit_pow_below (j - suc k) k

or_one : (x : ℕ) → x < 2 → bit_or x 1 ≡ 1
or_one zero h = refl
or_one (suc zero) h = refl
or_one (suc (suc x)) h = omega arith

-- setting bit j sets that bit and changes no other
pub bit_set_same : (w j : ℕ) → bit j (bit_or w (2 ^ j)) ≡ true
unfolding bit
bit_set_same w j =
    ap (λ (x : ℕ). eqb x 1)
    (digit_or w (2 ^ j) j ∙ ap (λ (x : ℕ). bit_or (digit w j) x) (digit_pow_same j) ∙ or_one (digit w j) (mod-lt (w / 2 ^ j) (lit< tt)))

pub bit_set_other : (w j k : ℕ) → j ≢ k → bit k (bit_or w (2 ^ j)) ≡ bit k w
unfolding bit
bit_set_other w j k ne =
    ap (λ (x : ℕ). eqb x 1) (digit_or w (2 ^ j) k ∙ ap (λ (x : ℕ). bit_or (digit w k) x) (digit_pow_other j k ne) ∙ or_zero_r (digit w k))

pub bit_of_zero : (k : ℕ) → bit k 0 ≡ false
unfolding bit
bit_of_zero k = rw zero-div

-- the lowest bit, and the bits of the number halved
digit_low : (w : ℕ) → digit w 0 ≡ w % 2
digit_low w = omega arith

digit_suc : (w j : ℕ) → digit w (suc j) ≡ digit (w / 2) j
digit_suc w j = ap (λ (x : ℕ). w / 2 ^ x % 2) (sym (one-add j)) ∙ ap (λ (x : ℕ). x % 2) (sym (shr-shr w 1 j))

-- setting a bit that is set changes nothing
pub or_set : (j w : ℕ) → bit j w ≡ true → bit_or w (2 ^ j) ≡ w
unfolding bit
or_set zero w e =
    let one : w / 2 ^ 0 % 2 ≡ 1 = eqb-true (w / 2 ^ 0 % 2) 1 e in
    let odd : w % 2 ≡ 1 = sym (digit_low w) ∙ one in
    or_step w 1 ∙ (λ i. or_zero_r (w / 2) i * 2 + max (odd i) 1) ∙ omega (arith, odd)
or_set (suc j) w e =
    let p : 2 ^ suc j ≡ 2 ^ j * 2 = pow-suc 2 j in
    let low : 2 ^ suc j / 2 ≡ 2 ^ j = omega arith in
    let even : 2 ^ suc j % 2 ≡ 0 = omega arith in
    let ih = or_set j (w / 2) (ap (λ (x : ℕ). eqb x 1) (sym (digit_suc w j)) ∙ e) in
    or_step w (2 ^ suc j) ∙ (λ i. bit_or (w / 2) (low i) * 2 + max (w % 2) (even i)) ∙ (λ i. ih i * 2 + max-zero (w % 2) i) ∙ omega arith

pub bit_low : (w : ℕ) → flag (bit 0 w) ≡ w % 2
unfolding bit
bit_low w = rw (digit_low w) (flag_bit (w % 2) (omega arith))

pub bit_suc : (w j : ℕ) → bit (suc j) w ≡ bit j (w / 2)
unfolding bit
bit_suc w j = ap (λ (x : ℕ). eqb x 1) (digit_suc w j)

-- ---- the lowest set bit, and the complement

-- no bit below z is set, and bit z is, unless the number is 0
record LowBit (n z : ℕ) : Type 0 where
  below : (j : ℕ) → j < z → digit n j ≡ 0
  set : 0 < n → digit n z ≡ 1

low_bit : (k n : ℕ) → n < 2 ^ k → LowBit n (count_trailing_zeros k n)
unfolding count_trailing_zeros
low_bit zero n h = record { below = λ j l. absurd (omega arith); set = λ p. absurd (omega arith) }
low_bit (suc k) n h = let h' = rw (pow-suc 2 k) at h in go (n % 2) refl (count_trailing_zeros k (n / 2)) (low_bit k (n / 2) (omega arith))
  where
    go : (d : ℕ) → n % 2 ≡ d → (z : ℕ) → LowBit (n / 2) z → LowBit n (under d z)
    go zero e z r =
        record {
          below = elim [ zero ↦ λ l. digit_low n ∙ e | suc j ↦ λ l. digit_suc n j ∙ r.below j (omega arith) ];
          set = λ p. digit_suc n z ∙ r.set (omega arith);
        }
    go (suc d) e z r = record { below = λ j l. absurd (omega arith); set = λ p. digit_low n ∙ omega arith }

-- the complement of a number of k bits has each of its bits the other way round
not_low : (p w : ℕ) → w < p * 2 → (p * 2 - 1 - w) % 2 ≡ 1 - w % 2
not_low p w h = omega arith

not_rest : (p w : ℕ) → w < p * 2 → (p * 2 - 1 - w) / 2 ≡ p - 1 - w / 2
not_rest p w h = omega arith

digit_not : (k w j : ℕ) → w < 2 ^ k → j < k → digit ((2 ^ k - 1) - w) j ≡ 1 - digit w j
digit_not zero w j h l = absurd (omega arith)
digit_not (suc k) w zero h l = digit_low _ ∙ rw pow-suc (not_low (2 ^ k) w (rw (pow-suc 2 k) at h)) ∙ ap (λ (x : ℕ). 1 - x) (sym (digit_low w))
digit_not (suc k) w (suc j) h l =
    let h' = rw (pow-suc 2 k) at h in
    digit_suc _ j ∙ ap (λ (x : ℕ). digit x j) (rw pow-suc (not_rest (2 ^ k) w h')) ∙ digit_not k (w / 2) j (omega arith) (omega arith)
    ∙ ap (λ (x : ℕ). 1 - x) (sym (digit_suc w j))

-- the complement of a number of k bits, from bit b on: a bit for each that the number has clear, and the place of the lowest of them
abbrev pub open_from : ℕ → ℕ → ℕ → ℕ
open_from k b w = ((2 ^ k - 1) - w) / 2 ^ b

abbrev pub first_open : ℕ → ℕ → ℕ → ℕ
first_open k b w = count_trailing_zeros k (open_from k b w)

module _ (k b w : ℕ) (fits : w < 2 ^ k) where
  open_digit : (j : ℕ) → b + j < k → digit (open_from k b w) j ≡ 1 - digit w (b + j)
  open_digit j l = ap (λ (x : ℕ). x % 2) (shr-shr ((2 ^ k - 1) - w) b j) ∙ digit_not k w (b + j) fits l

  is_set : (j : ℕ) → b + j < k → digit (open_from k b w) j ≡ 0 → bit (b + j) w ≡ true
  unfolding bit
  is_set j l e = let d = open_digit j l in let one : digit w (b + j) ≡ 1 = omega arith in rw one

  not_fits : (2 ^ k - 1) - w < 2 ^ k
  not_fits = omega (arith, ones_lt k)

  is_low : LowBit (open_from k b w) (first_open k b w)
  is_low = low_bit k (open_from k b w) (lt_of_le_of_lt (shr_le ((2 ^ k - 1) - w) b) not_fits)

  -- none is clear
  pub open_none : open_from k b w ≡ 0 → (j : ℕ) → b + j < k → bit (b + j) w ≡ true
  open_none e j l = is_set j l (ap (λ (x : ℕ). digit x j) e ∙ ap (λ (x : ℕ). x % 2) (zero-div (2 ^ j)))

  -- those before the lowest clear one are set, and it is one of the k
  pub open_before : (j : ℕ) → j < first_open k b w → b + j < k → bit (b + j) w ≡ true
  open_before j h l = is_set j l (is_low.below j h)

  pub open_within : 0 < open_from k b w → b + first_open k b w < k
  open_within p = go (dec_lt (b + first_open k b w) k)
    where
      go : Dec (b + first_open k b w < k) → b + first_open k b w < k
      go (yes l) = l
      go (no n) =
          let one = is_low.set p in
          let none : open_from k b w / 2 ^ first_open k b w ≡ 0 =
          shr-shr ((2 ^ k - 1) - w) b (first_open k b w) ∙ div-eq_of_lt (lt_of_lt_of_le not_fits (pow_mono (omega (arith, n)))) in
          absurd (omega arith)

  pub open_first : 0 < open_from k b w → bit (b + first_open k b w) w ≡ false
  unfolding bit
  open_first p =
      let d = open_digit (first_open k b w) (open_within p) in
      let one = is_low.set p in
      let no : digit w (b + first_open k b w) ≡ 0 = omega arith in
      rw no
