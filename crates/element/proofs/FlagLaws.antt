-- The bits of an octet of flags, as code tests them by quotient and remainder. Assumes nothing.
use mathlib.Core.Bool.{Bool, true, false, ◌||◌}
use mathlib.Core.Path.{◌≡◌, refl, ap, ◌∙◌}
use Prim.Native.Nat.{ℕ, ◌+◌, ◌*◌, ◌/◌, ◌%◌, ◌^◌, ◌<◌}
use native.Mathlib.Nat.{zero-lt-suc, mod-lt, div-one, div-div-eq-div-mul}
use native.Mathlib.Omega.{arith}
use lib.Dec.{eqb, lit<}
use Rattle.octets.specs.Choice.{flag}
use Rattle.octets.specs.Octets.{bit}
use Rattle.octets.proofs.Bools.{flag_bit}

pub flag_one : (b : Bool) → flag b ≡ 1 → b ≡ true
flag_one true e = refl
flag_one false e = absurd (let z : ◌≡◌ {A = ℕ} 0 1 = e in omega arith)

pub flag_none : (b : Bool) → flag b ≡ 0 → b ≡ false
flag_none true e = absurd (let z : ◌≡◌ {A = ℕ} 1 0 = e in omega arith)
flag_none false e = refl

-- a bit as a number
pub bit_number : (k f : ℕ) → flag (bit k f) ≡ f / (2 ^ k) % 2
unfolding bit
bit_number k f = flag_bit (f / (2 ^ k) % 2) (mod-lt (f / (2 ^ k)) (zero-lt-suc 1))

pub bit_first : (f : ℕ) → flag (bit 0 f) ≡ f % 2
bit_first f = bit_number 0 f ∙ ap (λ (n : ℕ). n % 2) (div-one f)

module _ (k f : ℕ) where
  pub bit_set : f / (2 ^ k) % 2 ≡ 1 → bit k f ≡ true
  bit_set h = flag_one (bit k f) (bit_number k f ∙ h)

  pub bit_clear : (f / (2 ^ k) % 2 ≡ 1 → ⊥) → bit k f ≡ false
  bit_clear h = flag_none (bit k f) (let l = mod-lt (f / (2 ^ k)) (zero-lt-suc 1) in bit_number k f ∙ omega arith)

-- a number below 16 by its four bits
pub four_bits : (f : ℕ) → f < 16 → f ≡ flag (bit 0 f) + 2 * flag (bit 1 f) + 4 * flag (bit 2 f) + 8 * flag (bit 3 f)
four_bits f h =
    let a : f / 2 / 2 ≡ f / 4 = div-div-eq-div-mul f 2 2 in
    let b : f / 4 / 2 ≡ f / 8 = div-div-eq-div-mul f 4 2 in
    let one : f / 2 ≡ 2 * (f / 2 / 2) + f / 2 % 2 = omega arith in
    let two : f / 4 ≡ 2 * (f / 4 / 2) + f / 4 % 2 = omega arith in
    let three : f / 8 ≡ f / 8 % 2 = omega arith in
    let all : f ≡ f % 2 + 2 * (f / 2 % 2) + 4 * (f / 4 % 2) + 8 * (f / 8 % 2) = omega arith in
    rw (bit_first f, bit_number 1 f, bit_number 2 f, bit_number 3 f) all

-- an octet by its eight bits
halved : (m f : ℕ) → f / m ≡ 2 * (f / (m * 2)) + f / m % 2
halved m f = let e : f / m / 2 ≡ f / (m * 2) = div-div-eq-div-mul f m 2 in omega arith

summed : (f q r s t u v w : ℕ) (a b c d e g h : ℕ) → f ≡ 2 * q + a → q ≡ 2 * r + b → r ≡ 2 * s + c → s ≡ 2 * t + d → t ≡ 2 * u + e → u ≡ 2 * v + g → v ≡ 2 * w + h
    → f ≡ a + 2 * b + 4 * c + 8 * d + 16 * e + 32 * g + 64 * h + 128 * w
summed f q r s t u v w a b c d e g h i j k l m n o = omega arith

pub eight_bits : (f : ℕ) → f < 256
    → f ≡ flag (bit 0 f) + 2 * flag (bit 1 f) + 4 * flag (bit 2 f) + 8 * flag (bit 3 f) + 16 * flag (bit 4 f) + 32 * flag (bit 5 f) + 64 * flag (bit 6 f) + 128 * flag (bit 7 f)
eight_bits f h =
    let first : f ≡ 2 * (f / 2) + f % 2 = omega arith in
    let last : f / 128 ≡ f / 128 % 2 = omega arith in
    let all = summed f (f / 2) (f / 4) (f / 8) (f / 16) (f / 32) (f / 64) (f / 128) (f % 2) (f / 2 % 2) (f / 4 % 2) (f / 8 % 2) (f / 16 % 2) (f / 32 % 2) (f / 64 % 2)
    first (halved 2 f) (halved 4 f) (halved 8 f) (halved 16 f) (halved 32 f) (halved 64 f) in
    rw (bit_first f, bit_number 1 f, bit_number 2 f, bit_number 3 f, bit_number 4 f, bit_number 5 f, bit_number 6 f, bit_number 7 f)
    (all ∙ ap (λ (n : ℕ). f % 2 + 2 * (f / 2 % 2) + 4 * (f / 4 % 2) + 8 * (f / 8 % 2) + 16 * (f / 16 % 2) + 32 * (f / 32 % 2) + 64 * (f / 64 % 2) + 128 * n) last)

-- the bits of the low half of an octet
pub low_bit_0 : (f : ℕ) → bit 0 (f % 16) ≡ bit 0 f
unfolding bit
low_bit_0 f = ap (λ (n : ℕ). eqb n 1) (let e : f % 16 / 1 % 2 ≡ f / 1 % 2 = omega arith in e)

pub low_bit_1 : (f : ℕ) → bit 1 (f % 16) ≡ bit 1 f
unfolding bit
low_bit_1 f = ap (λ (n : ℕ). eqb n 1) (let e : f % 16 / 2 % 2 ≡ f / 2 % 2 = omega arith in e)

pub low_bit_2 : (f : ℕ) → bit 2 (f % 16) ≡ bit 2 f
unfolding bit
low_bit_2 f = ap (λ (n : ℕ). eqb n 1) (let e : f % 16 / 4 % 2 ≡ f / 4 % 2 = omega arith in e)

pub low_bit_3 : (f : ℕ) → bit 3 (f % 16) ≡ bit 3 f
unfolding bit
low_bit_3 f = ap (λ (n : ℕ). eqb n 1) (let e : f % 16 / 8 % 2 ≡ f / 8 % 2 = omega arith in e)

-- one of two bits at least
pub one_set : (a b : Bool) → (flag a + flag b ≡ 0 → ⊥) → (a || b) ≡ true
one_set true b h = refl
one_set false true h = refl
one_set false false h = absurd (h refl)

pub none_set : (a b : Bool) → flag a + flag b ≡ 0 → (a || b) ≡ false
none_set true b h = absurd (omega arith)
none_set false true h = absurd (omega arith)
none_set false false h = refl

pub flag_low : (b : Bool) → flag b < 2
flag_low true = lit< tt
flag_low false = lit< tt

-- a number below 4 by its two bits
pub two_bits : (f : ℕ) → f < 4 → 2 * flag (bit 1 f) + flag (bit 0 f) ≡ f
two_bits f h =
    let one : f / 2 % 2 ≡ f / 2 = omega arith in
    let all : 2 * (f / 2 % 2) + f % 2 ≡ f = omega arith in
    rw (bit_first f, bit_number 1 f) all
