-- Laws of tests joined by `and` and `or`, of use to every crate. Assumes nothing.
use mathlib.Core.Path.{◌≡◌, refl, sym, ◌∙◌, ap}
use mathlib.Core.Bool.{Bool, true, false, not, ◌&&◌, ◌||◌}
use Prim.Native.Nat.{ℕ, zero, suc, ◌<◌}
use native.Mathlib.Nat.{suc-ne-zero}
use native.Mathlib.Omega.{arith}
use native.Mathlib.Decide.{ℕ_discrete}
use borrow.Author.Tests.{eq-eqb, ne_eqb}
use lib.Dec.{T, eqb}
use Rattle.std.specs.Int.{bit_at}
use Rattle.std.specs.Int.Bits.{bit_or, or_zero_l}
use Rattle.std.proofs.lemmas.Nat.Bits.{bit_at_or, bit_at-zero, same_from_bits}
use Rattle.octets.specs.Choice.{flag, same_bool}

-- two tests that follow from each other are one
pub both_ways : (a b : Bool) → (T a → T b) → (T b → T a) → a ≡ b
both_ways true true f g = refl
both_ways true false f g = absurd (f tt)
both_ways false true f g = absurd (g tt)
both_ways false false f g = refl

pub not_or : (a b : Bool) → T (not (a || b)) → T (not a) × T (not b)
not_or true b h = absurd h
not_or false b h = (tt, h)

pub eqb_turn : (a b : ℕ) → eqb a b ≡ eqb b a
eqb_turn a b = go (ℕ_discrete a b)
  where
    go : Dec (a ≡ b) → eqb a b ≡ eqb b a
    go (yes e) = eq-eqb a b e ∙ sym (eq-eqb b a (sym e))
    go (no n) = ne_eqb a b n ∙ sym (ne_eqb b a (λ e. n (sym e)))

-- ---- and

pub and-false : (b : Bool) → (b && false) ≡ false
and-false true = refl
and-false false = refl

pub and_assoc : (a b c : Bool) → ((a && b) && c) ≡ (a && (b && c))
and_assoc true b c = refl
and_assoc false b c = refl

pub and-true : (b : Bool) → (b && true) ≡ b
and-true true = refl
and-true false = refl

pub and_swap : (a b c : Bool) → (a && (b && c)) ≡ (b && (a && c))
and_swap true b c = refl
and_swap false true c = refl
and_swap false false c = refl

pub and_four : (a b c d : Bool) → ((a && b) && (c && d)) ≡ ((a && c) && (b && d))
and_four true true c d = refl
and_four true false true d = refl
and_four true false false d = refl
and_four false b c d = refl

-- ---- or

pub or-true : (b : Bool) → (b || true) ≡ true
or-true true = refl
or-true false = refl

pub or-false : (b : Bool) → (b || false) ≡ b
or-false true = refl
or-false false = refl

pub or_swap : (a b c : Bool) → (a || (b || c)) ≡ (b || (a || c))
or_swap true true c = refl
or_swap true false c = refl
or_swap false b c = refl

pub or_four : (a b c d : Bool) → ((a || b) || (c || d)) ≡ ((a || c) || (b || d))
or_four true b c d = refl
or_four false true true d = refl
or_four false true false d = refl
or_four false false c d = refl

-- ---- bits

-- a number below 2 as a test, and back
pub flag_bit : (n : ℕ) → n < 2 → flag (eqb n 1) ≡ n
flag_bit zero h = refl
flag_bit (suc zero) h = refl
flag_bit (suc (suc n)) h = absurd (omega arith)

pub same_bit : (m n : ℕ) → m < 2 → n < 2 → same_bool (eqb m 1) (eqb n 1) ≡ eqb m n
same_bit zero zero h k = refl
same_bit zero (suc zero) h k = refl
same_bit (suc zero) zero h k = refl
same_bit (suc zero) (suc zero) h k = refl
same_bit zero (suc (suc n)) h k = absurd (omega arith)
same_bit (suc zero) (suc (suc n)) h k = absurd (omega arith)
same_bit (suc (suc m)) n h k = absurd (omega arith)

-- two numbers joined bit by bit are 0 exactly if both are
pub or_zero : (a b : ℕ) → eqb (bit_or a b) 0 ≡ (eqb a 0 && eqb b 0)
or_zero zero b = ap (λ (n : ℕ). eqb n 0) (or_zero_l b)
or_zero (suc a) b = ne_eqb (bit_or (suc a) b) 0 (λ e. absurd (suc-ne-zero a (none e))) ∙ ap (λ (t : Bool). t && eqb b 0) (sym (ne_eqb (suc a) 0 (suc-ne-zero a)))
  where
    none : bit_or (suc a) b ≡ 0 → suc a ≡ 0
    none e = same_from_bits (suc a) 0 (λ i. let h : bit_at (bit_or (suc a) b) i ≡ bit_at 0 i = ap (λ (n : ℕ). bit_at n i) e in omega (arith, bit_at_or (suc a) b i, bit_at-zero i))
