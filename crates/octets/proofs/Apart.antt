-- Octets at places with one distance, and parts that follow one another, tested for zero together. Assumes nothing.
use mathlib.Core.Bool.{Bool, true, ◌&&◌}
use mathlib.Core.List.{List, [], ◌∷◌}
use mathlib.Core.Path.{◌≡◌, refl, sym, ap, ap₂, ◌∙◌}
use Prim.Native.Nat.{ℕ, zero, suc, ◌+◌, ◌-◌, ◌*◌, ◌≤◌, ◌<◌}
use native.Mathlib.Nat.{zero-mul, suc-mul}
use native.Mathlib.Omega.{arith}
use lib.Dec.{eqb}
use lib.ListN.{length, get_or, take, drop, length-drop}
use lib.Seq.{take-suc, get_or-drop}
use native.Mathlib.Numerals.{add-one}
use Rattle.std.specs.Int.Bits.{bit_or}
use Rattle.octets.specs.Octets.{part, all_zero}
use Rattle.octets.proofs.Bools.{and-true, and_assoc, and_four, or_zero}
use Rattle.octets.proofs.Put.{part_two}
use Rattle.octets.proofs.FieldLaws.{zero_append}

-- one octet more, of the front of a list and of a part
pub zero_more : (xs : List ℕ) (i : ℕ) → i < length xs → all_zero (take (i + 1) xs) ≡ (all_zero (take i xs) && eqb (get_or xs i 0) 0)
unfolding all_zero
zero_more xs i h =
    rw (add-one, take-suc xs i 0 h)
    (zero_append (take i xs) (get_or xs i 0 ∷ []) ∙ ap (λ (t : Bool). all_zero (take i xs) && t) (and-true (eqb (get_or xs i 0) 0)))

zero_last : (at n : ℕ) (s : List ℕ) → at + n < length s → all_zero (part at (n + 1) s) ≡ (all_zero (part at n s) && eqb (get_or s (at + n) 0) 0)
zero_last at n s h = rw get_or-drop at (zero_more (drop at s) n (omega (arith, length-drop at s)))

-- a turn: what is 0 so far, and one octet more
pub one_more : (any x r : ℕ) (before : Bool) → eqb any 0 ≡ before → r ≡ x → eqb (bit_or any r) 0 ≡ (before && eqb x 0)
one_more any x r before e f = or_zero any r ∙ ap₂ (λ (t : Bool) (n : ℕ). t && eqb n 0) e f

-- whether the octets at k places are zero, each place q after the one before
unfoldable pub zero_apart : ℕ → ℕ → ℕ → List ℕ → Bool
zero_apart zero q at s = true
zero_apart (suc k) q at s = eqb (get_or s at 0) 0 && zero_apart k q (at + q) s

-- one place more, behind them
pub apart_last : (k q at : ℕ) (s : List ℕ) → zero_apart (suc k) q at s ≡ (zero_apart k q at s && eqb (get_or s (at + k * q) 0) 0)
unfolding zero_apart
apart_last zero q at s =
    let b : at + 0 * q ≡ at = omega arith in
    rw b (and-true (eqb (get_or s at 0) 0))
apart_last (suc k) q at s =
    let m : suc k * q ≡ k * q + q = suc-mul k q in
    let b : at + suc k * q ≡ at + q + k * q = omega arith in
    rw b
    (ap (λ (t : Bool). eqb (get_or s at 0) 0 && t) (apart_last k q (at + q) s)
    ∙ sym (and_assoc (eqb (get_or s at 0) 0) (zero_apart k q (at + q) s) (eqb (get_or s (at + q + k * q) 0) 0)))

-- k parts of n octets, each q after the one before
unfoldable pub zero_parts : ℕ → ℕ → ℕ → ℕ → List ℕ → Bool
zero_parts zero q at n s = true
zero_parts (suc k) q at n s = all_zero (part at n s) && zero_parts k q (at + q) n s

-- one octet more of each
pub parts_last : (k q at n : ℕ) (s : List ℕ) → at + n + k * q < length s + q → zero_parts k q at (n + 1) s ≡ (zero_parts k q at n s && zero_apart k q (at + n) s)
unfolding zero_parts zero_apart
parts_last zero q at n s h = refl
parts_last (suc k) q at n s h =
    let m : suc k * q ≡ k * q + q = suc-mul k q in
    let e : at + n + q ≡ at + q + n = omega arith in
    ap₂ ◌&&◌ (zero_last at n s (omega arith)) (parts_last k q (at + q) n s (omega arith))
    ∙ rw e (and_four (all_zero (part at n s)) (eqb (get_or s (at + n) 0) 0) (zero_parts k q (at + q) n s) (zero_apart k q (at + q + n) s))

-- none of them has an octet
pub parts_none : (k q at : ℕ) (s : List ℕ) → zero_parts k q at 0 s ≡ true
unfolding zero_parts all_zero
parts_none zero q at s = refl
parts_none (suc k) q at s = parts_none k q (at + q) s

-- all of them, side by side
pub parts_whole : (k q at : ℕ) (s : List ℕ) → zero_parts k q at q s ≡ all_zero (part at (k * q) s)
unfolding zero_parts all_zero
parts_whole zero q at s = rw (zero-mul q)
parts_whole (suc k) q at s =
    let m : suc k * q ≡ k * q + q = suc-mul k q in
    let e : suc k * q ≡ q + k * q = omega arith in
    ap (λ (t : Bool). all_zero (part at q s) && t) (parts_whole k q (at + q) s)
    ∙ sym (zero_append (part at q s) (part (at + q) (k * q) s))
    ∙ ap all_zero (part_two at q (k * q) s)
    ∙ sym (ap (λ (n : ℕ). all_zero (part at n s)) e)

-- a turn of the loop over the eighths
pub apart_turn : (k q at i any : ℕ) (s : List ℕ) (before : Bool) → eqb any 0 ≡ (before && zero_apart k q (at + i) s)
    → eqb (bit_or any (get_or s (at + k * q + i) 0)) 0 ≡ (before && zero_apart (k + 1) q (at + i) s)
apart_turn k q at i any s before h =
    let e : at + k * q + i ≡ at + i + k * q = omega arith in
    rw (add-one, apart_last k q (at + i) s, e)
    (one_more any (get_or s (at + i + k * q) 0) (get_or s (at + i + k * q) 0) (before && zero_apart k q (at + i) s) h refl
    ∙ and_assoc before (zero_apart k q (at + i) s) (eqb (get_or s (at + i + k * q) 0) 0))

-- the end: what the turns found, and the octets that are left
pub long_ends : (q at n i any : ℕ) (s : List ℕ) → 8 * q ≤ n → i ≡ q → eqb any 0 ≡ zero_parts 8 q at i s
    → all_zero (part at n s) ≡ (eqb any 0 && all_zero (part (at + 8 * q) (n - 8 * q) s))
long_ends q at n i any s h z f =
    let e : n ≡ 8 * q + (n - 8 * q) = omega arith in
    ap (λ (k : ℕ). all_zero (part at k s)) e
    ∙ ap all_zero (sym (part_two at (8 * q) (n - 8 * q) s))
    ∙ zero_append (part at (8 * q) s) (part (at + 8 * q) (n - 8 * q) s)
    ∙ ap (λ (t : Bool). t && all_zero (part (at + 8 * q) (n - 8 * q) s)) (sym (parts_whole 8 q at s) ∙ ap (λ (k : ℕ). zero_parts 8 q at k s) (sym z) ∙ sym f)
