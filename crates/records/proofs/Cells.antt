-- Tests that come to the same; comparing octets part by part. Of general use.
-- Assumes nothing.
use mathlib.Core.Path.{◌≡◌, refl, sym, ap, ◌∙◌}
use Prim.Native.Nat.{ℕ, ◌+◌, ◌-◌, ◌≤◌}
use native.Mathlib.Omega.{arith}
use mathlib.Core.Bool.{Bool, true, false, ◌&&◌}
use mathlib.Core.List.{List, [], ◌∷◌, ◌++◌}
use lib.ListN.{length, take, drop, length-drop, take-append-drop}
use lib.Seq.{length-take-le, take_all, take-add, drop-drop}
use lib.Dec.{eqb, eqb_refl}
use Rattle.octets.specs.Octets.{part, same_octets, zeros, padded, all_zero}
use Rattle.octets.proofs.Numbers.{same_refl, same_append}
use Rattle.octets.proofs.Tests.{is_true}
use Rattle.octets.proofs.Bools.{eqb_turn, and-false, and-true, and_assoc}

-- ---- tests

pub eqb_same : (x : ℕ) → eqb x x ≡ true
eqb_same x = is_true (eqb x x) (eqb_refl x)

-- ---- comparing

-- octets are zeros
pub same_zeros : (xs : List ℕ) → same_octets (zeros (length xs)) xs ≡ all_zero xs
unfolding same_octets zeros all_zero
same_zeros [] = refl
same_zeros (x ∷ xs) = λ i. eqb_turn 0 x i && same_zeros xs i

-- octets that are the front of a part, then zeros
pub same_padded : (m : ℕ) (xs : List ℕ) → m ≤ length xs → same_octets (padded (length xs) (take m xs)) xs ≡ all_zero (drop m xs)
unfolding padded
same_padded m xs h =
    let long : length (take m xs) ≡ m = length-take-le m xs h in
    let room : length (drop m xs) ≡ length xs - m = length-drop m xs in
    ap (same_octets (take m xs ++ zeros (length xs - length (take m xs)))) (sym (take-append-drop m xs))
    ∙ same_append (take m xs) (zeros (length xs - length (take m xs))) (take m xs) (drop m xs) refl
    ∙ rw (same_refl (take m xs), long, ← room) (same_zeros (drop m xs))

pub and_comm : (a b : Bool) → (a && b) ≡ (b && a)
and_comm true b = sym (and-true b)
and_comm false b = sym (and-false b)

-- the last of three tests put first
pub last_first : (a b c : Bool) → (a && (b && c)) ≡ (c && (a && b))
last_first a b c = sym (and_assoc a b c) ∙ and_comm (a && b) c

-- octets by two parts
pub two_parts : (at m n : ℕ) (s : List ℕ) → at + (m + n) ≡ length s → drop at s ≡ part at m s ++ part (at + m) n s
two_parts at m n s e =
    let long : length (drop at s) ≤ m + n = rw length-drop (omega arith) in
    sym (take_all (m + n) (drop at s) long) ∙ take-add m n (drop at s) ∙ rw (drop-drop m at s)
