-- A part of octets with its first or last octet taken off, and tests on parts. Assumes nothing.
use mathlib.Core.Bool.{Bool, ◌&&◌}
use mathlib.Core.List.{List, [], ◌∷◌}
use mathlib.Core.Path.{◌≡◌, refl, ap}
use Prim.Native.Nat.{ℕ, zero, suc, ◌+◌, ◌-◌, ◌≤◌, ◌<◌}
use native.Mathlib.Nat.{not-suc-le-zero}
use native.Mathlib.Numerals.{add-one}
use native.Mathlib.Omega.{arith}
use lib.Dec.{eqb}
use lib.ListN.{length, get_or}
use lib.Pointwise.{pointwise}
use lib.Seq.{drop-cons}
use Rattle.octets.specs.Octets.{part, same_octets}

pub part_first : (at n : ℕ) (s : List ℕ) → 0 < n → at + n ≤ length s → part at n s ≡ get_or s at 0 ∷ part (at + 1) (n - 1) s
part_first at zero s p h = absurd (not-suc-le-zero p)
part_first at (suc n) s p h =
    let e : suc n - 1 ≡ n = omega arith in
    rw (e, drop-cons s at 0 (omega arith), add-one)

-- std's test of two slices
pub same_pointwise : (a b : List ℕ) → pointwise eqb a b ≡ same_octets a b
unfolding same_octets
same_pointwise [] [] = refl
same_pointwise [] (y ∷ b) = refl
same_pointwise (x ∷ a) [] = refl
same_pointwise (x ∷ a) (y ∷ b) = ap (λ (t : Bool). eqb x y && t) (same_pointwise a b)
