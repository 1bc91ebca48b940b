-- The rows that std cuts an area into, as the layout has them.
-- Assumes nothing.
use mathlib.Core.Path.{◌≡◌, refl, ap, ◌∙◌}
use mathlib.Core.List.{List, ◌∷◌}
use Prim.Native.Nat.{ℕ, zero, suc, ◌+◌, ◌*◌, ◌<◌, ◌≤◌}
use native.Mathlib.Omega.{arith}
use lib.ListN.{length, take, drop, get_or}
use lib.Seq.{length-take-le, get_or-take, drop-drop}
use Rattle.std.specs.Simd.{first_chunks}
use Rattle.octets.specs.Octets.{part, slices}

chunk_at : (w k i : ℕ) (a d : List ℕ) → i < k → get_or (first_chunks w k a) i d ≡ part (i * w) w a
chunk_at w zero i a d h = absurd (omega arith)
chunk_at w (suc k) zero a d h = let e : 0 * w ≡ 0 = omega arith in rw e
chunk_at w (suc k) (suc i) a d h =
    let e : w + i * w ≡ suc i * w = omega arith in
    rw (← e) (chunk_at w k i (drop w a) d (omega arith) ∙ ap (take w) (drop-drop (i * w) w a))

length_chunks : (w k : ℕ) (a : List ℕ) → length (first_chunks w k a) ≡ k
length_chunks w zero a = refl
length_chunks w (suc k) a = ap suc (length_chunks w k (drop w a))

module _ (w n k : ℕ) (a : List ℕ) (rows : List (List ℕ)) (front : rows ≡ first_chunks w k a) (enough : n ≤ length rows) where
  pub rows_long : length (take n rows) ≡ n
  rows_long = length-take-le n rows enough

  pub row_at : (i : ℕ) (d : List ℕ) → i < length (take n rows) → get_or (take n rows) i d ≡ part (i * w) w a
  row_at i d h =
      let few : length rows ≡ k = ap length front ∙ length_chunks w k a in
      get_or-take n rows i d (omega (arith, rows_long)) ∙ ap (λ (l : List (List ℕ)). get_or l i d) front ∙ chunk_at w k i a d (omega (arith, rows_long, enough))

-- those before a place
pub rows_before : (w i k : ℕ) (a : List ℕ) (rows : List (List ℕ)) → rows ≡ first_chunks w k a → i ≤ length rows → take i rows ≡ slices w i a
unfolding slices
rows_before w i k a rows front h = ap (take i) front ∙ front_of i k a (omega (arith, ap length front, length_chunks w k a))
  where
    front_of : (i k : ℕ) (a : List ℕ) → i ≤ k → take i (first_chunks w k a) ≡ slices w i a
    front_of zero k a h = refl
    front_of (suc i) zero a h = absurd (omega arith)
    front_of (suc i) (suc k) a h = ap (λ (l : List (List ℕ)). take w a ∷ l) (front_of i k (drop w a) (omega arith))
