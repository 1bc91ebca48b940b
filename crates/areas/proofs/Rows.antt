-- Laws of records of one width: where they stand, and what the steps of an insertion and of a removal make together.
-- Assumes nothing.
use mathlib.Core.Path.{◌≡◌, sym, ap, ◌∙◌}
use mathlib.Core.List.{List, ◌++◌}
use Prim.Native.Nat.{ℕ, ◌+◌, ◌-◌, ◌*◌, ◌≤◌, ◌<◌}
use native.Mathlib.Nat.{add-mul, add-sub_of_le, mul-le-mul_right}
use native.Mathlib.Omega.{arith}
use lib.ListN.{length}
use Rattle.octets.specs.Octets.{put, part, zeros}
use Rattle.areas.specs.Records.{inserted, removed}
use Rattle.octets.proofs.Put.{put_front, put_behind, length_part}

-- the octets before place p and those from there to the nth record
pub rows : (w : ℕ) {p n : ℕ} → p ≤ n → p * w + (n - p) * w ≡ n * w
rows w {p} {n} h = sym (add-mul p (n - p) w) ∙ ap (λ (m : ℕ). m * w) (add-sub_of_le h)

pub rows_after : (w : ℕ) {p n : ℕ} → p < n → p * w + w + (n - (p + 1)) * w ≡ n * w
rows_after w {p} {n} h =
    let all : (p + 1) * w + (n - (p + 1)) * w ≡ n * w = rows w (omega arith) in
    omega arith

-- the first k octets of the record at place p are within n records
pub row_within_lem : (w k : ℕ) {p n len : ℕ} → p < n → n * w ≤ len → k ≤ w → p * w + k ≤ len
row_within_lem w k h l kw = omega (arith, mul-le-mul_right w h)

-- an insertion's two steps: the records moved up, then r written
pub insert_steps : (n p : ℕ) (r s moved done : List ℕ) → p ≤ n → (n + 1) * length r ≤ length s
    → moved ≡ put (p * length r + length r) (part (p * length r) ((n - p) * length r) s) s → done ≡ put (p * length r) r moved
    → done ≡ inserted n p r s
unfolding inserted
insert_steps n p r s moved done pn fits e₁ e₂ =
    e₂ ∙ ap (put (p * length r) r) e₁
    ∙ put_front (p * length r) r (part (p * length r) ((n - p) * length r) s) s (omega (arith, rows (length r) pn))

-- a removal's two steps: the records moved down, then zeros after them
pub remove_steps : (w n p : ℕ) (s moved done : List ℕ) → p < n → n * w ≤ length s
    → moved ≡ put (p * w) (part (p * w + w) ((n - (p + 1)) * w) s) s → done ≡ put (p * w + (n - (p + 1)) * w) (zeros w) moved
    → done ≡ removed w n p s
unfolding removed
remove_steps w n p s moved done pn fits e₁ e₂ =
    let rest : List ℕ = part (p * w + w) ((n - (p + 1)) * w) s in
    let all : p * w + w + (n - (p + 1)) * w ≡ n * w = rows_after w pn in
    let long : length rest ≡ (n - (p + 1)) * w = length_part (p * w + w) ((n - (p + 1)) * w) s (omega arith) in
    let next : p * w + w ≡ (p + 1) * w = omega arith in
    e₂
    ∙ ap (put (p * w + (n - (p + 1)) * w) (zeros w)) e₁
    ∙ ap (λ (k : ℕ). put (p * w + k) (zeros w) (put (p * w) rest s)) (sym long)
    ∙ put_behind (p * w) rest (zeros w) s (omega arith)
    ∙ ap (λ (k : ℕ). put (p * w) (part k ((n - (p + 1)) * w) s ++ zeros w) s) next
