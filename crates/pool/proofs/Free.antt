-- The free offsets, one after the other. Assumes nothing.
use Rattle.std.specs.Prelude.{Some, None}
use mathlib.Core.Path.{◌≡◌, refl, sym, ◌∙◌, ap}
use mathlib.Core.Bool.{Bool, true, false, not}
use mathlib.Core.List.{List, [], ◌∷◌}
use Prim.Native.Nat.{ℕ, zero, suc, ◌+◌, ◌-◌, ◌≤◌, ◌<◌}
use native.Mathlib.Nat.{add-zero}
use native.Mathlib.Decide.{dec_lt}
use native.Mathlib.Omega.{arith}
use Rattle.octets.specs.Choice.{pick}
use Rattle.octets.specs.Lists.{keep, range}
use Rattle.pool.specs.Answer.{lowest}
use Rattle.pool.specs.Map.{free_from}
use Rattle.rules.specs.Sound.{marked}

module _ (ws : List ℕ) (i size : ℕ) where
  free_more : i < size → free_from ws i size ≡ pick (not (marked ws i)) (i ∷ free_from ws (i + 1) size) (free_from ws (i + 1) size)
  unfolding free_from keep range
  free_more h = let e : size - i ≡ suc (size - (i + 1)) = omega arith in rw e

  -- a marked offset is passed over
  pub free_skip : i < size → marked ws i ≡ true → free_from ws i size ≡ free_from ws (i + 1) size
  free_skip h t = free_more h ∙ ap (λ (b : Bool). pick (not b) (i ∷ free_from ws (i + 1) size) (free_from ws (i + 1) size)) t

  -- one that is not marked is the first
  pub free_first : i < size → marked ws i ≡ false → free_from ws i size ≡ i ∷ free_from ws (i + 1) size
  free_first h t = free_more h ∙ ap (λ (b : Bool). pick (not b) (i ∷ free_from ws (i + 1) size) (free_from ws (i + 1) size)) t

  pub free_end : size ≤ i → free_from ws i size ≡ []
  unfolding free_from keep range
  free_end h = let e : size - i ≡ 0 = omega arith in rw e

-- a run of marked offsets is passed over
pub free_run : (ws : List ℕ) (m i size : ℕ) → ((j : ℕ) → j < m → marked ws (i + j) ≡ true) → free_from ws i size ≡ free_from ws (i + m) size
free_run ws zero i size h = rw add-zero
free_run ws (suc m) i size h =
    go (dec_lt i size) (free_run ws m (i + 1) size (λ j l. let e : i + 1 + j ≡ i + suc j = omega arith in rw e (h (suc j) (omega arith))))
  where
    go : Dec (i < size) → free_from ws (i + 1) size ≡ free_from ws (i + 1 + m) size → free_from ws i size ≡ free_from ws (i + suc m) size
    go (yes l) ih =
        let e : i + suc m ≡ i + 1 + m = omega arith in
        rw e (free_skip ws i size l (rw add-zero at (h 0 (omega arith))) ∙ ih)
    go (no n) ih = free_end ws i size (omega (arith, n)) ∙ sym (free_end ws (i + suc m) size (omega (arith, n)))

-- what the answer of a search says of the free offsets
pub lowest_full : (xs : List ℕ) → None ≡ lowest xs → xs ≡ []
lowest_full [] e = refl
lowest_full (x ∷ xs) e = let z : ◌≡◌ {A = ℕ} 0 1 = cc in absurd (omega arith)

pub record Found (ws : List ℕ) (at size i : ℕ) : Type 0 where
  pub from : at ≤ i
  pub below : i < size
  pub is : free_from ws at size ≡ i ∷ free_from ws (i + 1) size

lowest_in : (ws : List ℕ) (n at size i : ℕ) → size - at ≡ n → Some i ≡ lowest (free_from ws at size) → Found ws at size i
lowest_in ws zero at size i l e = let z : ◌≡◌ {A = ℕ} 0 1 = cc (free_end ws at size (omega arith)) in absurd (omega arith)
lowest_in ws (suc n) at size i l e = go (marked ws at) refl (lowest_in ws n (at + 1) size i (omega arith))
  where
    go : (b : Bool) → marked ws at ≡ b → (Some i ≡ lowest (free_from ws (at + 1) size) → Found ws (at + 1) size i) → Found ws at size i
    go true t ih =
        let s = free_skip ws at size (omega arith) t in
        let f = ih (rw s at e) in
        record { from = omega (arith, f.from); below = f.below; is = s ∙ f.is }
    go false t ih =
        let s = free_first ws at size (omega arith) t in
        let same : i ≡ at = cc s in
        record { from = omega arith; below = omega arith; is = rw same s }

pub lowest_at : (ws : List ℕ) (at size i : ℕ) → Some i ≡ lowest (free_from ws at size) → Found ws at size i
lowest_at ws at size i e = lowest_in ws (size - at) at size i refl e
