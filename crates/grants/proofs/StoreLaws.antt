-- TEIDs written into a plan, one after the other. Assumes nothing.
use mathlib.Core.Path.{◌≡◌, refl, ◌∙◌}
use mathlib.Core.List.{List, [], ◌∷◌, ◌++◌}
use Prim.Native.Nat.{ℕ, ◌+◌, ◌≤◌}
use native.Mathlib.Omega.{arith}
use lib.ListN.{length, set, length-set}
use Rattle.octets.specs.Choice.{head_or, rest}
use Rattle.grants.specs.Choosing.{stores}

pub stores_none : (plan ps ts : List ℕ) → length ps ≤ 0 → stores plan ps ts ≡ plan
unfolding stores
stores_none plan [] ts h = refl
stores_none plan (p ∷ ps) ts h = absurd (omega arith)

-- only as many TEIDs as places are read
pub stores_front : (plan ps xs ys : List ℕ) → length ps ≤ length xs → stores plan ps (xs ++ ys) ≡ stores plan ps xs
unfolding stores
stores_front plan [] xs ys h = refl
stores_front plan (p ∷ ps) [] ys h = absurd (omega arith)
stores_front plan (p ∷ ps) (x ∷ xs) ys h = stores_front (set plan (p + 13) x) ps xs ys (omega arith)

pub length_stores : (plan ps ts : List ℕ) → length (stores plan ps ts) ≡ length plan
unfolding stores
length_stores plan [] ts = refl
length_stores plan (p ∷ ps) ts = length_stores (set plan (p + 13) (head_or 0 ts)) ps (rest ts) ∙ length-set plan (p + 13) (head_or 0 ts)
