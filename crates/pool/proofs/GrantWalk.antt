-- The grants of a request by the map: from the first free offset on. Assumes nothing.
use mathlib.Core.Path.{◌≡◌, sym, ap}
use mathlib.Core.List.{List, []}
use Prim.Native.Nat.{ℕ}
use Rattle.rules.specs.Model.{Settings, Sessions, held_teids}
use Rattle.rules.specs.Request.{Request}
use Rattle.rules.specs.Grants.{choices, grant_from, grants}
use Rattle.pool.specs.Map.{teids_from}
use Rattle.pool.proofs.TakenLaws.{Means, free_teids_lem}

-- a request's grants, from the first free offset on
pub grants_walk : (s : Settings) (m : Sessions) (r : Request) (ws : List ℕ) → Means s.first ws (held_teids m)
    → grants s m r ≡ grant_from [] (teids_from s.first ws 0 s.size) (choices r)
unfolding grants
grants_walk s m r ws h = ap (λ (free : List ℕ). grant_from [] free (choices r)) (sym (free_teids_lem s m ws h))
