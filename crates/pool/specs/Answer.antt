-- What a search for a free offset answers (01: the lowest free TEID, or none exactly when there is none).
-- Assumes nothing.
use Rattle.std.specs.Prelude.{List, [], ◌∷◌, ℕ, Option, Some, None}

-- the first of the free offsets, or that there is none
abbrev pub lowest : List ℕ → Option ℕ
lowest [] = None
lowest (i ∷ is) = Some i
