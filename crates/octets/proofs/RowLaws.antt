-- The rows that are left, and the words gathered from them. Assumes nothing.
use mathlib.Core.Path.{◌≡◌, refl}
use mathlib.Core.Bool.{Bool, true, false}
use mathlib.Core.List.{List, [], ◌∷◌, map}
use Prim.Native.Nat.{ℕ}
use lib.ListN.{get_or}
use lib.Dec.{eqb}
use Rattle.octets.specs.Choice.{pick}
use Rattle.octets.specs.Lists.{keep}
use Rattle.octets.specs.Octets.{slices}
use Rattle.octets.specs.Rows.{has_tag, word_at, column}

pub rows_none : (width : ℕ) (s : List ℕ) → slices width 0 s ≡ []
unfolding slices
rows_none width s = refl

pub column_nil : (tag field : ℕ) → column tag field [] ≡ []
unfolding column keep
column_nil tag field = refl

pub column_cons : (tag field : ℕ) (row : List ℕ) (rows : List (List ℕ))
    → column tag field (row ∷ rows) ≡ pick (eqb (get_or row 0 0) tag) (get_or row field 0 ∷ column tag field rows) (column tag field rows)
unfolding column keep has_tag
column_cons tag field row rows = one (has_tag tag row)
  where
    one : (b : Bool) → map (word_at field) (pick b (row ∷ keep (has_tag tag) rows) (keep (has_tag tag) rows))
        ≡ pick b (get_or row field 0 ∷ map (word_at field) (keep (has_tag tag) rows)) (map (word_at field) (keep (has_tag tag) rows))
    one true = refl
    one false = refl
