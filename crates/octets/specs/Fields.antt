-- Numbers that stand one after the other, each at a width of its own in octets. A field that is absent has the width 0 and
-- the number 0. Assumes nothing.
use Rattle.std.specs.Prelude.{Bool, true, false, ◌&&◌, List, [], ◌∷◌, ◌++◌, ℕ, ◌+◌, ◌^◌, ltb, leb}
use Rattle.octets.specs.Octets.{part, number, be}

-- how many octets fields of these widths take
abbrev pub width_of : List ℕ → ℕ
width_of [] = 0
width_of (w ∷ ws) = w + width_of ws

-- whether each width is at most 8, so that its numbers are u64
unfoldable pub narrow : List ℕ → Bool
narrow [] = true
narrow (w ∷ ws) = leb w 8 && narrow ws

-- the numbers of the fields of widths ws that begin at index at
unfoldable pub fields_at : ℕ → List ℕ → List ℕ → List ℕ
fields_at at [] s = []
fields_at at (w ∷ ws) s = number (part at w s) ∷ fields_at (at + w) ws s

-- whether there is a number for each width, and each fits its width
unfoldable pub fit : List ℕ → List ℕ → Bool
fit [] [] = true
fit [] (v ∷ vs) = false
fit (w ∷ ws) [] = false
fit (w ∷ ws) (v ∷ vs) = ltb v (256 ^ w) && fit ws vs

-- the octets of the numbers vs at the widths ws
unfoldable pub field_octets : List ℕ → List ℕ → List ℕ
field_octets [] vs = []
field_octets (w ∷ ws) [] = []
field_octets (w ∷ ws) (v ∷ vs) = be w v ++ field_octets ws vs
