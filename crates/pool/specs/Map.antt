-- A map of taken TEIDs as any number of words of 64 bits, a bit for each offset in the pool (a TEID less the pool's first TEID).
-- Assumes nothing.
use Rattle.std.specs.Prelude.{not, List, [], ◌∷◌, map, ℕ, ◌+◌, ◌-◌, ◌/◌, ◌%◌, ◌^◌, get_or, set}
use Rattle.std.specs.Int.Bits.{bit_or}
use Rattle.octets.specs.Choice.{flag}
use Rattle.octets.specs.Lists.{keep, range}
use Rattle.rules.specs.Sound.{marked}

-- the words with an offset marked too
unfoldable pub mark : List ℕ → ℕ → List ℕ
mark words i = set words (i / 64) (bit_or (get_or words (i / 64) 0) (2 ^ (i % 64)))

-- the words with every offset of a list marked too
unfoldable pub marks : List ℕ → List ℕ → List ℕ
marks words [] = words
marks words (i ∷ is) = marks (mark words i) is

-- how many of a list's offsets were not marked when their turn came
unfoldable pub new_marks : List ℕ → List ℕ → ℕ
new_marks words [] = 0
new_marks words (i ∷ is) = flag (not (marked words i)) + new_marks (mark words i) is

-- the offsets that are not marked, from one on and below another, the lowest first
unfoldable pub free_from : List ℕ → ℕ → ℕ → List ℕ
free_from words at size = keep (λ i. not (marked words i)) (range at (size - at))

-- ---- TEIDs

-- the offsets of TEIDs
unfoldable pub offsets : ℕ → List ℕ → List ℕ
offsets first teids = map (λ t. t - first) teids

-- the TEIDs at the free offsets, from one on
unfoldable pub teids_from : ℕ → List ℕ → ℕ → ℕ → List ℕ
teids_from first words at size = map (λ i. first + i) (free_from words at size)
