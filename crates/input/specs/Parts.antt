-- Octets cut into parts, each after its length in two octets. Assumes nothing.
use Rattle.std.specs.Prelude.{◌≡◌, ℕ, ◌+◌, ◌*◌, ◌<◌, ◌≤◌, List, ◌++◌, length, drop, slice_index}

-- the length that stands at the front of s
abbrev pub said : List ℕ → ℕ
said s = slice_index s 0 * 256 + slice_index s 1

-- part stands after its length at the front of s, and rest follows it
abbrev pub IsPart : List ℕ → List ℕ → List ℕ → Type 0
IsPart s part rest = (2 ≤ length s) × (length part ≡ said s) × (drop 2 s ≡ part ++ rest)

-- no whole part stands at the front of s
abbrev pub HasNoPart : List ℕ → Type 0
HasNoPart s = 2 ≤ length s → length s < 2 + said s
