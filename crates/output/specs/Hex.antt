-- Octets as hexadecimal digits. Assumes nothing.
use Rattle.std.specs.Prelude.{ℕ, ◌/◌, ◌%◌, false, List, [], ◌∷◌, flat_map}
use Rattle.std.specs.Fmt.{digit_glyph}

-- an octet as two digits, the letters small
abbrev pub octet_text : ℕ → List ℕ
octet_text x = digit_glyph false (x / 16) ∷ digit_glyph false (x % 16) ∷ []

-- octets, one after the other
abbrev pub hex_text : List ℕ → List ℕ
hex_text = flat_map octet_text
