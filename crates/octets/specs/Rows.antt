-- Rows of words, the first word of a row its tag: one word of each row that has a given tag.
-- Assumes nothing.
use Rattle.std.specs.Prelude.{ℕ, Bool, List, map, get_or, eqb}
use Rattle.octets.specs.Lists.{keep}

unfoldable pub has_tag : ℕ → List ℕ → Bool
has_tag tag row = eqb (get_or row 0 0) tag

abbrev pub word_at : ℕ → List ℕ → ℕ
word_at field row = get_or row field 0

-- the words at one place of the rows with a tag, in the rows' order
unfoldable pub column : ℕ → ℕ → List (List ℕ) → List ℕ
column tag field rows = map (word_at field) (keep (has_tag tag) rows)
