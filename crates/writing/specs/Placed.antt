-- What a writer of octets leaves in the space that it was lent, and what it answers.
-- Assumes nothing.
use Rattle.std.specs.Prelude.{ℕ, ◌+◌, ◌≡◌, List, length}
use Rattle.octets.specs.Octets.{put}

-- the octets xs stand from place `at` on, and the answer is the place after them
pub record Placed (before : List ℕ) (at : ℕ) (xs : List ℕ) (next : ℕ) (after : List ℕ) : Type 0 where
  pub ends : next ≡ at + length xs
  pub holds : after ≡ put at xs before

-- octets at the front of a space: how many they are, and the space with them
abbrev pub written : List ℕ → List ℕ → ℕ × List ℕ
written xs space = (length xs, put 0 xs space)
