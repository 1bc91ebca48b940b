-- Reading and writing are inverse: of the rules' values, and of the code's structs by the contracts. Assumes nothing.
use Rattle.std.specs.Prelude as std
use Rattle.std.specs.Prelude.{Some, Bool, List, ◌++◌, ◌≡◌, ℕ, ◌≤◌, T, length, take}
use Rattle.std.proofs.Math.Option.{Option, some}
use Rattle.octets.specs.Octets.{octets, put}
use Rattle.rules.specs.Elements as rules
use Rattle.rules.specs.Elements.{value}
use Rattle.element.specs.Answers.{left, write_meant}

-- a reader of values, of which some are allowed and have octets; `Whole` are the octets with nothing in them that the reader ignores
module _ {A : Type 0} (read : List ℕ → rules.Answer A) (Whole : List ℕ → Type 0) where
  -- an allowed value is read from its octets, whatever follows; and a value that was read, with nothing ignored, is allowed and has
  -- the octets that it was read from
  pub record Inverse (allowed : A → Bool) (octets_of : A → List ℕ) : Type 0 where
    pub back : (v : A) (rest : List ℕ) → T (allowed v) → read (octets_of v ++ rest) ≡ value v
    pub again : (s : List ℕ) (v : A) → T (octets s) → read s ≡ value v → Whole s → (octets_of v ≡ s) × T (allowed v)

  -- By the contracts, of the structs S that mean values and the answers R of which one is a struct: what the writer wrote is read as the same
  -- struct, whatever follows; and of a struct that was read, with nothing ignored, the writer writes the same octets, where there is room.
  pub record CodeInverse (write : A → List ℕ → rules.Written) {S R : Type 0} (meant : S → Option A) (answer_of : R → Option (rules.Answer A)) (struct : S → R) : Type 0 where
    pub back : (v : S) (n : ℕ) (space after rest : List ℕ) (a : R) → left (Some n) after ≡ write_meant write (meant v) space
        → answer_of a ≡ some (read (take n after ++ rest)) → a ≡ struct v
    pub again : (s : List ℕ) (v : S) (r : std.Option ℕ) (space after : List ℕ) → T (octets s) → Whole s → answer_of (struct v) ≡ some (read s)
        → length s ≤ length space → left r after ≡ write_meant write (meant v) space → (r ≡ Some (length s)) × (after ≡ put 0 s space)
