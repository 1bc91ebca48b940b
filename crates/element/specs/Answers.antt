-- What the readers and writers answer, in the rules' terms. Assumes nothing.
use Rattle.std.specs.Prelude as std
use Rattle.std.specs.Prelude.{Bool, false, List, ℕ, Some, None}
use Rattle.std.proofs.Math.Option.{Option, none, some}
use Rattle.octets.specs.Choice.{value_or, map_option}
use Rattle.rules.specs.Elements as rules
use Rattle.rules.specs.Elements.{too_short, incorrect}
use Rattle.element.specs.declared.Refusal.{Refusal}
use Rattle.element.specs.declared.Refusal.TheVariants.{TooShort, Incorrect}

-- why a reader refuses
abbrev pub refusal_of : Refusal → rules.Refusal
refusal_of TooShort = too_short
refusal_of Incorrect = incorrect

-- how many octets a writer says that it wrote, none where it says that it refused
abbrev pub written_count : std.Option ℕ → Option ℕ
written_count (Some n) = some n
written_count None = none

-- what a writer leaves: its answer, and the space at exit
abbrev pub left : std.Option ℕ → List ℕ → rules.Written
left r space = record { count = written_count r; space = space }

-- what a writer has to leave for a struct that means a value, or none: none is refused, and nothing is written
abbrev pub write_meant : {A : Type 0} → (A → List ℕ → rules.Written) → Option A → List ℕ → rules.Written
write_meant write none space = record { count = none; space = space }
write_meant write (some v) space = write v space

-- whether a struct means a value that the rules allow
abbrev pub allowed_in : {A : Type 0} → (A → Bool) → Option A → Bool
allowed_in allowed v = value_or false (map_option allowed v)
