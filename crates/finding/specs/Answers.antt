-- What the calls answer, as the rules have it.
-- Assumes nothing.
use Rattle.std.specs.Prelude.{ℕ, Result, Ok, Err}
use Rattle.rules.specs.Finding.{Finding}
use Rattle.finding.specs.declared.Untold.{Untold}
use Rattle.finding.specs.declared.Untold.TheVariants.{Broken, NotFound, NoPeer}

-- the outcome of each refusal: 01's outcome 1, none, and no peer's number
abbrev pub outcome_of : Untold → ℕ
outcome_of Broken = 1
outcome_of NotFound = 2
outcome_of NoPeer = 7

abbrev pub finding_told : Result ℕ Untold → Finding
finding_told (Ok n) = record { outcome = 0; number = n }
finding_told (Err e) = record { outcome = outcome_of e; number = 0 }
