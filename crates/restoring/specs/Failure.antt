-- The exit statuses of pfcp-restore (docs/operators.md). Assumes nothing.
use Rattle.std.specs.Prelude.{ℕ}
use Rattle.restoring.specs.declared.say.Failure.{Failure}
use Rattle.restoring.specs.declared.say.Failure.TheVariants.{Refused, WrongArguments, Differs}

-- 1 refused, 2 wrong arguments, 3 done, but the new table differs from the stored one
abbrev pub status_of : Failure → ℕ
status_of Refused = 1
status_of WrongArguments = 2
status_of Differs = 3
