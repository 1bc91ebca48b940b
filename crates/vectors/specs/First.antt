-- The cause of the first refusal of two answers, 0 where both are values. Assumes nothing.
use Rattle.std.specs.Prelude.{ℕ}
use Rattle.rules.specs.Elements.{Answer, Fteid, Fqcsid, refuse, value, cause_of}

abbrev pub first_cause : Answer Fteid → Answer Fqcsid → ℕ
first_cause (refuse r) b = cause_of r
first_cause (value v) (refuse r) = cause_of r
first_cause (value v) (value w) = 0
