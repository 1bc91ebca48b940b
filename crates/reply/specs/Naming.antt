-- The element at fault that a refusal names, if any.
-- Assumes nothing.
use Rattle.std.specs.Prelude as std
use Rattle.std.specs.Prelude.{ℕ, None, Some}
use Rattle.std.proofs.Math.Option.{Option, none, some}
use Rattle.rules.specs.Stages.{Verdict}

-- 01's Offending IE: its value for each case of the code's answer
abbrev pub offending_in : std.Option ℕ → Option ℕ
offending_in None = none
offending_in (Some t) = some t

-- the verdict of a refusal; the reply does not say the place of a fault
abbrev pub refusal : ℕ → std.Option ℕ → Verdict
refusal c o = record { cause = c; offending = offending_in o; place = 0 }
