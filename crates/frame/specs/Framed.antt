-- The answer of stage 2: the type at fault and its place, if there is a fault.
-- Assumes nothing.
use Rattle.std.specs.Prelude.{Result, Ok, Err}
use Rattle.std.proofs.Math.Option.{Option, none, some}
use Rattle.rules.specs.Message as rules
use Rattle.rules.specs.Message.{spot}
use Rattle.frame.specs.declared.Spot.{Spot}

-- 01's cause is 68 for each fault of stage 2; Offending IE names the type
abbrev pub framing_fault : {A : Type 0} → Result A Spot → Option rules.Spot
framing_fault (Ok a) = none
framing_fault (Err s) = some (spot s.kind s.place)
