-- What a call answers, in 01's numbers: the outcome, the reply's length, and the place of a fault.
-- Assumes nothing.
use Rattle.std.specs.Prelude.{ℕ, Result, Ok, Err}
use Rattle.frame.specs.declared.header.Unserved.{Unserved}
use Rattle.frame.specs.declared.header.Unserved.TheVariants as header
use Rattle.changes.specs.declared.Replied.{Replied}
use Rattle.engine.specs.declared.outcome.Outcome.{Outcome}
use Rattle.engine.specs.declared.outcome.Outcome.TheVariants.{Broken, LittleSpace, TooLong, Malformed, NotServed, Old, NoPeer}

abbrev pub number_of : Outcome → ℕ
number_of Broken = 1
number_of LittleSpace = 2
number_of TooLong = 3
number_of Malformed = 4
number_of NotServed = 5
number_of Old = 6
number_of NoPeer = 7

-- the outcome of a message that is not served
abbrev pub unserved_as : Unserved → Outcome
unserved_as header.TooLong = TooLong
unserved_as header.Malformed = Malformed
unserved_as header.NotServed = NotServed

-- the answer of a call: 0 with a reply, or the number of its outcome with no octets of a reply and no place
abbrev pub outcome_of : Result Replied Outcome → ℕ
outcome_of (Ok r) = 0
outcome_of (Err o) = number_of o

abbrev pub used_of : Result Replied Outcome → ℕ
used_of (Ok r) = r.used
used_of (Err o) = 0

abbrev pub place_of : Result Replied Outcome → ℕ
place_of (Ok r) = r.place
place_of (Err o) = 0
