-- `writing::write_offending` meets its contract: the element of a number of two octets.
-- Assumes nothing.
use Rattle.writing.proofs.ElementSteps.{offending_steps}
use Rattle.writing.proofs.write_offending.Goals as goal

pub returns : goal.returns
returns c = search offending_steps
