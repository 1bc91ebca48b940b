-- `writing::write_fseid` meets its contract: the value and the head before it are one element.
-- Assumes nothing.
use Rattle.writing.proofs.ElementSteps.{fseid_steps}
use Rattle.writing.proofs.write_fseid.Goals as goal

pub returns : goal.returns
returns c = search fseid_steps
