-- `writing::write_number` meets its contract: what it holds and the head before it are one element.
-- Assumes nothing.
use Rattle.writing.proofs.ElementSteps.{number_steps}
use Rattle.writing.proofs.write_number.Goals as goal

pub returns : goal.returns
returns c = search number_steps
