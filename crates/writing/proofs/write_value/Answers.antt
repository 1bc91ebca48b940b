-- `writing::write_value` meets its contract: what it holds and the head before it are one element.
-- Assumes nothing.
use Rattle.writing.proofs.ElementSteps.{value_steps}
use Rattle.writing.proofs.write_value.Goals as goal

pub returns : goal.returns
returns c = search value_steps
