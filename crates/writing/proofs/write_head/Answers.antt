-- `writing::write_head` meets its contract: two numbers are one put.
-- Assumes nothing.
use Rattle.writing.proofs.ElementSteps.{head_steps}
use Rattle.writing.proofs.write_head.Goals as goal

pub returns : goal.returns
returns c = search head_steps
