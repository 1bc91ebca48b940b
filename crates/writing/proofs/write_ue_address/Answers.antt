-- `writing::write_ue_address` meets its contract: the value and the head before it are one element.
-- Assumes nothing.
use Rattle.writing.proofs.ElementSteps.{ue_steps}
use Rattle.writing.proofs.write_ue_address.Goals as goal

pub returns : goal.returns
returns c = search ue_steps
