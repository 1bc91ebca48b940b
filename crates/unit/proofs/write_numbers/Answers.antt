-- `unit::write_numbers` meets its contract. Assumes nothing.
use Rattle.unit.proofs.WriteLaws.{number_steps}
use Rattle.unit.proofs.write_numbers.Goals as goal

pub returns : goal.returns
returns c = search number_steps
