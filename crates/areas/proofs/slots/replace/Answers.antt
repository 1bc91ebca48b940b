-- `areas::slots::replace` meets its contract. Assumes nothing.
use Rattle.areas.specs.Records.{replaced}
use Rattle.areas.proofs.slots.replace.Goals as goal

pub returns : goal.returns
unfolding replaced
returns c = c.copy.ensures
