use Rattle.areas.proofs.Steps.{cleared_in_lem}
use Rattle.areas.proofs.clear.Goals as goal

-- src/lib.rt:77:28
-- src/lib.rt:77:5
-- src/lib.rt:78:5
-- src/lib.rt:73:1
-- src/lib.rt:73:1
pub returns : goal.returns
returns c = search cleared_in_lem
