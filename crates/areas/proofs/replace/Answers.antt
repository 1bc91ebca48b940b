use Rattle.areas.proofs.Steps.{room_after, replaced_in_lem}
use Rattle.areas.proofs.replace.Goals as goal

-- src/lib.rt:69:20
-- src/lib.rt:69:20
-- src/lib.rt:69:20
-- src/lib.rt:69:5
pub replace-requires : goal.replace-requires
replace-requires c = search room_after

-- src/lib.rt:64:1
-- src/lib.rt:64:1
pub returns : goal.returns
returns c = search replaced_in_lem
