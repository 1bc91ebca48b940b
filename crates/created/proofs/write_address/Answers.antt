-- `created::write_address` meets its contract: nothing where no address was granted.
-- Assumes nothing.
use Rattle.created.proofs.GroupSteps.{address_not, address_steps, address_room}
use Rattle.created.proofs.write_address.Goals as goal

pub returns-then-g-ne-UE_CHOOSE : goal.returns-then-g-ne-UE_CHOOSE
returns-then-g-ne-UE_CHOOSE c = search address_not

pub write_ue_address-requires : goal.write_ue_address-requires
write_ue_address-requires c = search address_room

pub returns : goal.returns
returns c = search address_steps
