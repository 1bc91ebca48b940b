-- `created::write_grant` meets its contract: a grant of the other kind has no group.
-- Assumes nothing.
use lib.Dec.{lit≤}
use Rattle.created.proofs.GroupSteps.{pdr_not, pdr_room_lem, pdr_steps, endpoint_not, endpoint_room_lem, endpoint_steps}
use Rattle.created.proofs.write_grant.Goals as goal

pub returns-then-g-ne-CREATE_PDR : goal.returns-then-g-ne-CREATE_PDR
returns-then-g-ne-CREATE_PDR c = search pdr_not

pub write_group-requires : goal.write_group-requires
write_group-requires c = (lit≤ tt, search pdr_room_lem)

pub returns-then-kind-eq-CREATE_PDR : goal.returns-then-kind-eq-CREATE_PDR
returns-then-kind-eq-CREATE_PDR c = search pdr_steps

pub returns-then-g-eq-CREATE_PDR : goal.returns-then-g-eq-CREATE_PDR
returns-then-g-eq-CREATE_PDR c = search endpoint_not

pub write_group-requires-2 : goal.write_group-requires-2
write_group-requires-2 c = (lit≤ tt, search endpoint_room_lem)

pub returns : goal.returns
returns c = search endpoint_steps
