-- `created::write_tunnel` meets its contract: nothing where no F-TEID was granted.
-- Assumes nothing.
use Rattle.created.proofs.GroupSteps.{tunnel_not, tunnel_steps, tunnel_room}
use Rattle.created.proofs.write_tunnel.Goals as goal

pub returns-then-g-ne1 : goal.returns-then-g-ne1
returns-then-g-ne1 c = search tunnel_not

pub write_fteid-requires : goal.write_fteid-requires
write_fteid-requires c = search tunnel_room

pub returns : goal.returns
returns c = search tunnel_steps
