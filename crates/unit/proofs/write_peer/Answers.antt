-- `unit::write_peer` meets its contract. Assumes nothing.
use Rattle.unit.proofs.WriteLaws.{peer_steps}
use Rattle.unit.proofs.write_peer.Goals as goal

pub returns : goal.returns
returns c = search peer_steps
