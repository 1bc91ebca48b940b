-- `unit::read_peer` meets its contract. Assumes nothing.
use Rattle.unit.proofs.ReadLaws.{peer_is}
use Rattle.unit.proofs.read_peer.Goals as goal

pub returns : goal.returns
returns c = search peer_is
