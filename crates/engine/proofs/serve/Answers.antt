-- `engine::serve` meets its contract: a number that is no peer's, then the peer's request. Assumes nothing.
use mathlib.Core.Path.{refl}
use Rattle.engine.proofs.Serving.{serves_none, is_peers}
use Rattle.engine.proofs.serve.Goals as goal

pub returns-then-not-is_peer : goal.returns-then-not-is_peer
returns-then-not-is_peer c = serves_none _ _ _ _ c.is_peer.ensures c.if-not-is_peer.true-raw (refl, refl, refl)

pub serve_of-requires : goal.serve_of-requires
serve_of-requires c = search is_peers
