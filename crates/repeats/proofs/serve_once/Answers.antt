-- `repeats::serve_once` meets its contract: no peer's, or a peer's request. Assumes nothing.
use mathlib.Core.Path.{refl, sym, ◌∙◌}
use borrow.Author.Tests.{not-true, not-false}
use Rattle.octets.proofs.Tests.{of_true}
use Rattle.repeats.proofs.OnceLaws.{once_stranger}
use Rattle.repeats.proofs.serve_once.Goals as goal

pub returns-then-not-is_peer : goal.returns-then-not-is_peer
returns-then-not-is_peer c = once_stranger _ _ _ _ _ _ _ _ _ c.is_peer.ensures (not-true _ c.if-not-is_peer.true-raw) (refl, refl, refl)

pub serve_peer-requires : goal.serve_peer-requires
serve_peer-requires c = of_true (sym c.is_peer.ensures ∙ not-false _ c.if-not-is_peer.false-raw)

pub returns : goal.returns
returns c = c.serve_peer.ensures
