-- `finding::peer_count` meets its contract: no peer, a broken table, or its share of all counts.
-- Assumes nothing.
use Rattle.std.specs.Prelude.{Ok, refl}
use Rattle.std.proofs.lemmas.Result.{err_from_is_err_and}
use Rattle.finding.specs.All.{counts_told}
use Rattle.finding.proofs.ShareLaws.{share_stranger, share_none, share_first, share_second}
use Rattle.finding.proofs.peer_count.Goals as goal

pub returns-then-not-is_peer : goal.returns-then-not-is_peer
returns-then-not-is_peer c = search share_stranger

pub returns-in_err-all : goal.returns-in_err-all
returns-in_err-all c =
    let p = err_from_is_err_and c.from_residual.result c.from_residual.ensures.1 in
    rw (p.1, p.2) (share_none _ _ _ c.is_peer.ensures c.if-not-is_peer.false-raw _ c.in_err-all.ensures)

pub returns-then-peer-eq1 : goal.returns-then-peer-eq1
returns-then-peer-eq1 c = share_first _ _ _ c.is_peer.ensures c.if-not-is_peer.false-raw (counts_told (Ok c.in_ok-all.all)) refl c.in_ok-all.ensures c.if-peer-eq1.true

pub returns-else-peer-eq1 : goal.returns-else-peer-eq1
returns-else-peer-eq1 c = share_second _ _ _ c.is_peer.ensures c.if-not-is_peer.false-raw (counts_told (Ok c.in_ok-all.all)) refl c.in_ok-all.ensures c.if-peer-eq1.false
