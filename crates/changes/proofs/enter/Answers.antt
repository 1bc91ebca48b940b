-- `changes::enter` meets its contract.
-- Assumes nothing.
use Rattle.changes.proofs.Entering.{seek_room, place_there, fetched_new, fetched_old}
use borrow.Author.Rules.{rules}
use Rattle.changes.proofs.enter.Goals as goal

pub find-place-requires : goal.find-place-requires
find-place-requires c = search seek_room

pub returns-then-k-eq-ESTABLISHMENT : goal.returns-then-k-eq-ESTABLISHMENT
returns-then-k-eq-ESTABLISHMENT c = search fetched_new

pub load-requires : goal.load-requires
load-requires c = (search seek_room, search place_there, search rules)

pub returns : goal.returns
returns c = search fetched_old
