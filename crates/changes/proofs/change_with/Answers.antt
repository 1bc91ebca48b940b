-- `changes::change_with` meets its contract.
-- Assumes nothing.
use Rattle.changes.proofs.Changing.{fault_asks, fault_replies, reads, judged_replies, fetches, enters}
use borrow.Author.Rules.{rules}
use Rattle.changes.proofs.change_with.Goals as goal

pub refuse-used-requires : goal.refuse-used-requires
refuse-used-requires c = (search rules, search fault_asks, search rules)

pub returns-in-Err : goal.returns-in-Err
returns-in-Err c = search fault_replies

pub enter-told-requires : goal.enter-told-requires
enter-told-requires c = search (fetches, rules)

pub settle-used-requires : goal.settle-used-requires
settle-used-requires c =
    let p = c.requires in
    let r = reads p.0 c.read_request.ensures c.in-Ok.is c.enter-told.ensures in
    (r, p.1, search (enters, rules))

pub returns-in-Ok : goal.returns-in-Ok
returns-in-Ok c = judged_replies c.requires.0 c.read_request.ensures c.in-Ok.is c.settle-used.ensures
