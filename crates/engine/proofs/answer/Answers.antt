-- `engine::answer` meets its contract.
-- Assumes nothing.
use Rattle.engine.proofs.Answering.{table_room, establishes, absent_refuses, absent_replies, named_at, deletes, modifies}
use mathlib.Core.Path.{sym}
use borrow.Author.Rules.{rules}
use Rattle.engine.proofs.answer.Goals as goal

pub change-requires : goal.change-requires
change-requires c = (search establishes, search rules)

pub find-requires : goal.find-requires
find-requires c = search table_room

pub refuse-used-requires : goal.refuse-used-requires
refuse-used-requires c = (search rules, search absent_refuses, search rules)

pub returns-in-Err : goal.returns-in-Err
returns-in-Err c = search absent_replies

pub delete-requires : goal.delete-requires
delete-requires c =
    let b = c in
    let p = c.requires in
    let at = named_at c.args.k p.0 p.2 c.if-k-eq-ESTABLISHMENT.false p.3 p.1.settings c.find.ensures c.in-Ok.is in
    (p.0, at.0, deletes c.args.k p.0 p.2 c.if-k-eq-DELETION.true, at.1, p.1.settings)

pub change-requires-in-Ok : goal.change-requires-in-Ok
change-requires-in-Ok c =
    let p = c.requires in
    (modifies _ p.0 p.2 c.if-k-eq-ESTABLISHMENT.false p.3 p.1.settings c.find.ensures c.in-Ok.is c.if-k-eq-DELETION.false, p.1)
