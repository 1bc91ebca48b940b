-- `reply::write_offending` meets its contract: the element that the case says.
-- Assumes nothing.
use Rattle.rules.specs.Reply.{offending_element}
use Rattle.writing.proofs.PlacedLaws.{placed_none}
use Rattle.reply.proofs.write_offending.Goals as goal

pub returns-in-None : goal.returns-in-None
unfolding offending_element
returns-in-None c = let a = c.args in rw c.in-None.is (placed_none a.out.now a.at)

pub returns-in-Some : goal.returns-in-Some
returns-in-Some c = rw c.in-Some.is c.write_offending.ensures
