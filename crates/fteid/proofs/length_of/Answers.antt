-- `fteid::length_of` meets its contract, by the test at each return. Assumes nothing.
use Rattle.fteid.proofs.ValueLaws.{length_chosen, length_given}
use Rattle.fteid.proofs.length_of.Goals as goal

pub returns-then-f-eq1 : goal.returns-then-f-eq1
returns-then-f-eq1 c = length_chosen _ c.if-f-eq1.true

pub returns : goal.returns
returns c = length_given _ c.if-f-eq1.false
