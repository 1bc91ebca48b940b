-- `fteid::widths_of` meets its contract, by the test at each return. Assumes nothing.
use Rattle.fteid.proofs.ValueLaws.{widths_chosen, widths_given}
use Rattle.fteid.proofs.widths_of.Goals as goal

pub returns-then-f-eq1 : goal.returns-then-f-eq1
returns-then-f-eq1 c = widths_chosen _ c.if-f-eq1.true

pub returns : goal.returns
returns c = widths_given _ c.if-f-eq1.false
