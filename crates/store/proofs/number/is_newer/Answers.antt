-- `store::number::is_newer` meets its contract. Assumes nothing.
use Rattle.store.proofs.NumberLaws.{equal_not_newer, by_difference}
use Rattle.store.proofs.number.is_newer.Goals as goal

pub returns-then-past-ne0 : goal.returns-then-past-ne0
returns-then-past-ne0 c = by_difference _ _ c.requires.0 c.requires.1 c.if-past-ne0.true

pub returns-else-past-ne0 : goal.returns-else-past-ne0
returns-else-past-ne0 c = rw c.if-past-ne0.false (equal_not_newer _ _ c.requires.0 c.requires.1 c.if-past-ne0.false)
