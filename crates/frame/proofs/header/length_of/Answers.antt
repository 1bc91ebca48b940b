-- `length_of` meets its contract: S is the lowest bit. Assumes nothing.
use Rattle.frame.proofs.HeaderLaws.{length_with, length_without}
use Rattle.frame.proofs.header.length_of.Goals as goal

pub returns-then-x-eq1 : goal.returns-then-x-eq1
returns-then-x-eq1 c = length_with _ c.if-x-eq1.true

pub returns : goal.returns
returns c = length_without _ c.if-x-eq1.false
