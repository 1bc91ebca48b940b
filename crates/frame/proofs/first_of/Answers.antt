-- `frame::first_of` meets its contract. Assumes nothing.
use Rattle.frame.proofs.Front.{first_short, first_over, first_whole}
use Rattle.frame.proofs.first_of.Goals as goal

pub returns-then-s-lt4 : goal.returns-then-s-lt4
returns-then-s-lt4 c = first_short _ c.if-s-lt4.true

pub returns-then-s-end : goal.returns-then-s-end
returns-then-s-end c = first_over _ c.if-s-lt4.false _ _ c.read-kind.ensures.0 c.read.ensures.0 c.if-s-end.true

pub returns : goal.returns
returns c = first_whole _ c.if-s-lt4.false _ _ c.read-kind.ensures.0 c.read.ensures.0 c.if-s-end.false
