-- `areas::slots::is_pair` meets its contract. Assumes nothing.
use Rattle.areas.proofs.PairLaws.{pair_less, pair_more, pair_equal}
use Rattle.areas.proofs.slots.is_pair.Goals as goal

pub returns-then-y-hi : goal.returns-then-y-hi
returns-then-y-hi c = search pair_less

pub returns-then-hi-y : goal.returns-then-hi-y
returns-then-hi-y c = search pair_more

pub returns : goal.returns
returns c = search pair_equal
