-- `areas::slots::reaches` meets its contract. Assumes nothing.
use Rattle.areas.proofs.PairLaws.{pair_below, pair_above, pair_beside}
use Rattle.areas.proofs.slots.reaches.Goals as goal

pub returns-then-y-hi : goal.returns-then-y-hi
returns-then-y-hi c = search pair_below

pub returns-then-hi-y : goal.returns-then-hi-y
returns-then-hi-y c = search pair_above

pub returns : goal.returns
returns c = search pair_beside
