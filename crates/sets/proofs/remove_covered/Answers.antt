-- `sets::remove_covered` meets its contract: from the last place to the first. Assumes nothing.
use native.Mathlib.Omega.{arith}
use Rattle.sets.proofs.GoneLaws.{count_room, going_none, going_counted, going_within, going_few, going_more, going_end, going_same, going_long}
use Rattle.sets.proofs.remove_covered.Goals as goal

pub read-room-requires : goal.read-room-requires
read-room-requires c = let l = c.requires.0.long in omega arith

pub count-n-requires : goal.count-n-requires
count-n-requires c = search count_room

pub loop-p-init : goal.loop-p-init
loop-p-init c = search going_none

pub remove_one-requires : goal.remove_one-requires
remove_one-requires c = let g = c.loop-p.invariant in (going_long g, going_counted g (omega arith), going_within g (omega arith), going_few g (omega arith), c.requires.1)

pub loop-p-preserved : goal.loop-p-preserved
loop-p-preserved c = going_more c.loop-p.invariant (omega arith) c.remove_one.ensures

pub shape_of-t : goal.shape_of-t
shape_of-t c = going_same c.loop-p.invariant c.requires.0

pub returns : goal.returns
returns c = going_end c.loop-p.invariant (omega arith)
