-- `restoration::write_area` meets its contract: what is written and what is left are the elements of all records.
-- Assumes nothing.
use Rattle.std.proofs.Common.{arith}
use Rattle.restoration.proofs.AreaLaws.{walk_none, walk_fits, walk_wide, walk_long, walk_room, walk_more, walk_all}
use Rattle.restoration.proofs.write_area.Goals as goal

pub loop-i-init : goal.loop-i-init
loop-i-init c = walk_none _ _ _ _ _ _ _ c.width-w.ensures c.requires.0 c.requires.1

pub slice_bounds-write_record-end : goal.slice_bounds-write_record-end
slice_bounds-write_record-end c = walk_long c.loop-i.invariant (omega arith)

pub write_record-next-requires : goal.write_record-next-requires
write_record-next-requires c = rw c.element_type.ensures (walk_fits c.loop-i.invariant (omega arith), walk_room c.loop-i.invariant (omega arith))

pub slice_bounds-rest-count : goal.slice_bounds-rest-count
slice_bounds-rest-count c = walk_wide c.loop-i.invariant (omega arith)

pub slice_bounds-rest-start : goal.slice_bounds-rest-start
slice_bounds-rest-start c = omega (arith, walk_wide c.loop-i.invariant (omega arith))

pub loop-i-preserved : goal.loop-i-preserved
loop-i-preserved c = walk_more c.loop-i.invariant (omega arith) (rw c.element_type.ensures at c.write_record-next.ensures) c.write_record-next.auto.out

pub returns : goal.returns
returns c = walk_all c.loop-i.invariant (omega arith)
