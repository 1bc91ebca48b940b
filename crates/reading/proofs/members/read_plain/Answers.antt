-- `read_plain` meets its contract. Assumes nothing.
use Prim.Native.Nat.{◌≤◌}
use native.Mathlib.Omega.{arith}
use lib.ListN.{length-set}
use Rattle.reading.proofs.RowLaws.{column_low}
use Rattle.reading.proofs.MemberLaws.{plain_short, plain_long}
use Rattle.reading.proofs.members.read_plain.Goals as goal

pub returns-then-v-width : goal.returns-then-v-width
returns-then-v-width c = let p = c.requires in plain_short _ _ _ _ p.1 p.0 c.width_of-width.ensures c.if-v-width.true

pub offset_bounds-row-at : goal.offset_bounds-row-at
offset_bounds-row-at c = omega arith

pub bounds-row-at : goal.bounds-row-at
bounds-row-at c = omega arith

pub overflow_add-row : goal.overflow_add-row
overflow_add-row c = omega arith

pub offset_bounds-row-at-2 : goal.offset_bounds-row-at-2
offset_bounds-row-at-2 c = omega arith

pub bounds-row-at-2 : goal.bounds-row-at-2
bounds-row-at-2 c =
    let low : c.column_of-at.result ≤ 5 = let h = column_low _ c.requires.1 in omega (arith, c.column_of-at.ensures.0) in
    let h = low in simp length-set (omega arith)

pub shape_of-row : goal.shape_of-row
shape_of-row c = simp length-set

pub returns : goal.returns
returns c = let p = c.requires in plain_long _ _ _ _ p.1 p.0 c.width_of-width.ensures c.if-v-width.false c.number_of-n.ensures c.column_of-at.ensures.0
