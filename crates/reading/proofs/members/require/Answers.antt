-- `require` meets its contract. Assumes nothing.
use native.Mathlib.Omega.{arith}
use mathlib.Core.Path.{sym}
use borrow.Author.Tests.{ne_eqb}
use Rattle.reading.proofs.members.require.Goals as goal

pub offset_bounds-row-column_of : goal.offset_bounds-row-column_of
offset_bounds-row-column_of c = omega arith

pub bounds-row-column_of : goal.bounds-row-column_of
bounds-row-column_of c = omega arith

pub returns-then-row-column_of-eq0 : goal.returns-then-row-column_of-eq0
returns-then-row-column_of-eq0 c = sym (rw (← c.column_of.ensures.0, c.if-row-column_of-eq0.true))

pub returns : goal.returns
returns c = sym (rw (← c.column_of.ensures.0, ne_eqb _ 0 c.if-row-column_of-eq0.false))
