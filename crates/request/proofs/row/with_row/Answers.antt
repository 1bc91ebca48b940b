-- `with_row` meets its contract. Assumes nothing.
use mathlib.Core.Path.{sym}
use Rattle.request.proofs.row.with_row.Goals as goal

pub returns-then-creates : goal.returns-then-creates
returns-then-creates c = sym (rw c.if-creates.true)

pub returns-else-creates : goal.returns-else-creates
returns-else-creates c = sym (rw c.if-creates.false)
