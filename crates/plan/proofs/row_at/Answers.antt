-- `plan::row_at` meets its contract. Assumes nothing.
use Rattle.std.proofs.Common.{lit<}
use Rattle.octets.specs.Octets.{slices}
use Rattle.octets.proofs.Loops.{left_part}
use Rattle.plan.proofs.row_at.Goals as goal

pub bounds-rows-0 : goal.bounds-rows-0
unfolding slices
bounds-rows-0 c = rw c.rows.ensures (lit< tt)

pub returns : goal.returns
unfolding slices
returns c = rw c.rows.ensures (rw left_part)
