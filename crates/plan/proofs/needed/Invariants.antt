-- `plan::needed` meets its contract. The rows that are left need the rest. Assumes nothing.
use Rattle.std.proofs.Common.{◌≡◌, ◌+◌, ◌≤◌, length}
use Rattle.plan.proofs.NeededLaws.{needed_rows}
use Rattle.plan.proofs.needed.Given as goal

abbrev pub invariant-loop-row : goal.invariant-loop-row
invariant-loop-row l = (l.teids + length l.rest ≤ length l.rows) × (l.teids + needed_rows l.rest ≡ needed_rows l.rows)

abbrev pub decreases-loop-row : goal.decreases-loop-row
decreases-loop-row l = length l.rest
