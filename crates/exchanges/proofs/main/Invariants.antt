-- `exchanges::main`: the table stays within its room. Assumes nothing.
use Rattle.std.proofs.Common.{◌≤◌}
use Rattle.exchanges.proofs.main.Given as goal

abbrev pub invariant-loop-part : goal.invariant-loop-part
invariant-loop-part l = l.unit.table.end ≤ 9729
