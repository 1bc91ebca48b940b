-- No more tables are counted than octets were passed. Assumes nothing.
use Rattle.std.proofs.Common.{◌≤◌}
use Rattle.damage.proofs.count_sound.Given as goal

abbrev pub invariant-loop-i : goal.invariant-loop-i
invariant-loop-i l = l.sound ≤ l.i
