-- `created::fill`: the first i entries are those of the rows.
-- Assumes nothing.
use Rattle.std.proofs.Common.{◌≡◌}
use Rattle.created.specs.Entries.{entry_at, filled}
use Rattle.created.proofs.fill.Given as goal

abbrev pub invariant-loop-i : goal.invariant-loop-i
invariant-loop-i l = l.grants ≡ filled (entry_at l.plan l.places) l.i l.initial.grants
