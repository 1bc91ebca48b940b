-- `session::pass` meets its contract: to pass over the rows that are left passes over all. Assumes nothing.
use Rattle.std.proofs.Common.{◌≡◌, drop}
use Rattle.session.specs.Build.{passed}
use Rattle.session.proofs.pass.Given as goal

abbrev pub invariant-loop-row : goal.invariant-loop-row
invariant-loop-row l = passed l.kind (drop l.row-index l.rows) l.slot ≡ passed l.kind l.rows l.initial.slot
