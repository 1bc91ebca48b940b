-- `table::length_for` meets its contract.
-- Assumes nothing.
use Rattle.table.proofs.MakeLaws.{length_refused, length_allowed}
use Rattle.table.proofs.length_for.Goals as goal

pub returns-then-not-limit_allowed : goal.returns-then-not-limit_allowed
returns-then-not-limit_allowed c = search length_refused

pub returns : goal.returns
returns c = search length_allowed
