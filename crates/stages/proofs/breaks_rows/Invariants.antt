-- `stages::breaks_rows` meets its contract. The rows that are left give the same answer. Assumes nothing.
use Rattle.std.proofs.Common.{◌≡◌, length}
use Rattle.plan.specs.RowRules.{held_in, marked_address}
use Rattle.unit.specs.Meaning.{settings_of}
use Rattle.stages.specs.RowRules.{breaks_row, some_row}
use Rattle.stages.proofs.breaks_rows.Given as goal

abbrev pub invariant-loop-row : goal.invariant-loop-row
invariant-loop-row l =
    let s = settings_of l.u in
    let breaks = breaks_row (held_in s l.taken) (marked_address s l.addresses) s l.restoring l.ids.pdrs.now l.ids.endpoints.now l.ids.gone.now l.rows in
    some_row breaks l.rest ≡ some_row breaks l.rows

abbrev pub decreases-loop-row : goal.decreases-loop-row
decreases-loop-row l = length l.rest
