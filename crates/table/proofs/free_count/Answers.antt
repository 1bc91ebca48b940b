-- `table::free_count` meets its contract.
-- Assumes nothing.
use native.Mathlib.Omega.{arith}
use Rattle.std.proofs.lemmas.Result.{err_from_is_err_and}
use Rattle.table.proofs.Examining.{count_broken, count_free_lem, count_long, count_add, count_less}
use Rattle.table.proofs.free_count.Goals as goal

pub returns-in_err-held : goal.returns-in_err-held
returns-in_err-held c = rw (err_from_is_err_and c.from_residual.result c.from_residual.ensures.1).1 (count_broken _ _ c.tally.ensures c.in_err-held.was)

pub read-requires : goal.read-requires
read-requires c = omega (arith, count_long _ _ c.tally.ensures _ c.in_ok-held.was)

pub overflow_add-result : goal.overflow_add-result
overflow_add-result c = omega (arith, count_add _ _ c.tally.ensures _ c.in_ok-held.was)

pub overflow_sub-result : goal.overflow_sub-result
overflow_sub-result c = count_less _ _ c.tally.ensures _ c.in_ok-held.was _ c.read.ensures

pub returns : goal.returns
returns c = count_free_lem _ _ c.tally.ensures _ c.in_ok-held.was _ c.read.ensures
