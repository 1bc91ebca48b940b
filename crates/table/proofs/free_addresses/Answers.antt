-- `table::free_addresses` meets its contract.
-- Assumes nothing.
use native.Mathlib.Omega.{arith}
use Rattle.std.proofs.lemmas.Result.{err_from_is_err_and}
use Rattle.table.proofs.Examining.{addresses_broken, addresses_free_lem, count_long, addresses_less}
use Rattle.table.proofs.free_addresses.Goals as goal

pub returns-in_err-held : goal.returns-in_err-held
returns-in_err-held c = rw (err_from_is_err_and c.from_residual.result c.from_residual.ensures.1).1 (addresses_broken _ _ c.tally.ensures c.in_err-held.was)

pub read-requires : goal.read-requires
read-requires c = omega (arith, count_long _ _ c.tally.ensures _ c.in_ok-held.was)

pub overflow_sub-result : goal.overflow_sub-result
overflow_sub-result c = addresses_less _ _ c.tally.ensures _ c.in_ok-held.was _ c.read.ensures

pub returns : goal.returns
returns c = addresses_free_lem _ _ c.tally.ensures _ c.in_ok-held.was _ c.read.ensures
