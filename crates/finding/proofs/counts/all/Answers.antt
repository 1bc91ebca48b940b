-- `finding::counts::all` meets its contract: a broken table, or the numbers of the check.
-- Assumes nothing.
use native.Mathlib.Omega.{arith}
use Rattle.table.proofs.Examining.{count_add, count_less, addresses_less}
use Rattle.finding.proofs.ShareLaws.{counts_broken, told_room, told_settings, first_few, counts_told_lem}
use Rattle.finding.proofs.counts.all.Goals as goal

pub returns-in_default : goal.returns-in_default
returns-in_default c = search counts_broken

pub read-u-requires : goal.read-u-requires
read-u-requires c = search told_settings

pub read-n-requires : goal.read-n-requires
read-n-requires c = (search told_room, omega arith)

pub overflow_sub-result : goal.overflow_sub-result
overflow_sub-result c = search first_few

pub overflow_add-result : goal.overflow_add-result
overflow_add-result c = search count_add

pub overflow_sub-result-2 : goal.overflow_sub-result-2
overflow_sub-result-2 c = search count_less

pub overflow_sub-result-3 : goal.overflow_sub-result-3
overflow_sub-result-3 c = search addresses_less

pub returns : goal.returns
returns c = search counts_told_lem
