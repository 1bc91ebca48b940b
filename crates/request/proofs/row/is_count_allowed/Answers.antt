-- `is_count_allowed` meets its contract. Assumes nothing.
use native.Mathlib.Omega.{arith}
use Rattle.request.proofs.CsidLaws.{no_csids, one_csid, more_csids}
use Rattle.request.proofs.row.is_count_allowed.Goals as goal

pub returns-in-0 : goal.returns-in-0
returns-in-0 c = no_csids _ _ c.in-0.is

pub returns-in-1 : goal.returns-in-1
returns-in-1 c = one_csid _ _ c.in-1.is

pub returns-in_default : goal.returns-in_default
returns-in_default c = more_csids _ _ (grind arith) (grind arith)
