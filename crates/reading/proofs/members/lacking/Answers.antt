-- `lacking` meets its contract: each arm has the types that its group requires, in order. Assumes nothing.
use native.Mathlib.Omega.{arith}
use Rattle.reading.proofs.GroupLaws.{required_and, and_four, ends_pdi, ends_create, ends_endpoint, ends_pdr, ends_other}
use Rattle.reading.proofs.members.lacking.Goals as goal

pub returns-in-1 : goal.returns-in-1
returns-in-1 c =
    rw (and_four c.require.result c.require-in-1.result c.require-in-1-2.result c.require-in-1-3.result _ _ c.and-in-1-2.result c.and.ensures c.and-in-1.ensures c.and-in-1-2.ensures)
    (ends_create _ c.requires _ _ c.in-1.is c.require-in-1-3.ensures (required_and _ _ _ _ _ _ c.require-in-1-2.ensures) (required_and _ _ _ _ _ _ c.require-in-1.ensures) (required_and _ _ _ _ _ _ c.require.ensures))

pub returns-in-2 : goal.returns-in-2
returns-in-2 c = ends_pdi _ c.requires _ _ c.in-2.is c.require-in-2.ensures

pub returns-in-127 : goal.returns-in-127
returns-in-127 c = rw c.and-in-127.ensures (ends_endpoint _ c.requires _ _ c.in-127.is c.require-in-127-2.ensures (required_and _ _ _ _ _ _ c.require-in-127.ensures))

pub returns-in-9 : goal.returns-in-9
returns-in-9 c = ends_pdr _ c.requires _ _ c.in-9.is c.require-in-9.ensures

pub returns-in_default : goal.returns-in_default
returns-in_default c =
    ends_other _ c.requires _ _ (grind arith) (grind arith) (grind arith) (grind arith) c.require-in_default.ensures
