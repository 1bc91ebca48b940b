-- `frame::opens` meets its contract: the keys of the arms on the way are the lists of `opened_in`. Assumes nothing.
use native.Mathlib.Omega.{arith}
use Rattle.frame.proofs.Among.{any_open, any_shut, any_inside, change_open, change_shut, change_inside, pdi_open, pdi_shut, none_open}
use Rattle.frame.proofs.opens.Goals as goal

pub returns-in-50 : goal.returns-in-50
returns-in-50 c = any_open _ _ _ c.in-1.is c.in-0.is c.in-50.is

pub returns-in_default-message : goal.returns-in_default-message
returns-in_default-message c = any_shut _ _ _ c.in-1.is c.in-0.is (grind arith)

pub returns-in_default-group : goal.returns-in_default-group
returns-in_default-group c = any_inside _ _ _ c.in-1.is (grind arith)

pub returns-in-52 : goal.returns-in-52
returns-in-52 c = change_open _ _ _ c.in-9.is c.in-0-group.is c.in-52.is

pub returns-in_default-message-2 : goal.returns-in_default-message-2
returns-in_default-message-2 c = change_shut _ _ _ c.in-9.is c.in-0-group.is (grind arith)

pub returns-in_default-group-2 : goal.returns-in_default-group-2
returns-in_default-group-2 c = change_inside _ _ _ c.in-9.is (grind arith)

pub returns-in-1-group : goal.returns-in-1-group
returns-in-1-group c = pdi_open _ _ _ c.in-2.is c.in-1-group.is

pub returns-in_default-group-3 : goal.returns-in_default-group-3
returns-in_default-group-3 c = pdi_shut _ _ _ c.in-2.is (grind arith)

pub returns-in-32768-to-65535 : goal.returns-in-32768-to-65535
returns-in-32768-to-65535 c = none_open _ _ _ (grind arith) (grind arith) (grind arith)

pub returns-in_default : goal.returns-in_default
returns-in_default c = none_open _ _ _ (grind arith) (grind arith) (grind arith)

pub returns-in_default-2 : goal.returns-in_default-2
returns-in_default-2 c = none_open _ _ _ (grind arith) (grind arith) (grind arith)
