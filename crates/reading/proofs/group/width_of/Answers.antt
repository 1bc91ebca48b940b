-- `width_of` meets its contract. Assumes nothing.
use native.Mathlib.Omega.{arith}
use Rattle.reading.proofs.Places.{two_octets, four_octets_lem, one_octet}
use Rattle.reading.proofs.group.width_of.Goals as goal

pub returns-in-56 : goal.returns-in-56
returns-in-56 c = two_octets _ c.in-56.is

pub returns-in-29 : goal.returns-in-29
returns-in-29 c = four_octets_lem _ c.in-29.is

pub returns-in_default : goal.returns-in_default
returns-in_default c = one_octet _ (grind arith) (grind arith)
