-- `writing::write_own_fseid` meets its contract: nothing but in an establishment's reply; there the F-SEID with the unit's IPv4 address.
-- Assumes nothing.
use Rattle.writing.proofs.ElementSteps.{own_not, own_steps}
use Rattle.writing.proofs.write_own_fseid.Goals as goal

pub returns-then-kind-ne-ESTABLISHMENT_OCTET : goal.returns-then-kind-ne-ESTABLISHMENT_OCTET
returns-then-kind-ne-ESTABLISHMENT_OCTET c = search own_not

pub returns : goal.returns
returns c = search own_steps
