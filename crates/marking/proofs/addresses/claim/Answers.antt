-- `marking::addresses::claim` meets its contract.
-- Assumes nothing.
use Rattle.marking.proofs.AddressSteps.{claim_new, claim_clash, claim_own}
use Rattle.marking.proofs.addresses.claim.Goals as goal

pub mark-requires : goal.mark-requires
mark-requires c = search c.requires.room

pub returns-then-holder-eq0 : goal.returns-then-holder-eq0
returns-then-holder-eq0 c = search claim_new

pub returns-then-holder-turn : goal.returns-then-holder-turn
returns-then-holder-turn c = search claim_clash

pub returns : goal.returns
returns c = search claim_own
