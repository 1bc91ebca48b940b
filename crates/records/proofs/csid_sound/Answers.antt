-- `records::csid_sound` meets its contract.
-- Assumes nothing.
use Rattle.std.proofs.Common.{arith}
use Rattle.std.proofs.lemmas.Grind.{common_steps}
use Rattle.octets.proofs.Digits.{octets_known}
use Rattle.records.proofs.Answers.{csid_is}
use Rattle.records.proofs.csid_sound.Goals as goal

pub returns-then-type_sound : goal.returns-then-type_sound
returns-then-type_sound c = grind (arith, common_steps, csid_is c.args.slot.now c.told-slot (octets_known c.args.slot.now c.fits-slot))

pub returns-else-type_sound : goal.returns-else-type_sound
returns-else-type_sound c = grind (arith, common_steps, csid_is c.args.slot.now c.told-slot (octets_known c.args.slot.now c.fits-slot))
