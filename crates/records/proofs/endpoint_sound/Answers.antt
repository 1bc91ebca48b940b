-- `records::endpoint_sound` meets its contract.
-- Assumes nothing.
use Rattle.std.proofs.Common.{arith}
use Rattle.std.proofs.lemmas.Grind.{common_steps}
use Rattle.octets.proofs.Digits.{octets_known}
use Rattle.records.proofs.Answers.{endpoint_is}
use Rattle.records.proofs.endpoint_sound.Goals as goal

pub returns-then-field_sound : goal.returns-then-field_sound
returns-then-field_sound c = grind (arith, common_steps, endpoint_is c.args.u c.requires c.args.slot.now c.told-slot (octets_known c.args.slot.now c.fits-slot))

pub returns-else-field_sound : goal.returns-else-field_sound
returns-else-field_sound c = grind (arith, common_steps, endpoint_is c.args.u c.requires c.args.slot.now c.told-slot (octets_known c.args.slot.now c.fits-slot))
