-- `records::settings_sound` meets its contract.
-- Assumes nothing.
use Rattle.std.proofs.Common.{arith}
use Rattle.std.proofs.lemmas.Grind.{common_steps}
use Rattle.octets.proofs.Digits.{octets_known}
use Rattle.records.proofs.Slots.{settings_law}
use Rattle.records.proofs.settings_sound.Goals as goal

pub returns-then-optional_sound : goal.returns-then-optional_sound
returns-then-optional_sound c = grind (arith, common_steps, settings_law c.args.slot.now c.told-slot (octets_known c.args.slot.now c.fits-slot))

pub returns-else-optional_sound : goal.returns-else-optional_sound
returns-else-optional_sound c = grind (arith, common_steps, settings_law c.args.slot.now c.told-slot (octets_known c.args.slot.now c.fits-slot))
