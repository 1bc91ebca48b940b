-- `records::pdr_sound` meets its contract.
-- Assumes nothing.
use Rattle.std.proofs.Common.{arith}
use Rattle.std.proofs.lemmas.Grind.{common_steps}
use Rattle.octets.proofs.Digits.{octets_known}
use Rattle.records.specs.Kept.{ids_of}
use Rattle.records.proofs.Answers.{pdr_turns}
use Rattle.records.proofs.pdr_sound.Goals as goal

pub returns-then-field_sound-2 : goal.returns-then-field_sound-2
returns-then-field_sound-2 c = grind (arith, common_steps, pdr_turns c.args.u (ids_of c.args.ends.now) c.args.slot.now c.requires c.told-slot (octets_known c.args.slot.now c.fits-slot))

pub returns-else-field_sound-2 : goal.returns-else-field_sound-2
returns-else-field_sound-2 c = grind (arith, common_steps, pdr_turns c.args.u (ids_of c.args.ends.now) c.args.slot.now c.requires c.told-slot (octets_known c.args.slot.now c.fits-slot))
