-- `records::type_sound` meets its contract.
-- Assumes nothing.
use Rattle.octets.proofs.Digits.{octets_known}
use Rattle.records.proofs.Answers.{type_law}
use Rattle.records.proofs.type_sound.Goals as goal

pub returns : goal.returns
returns c = type_law c.args.slot.now c.told-slot (octets_known c.args.slot.now c.fits-slot) c.read.result c.read.ensures.0 c.read.ensures.1
