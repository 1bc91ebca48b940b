-- `records::optional_sound` meets its contract.
-- Assumes nothing.
use Rattle.std.proofs.Common.{◌+◌, arith}
use Rattle.std.proofs.lemmas.Grind.{common_steps}
use Rattle.octets.specs.Octets.{part}
use Rattle.octets.proofs.FieldLaws.{zero_number}
use Rattle.records.proofs.optional_sound.Goals as goal

pub returns-in-0 : goal.returns-in-0
returns-in-0 c = grind (arith, common_steps, zero_number (part (c.args.at + 1) c.args.n c.args.slot.now))
