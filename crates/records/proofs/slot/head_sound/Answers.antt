-- `records::slot::head_sound` meets its contract.
-- Assumes nothing.
use Rattle.std.proofs.Common.{arith}
use Rattle.std.proofs.lemmas.Grind.{common_steps}
use Rattle.octets.specs.Octets.{number_at, octet_at}
use Rattle.records.specs.Slot.{head_sound}
use Rattle.records.proofs.slot.head_sound.Goals as goal

pub returns-then-slot-le-MAX_ENDPOINTS : goal.returns-then-slot-le-MAX_ENDPOINTS
unfolding head_sound number_at octet_at
returns-then-slot-le-MAX_ENDPOINTS c = grind (arith, common_steps)

pub returns-else-slot-le-MAX_ENDPOINTS : goal.returns-else-slot-le-MAX_ENDPOINTS
unfolding head_sound number_at octet_at
returns-else-slot-le-MAX_ENDPOINTS c = grind (arith, common_steps)
