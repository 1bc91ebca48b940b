-- `records::tunnel_sound` meets its contract.
-- Assumes nothing.
use Rattle.std.proofs.Common.{arith}
use Rattle.std.proofs.lemmas.Grind.{common_steps}
use Rattle.std.proofs.Common.{◌+◌, get_or}
use Rattle.records.proofs.Answers.{tunnel_is}
use Rattle.records.proofs.tunnel_sound.Goals as goal

pub returns-then-teid-u : goal.returns-then-teid-u
returns-then-teid-u c = grind (arith, common_steps, tunnel_is c.args.u _ (get_or c.args.slot.now (c.args.at + 4) 0) _ c.read-teid.ensures.0)

pub returns-else-teid-u : goal.returns-else-teid-u
returns-else-teid-u c = grind (arith, common_steps, tunnel_is c.args.u _ (get_or c.args.slot.now (c.args.at + 4) 0) _ c.read-teid.ensures.0)
