-- `records::match_sound` meets its contract.
-- Assumes nothing.
use Rattle.std.proofs.Common.{arith}
use Rattle.std.proofs.lemmas.Grind.{common_steps}
use Rattle.records.specs.Kept.{ids_of}
use Rattle.records.proofs.Answers.{stray, match_zero}
use Rattle.records.proofs.match_sound.Goals as goal

pub returns-then-is_zero : goal.returns-then-is_zero
returns-then-is_zero c = grind (arith, common_steps, stray c.args.u (ids_of c.args.ends.now) c.args.slot.now)

pub returns-else-is_zero : goal.returns-else-is_zero
returns-else-is_zero c = grind (arith, common_steps, stray c.args.u (ids_of c.args.ends.now) c.args.slot.now)

pub returns-in_default : goal.returns-in_default
returns-in_default c = grind (arith, common_steps, match_zero c.args.u (ids_of c.args.ends.now) c.args.slot.now)
