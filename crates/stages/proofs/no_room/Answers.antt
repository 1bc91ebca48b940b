-- `stages::no_room` meets its contract. Assumes nothing.
use Rattle.std.proofs.Common.{arith}
use Rattle.stages.proofs.CountLaws.{room_row}
use Rattle.stages.proofs.no_room.Goals as goal

pub returns-then-too_many-2 : goal.returns-then-too_many-2
returns-then-too_many-2 c = let e = room_row c.args.k.kind _ _ _ _ _ _ _ c.requires.2 c.requires.0.few in grind (arith, e)

pub returns-else-too_many-2 : goal.returns-else-too_many-2
returns-else-too_many-2 c = let e = room_row c.args.k.kind _ _ _ _ _ _ _ c.requires.2 c.requires.0.few in grind (arith, e)
