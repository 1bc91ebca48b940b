-- `engine::shares::share` meets its contract. Assumes nothing.
use mathlib.Core.Path.{refl}
use Rattle.engine.proofs.Sharing.{first_fits, first_share, second_fits, count_room, first_within, second_share}
use Rattle.engine.proofs.shares.share.Goals as goal

pub room-teids-requires : goal.room-teids-requires
room-teids-requires c = let p = c.requires in first_fits _ p.0 p.1 c.if-peer-eq1.true c.due-due.ensures

pub returns-then-peer-eq1 : goal.returns-then-peer-eq1
returns-then-peer-eq1 c = (refl, search first_share)

pub room-teids-requires-2 : goal.room-teids-requires-2
room-teids-requires-2 c = let p = c.requires in second_fits _ p.0 p.1 c.if-peer-eq1.false c.due-due-2.ensures

pub count-requires : goal.count-requires
count-requires c = search count_room

pub overflow_sub-second : goal.overflow_sub-second
overflow_sub-second c = search first_within

pub returns : goal.returns
returns c = (refl, search second_share)
