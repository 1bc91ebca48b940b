-- `engine::shares::room` meets its contract. Assumes nothing.
use Rattle.engine.proofs.Sharing.{room_rest, room_limit}
use Rattle.engine.proofs.shares.room.Goals as goal

pub returns-then-rest-limit : goal.returns-then-rest-limit
returns-then-rest-limit c = search room_rest

pub returns : goal.returns
returns c = search room_limit
