use Rattle.areas.proofs.Steps.{room_from, place_none, place_pair, pair_wide}
use Rattle.areas.proofs.find_pair.Goals as goal

-- src/lib.rt:33:9
-- src/lib.rt:35:9
pub returns-then-a-n : goal.returns-then-a-n
returns-then-a-n c = search place_none

-- src/lib.rt:38:17
-- src/lib.rt:38:17
-- src/lib.rt:38:17
-- src/lib.rt:38:5
pub find_pair-requires : goal.find_pair-requires
find_pair-requires c = (search room_from, search pair_wide)

-- src/lib.rt:29:1
pub returns : goal.returns
returns c = search place_pair
