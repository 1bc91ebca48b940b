use borrow.Author.Rules.{rules}
use Rattle.areas.proofs.Steps.{room_counted, removed_in_lem}
use Rattle.areas.proofs.remove.Goals as goal

-- src/lib.rt:57:9
-- src/lib.rt:59:19
-- src/lib.rt:59:19
-- src/lib.rt:59:19
-- src/lib.rt:59:5
pub remove-requires : goal.remove-requires
remove-requires c = (search rules, search room_counted)

-- src/lib.rt:60:50
-- src/lib.rt:60:5
-- src/lib.rt:53:1
-- src/lib.rt:53:1
pub returns : goal.returns
returns c = search removed_in_lem
