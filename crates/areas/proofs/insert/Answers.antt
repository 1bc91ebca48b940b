use borrow.Author.Rules.{rules}
use Rattle.areas.proofs.Steps.{after_counted, inserted_in_lem}
use Rattle.areas.proofs.insert.Goals as goal

-- src/lib.rt:46:9
-- src/lib.rt:48:19
-- src/lib.rt:48:19
-- src/lib.rt:48:19
-- src/lib.rt:48:5
pub insert-requires : goal.insert-requires
insert-requires c = (search rules, search after_counted)

-- src/lib.rt:49:50
-- src/lib.rt:49:5
-- src/lib.rt:42:1
-- src/lib.rt:42:1
pub returns : goal.returns
returns c = search inserted_in_lem
