-- `engine::delete` meets its contract. Assumes nothing.
use borrow.Author.Rules.{rules}
use Rattle.octets.specs.Lists.{all}
use mathlib.Core.Path.{refl}
use native.Mathlib.Omega.{arith}
use Rattle.engine.proofs.Answering.{table_room}
use Rattle.engine.proofs.Deleted.{deleted_within, deleted_room, deleted_through}
use Rattle.engine.proofs.Faults.{frame_asks, frame_replies}
use Rattle.engine.proofs.delete.Goals as goal

pub refuse-used-requires : goal.refuse-used-requires
refuse-used-requires c = (search rules, search frame_asks, search rules)

pub returns-in-Err : goal.returns-in-Err
returns-in-Err c = search frame_replies

pub accepted-used-requires : goal.accepted-used-requires
unfolding all
accepted-used-requires c = (search rules, search rules, omega arith, tt, refl, search rules)

pub remove-requires : goal.remove-requires
remove-requires c = (search table_room, search deleted_within, search deleted_room)

pub returns : goal.returns
returns c = search deleted_through
