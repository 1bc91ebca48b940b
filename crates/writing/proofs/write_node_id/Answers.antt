-- `writing::write_node_id` meets its contract: nothing but in the replies that have it; there the element of a zero and the address.
-- Assumes nothing.
use borrow.Author.Tests.{not-true, not-false}
use Rattle.writing.proofs.ElementSteps.{node_not, node_steps}
use Rattle.writing.proofs.write_node_id.Goals as goal

pub returns-then-not-has_node_id : goal.returns-then-not-has_node_id
returns-then-not-has_node_id c = search (node_not, not-true)

pub returns : goal.returns
returns c = search (node_steps, not-false)
