-- `changes::refuse` meets its contract.
-- Assumes nothing.
use Rattle.changes.proofs.Refusals.{refused_answers}
use Rattle.changes.proofs.refuse.Goals as goal

pub returns : goal.returns
returns c = search refused_answers
