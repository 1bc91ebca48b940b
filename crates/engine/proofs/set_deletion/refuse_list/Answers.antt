-- `engine::set_deletion::refuse_list` meets its contract. Assumes nothing.
use Rattle.changes.proofs.Refusals.{refused_answers}
use Rattle.engine.proofs.set_deletion.refuse_list.Goals as goal

pub returns : goal.returns
returns c = search refused_answers
