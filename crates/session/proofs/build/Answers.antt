use Rattle.session.proofs.Steps.{built_in_turn}
use Rattle.session.proofs.build.Goals as goal

pub returns : goal.returns
returns c = search built_in_turn
