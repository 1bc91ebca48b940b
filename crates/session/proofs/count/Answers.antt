-- `session::count` meets its contract. Assumes nothing.
use Rattle.session.proofs.SavedSteps.{sessions_fit_lem, counted_there}
use Rattle.session.proofs.count.Goals as goal

pub count-requires : goal.count-requires
count-requires c = search sessions_fit_lem

pub returns : goal.returns
returns c = search counted_there
