use Rattle.session.proofs.SavedSteps.{sessions_fit_lem, place_counted, count_within, removed_there}
use Rattle.session.proofs.remove.Goals as goal

pub remove-requires : goal.remove-requires
remove-requires c = (search sessions_fit_lem, search place_counted, search count_within)

pub returns : goal.returns
returns c = search removed_there
