use Rattle.session.proofs.SavedSteps.{sessions_fit_lem, sessions_key, found_there}
use Rattle.session.proofs.find.Goals as goal

-- src/lib.rt:15:20
-- src/lib.rt:15:5
pub find_pair-requires : goal.find_pair-requires
find_pair-requires c = (search sessions_fit_lem, search sessions_key)

-- src/lib.rt:11:1
pub returns : goal.returns
returns c = search found_there
