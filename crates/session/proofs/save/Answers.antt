-- `session::save` meets its contract. Assumes nothing.
use Rattle.session.proofs.SavedSteps.{sessions_fit_lem, session_wide, place_there, saved_there}
use Rattle.session.proofs.save.Goals as goal

pub put_at-requires : goal.put_at-requires
put_at-requires c = (search sessions_fit_lem, search session_wide, search place_there)

pub returns : goal.returns
returns c = search saved_there
