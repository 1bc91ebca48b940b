use Rattle.session.proofs.SavedSteps.{fresh_made}
use Rattle.session.proofs.fresh.Goals as goal

-- src/lib.rt:33:5
-- src/lib.rt:34:5
-- src/lib.rt:29:1
-- src/lib.rt:29:1
pub returns : goal.returns
returns c = search fresh_made
