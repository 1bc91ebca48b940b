-- `pfcp_session::pfcp_write_restoration` meets its contract.
-- Assumes nothing.
use Rattle.pfcp_session.specs.Calls.{restoration_call}
use Rattle.pfcp_session.proofs.pfcp_write_restoration.Goals as goal

pub returns-in-Ok : goal.returns-in-Ok
unfolding restoration_call
returns-in-Ok c = c.in-Ok.ensures

pub returns-in-Err : goal.returns-in-Err
unfolding restoration_call
returns-in-Err c = rw c.outcome.ensures c.in-Err.ensures
