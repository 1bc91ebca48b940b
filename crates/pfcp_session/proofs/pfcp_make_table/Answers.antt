-- `pfcp_session::pfcp_make_table` meets its contract.
-- Assumes nothing.
use Rattle.pfcp_session.proofs.CallLaws.{call_answer}
use Rattle.pfcp_session.proofs.pfcp_make_table.Goals as goal

pub returns-in-Ok : goal.returns-in-Ok
returns-in-Ok c = call_answer _ _ _ c.in-Ok.ensures

pub returns-in-Err : goal.returns-in-Err
returns-in-Err c = call_answer _ _ _ c.in-Err.ensures
