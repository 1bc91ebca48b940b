-- `pfcp_session::pfcp_request` meets its contract.
-- Assumes nothing.
use Rattle.pfcp_session.proofs.CallLaws.{call_request}
use Rattle.pfcp_session.proofs.pfcp_request.Goals as goal

pub returns : goal.returns
returns c = rw (c.tell_answer.ensures.outcome, c.tell_answer.ensures.used, c.tell_answer.ensures.place) (call_request c.serve-answer.ensures)
