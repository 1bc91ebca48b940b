-- `pfcp_session::pfcp_request_once` meets its contract.
-- Assumes nothing.
use Rattle.pfcp_session.proofs.CallLaws.{call_once}
use Rattle.pfcp_session.proofs.pfcp_request_once.Goals as goal

pub returns : goal.returns
returns c = rw (c.tell_answer.ensures.outcome, c.tell_answer.ensures.used, c.tell_answer.ensures.place) (call_once _ _ _ _ _ _ c.serve_once-told.ensures)
