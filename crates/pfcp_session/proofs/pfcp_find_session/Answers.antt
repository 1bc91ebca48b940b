-- `pfcp_session::pfcp_find_session` meets its contract.
-- Assumes nothing.
use Rattle.std.proofs.Common.{◌∙◌}
use Rattle.pfcp_session.specs.Calls.{find_session_call}
use Rattle.pfcp_session.proofs.ToldLaws.{finding_out}
use Rattle.pfcp_session.proofs.pfcp_find_session.Goals as goal

pub returns : goal.returns
unfolding find_session_call
returns c = finding_out c.find_session-found.result c.outcome.ensures c.unwrap_or.ensures ∙ c.find_session-found.ensures
