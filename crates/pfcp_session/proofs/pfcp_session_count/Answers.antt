-- `pfcp_session::pfcp_session_count` meets its contract.
-- Assumes nothing.
use Rattle.std.proofs.Common.{◌∙◌, arith}
use Rattle.pfcp_session.specs.Calls.{session_count_call}
use Rattle.pfcp_session.proofs.CallLaws.{count_fits}
use Rattle.pfcp_session.proofs.ToldLaws.{number_is, finding_out}
use Rattle.pfcp_session.proofs.pfcp_session_count.Goals as goal

pub overflow_cast-count : goal.overflow_cast-count
overflow_cast-count c = omega (arith, count_fits _ _ c.session_count-counted.ensures, number_is c.session_count-counted.result c.unwrap_or.ensures)

pub returns : goal.returns
unfolding session_count_call
returns c = finding_out c.session_count-counted.result c.outcome.ensures c.unwrap_or.ensures ∙ c.session_count-counted.ensures
