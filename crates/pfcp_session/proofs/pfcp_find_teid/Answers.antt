-- `pfcp_session::pfcp_find_teid` meets its contract.
-- Assumes nothing.
use Rattle.std.proofs.Common.{◌∙◌}
use Rattle.pfcp_session.specs.Calls.{find_teid_call}
use Rattle.pfcp_session.proofs.ToldLaws.{finding_out}
use Rattle.pfcp_session.proofs.pfcp_find_teid.Goals as goal

pub returns : goal.returns
unfolding find_teid_call
returns c = finding_out c.find_holder-holder.result c.outcome.ensures c.unwrap_or.ensures ∙ c.find_holder-holder.ensures
