-- `pfcp_session::pfcp_free_count` meets its contract.
-- Assumes nothing.
use Rattle.pfcp_session.proofs.CallLaws.{teids_fit_lem, call_counted}
use Rattle.pfcp_session.proofs.pfcp_free_count.Goals as goal

pub tell-requires : goal.tell-requires
tell-requires c = search teids_fit_lem

pub returns : goal.returns
returns c = search call_counted
