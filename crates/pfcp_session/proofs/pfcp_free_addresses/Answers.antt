-- `pfcp_session::pfcp_free_addresses` meets its contract.
-- Assumes nothing.
use Rattle.pfcp_session.proofs.CallLaws.{addresses_fit, call_addresses}
use Rattle.pfcp_session.proofs.pfcp_free_addresses.Goals as goal

pub tell-requires : goal.tell-requires
tell-requires c = search addresses_fit

pub returns : goal.returns
returns c = search call_addresses
