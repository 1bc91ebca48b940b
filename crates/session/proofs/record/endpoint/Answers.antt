-- `session::record::endpoint` meets its contract.
-- Assumes nothing.
use Rattle.session.proofs.Steps.{endpoint_written}
use Rattle.session.proofs.record.endpoint.Goals as goal

pub returns : goal.returns
returns c = search endpoint_written
