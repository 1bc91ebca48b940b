-- `session::record::pdr` meets its contract.
-- Assumes nothing.
use Rattle.session.proofs.Steps.{pdr_written}
use Rattle.session.proofs.record.pdr.Goals as goal

pub returns : goal.returns
returns c = search pdr_written
