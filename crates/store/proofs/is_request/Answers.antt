-- `store::is_request` meets its contract. Assumes nothing.
use Rattle.std.proofs.Common.{◌∙◌}
use Rattle.store.proofs.RequestTests.{read_tells}
use Rattle.store.proofs.is_request.Goals as goal

pub returns : goal.returns
returns c = c.is_ok.ensures.value ∙ read_tells _ _ c.read_header.ensures
