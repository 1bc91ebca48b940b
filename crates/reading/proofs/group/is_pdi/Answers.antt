-- `is_pdi` meets its contract. Assumes nothing.
use Rattle.reading.proofs.Places.{not_create, in_create}
use Rattle.reading.proofs.group.is_pdi.Goals as goal

pub returns-then-group-ne-CREATE_PDR : goal.returns-then-group-ne-CREATE_PDR
returns-then-group-ne-CREATE_PDR c = not_create _ _ c.if-group-ne-CREATE_PDR.true

pub returns : goal.returns
returns c = in_create _ _ c.if-group-ne-CREATE_PDR.false
