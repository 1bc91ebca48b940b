-- `is_null_far` meets its contract. Assumes nothing.
use Rattle.reading.proofs.MemberLaws.{no_update, no_far, a_far}
use Rattle.reading.proofs.members.is_null_far.Goals as goal

pub returns-then-group-ne-UPDATE_PDR : goal.returns-then-group-ne-UPDATE_PDR
returns-then-group-ne-UPDATE_PDR c = no_update _ _ _ c.if-group-ne-UPDATE_PDR.true

pub returns-then-kind-ne-FAR_ID : goal.returns-then-kind-ne-FAR_ID
returns-then-kind-ne-FAR_ID c = no_far _ _ _ c.if-kind-ne-FAR_ID.true

pub returns : goal.returns
returns c = a_far _ _ _ c.if-group-ne-UPDATE_PDR.false c.if-kind-ne-FAR_ID.false
