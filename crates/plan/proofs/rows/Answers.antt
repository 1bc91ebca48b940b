-- `plan::rows` meets its contract. Assumes nothing.
use Rattle.std.proofs.Common.{◌∙◌}
use Rattle.plan.proofs.ChainLaws.{chunks_slices}
use Rattle.plan.proofs.rows.Goals as goal

pub returns : goal.returns
returns c = c.arrays.ensures ∙ chunks_slices _ _ _
