-- `finding::slot_holds` meets its contract: the endpoints, then the PDRs.
-- Assumes nothing.
use mathlib.Core.Path.{◌∙◌}
use Rattle.finding.proofs.HoldLaws.{slot_here, slot_else}
use Rattle.finding.proofs.slot_holds.Goals as goal

pub returns-then-endpoints_hold : goal.returns-then-endpoints_hold
returns-then-endpoints_hold c = c.if-endpoints_hold.true ∙ slot_here _ _ _ c.endpoints_hold.ensures c.if-endpoints_hold.true

pub returns-else-endpoints_hold : goal.returns-else-endpoints_hold
returns-else-endpoints_hold c = search slot_else
