-- A request that is read has its whole header. Assumes nothing.
use mathlib.Core.Path.{sym, ap, ◌∙◌}
use Rattle.std.specs.Prelude.{Ok}
use Rattle.frame.specs.HeaderOf.{opened}
use Rattle.frame.proofs.HeaderLaws.{request_bounds, sets_bounds}
use Rattle.verdicts.proofs.verdict.Goals as goal

pub message-requires : goal.message-requires
message-requires g c = request_bounds _ _ _ (sym (ap opened (c.in-Ok-Request.is ∙ ap Ok c.in-Ok-Request.field-0-is)) ∙ c.read_header.ensures)

pub set_deletion-requires : goal.set_deletion-requires
set_deletion-requires g c = sets_bounds _ (sym (ap opened (c.in-Ok-Sets.is ∙ ap Ok c.in-Ok-Sets.field-0-is)) ∙ c.read_header.ensures)
