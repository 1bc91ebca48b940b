use Rattle.session.proofs.Steps.{precedence_set, precedence_kept}
use Rattle.session.proofs.record.set_precedence.Goals as goal

-- src/record.rt:86:8
-- src/record.rt:87:34
-- src/record.rt:87:9
-- src/record.rt:82:1
-- src/record.rt:82:1
pub returns-then-row-eq1 : goal.returns-then-row-eq1
returns-then-row-eq1 c = search precedence_set

-- src/record.rt:82:1
pub returns-else-row-eq1 : goal.returns-else-row-eq1
returns-else-row-eq1 c = search precedence_kept
