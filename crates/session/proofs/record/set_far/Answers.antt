use Rattle.session.proofs.Steps.{far_set, far_gone, far_kept}
use Rattle.session.proofs.record.set_far.Goals as goal

-- src/record.rt:96:15
-- src/record.rt:98:9
-- src/record.rt:99:34
-- src/record.rt:99:9
-- src/record.rt:100:9
-- src/record.rt:100:9
pub returns-then-far-eq1 : goal.returns-then-far-eq1
returns-then-far-eq1 c = search far_set

-- src/record.rt:103:9
-- src/record.rt:92:1
-- src/record.rt:92:1
pub returns-then-far-eq2 : goal.returns-then-far-eq2
returns-then-far-eq2 c = search far_gone

-- src/record.rt:92:1
pub returns-else-far-eq2 : goal.returns-else-far-eq2
returns-else-far-eq2 c = search far_kept
