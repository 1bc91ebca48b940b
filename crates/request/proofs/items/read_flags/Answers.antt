-- `read_flags` meets its contract. Assumes nothing.
use Rattle.request.proofs.HeadSteps.{flags_repeat, flags_short, flags_value}
use Rattle.request.proofs.items.read_flags.Goals as goal

pub returns-then-d-ne0 : goal.returns-then-d-ne0
returns-then-d-ne0 c = flags_repeat _ _ _ c.if-d-ne0.true

pub returns-then-v-lt1 : goal.returns-then-v-lt1
returns-then-v-lt1 c = flags_short _ _ _ c.if-d-ne0.false c.if-v-lt1.true

pub returns : goal.returns
returns c = flags_value _ _ _ c.if-d-ne0.false c.if-v-lt1.false
