-- `is_clearing` meets its contract. Assumes nothing.
use Rattle.request.proofs.CsidSteps.{clear_long, clear_other, clear_alone}
use Rattle.request.proofs.row.is_clearing.Goals as goal

pub returns-then-v-ne0 : goal.returns-then-v-ne0
returns-then-v-ne0 c = clear_long c.args.s.now c.args.v.now c.args.message c.if-v-ne0.true

pub returns-then-message-ne-MODIFICATION : goal.returns-then-message-ne-MODIFICATION
returns-then-message-ne-MODIFICATION c = clear_other c.args.s.now c.args.v.now c.args.message c.if-message-ne-MODIFICATION.true

pub returns : goal.returns
returns c = clear_alone c.args.s.now c.args.v.now c.args.message c.if-v-ne0.false c.if-message-ne-MODIFICATION.false c.count.ensures
