-- `reply::finish` meets its contract: the header with the SEID that the rule says.
-- Assumes nothing.
use native.Mathlib.Omega.{arith}
use Rattle.octets.specs.Octets.{octet_at}
use Rattle.rules.specs.Message.{kind_of}
use Rattle.reply.proofs.ReplySteps.{finish_steps}
use Rattle.reply.proofs.finish.Goals as goal

pub overflow_add-msg : goal.overflow_add-msg
unfolding kind_of octet_at
overflow_add-msg c = omega arith

pub returns : goal.returns
returns c = search finish_steps
