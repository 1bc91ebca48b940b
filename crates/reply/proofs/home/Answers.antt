-- `reply::home` meets its contract. Assumes nothing.
use Rattle.reply.proofs.ReplySteps.{home_first, home_second}
use Rattle.reply.proofs.home.Goals as goal

pub returns-then-peer-eq1 : goal.returns-then-peer-eq1
returns-then-peer-eq1 c = search home_first

pub returns : goal.returns
returns c = search (home_second, c.if-peer-eq1.false)
