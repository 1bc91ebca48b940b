-- `pfcp_session::tell` meets its contract.
-- Assumes nothing.
use Rattle.std.proofs.Common.{ap, arith}
use Rattle.table.specs.Answers.{count_told}
use Rattle.pfcp_session.proofs.tell.Goals as goal

pub overflow_cast-count : goal.overflow_cast-count
overflow_cast-count c =
    let few = c.requires.small c.in-Ok.n (ap count_told c.in-Ok.is) in
    omega arith
