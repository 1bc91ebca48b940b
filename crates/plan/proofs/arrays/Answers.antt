-- `plan::arrays` meets its contract. Assumes nothing.
use Rattle.std.proofs.Common.{◌≤◌, ◌/◌, length, arith}
use Rattle.std.proofs.lemmas.Nat.{rows}
use Rattle.plan.proofs.ChainLaws.{chunks_taken}
use Rattle.plan.proofs.arrays.Goals as goal

pub returns : goal.returns
returns g c =
    let room : c.args.n ≤ length c.args.s.now / g.row.N = grind (arith, rows) in
    rw c.as_chunks.ensures.front (chunks_taken _ _ _ _ room)
