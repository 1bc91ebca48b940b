-- `octets::move_up` meets its contract: std's copy within a part, as `put` has it. Assumes nothing.
use Rattle.std.proofs.Common.{ℕ, ◌+◌, ◌∙◌, ap₂, arith}
use Rattle.octets.specs.Octets.{put, part}
use Rattle.octets.proofs.Put.{put_moved}
use Rattle.octets.proofs.move_up.Goals as goal

pub returns : goal.returns
returns c =
    let a = c.args in
    put_moved a.at (a.at + a.by + a.n) 0 a.n a.by a.s.now _ (omega arith) (omega arith) (omega arith) (omega arith) (omega arith) c.copy_within.ensures.after
    ∙ ap₂ (λ (i n : ℕ). put (a.at + a.by) (part i n a.s.now) a.s.now) (omega arith) (omega arith)
