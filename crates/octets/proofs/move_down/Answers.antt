-- `octets::move_down` meets its contract: std's copy within a part, as `put` has it. Assumes nothing.
use Rattle.std.proofs.Common.{ℕ, ◌+◌, ◌-◌, ◌∙◌, ap₂, length, arith}
use Rattle.octets.specs.Octets.{put, part}
use Rattle.octets.proofs.Put.{length_part, put_moved}
use Rattle.octets.proofs.move_down.Goals as goal

pub returns : goal.returns
returns c =
    let a = c.args in
    let e : ℕ = a.at + a.by + a.n in
    let long = length_part a.at (e - a.at) a.s.now (omega arith) in
    put_moved a.at e a.by (length (part a.at (e - a.at) a.s.now)) 0 a.s.now _ (omega arith) (omega arith) (omega arith) (omega arith) (omega arith) c.copy_within.ensures.after
    ∙ ap₂ (λ (at n : ℕ). put at (part (a.at + a.by) n a.s.now) a.s.now) (omega arith) (omega arith)
