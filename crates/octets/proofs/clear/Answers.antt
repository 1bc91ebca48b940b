-- `octets::clear` meets its contract: the part that was lent came back as zeros. Assumes nothing.
use Rattle.std.proofs.Common.{List, ℕ, ◌+◌, ◌-◌, ap, ◌∙◌, arith}
use Rattle.octets.specs.Octets.{put, zeros}
use Rattle.octets.proofs.Put.{put_lent, length_part}
use Rattle.octets.proofs.clear.Goals as goal

pub returns : goal.returns
unfolding zeros
returns c =
    let a = c.args in
    put_lent a.at (a.at + a.n) a.s.now c.fill.new.self (omega arith) (omega arith) c.fill.ensures.len
    ∙ ap (λ (v : List ℕ). put a.at v a.s.now) (c.fill.ensures.after (λ y h. h) ∙ ap zeros (length_part a.at (a.at + a.n - a.at) a.s.now (omega arith) ∙ omega arith))
