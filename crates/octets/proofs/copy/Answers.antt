-- `octets::copy` meets its contract: the part that was lent came back as v. Assumes nothing.
use Rattle.std.proofs.Common.{List, ℕ, ◌+◌, length, ap, ◌∙◌, arith}
use Rattle.octets.specs.Octets.{put}
use Rattle.octets.proofs.Put.{put_lent}
use Rattle.octets.proofs.copy.Goals as goal

pub returns : goal.returns
returns c =
    let a = c.args in
    let k = c.copy_from_slice in
    put_lent a.at (a.at + length a.v.now) a.s.now k.new.self (omega arith) (omega arith) k.ensures.len
    ∙ ap (λ (v : List ℕ). put a.at v a.s.now) k.ensures.after
