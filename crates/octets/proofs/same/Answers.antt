-- `octets::same` meets its contract: std's test of two slices. Assumes nothing.
use Rattle.std.proofs.Common.{ℕ, ◌∙◌, ap₂, arith}
use Rattle.octets.specs.Octets.{part, same_octets}
use Rattle.octets.proofs.Parts.{same_pointwise}
use Rattle.octets.proofs.same.Goals as goal

pub returns : goal.returns
returns c =
    let a = c.args in
    c.eq.ensures
    ∙ same_pointwise _ _
    ∙ ap₂ (λ (n m : ℕ). same_octets (part a.i n a.a.now) (part a.j m a.b.now)) (omega arith) (omega arith)
