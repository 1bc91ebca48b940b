-- `octets::is_zero` meets its contract: `any` is 0 while the octets so far are. Assumes nothing.
use Rattle.std.proofs.Common.{ℕ, ◌+◌, ◌-◌, ◌∙◌, sym, ap, refl, arith}
use Rattle.std.proofs.lemmas.List.{take_all}
use Rattle.octets.specs.Octets.{part, all_zero}
use Rattle.octets.proofs.Apart.{zero_more, one_more}
use Rattle.octets.proofs.is_zero.Goals as goal

pub loop-x-init : goal.loop-x-init
unfolding all_zero
loop-x-init c = refl

pub loop-x-preserved : goal.loop-x-preserved
loop-x-preserved c =
    let l = c.loop-x in
    let a = c.args in
    one_more l.any _ _ _ l.invariant refl ∙ sym (zero_more (part a.at (a.at + a.n - a.at) a.s.now) l.x-index c.loop-x-test.true)

pub returns : goal.returns
returns c =
    let l = c.loop-x in
    let a = c.args in
    l.invariant
    ∙ ap all_zero (take_all l.x-index (part a.at (a.at + a.n - a.at) a.s.now) c.loop-x-test.false)
    ∙ ap (λ (k : ℕ). all_zero (part a.at k a.s.now)) (omega arith)
