-- `store::find` meets its contract: what is left gives the same answer. Assumes nothing.
use Rattle.std.proofs.Common.{◌∙◌, arith}
use Rattle.store.proofs.WalkLaws.{none_among, among_found, among_other, among_end}
use Rattle.store.proofs.find.Goals as goal

pub returns-in_err-entry : goal.returns-in_err-entry
returns-in_err-entry c = rw c.from_residual.ensures (c.loop-i.invariant ∙ none_among _ c.in_err-entry.ensures _ _)

pub returns-then-eq : goal.returns-then-eq
returns-then-eq c = c.loop-i.invariant ∙ among_found c.in_ok-entry.ensures _ c.eq.ensures c.if-eq.true _ (omega arith)

pub loop-i-preserved : goal.loop-i-preserved
loop-i-preserved c = c.loop-i.invariant ∙ among_other c.in_ok-entry.ensures _ c.eq.ensures c.if-eq.false (omega arith)

pub returns : goal.returns
returns c = c.loop-i.invariant ∙ among_end _ _ _ (omega arith)
