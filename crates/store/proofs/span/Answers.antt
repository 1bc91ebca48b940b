-- `store::span` meets its contract: what is left gives the same answer. Assumes nothing.
use Rattle.std.proofs.Common.{◌-◌, arith}
use Rattle.store.proofs.WalkLaws.{no_span, spans_more, span_end}
use Rattle.store.proofs.span.Goals as goal
use Rattle.store.proofs.span.Goals.{else-loop-i-test, then-loop-i-test+in_default}

pub overflow_sub-result : goal.overflow_sub-result
overflow_sub-result c = c.loop-i.invariant.low

pub loop-i-preserved : goal.loop-i-preserved
loop-i-preserved c = spans_more c.loop-i.invariant c.in-Some.ensures (omega arith)

pub returns : goal.returns
returns c =
    elim c.loop-i-test.branch [
      | else-loop-i-test w ↦ let i = c.loop-i.invariant in omega (arith, span_end c.loop-i.rest.now (c.args.n - c.loop-i.i) (omega arith))
      | then-loop-i-test+in_default w ↦ let i = c.loop-i.invariant in omega (arith, no_span c.loop-i.rest.now w.in_default.ensures (c.args.n - c.loop-i.i))
    ]
