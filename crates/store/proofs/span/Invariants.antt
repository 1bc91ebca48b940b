-- `store::span` meets its contract: what is left gives the same answer. Assumes nothing.
use Rattle.store.proofs.WalkLaws.{Spans}
use Rattle.store.proofs.span.Given as goal

abbrev pub invariant-loop-i : goal.invariant-loop-i
invariant-loop-i l = Spans l.n l.s l.i l.rest
