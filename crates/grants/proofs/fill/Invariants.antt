-- `grants::fill` meets its contract: the TEIDs of the places that are left, stored after those done, make all. Assumes nothing.
use Rattle.grants.proofs.FillLaws.{Filling}
use Rattle.grants.proofs.fill.Given as goal

abbrev pub invariant-loop-i : goal.invariant-loop-i
invariant-loop-i l = Filling l.plan l.places l.words l.u.first l.u.size l.initial.teids l.teids l.known l.from l.i
