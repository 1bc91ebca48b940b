-- `sets::list_fault` meets its contract: what is left gives the same first fault. Assumes nothing.
use lib.ListN.{length}
use Rattle.sets.proofs.ListLaws.{Lists}
use Rattle.sets.proofs.list_fault.Given as goal

abbrev pub invariant-loop-element : goal.invariant-loop-element
invariant-loop-element l = Lists l.s l.at l.rest

abbrev pub decreases-loop-element : goal.decreases-loop-element
decreases-loop-element l = length l.rest
