-- `sets::remove_listed` meets its contract: what is left takes the same sessions out of those that are left. Assumes nothing.
use lib.ListN.{length}
use Rattle.sets.proofs.GoneLaws.{Left}
use Rattle.sets.proofs.remove_listed.Given as goal

abbrev pub invariant-loop-element : goal.invariant-loop-element
invariant-loop-element l = Left l.initial.t l.peer l.s l.t l.rest

abbrev pub decreases-loop-element : goal.decreases-loop-element
decreases-loop-element l = length l.rest
