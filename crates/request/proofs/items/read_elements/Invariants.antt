-- `read_elements` meets its contract. The invariant: what is left gives the same draft from this one as the whole from the first. Assumes nothing.
use lib.ListN.{length}
use Rattle.request.proofs.TurnLaws.{Going}
use Rattle.request.proofs.items.read_elements.Given as goal

abbrev pub invariant-loop-element : goal.invariant-loop-element
invariant-loop-element l = Going l.message l.s l.initial.words l.at l.rest l.words l.nodes l.d

abbrev pub decreases-loop-element : goal.decreases-loop-element
decreases-loop-element l = length l.rest
