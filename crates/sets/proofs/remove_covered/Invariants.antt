-- `sets::remove_covered` meets its contract: from the last place to the first. Assumes nothing.
use Rattle.sets.proofs.GoneLaws.{Going}
use Rattle.sets.proofs.remove_covered.Given as goal

abbrev pub invariant-loop-p : goal.invariant-loop-p
invariant-loop-p l = Going l.initial.t l.peer l.v l.t l.room l.p
