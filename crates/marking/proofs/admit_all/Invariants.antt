-- `marking::admit_all` meets its contract.
-- Assumes nothing.
use Rattle.unit.specs.Meaning.{settings_of}
use Rattle.marking.proofs.Entering.{Passing}
use Rattle.marking.proofs.admit_all.Given as goal

abbrev pub invariant-loop-i : goal.invariant-loop-i
invariant-loop-i l = Passing (settings_of l.u) l.initial.words l.initial.addresses l.fn.a l.n l.words l.holders l.addresses l.i l.sum
