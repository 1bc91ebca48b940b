-- `areas::slots::find` meets its contract. Assumes nothing.
use Prim.Native.Nat.{◌-◌}
use Rattle.areas.proofs.LookupLaws.{keys, Looking}
use Rattle.areas.proofs.slots.find.Given as goal

abbrev pub invariant-loop-i : goal.invariant-loop-i
invariant-loop-i l = Looking l.x (keys l.w l.k l.n l.s) l.n l.i

abbrev pub decreases-loop-i : goal.decreases-loop-i
decreases-loop-i l = l.n - l.i
