-- `areas::slots::find_pair` meets its contract. Assumes nothing.
use Prim.Native.Nat.{◌-◌}
use Rattle.areas.specs.Records.{pair_key}
use Rattle.areas.proofs.LookupLaws.{keys, Looking}
use Rattle.areas.proofs.slots.find_pair.Given as goal

abbrev pub invariant-loop-i : goal.invariant-loop-i
invariant-loop-i l = Looking (pair_key l.hi l.lo) (keys l.w 9 l.n l.s) l.n l.i

abbrev pub decreases-loop-i : goal.decreases-loop-i
decreases-loop-i l = l.n - l.i
