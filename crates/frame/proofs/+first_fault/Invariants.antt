-- The measure is the depth left. The loop's invariant: the first fault of all the octets is that of the rest, at its place.
use Prim.Native.Nat.{◌+◌, ◌<◌, ◌^◌}
use mathlib.Core.Path.{◌≡◌}
use lib.ListN.{length}
use Rattle.rules.specs.Message.{spot, frame}
use Rattle.frame.proofs.+first_fault.Given as goal

abbrev pub decreases-first_fault : goal.decreases-first_fault
decreases-first_fault l = l.depth

abbrev pub invariant-loop-rest : goal.invariant-loop-rest
invariant-loop-rest l =
    (frame l.depth l.message (spot l.group l.place) l.base l.s ≡ frame l.depth l.message (spot l.group l.place) l.at l.rest) × (l.at + length l.rest < 2 ^ 64)

abbrev pub decreases-loop-rest : goal.decreases-loop-rest
decreases-loop-rest l = length l.rest
