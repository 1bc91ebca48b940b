-- `frame::count` meets its contract. The invariant: what is counted and what is left to count make up the whole. Assumes nothing.
use Prim.Native.Nat.{◌+◌, ◌≤◌}
use mathlib.Core.Path.{◌≡◌}
use lib.ListN.{length}
use Rattle.rules.specs.Message.{elements}
use Rattle.frame.proofs.Front.{count_of}
use Rattle.frame.proofs.count.Given as goal

abbrev pub invariant-loop-element : goal.invariant-loop-element
invariant-loop-element l = (l.n + length l.rest ≤ length l.s) × (count_of l.kind (elements 0 l.s) ≡ l.n + count_of l.kind (elements 0 l.rest))

abbrev pub decreases-loop-element : goal.decreases-loop-element
decreases-loop-element l = length l.rest
