-- `pool::next_free` meets its contract: the free offsets from bit b of word k on are those from `at` on. Assumes nothing.
use mathlib.Core.Path.{◌≡◌}
use Prim.Native.Nat.{◌+◌, ◌*◌, ◌<◌}
use Rattle.pool.specs.Map.{free_from}
use Rattle.pool.proofs.next_free.Given as goal

abbrev pub invariant-loop-k : goal.invariant-loop-k
invariant-loop-k l = (l.b < 64) × (free_from l.words (64 * l.k + l.b) l.size ≡ free_from l.words l.at l.size)
