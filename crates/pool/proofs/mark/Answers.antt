-- `pool::mark` meets its contract: 1 shifted by a bit number is a power of 2 that fits a word. Assumes nothing.
use mathlib.Core.Path.{refl}
use Prim.Native.Nat.{◌%◌}
use Rattle.octets.specs.Octets.{bit}
use Rattle.pool.specs.Map.{mark}
use borrow.Author.Rules.{rules}
use Rattle.pool.proofs.Bits.{one_shl}
use Rattle.rules.specs.Sound.{marked}
use Rattle.pool.proofs.mark.Goals as goal

pub returns : goal.returns
unfolding marked bit mark
returns c = (refl, rw (one_shl (c.args.i % 64) 64 (search rules)))
