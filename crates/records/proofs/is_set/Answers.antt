-- `records::is_set` meets its contract.
-- Assumes nothing.
use mathlib.Core.Bool.{Bool, true, false, not}
use mathlib.Core.Path.{refl}
use Prim.Native.Nat.{◌≤◌}
use native.Mathlib.Omega.{arith}
use lib.Dec.{eqb}
use Rattle.octets.specs.Choice.{flag}
use Rattle.records.proofs.is_set.Goals as goal

one_at_most : (b : Bool) → flag b ≤ 1
one_at_most true = omega arith
one_at_most false = omega arith

pub returns : goal.returns
returns c = (refl, one_at_most (not (eqb c.args.x 0)))
