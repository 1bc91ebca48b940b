-- `octets::is_zero` meets its contract: `any` is 0 while the octets so far are. Assumes nothing.
use Rattle.std.proofs.Common.{◌≡◌, eqb, take}
use Rattle.octets.specs.Octets.{all_zero}
use Rattle.octets.proofs.is_zero.Given as goal

abbrev pub invariant-loop-x : goal.invariant-loop-x
invariant-loop-x l = eqb l.any 0 ≡ all_zero (take l.x-index l.x-items)
