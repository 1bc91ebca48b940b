-- `octets::is_in` meets its contract: x is in what is left of the list exactly if it is in the list. Assumes nothing.
use Rattle.std.proofs.Common.{◌≡◌, drop}
use Rattle.octets.specs.Lists.{member}
use Rattle.octets.proofs.is_in.Given as goal

abbrev pub invariant-loop-y : goal.invariant-loop-y
invariant-loop-y l = member l.x (drop l.y-index l.a) ≡ member l.x l.a
