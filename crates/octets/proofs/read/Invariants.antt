-- `octets::read` meets its contract: the number of the octets so far. Assumes nothing.
use Rattle.std.proofs.Common.{◌≡◌, ◌^◌, ◌<◌, take}
use Rattle.octets.specs.Octets.{number}
use Rattle.octets.proofs.read.Given as goal

abbrev pub invariant-loop-x : goal.invariant-loop-x
invariant-loop-x l = (l.value ≡ number (take l.x-index l.x-items)) × (l.value < 256 ^ l.x-index)
