-- `records::names_endpoint` meets its contract: what was found, or is found among those that are left.
-- Assumes nothing.
use Rattle.std.proofs.Common.{◌≡◌, ◌||◌, drop}
use Rattle.octets.specs.Lists.{member}
use Rattle.records.specs.Kept.{ids_of}
use Rattle.records.proofs.names_endpoint.Given as goal

abbrev pub invariant-loop-end : goal.invariant-loop-end
invariant-loop-end l = (l.found || member l.id (ids_of (drop l.end-index l.ends))) ≡ member l.id (ids_of l.ends)
