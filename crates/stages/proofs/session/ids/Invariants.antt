-- `stages::session::ids` meets its contract. Storing the IDs of the records that are left, from place k on, gives what storing all of them gives. Assumes nothing.
use Rattle.std.proofs.Common.{◌≡◌, length, drop, map}
use lib.Seq.{sets}
use Rattle.octets.specs.Octets.{number_at}
use Rattle.stages.proofs.session.ids.Given as goal

abbrev pub invariant-loop-k : goal.invariant-loop-k
invariant-loop-k g l =
    (length l.out ≡ length l.initial.out) × (sets l.out l.k (map (number_at 0 l.octets) (drop l.k l.records)) ≡ sets l.initial.out 0 (map (number_at 0 l.octets) l.records))
