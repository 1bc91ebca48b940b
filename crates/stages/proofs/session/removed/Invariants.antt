-- `stages::session::removed` meets its contract: storing the IDs of those that go among the PDRs that are left, from place k on, gives what
-- storing all of them gives. Assumes nothing.
use Rattle.std.proofs.Common.{◌≡◌, ◌+◌, ◌≤◌, length, drop}
use lib.Seq.{sets}
use Rattle.stages.proofs.SlotLaws.{gone_in}
use Rattle.stages.proofs.session.removed.Given as goal

abbrev pub invariant-loop-pdr : goal.invariant-loop-pdr
invariant-loop-pdr l =
    let left = gone_in l.rows (drop l.pdr-index l.pdrs) in
    (l.k ≤ l.pdr-index)
    × (length l.out ≡ length l.initial.out)
    × (l.k + length left ≡ length (gone_in l.rows l.pdrs))
    × (sets l.out l.k left ≡ sets l.initial.out 0 (gone_in l.rows l.pdrs))
