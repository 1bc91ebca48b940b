-- `records::slot::ascends` meets its contract.
-- Assumes nothing.
use Rattle.areas.specs.Records.{pair_key}
use Rattle.areas.proofs.LookupLaws.{keys}
use Rattle.records.proofs.Turns.{Rising}
use Rattle.records.proofs.slot.ascends.Given as goal

abbrev pub invariant-loop-i : goal.invariant-loop-i
invariant-loop-i l = Rising (keys l.w 9 l.n l.a) l.n l.i (pair_key l.high l.last)
