-- `records::slot::csids_sound` meets its contract.
-- Assumes nothing.
use Rattle.rules.specs.Layout.{csid_width}
use Rattle.records.specs.Kept.{csid_sound}
use Rattle.records.proofs.Turns.{Rows}
use Rattle.records.proofs.slot.csids_sound.Given as goal

abbrev pub invariant-loop-row : goal.invariant-loop-row
invariant-loop-row l = Rows csid_sound csid_width 1 l.fn.a l.n l.row-index l.next
