-- `marking::admit_pdrs` meets its contract.
-- Assumes nothing.
use Rattle.records.specs.Kept.{pdr_sound, ids_of}
use Rattle.unit.specs.Meaning.{settings_of}
use Rattle.marking.specs.Marking.{pdr_holds}
use Rattle.marking.proofs.Walking.{Walk, pdrs_to, pdrs_from}
use Rattle.rules.specs.Layout.{pdr_width}
use Rattle.marking.proofs.admit_pdrs.Given as goal

abbrev pub invariant-loop-i : goal.invariant-loop-i
invariant-loop-i l = Walk (pdr_sound (settings_of l.u) (ids_of l.ends)) pdr_width 2 l.fn.area l.n l.u.first l.initial.words (pdr_holds l.n l.fn.area) (pdrs_to l.u.first l.initial.words l.fn.area l.n) (pdrs_from l.u.first l.initial.words l.fn.area l.n) l.words l.i l.next l.new
