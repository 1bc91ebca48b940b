-- `marking::admit_endpoints` meets its contract.
-- Assumes nothing.
use Rattle.std.proofs.Common.{[]}
use Rattle.records.specs.Kept.{endpoint_sound}
use Rattle.unit.specs.Meaning.{settings_of}
use Rattle.marking.specs.Marking.{endpoint_holds}
use Rattle.marking.proofs.Walking.{Walk, ends_from}
use Rattle.rules.specs.Layout.{endpoint_width}
use Rattle.marking.proofs.admit_endpoints.Given as goal

abbrev pub invariant-loop-row : goal.invariant-loop-row
invariant-loop-row l = Walk (endpoint_sound (settings_of l.u)) endpoint_width 1 l.fn.area l.n l.u.first l.initial.words (endpoint_holds l.n l.fn.area) (λ j. []) (ends_from l.u.first l.initial.words l.fn.area l.n) l.words l.row-index l.next l.new
