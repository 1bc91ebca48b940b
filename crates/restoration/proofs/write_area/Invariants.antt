-- `restoration::write_area` meets its contract: what is written and what is left are the elements of all records.
-- Assumes nothing.
use Rattle.std.proofs.Common.{◌-◌}
use Rattle.octets.specs.Octets.{slices}
use Rattle.unit.specs.Meaning.{settings_of}
use Rattle.restoration.specs.Records.{record_width}
use Rattle.restoration.proofs.AreaLaws.{Walk}
use Rattle.restoration.proofs.write_area.Given as goal

abbrev pub invariant-loop-i : goal.invariant-loop-i
invariant-loop-i l = Walk l.kind l.w (settings_of l.u) (slices (record_width l.kind) l.n l.area) l.at l.initial.out l.rest (l.n - l.i) l.next l.out
