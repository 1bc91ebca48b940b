-- `marking::addresses::claim_all` meets its contract.
-- Assumes nothing.
use Rattle.std.proofs.Common.{◌-◌}
use Rattle.unit.specs.Meaning.{settings_of}
use Rattle.marking.proofs.AddressAreas.{Claiming}
use Rattle.marking.proofs.addresses.claim_all.Given as goal

abbrev pub invariant-loop-i : goal.invariant-loop-i
invariant-loop-i l = Claiming (settings_of l.u) l.w l.at l.a l.n l.turn l.initial.holders l.initial.words l.holders l.words l.i l.new

abbrev pub decreases-loop-i : goal.decreases-loop-i
decreases-loop-i l = l.n - l.i
