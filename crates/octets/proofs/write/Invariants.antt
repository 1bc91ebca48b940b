-- `octets::write` meets its contract. A turn stores the last octet that is left.
-- Assumes nothing.
use mathlib.Core.Path.{◌≡◌}
use Rattle.octets.specs.Octets.{put, be}
use Rattle.octets.proofs.write.Given as goal

abbrev pub invariant-loop-i : goal.invariant-loop-i
invariant-loop-i l = put l.at (be l.i l.rest) l.s ≡ put l.at (be l.n l.value) l.initial.s
