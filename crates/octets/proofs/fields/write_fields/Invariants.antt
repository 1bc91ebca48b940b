-- `octets::fields::write_fields` meets its contract. The invariant: to put the fields that are left puts the whole.
-- Assumes nothing.
use Rattle.std.proofs.Common.{◌≡◌, ◌+◌, drop}
use Rattle.octets.specs.Octets.{put}
use Rattle.octets.specs.Fields.{width_of, field_octets}
use Rattle.octets.proofs.fields.write_fields.Given as goal

abbrev pub invariant-loop-i : goal.invariant-loop-i
invariant-loop-i l = record {
  next : l.from + width_of (drop l.i l.ws) ≡ l.at + width_of l.ws;
  whole : put l.from (field_octets (drop l.i l.ws) (drop l.i l.vs)) l.s ≡ put l.at (field_octets l.ws l.vs) l.initial.s;
}
