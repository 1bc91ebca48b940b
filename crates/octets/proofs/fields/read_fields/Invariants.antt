-- `octets::fields::read_fields` meets its contract. The invariant: the fields read, and those of the widths left, are the whole.
-- Assumes nothing.
use Rattle.std.proofs.Common.{◌≡◌, ◌+◌, ◌++◌, take, drop, true}
use Rattle.octets.specs.Fields.{width_of, narrow, fields_at}
use Rattle.octets.proofs.fields.read_fields.Given as goal

abbrev pub invariant-loop-i : goal.invariant-loop-i
invariant-loop-i l = record {
  next : l.from + width_of (drop l.i l.ws) ≡ l.at + width_of l.ws;
  narrow_left : narrow (drop l.i l.ws) ≡ true;
  whole : take l.i l.vs ++ fields_at l.from (drop l.i l.ws) l.s ≡ fields_at l.at l.ws l.s;
}
