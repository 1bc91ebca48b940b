-- `octets::is_zero_long` meets its contract. A turn takes the next octet of each of eight parts. Assumes nothing.
use Rattle.std.proofs.Common.{◌≡◌, ◌+◌, ◌&&◌, eqb}
use Rattle.octets.proofs.Apart.{zero_parts, zero_apart}
use Rattle.octets.proofs.is_zero_long.Given as goal

abbrev pub invariant-loop-i : goal.invariant-loop-i
invariant-loop-i l = eqb l.any 0 ≡ zero_parts 8 l.q l.at l.i l.s

abbrev pub invariant-loop-k : goal.invariant-loop-k
invariant-loop-k l = eqb l.any 0 ≡ (zero_parts 8 l.q l.at l.i l.s && zero_apart l.k l.q (l.at + l.i) l.s)
