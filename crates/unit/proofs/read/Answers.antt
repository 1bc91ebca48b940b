-- `unit::read` meets its contract. Assumes nothing.
use Rattle.std.proofs.Common.{◌≡◌, [], eqb, get_or}
use borrow.Author.Tests.{eq-eqb, ne_eqb}
use Rattle.octets.specs.Choice.{pick}
use Rattle.octets.specs.Octets.{part}
use Rattle.rules.specs.Layout.{ipv6_there_at, ipv6_at}
use Rattle.unit.specs.Meaning.{ipv6_octets}
use Rattle.unit.proofs.ReadLaws.{read_is}
use Rattle.unit.proofs.read.Goals as goal
use Rattle.unit.proofs.read.Goals.{then-there, else-there}

pub returns : goal.returns
returns c =
    let t = c.args.t.now in
    let six : ipv6_octets c.if-there.ipv6 ≡ pick (eqb (get_or t ipv6_there_at 0) 0) [] (part ipv6_at 16 t) = elim c.if-there.branch [
      | then-there w ↦ rw (w.ipv6-is, ne_eqb _ _ w.if-there.true) w.read_ipv6.ensures
      | else-there w ↦ rw (w.ipv6-is, eq-eqb _ _ w.if-there.false)
    ] in
    read_is t _ (λ i. (c.type_inv.t i).fits) c.requires c.read-ipv4.ensures.0 six c.read-first.ensures.0 c.read-size.ensures.0 c.read-first_address.ensures.0 c.read-addresses.ensures.0 c.read-limit.ensures.0
    c.read_peer-peer1.ensures c.read_peer-peer2.ensures
