-- `unit::read_ipv6` meets its contract. Assumes nothing.
use Rattle.unit.proofs.ReadLaws.{ipv6_is}
use Rattle.unit.proofs.read_ipv6.Goals as goal

pub returns : goal.returns
returns c = ipv6_is c.args.at c.args.s.now _ (λ i. (c.type_inv.s i).fits) c.requires c.read.ensures.0 c.read-2.ensures.0
