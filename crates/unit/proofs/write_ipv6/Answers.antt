-- `unit::write_ipv6` meets its contract. Assumes nothing.
use Rattle.std.proofs.Common.{sym}
use Rattle.octets.proofs.Put.{put_nil}
use Rattle.unit.proofs.WriteLaws.{ipv6_steps}
use Rattle.unit.proofs.write_ipv6.Goals as goal

pub returns-in-Some : goal.returns-in-Some
returns-in-Some c = rw c.in-Some.is (ipv6_steps c.args.at c.in-Some.a _ _ _ c.requires c.write.ensures c.write-in-Some.ensures)

pub returns-in_default : goal.returns-in_default
returns-in_default c = rw c.in_default.is (sym (put_nil c.args.at c.args.slot.now))
