-- `unit::write` meets its contract. Assumes nothing.
use Rattle.std.proofs.Common.{◌≡◌, ◌∙◌, ap}
use Rattle.std.specs.Option.{is_some}
use Rattle.octets.specs.Choice.{flag}
use Rattle.unit.proofs.WriteLaws.{flag_byte, write_steps}
use Rattle.unit.proofs.write.Goals as goal

pub returns : goal.returns
returns c =
    let n : c.from.result ≡ flag (is_some c.args.s.ipv6) = c.from.ensures ∙ flag_byte _ ∙ ap flag c.is_some.ensures in
    write_steps c.args.s _ _ _ _ _ _ c.requires.0 n c.write.ensures c.write-2.ensures c.write_ipv6.ensures c.write_numbers.ensures
