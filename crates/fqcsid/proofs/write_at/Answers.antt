-- `fqcsid::write_at` meets its contract: the numbers are written at their widths. Assumes nothing.
use Rattle.element.proofs.OctetLaws.{fields_fit, fields_at}
use Rattle.fqcsid.proofs.ValueLaws.{narrow_widths, eight_widths}
use Rattle.fqcsid.proofs.write_at.Goals as goal

pub write_fields_at-requires : goal.write_fields_at-requires
write_fields_at-requires c =
    fields_fit c.args.at _ _ _ _ c.args.out.now c.requires.2 (eight_widths _ _) (narrow_widths _ _) c.widths_of-ws.ensures c.numbers_of-vs.ensures

pub returns : goal.returns
returns c =
    let a = c.args in
    fields_at a.at _ _ _ _ a.out.now c.widths_of-ws.ensures c.numbers_of-vs.ensures c.write_fields_at.ensures
