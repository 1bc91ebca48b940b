-- `fteid::write` meets its contract: a value that is not allowed is refused, and of an allowed one the numbers are written at their widths.
-- Assumes nothing.
use mathlib.Core.Path.{sym, ◌∙◌}
use Rattle.element.proofs.OctetLaws.{fields_ready}
use Rattle.fteid.proofs.ValueLaws.{narrow_widths, six, write_refused, write_allowed}
use Rattle.fteid.proofs.write.Goals as goal

pub returns-then-not-is_allowed : goal.returns-then-not-is_allowed
returns-then-not-is_allowed c =
    let a = c.args in
    write_refused a.endpoint a.v a.out.now (sym c.is_allowed.ensures ∙ c.if-not-is_allowed.true)

pub write_fields-requires : goal.write_fields-requires
write_fields-requires c =
    fields_ready _ _ _ _ (six _) (narrow_widths _) c.widths_of-ws.ensures c.numbers_of-vs.ensures

pub returns : goal.returns
returns c =
    let a = c.args in
    write_allowed a.endpoint a.v a.out.now _ _ (sym c.is_allowed.ensures ∙ c.if-not-is_allowed.false)
    c.widths_of-ws.ensures c.numbers_of-vs.ensures c.write_fields.ensures
