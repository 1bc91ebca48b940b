-- `fqcsid::write` meets its contract: a value that is not allowed is refused, and of an allowed one the numbers are written at their widths.
-- Assumes nothing.
use mathlib.Core.Path.{sym, ◌∙◌}
use native.Mathlib.Omega.{arith}
use Rattle.octets.proofs.Tests.{of_true}
use Rattle.element.proofs.OctetLaws.{fields_ready}
use Rattle.fqcsid.proofs.ValueLaws.{narrow_widths, eight_widths}
use Rattle.fqcsid.proofs.WriteLaws.{right, write_refused, write_allowed}
use Rattle.fqcsid.proofs.write.Goals as goal

pub returns-then-not-is_allowed : goal.returns-then-not-is_allowed
returns-then-not-is_allowed c =
    let a = c.args in
    write_refused a.v a.out.now (sym c.is_allowed.ensures ∙ c.if-not-is_allowed.true)

pub widths_of-ws-requires : goal.widths_of-ws-requires
widths_of-ws-requires c =
    (right c.args.v (of_true (sym c.is_allowed.ensures ∙ c.if-not-is_allowed.false))).few

pub numbers_of-vs-requires : goal.numbers_of-vs-requires
numbers_of-vs-requires c =
    let r = right c.args.v (of_true (sym c.is_allowed.ensures ∙ c.if-not-is_allowed.false)) in
    (omega (arith, r.kind), r.few)

pub write_fields-requires : goal.write_fields-requires
write_fields-requires c =
    fields_ready _ _ _ _ (eight_widths _ _) (narrow_widths _ _) c.widths_of-ws.ensures c.numbers_of-vs.ensures

pub returns : goal.returns
returns c =
    let a = c.args in
    write_allowed a.v a.out.now _ _ (sym c.is_allowed.ensures ∙ c.if-not-is_allowed.false)
    c.widths_of-ws.ensures c.numbers_of-vs.ensures c.write_fields.ensures
