-- `fqcsid::read` meets its contract: at each return the tests that led there say what the rules answer.
-- Assumes nothing.
use mathlib.Core.Option.{some}
use mathlib.Core.Path.{sym, ap, ◌∙◌}
use native.Mathlib.Omega.{arith}
use borrow.Author.Rules.{rules}
use Rattle.octets.proofs.Digits.{octets_known}
use Rattle.fqcsid.proofs.ValueLaws.{narrow_widths, read_empty, read_type, read_short, read_incorrect, read_value_lem}
use Rattle.fqcsid.proofs.read.Goals as goal

pub returns-then-s-eq0 : goal.returns-then-s-eq0
returns-then-s-eq0 c = ap some (sym (read_empty _ c.if-s-eq0.true))

pub overflow_cast-id_type : goal.overflow_cast-id_type
overflow_cast-id_type c = omega (arith, c.type_inv.s 0)

pub returns-then-id_type-gt2 : goal.returns-then-id_type-gt2
returns-then-id_type-gt2 c = ap some (sym (read_type c.args.s.now (omega arith) c.if-id_type-gt2.true))

pub width-requires : goal.width-requires
width-requires c = rw c.widths_of-ws.ensures (narrow_widths _ _)

pub returns-then-s-width : goal.returns-then-s-width
returns-then-s-width c =
    let a = c.args in
    ap some (sym (read_short a.s.now c.widths_of-ws.result (omega arith) c.if-id_type-gt2.false c.widths_of-ws.ensures (omega arith)))

pub read_fields-requires : goal.read_fields-requires
read_fields-requires c =
    (omega arith, search rules, rw c.widths_of-ws.ensures (narrow_widths _ _))

pub returns-then-keeps_rules : goal.returns-then-keeps_rules
returns-then-keeps_rules c =
    read_value_lem c.args.s.now c.widths_of-ws.result _ (octets_known c.args.s.now (λ i. (c.type_inv.s i).fits))
    (omega arith) c.if-id_type-gt2.false c.widths_of-ws.ensures (omega arith) c.read_fields.ensures (sym c.keeps_rules.ensures ∙ c.if-keeps_rules.true)

pub returns-else-keeps_rules : goal.returns-else-keeps_rules
returns-else-keeps_rules c =
    ap some
    (sym
    (read_incorrect c.args.s.now c.widths_of-ws.result _ (octets_known c.args.s.now (λ i. (c.type_inv.s i).fits))
    (omega arith) c.if-id_type-gt2.false c.widths_of-ws.ensures (omega arith) c.read_fields.ensures (sym c.keeps_rules.ensures ∙ c.if-keeps_rules.false)))
