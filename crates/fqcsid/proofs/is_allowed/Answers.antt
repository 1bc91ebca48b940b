-- `fqcsid::is_allowed` meets its contract: at each return the tests that led there say whether the value is allowed.
-- Assumes nothing.
use mathlib.Core.Bool.{false≢true}
use mathlib.Core.Path.{sym, ◌∙◌}
use native.Mathlib.Omega.{arith}
use Rattle.octets.specs.Fields.{fit}
use Rattle.fqcsid.proofs.WriteLaws.{not_right, right_where}
use Rattle.fqcsid.proofs.is_allowed.Goals as goal

pub returns-then-id_type-gt2 : goal.returns-then-id_type-gt2
returns-then-id_type-gt2 c = sym (not_right c.args.v (λ r. omega (arith, r.kind)))

pub returns-then-count-gt15 : goal.returns-then-count-gt15
returns-then-count-gt15 c = sym (not_right c.args.v (λ r. omega (arith, r.few)))

pub returns-then-not-keeps_rules : goal.returns-then-not-keeps_rules
returns-then-not-keeps_rules c =
    sym
    (not_right c.args.v
    (λ r. false≢true (sym c.if-not-keeps_rules.true ∙ c.keeps_rules.ensures ∙ r.rules)))

pub returns : goal.returns
returns c =
    let v = c.args.v in
    c.fit_fields.ensures ∙ (λ i. fit (c.widths_of-ws.ensures i) (c.numbers_of-vs.ensures i))
    ∙ right_where v (omega arith) (omega arith) (sym c.keeps_rules.ensures ∙ c.if-not-keeps_rules.false)
