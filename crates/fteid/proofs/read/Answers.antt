-- `fteid::read` meets its contract: at each return the tests that led there say what the rules answer.
-- Assumes nothing.
use mathlib.Core.Option.{some}
use mathlib.Core.Path.{sym, ap, ◌∙◌}
use native.Mathlib.Omega.{arith}
use Rattle.octets.specs.Choice.{map_option}
use Rattle.rules.specs.Elements.{value}
use Rattle.fteid.proofs.ValueLaws.{right_anywhere, read_empty, read_wrong, read_short, read_value_lem}
use Rattle.fteid.proofs.read.Goals as goal

pub returns-then-s-eq0 : goal.returns-then-s-eq0
returns-then-s-eq0 c = ap some (sym (read_empty _ _ c.if-s-eq0.true))

pub returns-then-wrong_flags : goal.returns-then-wrong_flags
returns-then-wrong_flags c =
    let a = c.args in
    ap some (sym (read_wrong a.endpoint a.s.now (omega arith) (sym c.wrong_flags.ensures ∙ c.if-wrong_flags.true)))

pub returns-then-s-length_of : goal.returns-then-s-length_of
returns-then-s-length_of c =
    let a = c.args in
    ap some (sym (read_short a.endpoint a.s.now (omega arith) (sym c.wrong_flags.ensures ∙ c.if-wrong_flags.false) (omega arith)))

pub fields-requires : goal.fields-requires
fields-requires c =
    (omega arith, right_anywhere _ _ (sym c.wrong_flags.ensures ∙ c.if-wrong_flags.false), omega arith)

pub returns : goal.returns
returns c =
    let a = c.args in
    ap (map_option value) c.fields.ensures
    ∙ ap some (sym (read_value_lem a.endpoint a.s.now (sym c.wrong_flags.ensures ∙ c.if-wrong_flags.false) (omega arith)))
