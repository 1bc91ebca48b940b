-- `ue_ip::read` meets its contract: at each return the tests that led there say what the rules answer.
-- Assumes nothing.
use mathlib.Core.Path.{sym, ◌∙◌}
use native.Mathlib.Omega.{arith}
use Rattle.ue_ip.proofs.ValueLaws.{read_empty, read_other, read_both, read_choose, read_short, read_given}
use Rattle.ue_ip.proofs.read.Goals as goal

pub returns-then-s-eq0 : goal.returns-then-s-eq0
returns-then-s-eq0 c = sym (read_empty _ c.if-s-eq0.true)

pub overflow_cast-flags : goal.overflow_cast-flags
overflow_cast-flags c = omega (arith, c.type_inv.s 0)

pub returns-then-is_unsupported : goal.returns-then-is_unsupported
returns-then-is_unsupported c =
    sym (read_other c.args.s.now (omega arith) (sym c.is_unsupported.ensures ∙ c.if-is_unsupported.true))

pub returns-then-v4-chv4 : goal.returns-then-v4-chv4
returns-then-v4-chv4 c =
    sym (read_both c.args.s.now (omega arith) (sym c.is_unsupported.ensures ∙ c.if-is_unsupported.false) c.if-v4-chv4.true)

pub returns-then-chv4-eq1 : goal.returns-then-chv4-eq1
returns-then-chv4-eq1 c =
    sym (read_choose c.args.s.now (omega arith) (sym c.is_unsupported.ensures ∙ c.if-is_unsupported.false) c.if-v4-chv4.false c.if-chv4-eq1.true)

pub returns-then-s-lt5 : goal.returns-then-s-lt5
returns-then-s-lt5 c =
    sym (read_short c.args.s.now (omega arith) (sym c.is_unsupported.ensures ∙ c.if-is_unsupported.false) c.if-v4-chv4.false c.if-chv4-eq1.false c.if-s-lt5.true)

pub returns : goal.returns
returns c =
    sym
    (read_given c.args.s.now (omega arith) (sym c.is_unsupported.ensures ∙ c.if-is_unsupported.false) c.if-v4-chv4.false c.read.result
    c.if-chv4-eq1.false c.if-s-lt5.false c.read.ensures.0)
