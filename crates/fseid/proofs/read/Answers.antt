-- `fseid::read` meets its contract: at each return the tests that led there say what the rules answer.
-- Assumes nothing.
use mathlib.Core.Path.{sym, ◌∙◌}
use native.Mathlib.Omega.{arith}
use Rattle.fseid.proofs.ValueLaws.{read_empty, read_no_family, read_short, read_seid_lem, seid_none, seid_some}
use Rattle.fseid.proofs.read.Goals as goal

pub returns-then-s-eq0 : goal.returns-then-s-eq0
returns-then-s-eq0 c = sym (read_empty _ c.if-s-eq0.true)

pub returns-then-v4-v6-eq0 : goal.returns-then-v4-v6-eq0
returns-then-v4-v6-eq0 c = sym (read_no_family c.args.s.now (omega arith) c.if-v4-v6-eq0.true)

pub returns-then-s-v4 : goal.returns-then-s-v4
returns-then-s-v4 c = sym (read_short c.args.s.now (omega arith) c.if-v4-v6-eq0.false c.if-s-v4.true)

pub returns-then-seid-eq0 : goal.returns-then-seid-eq0
returns-then-seid-eq0 c =
    let s = c.args.s.now in
    sym (read_seid_lem s c.read-seid.result (omega arith) c.if-v4-v6-eq0.false c.if-s-v4.false c.read-seid.ensures.0 ∙ seid_none c.read-seid.result c.if-seid-eq0.true)

pub returns : goal.returns
returns c =
    let s = c.args.s.now in
    sym (read_seid_lem s c.read-seid.result (omega arith) c.if-v4-v6-eq0.false c.if-s-v4.false c.read-seid.ensures.0 ∙ seid_some c.read-seid.result c.if-seid-eq0.false)
