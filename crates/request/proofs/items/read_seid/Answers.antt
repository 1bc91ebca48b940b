-- `read_seid` meets its contract. Assumes nothing.
use mathlib.Core.Path.{refl, sym, ap, ◌∙◌}
use Rattle.std.proofs.lemmas.Result.{err_from_is_err_and}
use Rattle.fseid.specs.Meaning.{fseid_answer}
use Rattle.reading.proofs.Faults.{refused_at, value_at}
use Rattle.request.proofs.HeadSteps.{seid_repeat, seid_refused, seid_value}
use Rattle.request.proofs.items.read_seid.Goals as goal

pub returns-then-d-ne0 : goal.returns-then-d-ne0
returns-then-d-ne0 c = seid_repeat _ _ _ c.if-d-ne0.true

pub returns-in_err-seid : goal.returns-in_err-seid
returns-in_err-seid c =
    let p = err_from_is_err_and c.from_residual.result c.from_residual.ensures.1 in
    let r = refused_at _ _ _ c.answer_at.ensures c.in_err-seid.was in
    rw (p.1, p.2, r.fault) (seid_refused _ _ _ _ c.if-d-ne0.false (ap fseid_answer (sym r.answer) ∙ c.read.ensures) refl)

pub returns : goal.returns
returns c = seid_value _ _ _ _ c.if-d-ne0.false (ap fseid_answer (sym (value_at _ _ _ c.answer_at.ensures c.in_ok-seid.was)) ∙ c.read.ensures)
