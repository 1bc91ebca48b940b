-- `read_fteid` meets its contract. Assumes nothing.
use mathlib.Core.Path.{refl, sym, ap, ◌∙◌}
use native.Mathlib.Omega.{arith}
use lib.ListN.{length-set}
use Rattle.std.proofs.lemmas.Result.{err_from_is_err_and}
use Rattle.fteid.specs.Meaning.{fteid_answer}
use Rattle.reading.proofs.Faults.{refused_at, value_at}
use Rattle.reading.proofs.MemberLaws.{fteid_refused, fteid_value}
use Rattle.reading.proofs.members.read_fteid.Goals as goal

pub returns-in_err-x : goal.returns-in_err-x
returns-in_err-x c =
    let p = err_from_is_err_and c.from_residual.result c.from_residual.ensures.1 in
    let r = refused_at _ _ _ c.answer_at.ensures c.in_err-x.was in
    rw (p.1, p.2, r.fault) (fteid_refused _ _ _ _ c.requires (ap fteid_answer (sym r.answer) ∙ c.read.ensures) refl)

pub bounds-row-16 : goal.bounds-row-16
bounds-row-16 c = simp length-set (omega arith)

pub bounds-row-17 : goal.bounds-row-17
bounds-row-17 c = simp length-set (omega arith)

pub shape_of-row : goal.shape_of-row
shape_of-row c = simp length-set

pub returns : goal.returns
returns c = fteid_value _ _ _ _ _ c.requires (ap fteid_answer (sym (value_at _ _ _ c.answer_at.ensures c.in_ok-x.was)) ∙ c.read.ensures)
