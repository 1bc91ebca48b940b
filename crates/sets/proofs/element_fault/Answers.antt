-- `sets::element_fault` meets its contract. Assumes nothing.
use Rattle.std.proofs.lemmas.Result.{err_from_is_err_and}
use Rattle.reading.proofs.Faults.{refused_at, value_at}
use Rattle.sets.proofs.ListLaws.{skipped_fine, refused_fault, none_fault, some_fine}
use Rattle.sets.proofs.element_fault.Goals as goal

pub returns-then-kind-ne-FQCSID : goal.returns-then-kind-ne-FQCSID
returns-then-kind-ne-FQCSID c = search skipped_fine

pub returns-in_err-x : goal.returns-in_err-x
returns-in_err-x c =
    let p = err_from_is_err_and c.from_residual.result c.from_residual.ensures.1 in
    let r = refused_at _ _ _ c.answer_at.ensures c.in_err-x.was in
    rw (p.1, p.2) (refused_fault _ _ _ c.if-kind-ne-FQCSID.false _ _ c.read.ensures r.answer r.fault)

pub returns-then-x-eq0 : goal.returns-then-x-eq0
returns-then-x-eq0 c = none_fault _ _ _ c.if-kind-ne-FQCSID.false _ _ c.read.ensures (value_at _ _ _ c.answer_at.ensures c.in_ok-x.was) c.if-x-eq0.true

pub returns : goal.returns
returns c = some_fine _ _ _ c.if-kind-ne-FQCSID.false _ _ c.read.ensures (value_at _ _ _ c.answer_at.ensures c.in_ok-x.was) c.if-x-eq0.false
