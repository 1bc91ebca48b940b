-- `read_ue` meets its contract. Assumes nothing.
use mathlib.Core.Path.{refl, sym, ap, ◌∙◌}
use Rattle.std.proofs.lemmas.Result.{err_from_is_err_and}
use Rattle.ue_ip.specs.Meaning.{ue_answer}
use Rattle.reading.proofs.Faults.{refused_at, value_at}
use Rattle.reading.proofs.MemberLaws.{ue_refused, ue_value}
use Rattle.reading.proofs.members.read_ue.Goals as goal

pub returns-in_err-x : goal.returns-in_err-x
returns-in_err-x c =
    let p = err_from_is_err_and c.from_residual.result c.from_residual.ensures.1 in
    let r = refused_at _ _ _ c.answer_at.ensures c.in_err-x.was in
    rw (p.1, p.2, r.fault) (ue_refused _ _ _ _ c.requires (ap ue_answer (sym r.answer) ∙ c.read.ensures) refl)

pub returns : goal.returns
returns c =
    ue_value _ _ _ _ c.requires (ap ue_answer (sym (value_at _ _ _ c.answer_at.ensures c.in_ok-x.was)) ∙ c.read.ensures) c.kind_of.ensures c.address_of.ensures
