-- `repeats::drop_old` meets its contract. Assumes nothing.
use mathlib.Core.Path.{refl, sym, ap, ◌∙◌}
use Rattle.std.proofs.lemmas.Result.{err_from_is_err_and}
use Rattle.repeats.specs.Steps.{resting_told}
use Rattle.repeats.proofs.OnceLaws.{nonzero, drop_none, drop_some}
use Rattle.repeats.proofs.drop_old.Goals as goal

pub returns-in_err-resting_outcome : goal.returns-in_err-resting_outcome
returns-in_err-resting_outcome c =
    let p = err_from_is_err_and c.from_residual.result c.from_residual.ensures.1 in
    rw (p.1, p.2) (drop_none _ _ _ (sym (ap resting_told c.in_err-resting_outcome.was) ∙ c.resting_outcome.ensures) _ _ _ (nonzero _) (refl, refl, refl))

pub returns : goal.returns
returns c = drop_some _ _ _ (sym (ap resting_told c.in_ok-resting_outcome.was) ∙ c.resting_outcome.ensures) _ _ _ refl (refl, refl, refl)
