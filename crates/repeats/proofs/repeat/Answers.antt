-- `repeats::repeat` meets its contract. Assumes nothing.
use mathlib.Core.Path.{refl, sym, ap, ◌∙◌}
use native.Mathlib.Omega.{arith}
use Rattle.std.proofs.lemmas.Result.{err_from_is_err_and}
use Rattle.repeats.specs.Steps.{resting_told}
use Rattle.repeats.proofs.OnceLaws.{nonzero, resting_room, repeat_none, repeat_some}
use Rattle.repeats.proofs.repeat.Goals as goal

pub returns-in_err-resting_outcome : goal.returns-in_err-resting_outcome
returns-in_err-resting_outcome c =
    let p = err_from_is_err_and c.from_residual.result c.from_residual.ensures.1 in
    rw (p.1, p.2) (repeat_none _ _ _ (sym (ap resting_told c.in_err-resting_outcome.was) ∙ c.resting_outcome.ensures) _ _ _ _ (nonzero _) (refl, refl, refl))

pub copy-requires : goal.copy-requires
copy-requires c = omega (arith, resting_room _ _ (sym (sym (ap resting_told c.in_ok-resting_outcome.was) ∙ c.resting_outcome.ensures)))

pub returns : goal.returns
returns c = repeat_some _ _ _ (sym (ap resting_told c.in_ok-resting_outcome.was) ∙ c.resting_outcome.ensures) _ _ _ refl refl c.copy.ensures
