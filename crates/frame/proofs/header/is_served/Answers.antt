-- `is_served` meets its contract: the keys are those of `served`. Assumes nothing.
use mathlib.Core.Logic.{⊎_elim}
use native.Mathlib.Omega.{arith}
use Rattle.std.proofs.lemmas.Grind.{common_steps}
use Rattle.rules.specs.Message.{served}
use Rattle.frame.proofs.header.is_served.Goals as goal

pub returns-in-50 : goal.returns-in-50
unfolding served
returns-in-50 c = ⊎_elim (λ e. rw e) (⊎_elim (λ e. rw e) (⊎_elim (λ e. rw e) (λ e. rw e))) c.in-50.is

pub returns-in_default : goal.returns-in_default
unfolding served
returns-in_default c = grind (arith, common_steps)
