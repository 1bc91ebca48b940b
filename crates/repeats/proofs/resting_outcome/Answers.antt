-- `repeats::resting_outcome` meets its contract. Assumes nothing.
use mathlib.Core.Path.{sym, ◌∙◌}
use borrow.Author.Tests.{not-true, not-false}
use Rattle.repeats.proofs.OnceLaws.{resting_broken, resting_small, resting_none}
use Rattle.repeats.proofs.resting_outcome.Goals as goal

pub returns-then-not-is_sound : goal.returns-then-not-is_sound
returns-then-not-is_sound c = resting_broken _ _ (sym c.is_sound.ensures ∙ not-true _ c.if-not-is_sound.true-raw)

pub returns-then-out-lt-SPACE : goal.returns-then-out-lt-SPACE
returns-then-out-lt-SPACE c = resting_small _ _ (sym c.is_sound.ensures ∙ not-false _ c.if-not-is_sound.false-raw) c.if-out-lt-SPACE.true

pub returns-else-out-lt-SPACE : goal.returns-else-out-lt-SPACE
returns-else-out-lt-SPACE c = resting_none _ _ (sym c.is_sound.ensures ∙ not-false _ c.if-not-is_sound.false-raw) c.if-out-lt-SPACE.false
