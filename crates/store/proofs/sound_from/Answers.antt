-- `store::sound_from` meets its contract: what is left gives the same answer. Assumes nothing.
use Rattle.std.proofs.Common.{sym, ◌∙◌, arith}
use Rattle.store.proofs.WalkLaws.{not_sound, sound_again, sound_on, sound_end, some_held, none_held}
use Rattle.store.proofs.sound_from.Goals as goal

pub returns-in_default : goal.returns-in_default
returns-in_default c = sym (c.loop-i.invariant ∙ not_sound _ c.in_default.ensures _ (omega arith))

pub returns-then-is_some : goal.returns-then-is_some
returns-then-is_some c = sym (c.loop-i.invariant ∙ sound_again c.in-Some.ensures (omega arith) (some_held _ c.find.result (sym c.if-is_some.ensures) c.find.ensures).1)

pub loop-i-preserved : goal.loop-i-preserved
loop-i-preserved c = c.loop-i.invariant ∙ sound_on c.in-Some.ensures (omega arith) (none_held _ c.find.result (sym c.if-is_some.ensures) c.find.ensures)

pub returns : goal.returns
returns c = c.is_zero_long.ensures ∙ sym (c.loop-i.invariant ∙ sound_end _ _ (omega arith))
