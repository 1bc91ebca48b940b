-- `marking::admit_session` meets its contract.
-- Assumes nothing.
use Rattle.std.proofs.lemmas.Result.{err_from_is_err_and}
use Rattle.marking.proofs.Entering.{admitted_sound, entered_clash, entered_taken, entered_whole}
use Rattle.marking.proofs.admit_session.Goals as goal

pub returns-in_err-teids : goal.returns-in_err-teids
returns-in_err-teids c = rw (err_from_is_err_and c.from_residual.result c.from_residual.ensures.1).1 (entered_clash _ _ _ _ _ _ c.admit.ensures _ _ c.in_err-teids.was)

pub admit-requires-2 : goal.admit-requires-2
admit-requires-2 c =
    (admitted_sound c.admit.ensures c.in_ok-teids.teids c.in_ok-teids.was, c.requires.0, c.requires.2, c.requires.3, c.requires.4, c.requires.5, c.requires.6)

pub returns-in_err-held : goal.returns-in_err-held
returns-in_err-held c = rw (err_from_is_err_and c.from_residual-in_err-held.result c.from_residual-in_err-held.ensures.1).1 (entered_taken _ _ _ _ _ _ c.admit.ensures _ c.in_ok-teids.was _ _ _ _ c.admit-2.ensures c.in_err-held.was)

pub returns : goal.returns
returns c = entered_whole _ _ _ _ _ _ c.admit.ensures _ c.in_ok-teids.was _ _ _ _ c.admit-2.ensures _ c.in_ok-held.was
