-- `conclude` meets its contract. Assumes nothing.
use mathlib.Core.Path.{sym, ◌∙◌}
use Rattle.request.proofs.TurnLaws.{end_other, end_no_pdr, end_no_seid, end_whole}
use Rattle.request.proofs.conclude.Goals as goal

pub returns-then-message-ne-ESTABLISHMENT : goal.returns-then-message-ne-ESTABLISHMENT
returns-then-message-ne-ESTABLISHMENT c = end_other _ _ c.if-message-ne-ESTABLISHMENT.true c.plan_of.ensures

pub returns-then-lacks_pdr : goal.returns-then-lacks_pdr
returns-then-lacks_pdr c = end_no_pdr _ _ c.if-message-ne-ESTABLISHMENT.false (sym c.if-lacks_pdr.true ∙ c.lacks_pdr.ensures)

pub returns-then-d-eq0 : goal.returns-then-d-eq0
returns-then-d-eq0 c = end_no_seid _ _ c.if-message-ne-ESTABLISHMENT.false (sym c.if-lacks_pdr.false ∙ c.lacks_pdr.ensures) c.if-d-eq0.true

pub returns : goal.returns
returns c = end_whole _ _ c.if-message-ne-ESTABLISHMENT.false (sym c.if-lacks_pdr.false ∙ c.lacks_pdr.ensures) c.if-d-eq0.false c.plan_of-2.ensures
