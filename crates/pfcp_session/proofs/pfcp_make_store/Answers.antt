-- `pfcp_session::pfcp_make_store` meets its contract.
-- Assumes nothing.
use Rattle.std.proofs.Common.{ap, not, ◌∙◌}
use Rattle.pfcp_session.proofs.CallLaws.{call_emptied, call_kept}
use Rattle.pfcp_session.proofs.pfcp_make_store.Goals as goal

pub returns-then-is_err : goal.returns-then-is_err
returns-then-is_err c = call_kept _ _ _ c.clear.ensures (c.is_err.ensures.negation ∙ ap not c.if-is_err.true)

pub returns : goal.returns
returns c = call_emptied _ _ _ c.clear.ensures (c.is_err.ensures.negation ∙ ap not c.if-is_err.false)
