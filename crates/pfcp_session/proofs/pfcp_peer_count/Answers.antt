-- `pfcp_session::pfcp_peer_count` meets its contract.
-- Assumes nothing.
use Rattle.std.proofs.Common.{◌∙◌, arith}
use Rattle.pfcp_session.specs.Calls.{peer_count_call}
use Rattle.pfcp_session.proofs.CallLaws.{share_fits}
use Rattle.pfcp_session.proofs.ToldLaws.{share_is, share_out}
use Rattle.pfcp_session.proofs.pfcp_peer_count.Goals as goal

pub overflow_cast-sessions : goal.overflow_cast-sessions
overflow_cast-sessions c = omega (arith, (share_fits _ _ _ c.peer_count-told.ensures).0, (share_is _ (λ s h. h) c.peer_count-told.result c.unwrap_or_default-share.ensures).0)

pub overflow_cast-teids : goal.overflow_cast-teids
overflow_cast-teids c = omega (arith, (share_fits _ _ _ c.peer_count-told.ensures).1, (share_is _ (λ s h. h) c.peer_count-told.result c.unwrap_or_default-share.ensures).1)

pub returns : goal.returns
unfolding peer_count_call
returns c = share_out _ (λ s h. h) c.peer_count-told.result c.outcome.ensures c.unwrap_or_default-share.ensures ∙ c.peer_count-told.ensures
