-- `pfcp_session::pfcp_counts` meets its contract.
-- Assumes nothing.
use Rattle.std.proofs.Common.{◌≡◌, ◌∙◌, arith}
use Rattle.rules.specs.Finding.{uncounted}
use Rattle.finding.specs.declared.counts.Counts.{Counts}
use Rattle.pfcp_session.specs.Calls.{counts_call}
use Rattle.pfcp_session.proofs.CallLaws.{counts_fit}
use Rattle.pfcp_session.proofs.ToldLaws.{Are, counts_are, counts_out}
use Rattle.pfcp_session.proofs.pfcp_counts.Goals as goal

zeros : (s : Counts) → ((s.peer1.sessions ≡ 0) × (s.peer1.teids ≡ 0)) × (((s.peer2.sessions ≡ 0) × (s.peer2.teids ≡ 0)) × ((s.free ≡ 0) × (s.addresses ≡ 0))) → Are s (uncounted 0)
zeros s h = record { sessions1 = h.0.0; teids1 = h.0.1; sessions2 = h.1.0.0; teids2 = h.1.0.1; free = h.1.1.0; addresses = h.1.1.1 }

pub overflow_cast-sessions1 : goal.overflow_cast-sessions1
overflow_cast-sessions1 c = omega (arith, (counts_fit _ _ c.all-counts.ensures).sessions1, (counts_are _ zeros c.all-counts.result c.unwrap_or_default-all.ensures).sessions1)

pub overflow_cast-teids1 : goal.overflow_cast-teids1
overflow_cast-teids1 c = omega (arith, (counts_fit _ _ c.all-counts.ensures).teids1, (counts_are _ zeros c.all-counts.result c.unwrap_or_default-all.ensures).teids1)

pub overflow_cast-sessions2 : goal.overflow_cast-sessions2
overflow_cast-sessions2 c = omega (arith, (counts_fit _ _ c.all-counts.ensures).sessions2, (counts_are _ zeros c.all-counts.result c.unwrap_or_default-all.ensures).sessions2)

pub overflow_cast-teids2 : goal.overflow_cast-teids2
overflow_cast-teids2 c = omega (arith, (counts_fit _ _ c.all-counts.ensures).teids2, (counts_are _ zeros c.all-counts.result c.unwrap_or_default-all.ensures).teids2)

pub overflow_cast-free : goal.overflow_cast-free
overflow_cast-free c = omega (arith, (counts_fit _ _ c.all-counts.ensures).free, (counts_are _ zeros c.all-counts.result c.unwrap_or_default-all.ensures).free)

pub overflow_cast-addresses : goal.overflow_cast-addresses
overflow_cast-addresses c = omega (arith, (counts_fit _ _ c.all-counts.ensures).free_addresses, (counts_are _ zeros c.all-counts.result c.unwrap_or_default-all.ensures).addresses)

pub returns : goal.returns
unfolding counts_call
returns c = counts_out _ zeros c.all-counts.result c.outcome.ensures c.unwrap_or_default-all.ensures ∙ c.all-counts.ensures
