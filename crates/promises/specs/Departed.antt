-- No memory of the departed (02 (xiii)): two units with equal settings and any two pasts, whose live sessions agree in all but PDRs' precedences and
-- FAR IDs. From then on no calls tell them apart, and their tables differ at most in these fields.
-- Assumes nothing.
use Rattle.std.specs.Prelude.{ℕ, ◌≤◌, ◌≡◌, List, map, T, length, take}
use Rattle.octets.specs.Lists.{all}
use Rattle.rules.specs.Limits.{max_restoration}
use Rattle.rules.specs.Layout.{view_settings, view_sessions}
use Rattle.rules.specs.Restoring.{session_at}
use Rattle.rules.specs.Bare.{bare_session, Alike, blank_table}
use Rattle.rules.specs.Claim.{step_allowed, last_table}
use Rattle.pfcp_session.specs.Calls.{CountCall, count_call, address_count_call, restoration_call, session_count_call, find_session_call, find_teid_call, peer_count_call, counts_call}
use Rattle.promises.specs.Runs.{HostStep, requested, counted, counted_addresses, HostRan, steps_of, Run, live_after, table_after}

-- ---- the same calls and the same answers

-- what the same calls have in common: a request's peer, its message and the length of its reply space, whatever stands in it; or that it is a count
pub data Called : Type 0 where
  calls_request : ℕ → List ℕ → ℕ → Called
  calls_count calls_addresses : Called

unfoldable pub called_in : HostStep → Called
called_in (requested who msg space r) = calls_request who msg (length space)
called_in (counted c) = calls_count
called_in (counted_addresses c) = calls_addresses

-- what a host hears: of a request the outcome, the place, and the reply with its length; or a count
pub data Heard : Type 0 where
  hears_reply : ℕ → ℕ → ℕ → List ℕ → Heard
  hears_count : CountCall → Heard

-- the reply is what was written of the space
unfoldable pub heard_in : HostStep → Heard
heard_in (requested who msg space r) = hears_reply r.outcome r.place r.used (take r.used r.space)
heard_in (counted c) = hears_count c
heard_in (counted_addresses c) = hears_count c

-- ---- the tables

-- they differ at most in PDRs' precedences and FAR IDs: as records, and as octets
pub record Differ (t u : List ℕ) : Type 0 where
  pub settings : view_settings t ≡ view_settings u
  pub sessions : Alike (view_sessions t) (view_sessions u)
  pub lengths : length t ≡ length u
  pub octets : blank_table t ≡ blank_table u

-- nor do the calls that change nothing tell them apart
pub record ReadAlike (t u : List ℕ) : Type 0 where
  pub count : count_call t ≡ count_call u
  pub addresses : address_count_call t ≡ address_count_call u
  pub sessions : session_count_call t ≡ session_count_call u
  pub seids : (who seid : ℕ) → find_session_call t who seid ≡ find_session_call u who seid
  pub teids : (teid : ℕ) → find_teid_call t teid ≡ find_teid_call u teid
  pub peers : (who : ℕ) → peer_count_call t who ≡ peer_count_call u who
  pub counts : counts_call t ≡ counts_call u

-- but for the writer of restorations, which writes these fields: where any request fits, its outcomes are the same, and the session at a place, whose
-- restoration it writes, agrees in all but these fields
pub record WriteAlike (t u : List ℕ) : Type 0 where
  pub outcomes : (place : ℕ) (ipv4 ipv6 space other : List ℕ) → max_restoration ≤ length space → max_restoration ≤ length other
      → (restoration_call t place ipv4 ipv6 space).outcome ≡ (restoration_call u place ipv4 ipv6 other).outcome
  pub requests : (place : ℕ) → bare_session (session_at (view_sessions t) place) ≡ bare_session (session_at (view_sessions u) place)

-- ---- the claim

-- of calls one after the other on the tables t and u: the answers, and the tables that the last ones left
pub record Indistinct (t u : List ℕ) (steps others : List HostStep) : Type 0 where
  pub answers : map heard_in steps ≡ map heard_in others
  pub tables : Differ (last_table t (steps_of steps)) (last_table u (steps_of others))
  pub readings : ReadAlike (last_table t (steps_of steps)) (last_table u (steps_of others))
  pub restorations : WriteAlike (last_table t (steps_of steps)) (last_table u (steps_of others))

-- after any two runs any same calls of any octets, any number of them; a live set stands in ascending order of peer, then SEID, its records of ID
unfoldable pub NoMemory : Type 0
NoMemory =
    (one other : Run) → one.settings ≡ other.settings → Alike (live_after one) (live_after other)
    → (steps others : List HostStep) → T (all step_allowed (steps_of steps)) → HostRan (table_after one) steps → HostRan (table_after other) others
    → map called_in steps ≡ map called_in others
    → Indistinct (table_after one) (table_after other) steps others
