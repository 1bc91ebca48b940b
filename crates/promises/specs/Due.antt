-- What each peer is due (02 (xiv)), of every run of the exported calls, whatever either peer asked for: no peer holds more than its limit, and a need that,
-- with what the peer holds at entry, is within its guarantee is not refused for want of TEIDs. And a request touches its peer's sessions alone, and its reply
-- names the unit by the peer's signalling address.
-- Assumes nothing.
use Rattle.std.specs.Prelude.{ℕ, ◌+◌, ◌≤◌, ◌≡◌, not, ◌||◌, List, [], ◌∷◌, T, eqb}
use Rattle.std.proofs.Math.Option.{some}
use Rattle.octets.specs.Choice.{one_of}
use Rattle.octets.specs.Octets.{octets, be}
use Rattle.rules.specs.Model.{Settings, Sessions, is_peer, peer_of, of_peer, holdings}
use Rattle.rules.specs.Layout.{view_sessions}
use Rattle.rules.specs.Elements.{fseid_octets}
use Rattle.rules.specs.Message.{kind_of, content_of, establishment, set_deletion}
use Rattle.rules.specs.Reading.{read_request}
use Rattle.rules.specs.Stages.{needed, too_many_sessions, too_many_pdrs, too_many_endpoints, entry_session}
use Rattle.rules.specs.Live.{reply_elements, reply_cause}
use Rattle.rules.specs.Types as ie
use Rattle.rules.specs.Causes as why
use Rattle.pfcp_session.specs.Calls.{RequestCall, request_call}
use Rattle.promises.specs.Runs.{Run, live_after, table_after}
use Rattle.promises.specs.Traffic.{Traffic, traffic_live, traffic_after}

-- the next call is a request of a peer, r is what it left, and its need, with what the peer holds at entry, is within the peer's guarantee
pub record Guaranteed (s : Settings) (m : Sessions) (t : List ℕ) (who : ℕ) (msg space : List ℕ) (r : RequestCall) : Type 0 where
  pub message : T (octets msg)
  pub call : r ≡ request_call t who msg space
  pub within : holdings who m + needed (read_request msg) ≤ (peer_of s who).guarantee

-- of the settings s, the live set m and the table t that a run left: no peer holds more than its limit; and where such a request's reply has cause 75, that is
-- for sessions, PDRs or endpoints, not for TEIDs
pub record DueTo (s : Settings) (m : Sessions) (t : List ℕ) : Type 0 where
  pub limited : (who : ℕ) → T (is_peer who) → holdings who m ≤ (peer_of s who).limit
  pub guaranteed : (who : ℕ) (msg space : List ℕ) (r : RequestCall) → Guaranteed s m t who msg space r
      → r.outcome ≡ 0 → reply_cause r.space ≡ why.no_room
      → T (one_of (too_many_sessions s who (kind_of msg) m ∷ too_many_pdrs (entry_session who m msg) (read_request msg) ∷ too_many_endpoints (entry_session who m msg) (read_request msg) ∷ []))

-- after every run, and after every run in which repeats get the old reply
unfoldable pub HostDue : Type 0
HostDue = (run : Run) → DueTo run.settings (live_after run) (table_after run)

unfoldable pub TrafficDue : Type 0
TrafficDue = (run : Traffic) → DueTo run.settings (traffic_live run) (traffic_after run)

-- ---- the other peer's sessions

-- a request of one peer, whatever it is, leaves the other's sessions as they are
unfoldable pub OthersStay : Type 0
OthersStay =
    (run : Run) (who other : ℕ) (msg space : List ℕ) (r : RequestCall) → T (octets msg) → r ≡ request_call (table_after run) who msg space → T (not (eqb who other))
    → of_peer other (view_sessions r.table) ≡ of_peer other (live_after run)

-- ---- the unit's address in a reply

-- the reply to an establishment or a set deletion, accepted or refused, names the unit by the peer's signalling address; so does the F-SEID in the reply to an
-- accepted establishment
pub record NamedFor (home : ℕ) (msg space : List ℕ) : Type 0 where
  pub node : T (eqb (kind_of msg) establishment || eqb (kind_of msg) set_deletion) → content_of ie.node_id (reply_elements space) ≡ some (0 ∷ be 4 home)
  pub fseid : T (eqb (kind_of msg) establishment) → reply_cause space ≡ why.accepted → content_of ie.fseid (reply_elements space) ≡ some (fseid_octets (read_request msg).seid (be 4 home) [])

unfoldable pub RepliesNamed : Type 0
RepliesNamed =
    (run : Run) (who : ℕ) (msg space : List ℕ) (r : RequestCall) → T (octets msg) → r ≡ request_call (table_after run) who msg space → r.outcome ≡ 0
    → NamedFor (peer_of run.settings who).address msg r.space
