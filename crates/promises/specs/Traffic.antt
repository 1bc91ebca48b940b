-- Runs in which repeats get the old reply (02 (xi)): calls of pfcp_request_once among the others. Demand 3 speaks of the requests that reach the
-- engine: what it promises of a run of them holds of the whole, whatever octets were lent as stores. And where each store is the one that the
-- peer's call before left (02 (xiv)), the calls alone say what it holds, and so which requests reach the engine; none of the
-- last eight does so again.
-- Assumes nothing.
use Rattle.std.specs.Prelude.{ℕ, ◌≤◌, ◌≡◌, Bool, ◌&&◌, not, List, [], ◌∷◌, T, eqb, length, take}
use Rattle.std.proofs.Math.Option.{some}
use Rattle.octets.specs.Choice.{pick, is_some}
use Rattle.octets.specs.Octets.{octets}
use Rattle.octets.specs.Lists.{all, all_pairs}
use Rattle.rules.specs.Limits.{min_space}
use Rattle.rules.specs.Model.{Settings, Sessions, is_peer}
use Rattle.rules.specs.Sound.{sound}
use Rattle.rules.specs.Claim.{step_allowed, live_set, Promise}
use Rattle.rules.specs.Store.{Entry, entry, max_entries, store_octets, differ, stored_reply, remember}
use Rattle.rules.specs.Repeats.{Once, again, reaches}
use Rattle.pfcp_session.specs.Calls.{MakeCall, make_call, RequestCall, once_call}
use Rattle.promises.specs.Runs.{HostStep, requested, counted, counted_addresses, HostRan, claim_step, steps_of}

-- a call of pfcp_request_once with the number of its peer, its store, message and reply space, or another call, and what it left
pub data TrafficStep : Type 0 where
  once : ℕ → List ℕ → List ℕ → List ℕ → Once → TrafficStep
  other : HostStep → TrafficStep

-- the table that a call left
abbrev pub table_of : List ℕ → HostStep → List ℕ
table_of t (requested who msg space r) = r.table
table_of t (counted c) = t
table_of t (counted_addresses c) = t

abbrev pub table_left : List ℕ → TrafficStep → List ℕ
table_left t (once who store msg space r) = r.table
table_left t (other h) = table_of t h

-- each call left what its contract says on the table t, and the next one had the table that it left; the stores are any octets
abbrev pub TrafficRan : List ℕ → List TrafficStep → Type 0
TrafficRan t [] = Unit
TrafficRan t (once who store msg space r ∷ steps) = (r ≡ once_call t who store msg space) × TrafficRan r.table steps
TrafficRan t (other h ∷ steps) = HostRan t (h ∷ []) × TrafficRan (table_of t h) steps

-- a request as the engine answered it
abbrev pub engine_call : Once → RequestCall
engine_call r = record { outcome = r.outcome; used = r.used; place = r.place; space = r.space; table = r.table }

-- the calls that reach the engine: of requests with a store, those of a peer that are not stored and whose number is newer
unfoldable pub reached : List TrafficStep → List HostStep
reached [] = []
reached (once who store msg space r ∷ steps) = pick (is_peer who && reaches store msg) (requested who msg space (engine_call r) ∷ reached steps) (reached steps)
reached (other h ∷ steps) = h ∷ reached steps

-- the table that the last one left
unfoldable pub traffic_table : List ℕ → List TrafficStep → List ℕ
traffic_table t [] = t
traffic_table t (x ∷ steps) = traffic_table (table_left t x) steps

-- messages and reply spaces are octets; of the stores nothing is asked
unfoldable pub traffic_allowed : TrafficStep → Bool
traffic_allowed (once who store msg space r) = octets msg && octets space
traffic_allowed (other h) = step_allowed (claim_step h)

-- pfcp_make_table said 0 of the octets found, and any calls with any octets followed, each of which left what its contract says
pub record Traffic : Type 0 where
  pub settings : Settings
  pub found : List ℕ
  pub made : MakeCall
  pub steps : List TrafficStep
  pub making : made ≡ make_call settings found
  pub success : made.outcome ≡ 0
  pub allowed : T (all traffic_allowed steps)
  pub ran : TrafficRan made.table steps

-- the live set, from the messages, outcomes and replies of the requests that reach the engine
unfoldable pub traffic_live : Traffic → Sessions
traffic_live run = live_set (steps_of (reached run.steps))

unfoldable pub traffic_after : Traffic → List ℕ
traffic_after run = traffic_table run.made.table run.steps

-- demand 3 of the requests that reach the engine
unfoldable pub TrafficClaim : Type 0
TrafficClaim = (run : Traffic) → Promise run.settings (traffic_live run) (traffic_after run)

-- ---- the store that the calls tell

-- each call of a peer with a store had the one that the peer's last such call left, from a first one on; what the other peer's had is not asked
abbrev pub Handed : ℕ → List ℕ → List TrafficStep → Type 0
Handed peer s [] = Unit
Handed peer s (once who store msg space r ∷ steps) = (T (eqb who peer) → store ≡ s) × Handed peer (pick (eqb who peer) r.store s) steps
Handed peer s (other h ∷ steps) = Handed peer s steps

unfoldable pub last_store : ℕ → List ℕ → List TrafficStep → List ℕ
last_store peer s [] = s
last_store peer s (once who store msg space r ∷ steps) = last_store peer (pick (eqb who peer) r.store s) steps
last_store peer s (other h ∷ steps) = last_store peer s steps

-- what a call says is stored of a peer's: its request if it got a reply, unless that was a stored one, with the octets of the reply
unfoldable pub now_stored : List Entry → List ℕ → Once → List Entry
now_stored es msg r = pick (eqb r.outcome 0 && not (is_some (stored_reply msg es))) (remember (entry msg (take r.used r.space)) es) es

-- what the calls say is stored of a peer's; the last eight
unfoldable pub told_stored : ℕ → List Entry → List TrafficStep → List Entry
told_stored peer es [] = es
told_stored peer es (once who store msg space r ∷ steps) = told_stored peer (pick (eqb who peer) (now_stored es msg r) es) steps
told_stored peer es (other h ∷ steps) = told_stored peer es steps

-- from an emptied store on, each peer's store holds these, octet for octet
unfoldable pub StoreTold : Type 0
StoreTold =
    (t : List ℕ) (peer : ℕ) (steps : List TrafficStep) → TrafficRan t steps → Handed peer (store_octets []) steps
    → last_store peer (store_octets []) steps ≡ store_octets (told_stored peer [] steps)

-- ---- at most once

-- a request that is stored, and its call: it does not reach the engine and changes nothing; a reply that it gets is the stored one, and it gets one, if it is a
-- peer's, where the table is not broken and the reply space has room
pub record Repeated (t : List ℕ) (who : ℕ) (store msg space reply : List ℕ) (r : Once) : Type 0 where
  pub rests : T (not (reaches store msg))
  pub table : r.table ≡ t
  pub kept : r.store ≡ store
  pub same : r.outcome ≡ 0 → r ≡ again reply t store space
  pub told : T (is_peer who) → T (sound t) → min_space ≤ length space → r.outcome ≡ 0

-- of a table, a peer's store and the entries that the calls tell: at most eight, with different messages, and a request of the peer that is equal to one of them is
-- a repeat
pub record OnceEach (t : List ℕ) (who : ℕ) (store : List ℕ) (es : List Entry) : Type 0 where
  pub few : length es ≤ max_entries
  pub apart : T (all_pairs differ es)
  pub repeated : (msg reply space : List ℕ) → stored_reply msg es ≡ some reply → Repeated t who store msg space reply (once_call t who store msg space)

-- after any calls, from an emptied store on, and so however often it comes: a message equal to one of the peer's last eight that were replied to
unfoldable pub AtMostOnce : Type 0
AtMostOnce =
    (t : List ℕ) (peer : ℕ) (steps : List TrafficStep) → TrafficRan t steps → Handed peer (store_octets []) steps
    → OnceEach (traffic_table t steps) peer (last_store peer (store_octets []) steps) (told_stored peer [] steps)
