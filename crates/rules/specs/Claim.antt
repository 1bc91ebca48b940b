-- Demand 3 as one statement. An empty table is made, and any calls follow, each of which leaves what its contract says it leaves: the host
-- outcome, the reply space and the table of `serve`, or the answer of `count_free` or `count_addresses`. Then
-- * the table holds the live set that the messages, outcomes and replies alone determine, field by field, in the octets that encode it; the
--   free counts are those of the live set, and the maps mark its TEIDs and addresses, bit by bit;
-- * one restoration request for each live session, in any order, run on an empty table with the same settings, is accepted each time, and
--   leaves the same octets, and so the same free counts and the same maps;
-- * any other calls from an empty table with the same settings that leave the same live set leave the same octets.
-- Assumes nothing.
use Rattle.std.specs.Prelude.{◌≡◌, ℕ, ◌-◌, ◌+◌, ◌≤◌, Bool, true, ◌&&◌, not, length, T, leb}
use mathlib.Core.List.{List, [], ◌∷◌, map, Permᴰ}
use Rattle.octets.specs.Choice.{all_of, one_of}
use Rattle.octets.specs.Octets.{octets}
use Rattle.octets.specs.Lists.{all, member, distinct}
use Rattle.rules.specs.Limits.{min_space}
use Rattle.rules.specs.Model.{Settings, Session, Sessions, held_teids, held_addresses, is_peer, peer_of, holdings}
use Rattle.rules.specs.Layout.{encode, view_settings, view_sessions}
use Rattle.rules.specs.Sound.{make, Count, free, count_free, marked, taken_map, count_addresses, address_map}
use Rattle.rules.specs.Serve.{serve, Served}
use Rattle.rules.specs.Live.{Event, replied, counted, accepted_event, live, reply_cause}
use Rattle.rules.specs.Restoration.{Sender, sender_allowed, restoration}
use Rattle.rules.specs.Causes as why
use Rattle.rules.specs.Calls.{Call, request, count, count_ips}
use Rattle.rules.specs.Request.{Request}
use Rattle.rules.specs.Reading.{read_request}
use Rattle.rules.specs.Message.{kind_of}
use Rattle.rules.specs.Stages.{needed, too_few_teids, too_many_sessions, too_many_pdrs, too_many_endpoints, entry_session}

-- ---- a run

-- one call as it went: a request with its peer's number, its message and reply space, and the outcome, reply space and table at exit; or a count of free TEIDs or
-- addresses and its answer
pub data Step : Type 0 where
  asked : ℕ → List ℕ → List ℕ → Served → Step
  told told_addresses : Count → Step

-- any octets at all
unfoldable pub step_allowed : Step → Bool
step_allowed (asked who msg space r) = octets msg && octets space
step_allowed (told c) = true
step_allowed (told_addresses c) = true

-- on the table t each call left what its contract says, and the next call had the table that it left
abbrev pub Ran : List ℕ → List Step → Type 0
Ran t [] = Unit
Ran t (asked who msg space r ∷ steps) = (r ≡ serve t who msg space) × Ran r.table steps
Ran t (told c ∷ steps) = (c ≡ count_free t) × Ran t steps
Ran t (told_addresses c ∷ steps) = (c ≡ count_addresses t) × Ran t steps

-- the table that the last one left
unfoldable pub last_table : List ℕ → List Step → List ℕ
last_table t [] = t
last_table t (asked who msg space r ∷ steps) = last_table r.table steps
last_table t (told c ∷ steps) = last_table t steps
last_table t (told_addresses c ∷ steps) = last_table t steps

-- what the live set is folded from: message, outcome and reply, never the table
unfoldable pub event_in : Step → Event
event_in (asked who msg space r) = replied who msg r.outcome r.space
event_in (told c) = counted
event_in (told_addresses c) = counted

unfoldable pub live_set : List Step → Sessions
live_set steps = live (map event_in steps)

-- ---- restorations

-- one live session's restoration: the session, what may be any, and the reply space
pub record Restore : Type 0 where
  pub session : Session
  pub sender : Sender
  pub space : List ℕ

abbrev pub restored : Restore → Session
restored r = r.session

-- a reply space is any that outcome 2 lets pass
unfoldable pub restore_allowed : Restore → Bool
restore_allowed r = all_of (sender_allowed r.sender ∷ octets r.space ∷ leb min_space (length r.space) ∷ [])

-- under its session's peer
unfoldable pub restore_call : Settings → Restore → Call
restore_call s r = request r.session.peer (restoration s r.sender r.session) r.space

unfoldable pub restore_calls : Settings → List Restore → List Call
restore_calls s rs = map (restore_call s) rs

-- the call that a step was
unfoldable pub call_in : Step → Call
call_in (asked who msg space r) = request who msg space
call_in (told c) = count
call_in (told_addresses c) = count_ips

-- ---- what is promised

unfoldable pub map_of : List ℕ → List ℕ
map_of t = taken_map (view_settings t) (view_sessions t)

unfoldable pub address_map_of : List ℕ → List ℕ
address_map_of t = address_map (view_settings t) (view_sessions t)

-- The table t holds the settings s and the sessions m. A bit of a map is that of the number so far from the pool's first, and says whether a
-- record holds it: past the pool's last none is held, and no bit is 1.
pub record Holds (s : Settings) (m : Sessions) (t : List ℕ) : Type 0 where
  pub settings : view_settings t ≡ s
  pub records : view_sessions t ≡ m
  pub encoded : t ≡ encode s m
  pub count : count_free t ≡ free (s.size - distinct (held_teids m))
  pub marks : (i : ℕ) → marked (map_of t) i ≡ member (s.first + i) (held_teids m)
  pub address_count : count_addresses t ≡ free (s.address_count - distinct (held_addresses s m))
  pub address_marks : (i : ℕ) → marked (address_map_of t) i ≡ member (s.first_address + i) (held_addresses s m)

-- restorations that ran on an empty table t₀ were accepted each time, and left the table t
pub record Restores (t : List ℕ) (t₀ : List ℕ) (steps : List Step) : Type 0 where
  pub each : T (all accepted_event (map event_in steps))
  pub octets_equal : last_table t₀ steps ≡ t

-- of the table t that a run with the settings s left, and its live set m; `List.Permᴰ` says "one for each, in any order"
pub record Promise (s : Settings) (m : Sessions) (t : List ℕ) : Type 0 where
  pub holds : Holds s m t
  pub restores : (b : List ℕ) (rs : List Restore) (steps : List Step) → T (make s b).made → T (all restore_allowed rs)
      → Ran (make s b).table steps → map call_in steps ≡ restore_calls s rs → Permᴰ m (map restored rs)
      → Restores t (make s b).table steps
  pub no_history : (b : List ℕ) (steps : List Step) → T (make s b).made → T (all step_allowed steps)
      → Ran (make s b).table steps → live_set steps ≡ m → last_table (make s b).table steps ≡ t

-- a and b are any octets that an empty table is made in
unfoldable pub Demand3 : Type 0
Demand3 =
    (s : Settings) (a : List ℕ) (steps : List Step) → T (make s a).made → T (all step_allowed steps) → Ran (make s a).table steps
    → Promise s (live_set steps) (last_table (make s a).table steps)

-- ---- what each peer is due (02 (xiv))

-- Of the table t that a run with the settings s left, and its live set m, whatever either peer asked for: no peer holds more than its limit; and a
-- request whose need, with what its peer holds at entry, is within the peer's guarantee is not refused for want of TEIDs: stage 5's test lets it
-- pass, so where its reply has cause 75, that is for sessions, PDRs or endpoints.
pub record Due (s : Settings) (m : Sessions) (t : List ℕ) : Type 0 where
  pub limited : (who : ℕ) → T (is_peer who) → holdings who m ≤ (peer_of s who).limit
  pub guaranteed : (who : ℕ) (r : Request) → T (is_peer who) → holdings who m + needed r ≤ (peer_of s who).guarantee → T (not (too_few_teids s who m r))
  pub answered : (who : ℕ) (msg space : List ℕ) → T (octets msg) → holdings who m + needed (read_request msg) ≤ (peer_of s who).guarantee
      → (serve t who msg space).outcome ≡ 0 → reply_cause (serve t who msg space).space ≡ why.no_room
      → T (one_of (too_many_sessions s who (kind_of msg) m ∷ too_many_pdrs (entry_session who m msg) (read_request msg) ∷ too_many_endpoints (entry_session who m msg) (read_request msg) ∷ []))

unfoldable pub EachItsDue : Type 0
EachItsDue =
    (s : Settings) (a : List ℕ) (steps : List Step) → T (make s a).made → T (all step_allowed steps) → Ran (make s a).table steps
    → Due s (live_set steps) (last_table (make s a).table steps)

unfoldable pub computing : ℕ
unfolding step_allowed last_table event_in live_set restore_allowed restore_call restore_calls call_in map_of address_map_of
computing = 0
