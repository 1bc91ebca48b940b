-- What the places of pfcp_find_session and pfcp_find_teid say: the answer is about the one session that has the SEID or holds the TEID, of the table
-- and, after any run of the exported calls, of the live set. The reading calls change nothing, so a run with them is the run without them.
-- Assumes nothing.
use Rattle.std.specs.Prelude.{ℕ, ◌<◌, ◌^◌, ◌≡◌, Bool, List, T, length}
use Rattle.rules.specs.Model.{Session, Sessions, is_peer, of_peer, holdings, key_for}
use Rattle.rules.specs.Layout.{view_sessions}
use Rattle.rules.specs.Sound.{sound}
use Rattle.rules.specs.Stages.{has_key}
use Rattle.rules.specs.Restoring.{session_at}
use Rattle.rules.specs.Finding.{Finding, is_holder, counts_of}
use Rattle.pfcp_session.specs.Calls.{session_count_call, find_session_call, find_teid_call, peer_count_call, counts_call}
use Rattle.promises.specs.Runs.{Run, live_after, table_after}

-- there is a session at the place, and it passes the test
pub record At (test : Session → Bool) (m : Sessions) (place : ℕ) : Type 0 where
  pub live : place < length m
  pub passes : T (test (session_at m place))

-- the two answers on a table that is not broken
abbrev pub found_at : ℕ → Finding
found_at place = record { outcome = 0; number = place }

abbrev pub nowhere : Finding
nowhere = record { outcome = 2; number = 0 }

-- there is one such place at most, and the answer is that place, exactly, or none, exactly where there is none
pub record TheOne (at : ℕ → Type 0) (answer : Finding) : Type 0 where
  pub unique : (one other : ℕ) → at one → at other → one ≡ other
  pub found : (place : ℕ) → answer ≡ found_at place → at place
  pub tells : (place : ℕ) → at place → answer ≡ found_at place
  pub none : answer ≡ nowhere → (place : ℕ) → at place → ⊥
  pub absent : ((place : ℕ) → at place → ⊥) → answer ≡ nowhere

-- of any table that is not broken
unfoldable pub SessionFound : Type 0
SessionFound = (t : List ℕ) (who seid : ℕ) → T (sound t) → TheOne (At (has_key (key_for who seid)) (view_sessions t)) (find_session_call t who seid)

unfoldable pub HolderFound : Type 0
HolderFound = (t : List ℕ) (teid : ℕ) → T (sound t) → TheOne (At (is_holder teid) (view_sessions t)) (find_teid_call t teid)

-- a key is that of one peer and one SEID
unfoldable pub KeysApart : Type 0
KeysApart = (who seid other n : ℕ) → seid < 2 ^ 64 → n < 2 ^ 64 → key_for who seid ≡ key_for other n → (who ≡ other) × (seid ≡ n)

-- after any run: the number of live sessions, the live session of a peer's SEID, the live session that holds a TEID, what a peer has, and all counts
pub record LiveFound (run : Run) : Type 0 where
  pub count : session_count_call (table_after run) ≡ found_at (length (live_after run))
  pub seids : (who seid : ℕ) → TheOne (At (has_key (key_for who seid)) (live_after run)) (find_session_call (table_after run) who seid)
  pub teids : (teid : ℕ) → TheOne (At (is_holder teid) (live_after run)) (find_teid_call (table_after run) teid)
  pub peers : (who : ℕ) → T (is_peer who) → peer_count_call (table_after run) who ≡ record { outcome = 0; sessions = length (of_peer who (live_after run)); teids = holdings who (live_after run) }
  pub counts : counts_call (table_after run) ≡ counts_of run.settings (live_after run)
