-- What the host's calls answer, as numbers, and what they leave behind.
-- Assumes nothing.
use Rattle.std.specs.Prelude.{ℕ, ◌<◌, ◌^◌, ◌≡◌, List, eqb, length}
use Rattle.octets.specs.Choice.{pick}
use Rattle.rules.specs.Model.{Settings}
use Rattle.rules.specs.Layout.{view_settings, view_sessions}
use Rattle.rules.specs.Sound.{Made, make, Count, broken, free, count_free, count_addresses}
use Rattle.rules.specs.Stages.{verdict}
use Rattle.rules.specs.Serve.{Served, reply_to, serve}
use Rattle.rules.specs.Restoring.{Writing, write_restoration}
use Rattle.rules.specs.Store.{Emptied, empty}
use Rattle.rules.specs.Repeats.{Once, request_once}
use Rattle.rules.specs.Finding.{Finding, count_sessions, find_session, find_holder, Share, count_peer, Counts, count_all}

-- making: 0 made, 1 refused; and the table at exit
pub record MakeCall : Type 0 where
  pub outcome : ℕ
  pub table : List ℕ

abbrev pub make_answer : Made → MakeCall
make_answer m = record { outcome = pick m.made 0 1; table = m.table }

unfoldable pub make_call : Settings → List ℕ → MakeCall
make_call s t = make_answer (make s t)

-- counting: outcome 0 and the free count, or 01's outcome 1 and none
pub record CountCall : Type 0 where
  pub outcome : ℕ
  pub count : ℕ

abbrev pub count_answer : Count → CountCall
count_answer broken = record { outcome = 1; count = 0 }
count_answer (free n) = record { outcome = 0; count = n }

unfoldable pub count_call : List ℕ → CountCall
count_call t = count_answer (count_free t)

-- the same of the addresses of the pool (02 (v))
unfoldable pub address_count_call : List ℕ → CountCall
address_count_call t = count_answer (count_addresses t)

-- a count has 32 bits
pub record CountFits (c : Count) : Type 0 where
  pub small : (n : ℕ) → c ≡ free n → n < 2 ^ 32

-- a request: 01's outcome, the length of the reply (0 where there is none), the place of a fault of stages 2 and 3 (else 0), the reply space and
-- the table at exit
pub record RequestCall : Type 0 where
  pub outcome : ℕ
  pub used : ℕ
  pub place : ℕ
  pub space : List ℕ
  pub table : List ℕ

-- the reply to a peer's request on a table
unfoldable pub reply_of : List ℕ → ℕ → List ℕ → List ℕ
reply_of t who msg = reply_to (view_settings t) who (view_sessions t) msg (verdict (view_settings t) who (view_sessions t) msg)

unfoldable pub request_answer : List ℕ → Served → RequestCall
request_answer answer s = record { outcome = s.outcome; used = pick (eqb s.outcome 0) (length answer) 0; place = s.place; space = s.space; table = s.table }

unfoldable pub request_call : List ℕ → ℕ → List ℕ → List ℕ → RequestCall
request_call t who msg space = request_answer (reply_of t who msg) (serve t who msg space)

-- a store of repeated requests emptied (02 (xi)): 0 made, 1 refused; and the store at exit
pub record StoreCall : Type 0 where
  pub outcome : ℕ
  pub store : List ℕ

abbrev pub store_answer : Emptied → StoreCall
store_answer e = record { outcome = pick e.done 0 1; store = e.store }

unfoldable pub store_call : List ℕ → StoreCall
store_call s = store_answer (empty s)

-- a request of which a repeat gets the old reply, with its peer's store: a request's answer, and the store at exit
unfoldable pub once_call : List ℕ → ℕ → List ℕ → List ℕ → List ℕ → Once
once_call t who store msg space = request_once t who store msg space

-- a restoration request of the session at a place, with the control plane's addresses: the outcome, the request's length and the peer
-- to run it under (0 where there is none), and the space at exit
unfoldable pub restoration_call : List ℕ → ℕ → List ℕ → List ℕ → List ℕ → Writing
restoration_call t place ipv4 ipv6 space = write_restoration t place ipv4 ipv6 space

-- the reading calls: 0 and the number of sessions, the place of the session of a peer's SEID or that of the session that holds a TEID; 1 a broken
-- table, 2 none, and the number 0
unfoldable pub session_count_call : List ℕ → Finding
session_count_call t = count_sessions t

unfoldable pub find_session_call : List ℕ → ℕ → ℕ → Finding
find_session_call t who seid = find_session t who seid

unfoldable pub find_teid_call : List ℕ → ℕ → Finding
find_teid_call t teid = find_holder t teid

-- and what a peer has (02 (xiv)): 0, its sessions and the different TEIDs that their records hold; 7 no peer, 1 a broken table, and zeros
unfoldable pub peer_count_call : List ℕ → ℕ → Share
peer_count_call t who = count_peer t who

-- all counts at once: 0, of each peer its sessions and TEIDs, and the free TEIDs and addresses; 1 a broken table, and zeros
unfoldable pub counts_call : List ℕ → Counts
counts_call t = count_all t
