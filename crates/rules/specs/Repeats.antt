-- Repeated requests get the old reply (02 (xi)): which sequence number is newer; and one request with the store before the engine: the outcome, the
-- reply's length, the place of a fault, and the reply space, the table and the store at exit.
-- Assumes nothing.
use Rattle.std.specs.Prelude.{ℕ, ◌+◌, ◌-◌, ◌%◌, ◌^◌, Bool, true, not, ◌&&◌, List, leb, eqb, length}
use Rattle.std.proofs.Math.Option.{Option, none, some}
use Rattle.octets.specs.Choice.{pick, is_some}
use Rattle.octets.specs.Octets.{number, put}
use Rattle.rules.specs.Model.{is_peer}
use Rattle.rules.specs.Layout.{view_settings, view_sessions}
use Rattle.rules.specs.Message.{sequence_of}
use Rattle.rules.specs.Stages.{verdict}
use Rattle.rules.specs.Serve.{Served, reply_to, serve}
use Rattle.rules.specs.Store.{Entry, entry, store_octets, store_entries, store_sound, stored_reply, newest, remember}

-- ---- sequence numbers

-- the sequence number of a message
unfoldable pub number_of : List ℕ → ℕ
number_of msg = number (sequence_of msg)

-- how far n is past m, both of 24 bits, the numbers wrapping
unfoldable pub past : ℕ → ℕ → ℕ
past n m = (n + (2 ^ 24 - m)) % 2 ^ 24

-- a difference of 1 to 8,388,607
unfoldable pub newer : ℕ → ℕ → Bool
newer n m = leb 1 (past n m) && leb (past n m) 8388607

-- newer than the one stored last; an empty store takes any number
unfoldable pub takes_after : Option Entry → List ℕ → Bool
takes_after none msg = true
takes_after (some e) msg = newer (number_of msg) (number_of e.message)

unfoldable pub takes : List Entry → List ℕ → Bool
takes es msg = takes_after (newest es) msg

-- ---- one request

pub record Once : Type 0 where
  pub outcome : ℕ
  pub used : ℕ
  pub place : ℕ
  pub space : List ℕ
  pub table : List ℕ
  pub store : List ℕ

-- an outcome without a reply: nothing is written
abbrev pub unanswered : ℕ → List ℕ → List ℕ → List ℕ → Once
unanswered n t store space = record { outcome = n; used = 0; place = 0; space = space; table = t; store = store }

-- a stored reply: nothing changes
abbrev pub again : List ℕ → List ℕ → List ℕ → List ℕ → Once
again r t store space = record { outcome = 0; used = length r; place = 0; space = put 0 r space; table = t; store = store }

-- the engine's reply to a request
unfoldable pub engine_reply : List ℕ → ℕ → List ℕ → List ℕ
engine_reply t who msg = reply_to (view_settings t) who (view_sessions t) msg (verdict (view_settings t) who (view_sessions t) msg)

-- the engine's answer with a reply, which the store keeps
abbrev pub anew : Served → List ℕ → List ℕ → List ℕ → Once
anew s reply store msg =
    record { outcome = s.outcome; used = length reply; place = s.place; space = s.space; table = s.table; store = store_octets (remember (entry msg reply) (store_entries store)) }

-- a request that passed outcomes 1 to 5: it is stored, or its number is newer, or it is dropped
unfoldable pub by_store : Option (List ℕ) → List ℕ → ℕ → List ℕ → List ℕ → List ℕ → Once
by_store (some r) t who store msg space = again r t store space
by_store none t who store msg space = pick (takes (store_entries store) msg) (anew (serve t who msg space) (engine_reply t who msg) store msg) (unanswered 6 t store space)

-- outcome 7 for a number that is no peer's (02 (xiv)), whatever the store; outcome 1 for a broken store of the peer's too; outcomes 1 to 5 as the engine
-- has them, then that store
unfoldable pub request_once : List ℕ → ℕ → List ℕ → List ℕ → List ℕ → Once
request_once t who store msg space =
    pick (is_peer who)
    (pick (store_sound store)
    (pick (eqb (serve t who msg space).outcome 0) (by_store (stored_reply msg (store_entries store)) t who store msg space) (unanswered (serve t who msg space).outcome t store space))
    (unanswered 1 t store space))
    (unanswered 7 t store space)

-- whether a request with a reply reaches the engine: it is not stored, and its number is newer
unfoldable pub reaches : List ℕ → List ℕ → Bool
reaches store msg = store_sound store && not (is_some (stored_reply msg (store_entries store))) && takes (store_entries store) msg

unfoldable pub computing : ℕ
unfolding number_of past newer takes_after takes engine_reply by_store request_once reaches
computing = 0
