-- Calls one after the other, computed: the table that each leaves, and what the host sees of it.
-- Assumes nothing.
use Rattle.std.specs.Prelude.{ℕ, Bool, true, ◌&&◌, List, [], ◌∷◌}
use Rattle.octets.specs.Octets.{octets}
use Rattle.rules.specs.Model.{Sessions}
use Rattle.rules.specs.Serve.{serve}
use Rattle.rules.specs.Live.{Event, replied, counted, live}

-- a call: a request with its peer's number, its message and reply space, or a count of free TEIDs or addresses
pub data Call : Type 0 where
  request : ℕ → List ℕ → List ℕ → Call
  count count_ips : Call

-- any octets at all
unfoldable pub call_allowed : Call → Bool
call_allowed (request who msg space) = octets msg && octets space
call_allowed count = true
call_allowed count_ips = true

-- the table after a call, and what the host sees of it
unfoldable pub table_after_call : List ℕ → Call → List ℕ
table_after_call t (request who msg space) = (serve t who msg space).table
table_after_call t count = t
table_after_call t count_ips = t

unfoldable pub event_of : List ℕ → Call → Event
event_of t (request who msg space) = replied who msg (serve t who msg space).outcome (serve t who msg space).space
event_of t count = counted
event_of t count_ips = counted

-- the same for calls one after the other
unfoldable pub table_after_all : List ℕ → List Call → List ℕ
table_after_all t [] = t
table_after_all t (c ∷ cs) = table_after_all (table_after_call t c) cs

unfoldable pub events_of : List ℕ → List Call → List Event
events_of t [] = []
events_of t (c ∷ cs) = event_of t c ∷ events_of (table_after_call t c) cs

-- the live set that calls on a table leave
unfoldable pub live_after_calls : List ℕ → List Call → Sessions
live_after_calls t cs = live (events_of t cs)

unfoldable pub computing : ℕ
unfolding call_allowed table_after_call event_of table_after_all events_of live_after_calls
computing = 0
