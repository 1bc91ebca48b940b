-- What the requests of pfcp_write_restoration are good for (02 (i)): each is short and, run under the peer that is told with it (02 (xiv)), accepted by
-- an empty table with the same settings; all of them, in the table's order, give the table back; and they leave nothing out.
-- Assumes nothing.
use Rattle.std.specs.Prelude.{ℕ, ◌+◌, ◌≤◌, ◌≡◌, Bool, ◌&&◌, List, [], ◌∷◌, map, T, leb, length, take}
use Rattle.octets.specs.Octets.{octets}
use Rattle.octets.specs.Lists.{all}
use Rattle.rules.specs.Limits.{min_space, max_restoration}
use Rattle.rules.specs.Layout.{view_settings}
use Rattle.rules.specs.Live.{replied, accepted_event}
use Rattle.rules.specs.Calls.{Call, request}
use Rattle.rules.specs.Claim.{call_in, Restores}
use Rattle.rules.specs.Restoring.{Writing}
use Rattle.pfcp_session.specs.Calls.{MakeCall, make_call, RequestCall, request_call, restoration_call}
use Rattle.promises.specs.Runs.{HostStep, HostRan, steps_of}

-- ---- what was written

-- the peer to run it under, and the request
pub record Written : Type 0 where
  pub peer : ℕ
  pub message : List ℕ

-- the call at a place of the table t, with some addresses and space, said 0 and wrote a request
pub record Wrote (t : List ℕ) (place : ℕ) (written : Written) : Type 0 where
  pub ipv4 : List ℕ
  pub ipv6 : List ℕ
  pub space : List ℕ
  pub answer : Writing
  pub call : answer ≡ restoration_call t place ipv4 ipv6 space
  pub success : answer.outcome ≡ 0
  pub peer_of : written.peer ≡ answer.peer
  pub octets_of : written.message ≡ take answer.used answer.space

-- the call at a place said 2: past the last session
pub record Past (t : List ℕ) (place : ℕ) : Type 0 where
  pub ipv4 : List ℕ
  pub ipv6 : List ℕ
  pub space : List ℕ
  pub outcome : (restoration_call t place ipv4 ipv6 space).outcome ≡ 2

-- the calls at the places from one on wrote these requests in turn, and the next one said 2
abbrev pub WroteAll : List ℕ → ℕ → List Written → Type 0
WroteAll t place [] = Past t place
WroteAll t place (r ∷ rs) = Wrote t place r × WroteAll t (place + 1) rs

-- an empty table with the settings of the table t
pub record Emptied (t : List ℕ) (made : MakeCall) : Type 0 where
  pub found : List ℕ
  pub making : made ≡ make_call (view_settings t) found
  pub success : made.outcome ≡ 0

-- ---- each request

unfoldable pub RestorationShort : Type 0
RestorationShort = (t : List ℕ) (place : ℕ) (r : Written) → Wrote t place r → length r.message ≤ max_restoration

-- in any reply space that outcome 2 lets pass
unfoldable pub RestorationAccepted : Type 0
RestorationAccepted =
    (t : List ℕ) (place : ℕ) (r : Written) (made : MakeCall) (space : List ℕ) (answer : RequestCall) → Wrote t place r → Emptied t made
    → min_space ≤ length space → answer ≡ request_call made.table r.peer r.message space → T (accepted_event (replied r.peer r.message answer.outcome answer.space))

-- ---- all of them

-- a request with its peer, and the reply space that is lent with it
pub record Asking : Type 0 where
  pub peer : ℕ
  pub message : List ℕ
  pub reply : List ℕ

abbrev pub written_of : Asking → Written
written_of a = record { peer = a.peer; message = a.message }

unfoldable pub asking_call : Asking → Call
asking_call a = request a.peer a.message a.reply

unfoldable pub asking_allowed : Asking → Bool
asking_allowed a = octets a.reply && leb min_space (length a.reply)

-- run on an empty table with the same settings they are accepted, and leave the table octet for octet, its free count and its map
unfoldable pub RestorationsGiveBack : Type 0
RestorationsGiveBack =
    (t : List ℕ) (made : MakeCall) (asked : List Asking) (steps : List HostStep) → WroteAll t 0 (map written_of asked) → T (all asking_allowed asked)
    → Emptied t made → HostRan made.table steps → map call_in (steps_of steps) ≡ map asking_call asked
    → Restores t made.table (steps_of steps)

-- two tables with equal settings and equal requests are equal
unfoldable pub RestorationsTellAll : Type 0
RestorationsTellAll = (t u : List ℕ) (rs : List Written) → view_settings t ≡ view_settings u → WroteAll t 0 rs → WroteAll u 0 rs → t ≡ u
