-- Whether a TEID is held, by the octets of a session's slot.
-- Assumes nothing.
use Rattle.std.specs.Prelude.{ℕ, ◌≤◌, ◌≡◌, Bool, List, map, length, get_or}
use Rattle.octets.specs.Lists.{member}
use Rattle.rules.specs.Limits.{max_pdrs, max_endpoints}
use Rattle.rules.specs.Model.{teid_of}
use Rattle.rules.specs.Layout.{session_width, pdr_count_at, endpoint_count_at}
use Rattle.marking.specs.Marking.{pdr_holds, endpoint_holds}

-- by one of n endpoints, and by one of n PDRs
unfoldable pub endpoints_hold : ℕ → ℕ → List ℕ → Bool
endpoints_hold teid n a = member teid (map teid_of (endpoint_holds n a))

unfoldable pub pdrs_hold : ℕ → ℕ → List ℕ → Bool
pdrs_hold teid n a = member teid (map teid_of (pdr_holds n a))

-- a slot whose areas have room for what it counts
pub record SlotCounted (slot : List ℕ) : Type 0 where
  pub long : length slot ≡ session_width
  pub pdrs : get_or slot pdr_count_at 0 ≤ max_pdrs
  pub endpoints : get_or slot endpoint_count_at 0 ≤ max_endpoints
