-- A session's slot that is not broken, but for the rule on shared TEIDs, area by area.
-- Assumes nothing.
use Rattle.std.specs.Prelude.{ℕ, ◌*◌, Bool, ◌&&◌, List, [], ◌∷◌, map, leb, drop}
use Rattle.octets.specs.Choice.{all_of}
use Rattle.octets.specs.Octets.{part, number_at, octet_at, all_zero, slices}
use Rattle.octets.specs.Lists.{all, ascending}
use Rattle.rules.specs.Limits.{max_pdrs, max_endpoints, node_types}
use Rattle.rules.specs.Model.{Settings, is_peer}
use Rattle.rules.specs.Layout.{pdr_width, endpoint_width, csid_width, seid_at, pdr_count_at, endpoint_count_at, csid_count_at, pdrs_at, endpoints_at, csids_at}
use Rattle.areas.specs.Records.{key_of}
use Rattle.records.specs.Kept.{pdr_sound, endpoint_sound, csid_sound, endpoint_ids}

-- an area of n records of w octets: each passes its test, their keys of k octets ascend, and the room after them is zero
unfoldable pub area_sound : (List ℕ → Bool) → ℕ → ℕ → ℕ → List ℕ → Bool
area_sound p w k n a = all p (slices w n a) && (ascending (map (key_of k) (slices w n a)) && all_zero (drop (n * w) a))

-- the three areas of a slot
abbrev pub pdr_area : List ℕ → List ℕ
pdr_area xs = part pdrs_at (max_pdrs * pdr_width) xs

abbrev pub endpoint_area : List ℕ → List ℕ
endpoint_area xs = part endpoints_at (max_endpoints * endpoint_width) xs

abbrev pub csid_area : List ℕ → List ℕ
csid_area xs = part csids_at (node_types * csid_width) xs

-- the three counts
unfoldable pub counts_sound : List ℕ → Bool
counts_sound xs = all_of (leb (octet_at xs pdr_count_at) max_pdrs ∷ leb (octet_at xs endpoint_count_at) max_endpoints ∷ leb (octet_at xs csid_count_at) node_types ∷ [])

-- the peer, the SEID, and the three counts
unfoldable pub head_sound : List ℕ → Bool
head_sound xs = all_of (is_peer (octet_at xs 0) ∷ leb 1 (number_at seid_at 8 xs) ∷ leb (octet_at xs pdr_count_at) max_pdrs ∷ leb (octet_at xs endpoint_count_at) max_endpoints ∷ leb (octet_at xs csid_count_at) node_types ∷ [])

-- and the areas
unfoldable pub slot_tests : Settings → List ℕ → List Bool
slot_tests s xs =
    head_sound xs
    ∷ area_sound (pdr_sound s (endpoint_ids (octet_at xs endpoint_count_at) (endpoint_area xs))) pdr_width 2 (octet_at xs pdr_count_at) (pdr_area xs)
    ∷ area_sound (endpoint_sound s) endpoint_width 1 (octet_at xs endpoint_count_at) (endpoint_area xs)
    ∷ area_sound csid_sound csid_width 1 (octet_at xs csid_count_at) (csid_area xs)
    ∷ []

unfoldable pub slot_sound : Settings → List ℕ → Bool
slot_sound s xs = all_of (slot_tests s xs)
