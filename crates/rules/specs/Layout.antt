-- The table's octets: `encode` writes settings and sessions, `view` reads any octets back.
-- The layout is the team's (01: "fixed by the team and written in docs/"); every number is big-endian, unused room is zero.
--
--   table     settings 63, session count 2, as many session slots as the settings' limit says
--   settings  IPv4 4, IPv6 there 1, IPv6 16, first TEID 4, pool size 4, first address 4, number of addresses 4, session limit 2,
--             then for each peer its address 4, guarantee 4, limit 4
--   session   peer 1, SEID 8, PDR count 1, endpoint count 1, FQ-CSID count 1, 16 PDR slots, 8 endpoint slots, 6 FQ-CSID slots
--   PDR       ID 2, precedence 4, FAR there 1, FAR ID 4, source interface 1, match 1 (0 neither, 1 F-TEID, 2 endpoint),
--             TEID 4, families 1 (V4 = 1, V6 = 2), endpoint ID 1, address there 1, address 4
--   endpoint  ID 1, TEID 4, families 1, address there 1, address 4
--   FQ-CSID   node type 1, Node-ID type 1, address 16 (4 used by types 0 and 2), CSID 2
--
-- A PDR, an endpoint and an FQ-CSID are lists of fields: the widths, the numbers of a record and the record of numbers stand once each below;
-- its octets, its view and its width follow.
--
-- Assumes nothing.
use Rattle.std.specs.Prelude.{ℕ, ◌+◌, ◌*◌, not, List, [], ◌∷◌, ◌++◌, map, length, take, drop, get_or, eqb}
use Rattle.std.proofs.Math.Option.{Option, none, some}
use Rattle.octets.specs.Choice.{pick, flag, is_nil, is_some, value_or}
use Rattle.octets.specs.Octets.{be, part, number, number_at, octet_at, bit, padded, slices, concat_map}
use Rattle.octets.specs.Fields.{width_of, fields_at, field_octets}
use Rattle.rules.specs.Model.{Settings, Tunnel, Match, neither, tunnel, endpoint, Pdr, Endpoint, Csid, Session, Sessions, Peer}
use Rattle.rules.specs.Limits.{max_pdrs, max_endpoints, node_types}
use Rattle.rules.specs.Elements.{address_length}

-- ---- fields that several records have

-- a value that may be absent is two fields: 1 and the value, or 0 and 0
unfoldable pub option_read : ℕ → ℕ → Option ℕ
option_read there v = pick (eqb there 0) none (some v)

unfoldable pub families : Tunnel → ℕ
families t = flag t.v4 + 2 * flag t.v6

unfoldable pub tunnel_read : ℕ → ℕ → Tunnel
tunnel_read t f = record { teid = t; v4 = bit 0 f; v6 = bit 1 f }

-- ---- PDR

abbrev pub pdr_widths : List ℕ
pdr_widths = 2 ∷ 4 ∷ 1 ∷ 4 ∷ 1 ∷ 1 ∷ 4 ∷ 1 ∷ 1 ∷ 1 ∷ 4 ∷ []

-- what a PDR matches on is four fields
unfoldable pub match_kind : Match → ℕ
match_kind neither = 0
match_kind (tunnel t) = 1
match_kind (endpoint e) = 2

unfoldable pub match_teid : Match → ℕ
match_teid neither = 0
match_teid (tunnel t) = t.teid
match_teid (endpoint e) = 0

unfoldable pub match_families : Match → ℕ
match_families neither = 0
match_families (tunnel t) = families t
match_families (endpoint e) = 0

unfoldable pub match_endpoint : Match → ℕ
match_endpoint neither = 0
match_endpoint (tunnel t) = 0
match_endpoint (endpoint e) = e

unfoldable pub match_read : ℕ → ℕ → ℕ → ℕ → Match
match_read k t f e = pick (eqb k 1) (tunnel (tunnel_read t f)) (pick (eqb k 2) (endpoint e) neither)

unfoldable pub pdr_numbers : Pdr → List ℕ
pdr_numbers p =
    p.id
    ∷ p.precedence
    ∷ flag (is_some p.far)
    ∷ value_or 0 p.far
    ∷ p.source
    ∷ match_kind p.match
    ∷ match_teid p.match
    ∷ match_families p.match
    ∷ match_endpoint p.match
    ∷ flag (is_some p.address)
    ∷ value_or 0 p.address
    ∷ []

unfoldable pub pdr_from : List ℕ → Pdr
pdr_from vs =
    record {
      id = get_or vs 0 0;
      precedence = get_or vs 1 0;
      far = option_read (get_or vs 2 0) (get_or vs 3 0);
      source = get_or vs 4 0;
      match = match_read (get_or vs 5 0) (get_or vs 6 0) (get_or vs 7 0) (get_or vs 8 0);
      address = option_read (get_or vs 9 0) (get_or vs 10 0);
    }

-- ---- endpoint

abbrev pub endpoint_widths : List ℕ
endpoint_widths = 1 ∷ 4 ∷ 1 ∷ 1 ∷ 4 ∷ []

unfoldable pub endpoint_numbers : Endpoint → List ℕ
endpoint_numbers e = e.id ∷ e.local.teid ∷ families e.local ∷ flag (is_some e.address) ∷ value_or 0 e.address ∷ []

unfoldable pub endpoint_from : List ℕ → Endpoint
endpoint_from vs =
    record { id = get_or vs 0 0; local = tunnel_read (get_or vs 1 0) (get_or vs 2 0); address = option_read (get_or vs 3 0) (get_or vs 4 0) }

-- ---- FQ-CSID

-- the address is two fields: four octets, and twelve that only a Node-ID of type 1 has
abbrev pub csid_slot_widths : List ℕ
csid_slot_widths = 1 ∷ 1 ∷ 4 ∷ 12 ∷ 2 ∷ []

unfoldable pub csid_slot_numbers : Csid → List ℕ
csid_slot_numbers c = c.node_type ∷ c.id_type ∷ number (take 4 c.address) ∷ number (drop 4 c.address) ∷ c.csid ∷ []

unfoldable pub address_read : ℕ → ℕ → ℕ → List ℕ
address_read t a b = take (address_length t) (be 4 a ++ be 12 b)

unfoldable pub csid_from : List ℕ → Csid
csid_from vs =
    record { node_type = get_or vs 0 0; id_type = get_or vs 1 0; address = address_read (get_or vs 1 0) (get_or vs 2 0) (get_or vs 3 0); csid = get_or vs 4 0 }

-- ---- widths and places

-- the settings: IPv4 address, whether there is an IPv6 address, that address, first TEID, pool size, first address, number of addresses, session limit;
-- each peer's address, guarantee and limit
abbrev pub settings_widths : List ℕ
settings_widths = 4 ∷ 1 ∷ 16 ∷ 4 ∷ 4 ∷ 4 ∷ 4 ∷ 2 ∷ 4 ∷ 4 ∷ 4 ∷ 4 ∷ 4 ∷ 4 ∷ []

abbrev pub settings_width : ℕ
settings_width = width_of settings_widths

-- where the settings' fields stand: after those before them
abbrev pub ipv6_there_at : ℕ
ipv6_there_at = width_of (take 1 settings_widths)

abbrev pub ipv6_at : ℕ
ipv6_at = width_of (take 2 settings_widths)

abbrev pub ipv6_low_at : ℕ
ipv6_low_at = ipv6_at + 8

abbrev pub first_at : ℕ
first_at = width_of (take 3 settings_widths)

abbrev pub size_at : ℕ
size_at = width_of (take 4 settings_widths)

abbrev pub first_address_at : ℕ
first_address_at = width_of (take 5 settings_widths)

abbrev pub address_count_at : ℕ
address_count_at = width_of (take 6 settings_widths)

abbrev pub limit_at : ℕ
limit_at = width_of (take 7 settings_widths)

-- where the peers' stand
abbrev pub peer1_at : ℕ
peer1_at = width_of (take 8 settings_widths)

abbrev pub peer2_at : ℕ
peer2_at = width_of (take 11 settings_widths)

-- the settings, and the number of sessions after them
abbrev pub head_width : ℕ
head_width = settings_width + 2

abbrev pub pdr_width : ℕ
pdr_width = width_of pdr_widths

abbrev pub endpoint_width : ℕ
endpoint_width = width_of endpoint_widths

abbrev pub csid_width : ℕ
csid_width = width_of csid_slot_widths

-- where a PDR's fields stand
abbrev pub precedence_at : ℕ
precedence_at = width_of (take 1 pdr_widths)

abbrev pub far_at : ℕ
far_at = width_of (take 2 pdr_widths)

abbrev pub far_id_at : ℕ
far_id_at = width_of (take 3 pdr_widths)

abbrev pub source_at : ℕ
source_at = width_of (take 4 pdr_widths)

abbrev pub match_at : ℕ
match_at = width_of (take 5 pdr_widths)

abbrev pub teid_at : ℕ
teid_at = width_of (take 6 pdr_widths)

abbrev pub families_at : ℕ
families_at = width_of (take 7 pdr_widths)

abbrev pub named_endpoint_at : ℕ
named_endpoint_at = width_of (take 8 pdr_widths)

abbrev pub pdr_address_there_at : ℕ
pdr_address_there_at = width_of (take 9 pdr_widths)

abbrev pub pdr_address_at : ℕ
pdr_address_at = width_of (take 10 pdr_widths)

-- where an endpoint's fields stand
abbrev pub endpoint_teid_at : ℕ
endpoint_teid_at = width_of (take 1 endpoint_widths)

abbrev pub endpoint_families_at : ℕ
endpoint_families_at = width_of (take 2 endpoint_widths)

abbrev pub endpoint_address_there_at : ℕ
endpoint_address_there_at = width_of (take 3 endpoint_widths)

abbrev pub endpoint_address_at : ℕ
endpoint_address_at = width_of (take 4 endpoint_widths)

-- where an FQ-CSID's fields stand: the address in four octets and twelve
abbrev pub csid_id_type_at : ℕ
csid_id_type_at = width_of (take 1 csid_slot_widths)

abbrev pub csid_address_at : ℕ
csid_address_at = width_of (take 2 csid_slot_widths)

abbrev pub csid_address_rest_at : ℕ
csid_address_rest_at = width_of (take 3 csid_slot_widths)

abbrev pub csid_number_at : ℕ
csid_number_at = width_of (take 4 csid_slot_widths)

-- in a session's slot: the SEID after the peer, the two together its key; the numbers of its records; and the areas of its records
abbrev pub seid_at : ℕ
seid_at = 1

abbrev pub key_width : ℕ
key_width = seid_at + 8

abbrev pub pdr_count_at : ℕ
pdr_count_at = key_width

abbrev pub endpoint_count_at : ℕ
endpoint_count_at = pdr_count_at + 1

abbrev pub csid_count_at : ℕ
csid_count_at = endpoint_count_at + 1

abbrev pub pdrs_at : ℕ
pdrs_at = csid_count_at + 1

abbrev pub endpoints_at : ℕ
endpoints_at = pdrs_at + max_pdrs * pdr_width

abbrev pub csids_at : ℕ
csids_at = endpoints_at + max_endpoints * endpoint_width

abbrev pub session_width : ℕ
session_width = csids_at + node_types * csid_width

-- a table's length follows from the session limit (02 (vi))
abbrev pub table_length : ℕ → ℕ
table_length limit = head_width + limit * session_width

-- ---- writing

-- records of w octets each, with room for k of them
unfoldable pub area : {A : Type 0} → (A → List ℕ) → ℕ → ℕ → List A → List ℕ
area f w k rs = padded (k * w) (concat_map f rs)

unfoldable pub pdr_octets : Pdr → List ℕ
pdr_octets p = field_octets pdr_widths (pdr_numbers p)

unfoldable pub endpoint_octets : Endpoint → List ℕ
endpoint_octets e = field_octets endpoint_widths (endpoint_numbers e)

unfoldable pub csid_octets : Csid → List ℕ
csid_octets c = field_octets csid_slot_widths (csid_slot_numbers c)

unfoldable pub session_octets : Session → List ℕ
session_octets x =
    x.peer
    ∷ be 8 x.seid
    ++ (length x.pdrs ∷ length x.endpoints ∷ length x.csids
    ∷ area pdr_octets pdr_width max_pdrs x.pdrs
    ++ (area endpoint_octets endpoint_width max_endpoints x.endpoints ++ area csid_octets csid_width node_types x.csids))

unfoldable pub peer_octets : Peer → List ℕ
peer_octets q = be 4 q.address ++ (be 4 q.guarantee ++ be 4 q.limit)

unfoldable pub settings_octets : Settings → List ℕ
settings_octets s =
    s.ipv4
    ++ (flag (not (is_nil s.ipv6))
    ∷ padded 16 s.ipv6 ++ (be 4 s.first ++ (be 4 s.size ++ (be 4 s.first_address ++ (be 4 s.address_count ++ (be 2 s.limit ++ (peer_octets s.peer1 ++ peer_octets s.peer2)))))))

unfoldable pub encode : Settings → Sessions → List ℕ
encode s m = settings_octets s ++ (be 2 (length m) ++ area session_octets session_width s.limit m)

-- ---- reading

unfoldable pub view_pdr : List ℕ → Pdr
view_pdr xs = pdr_from (fields_at 0 pdr_widths xs)

unfoldable pub view_endpoint : List ℕ → Endpoint
view_endpoint xs = endpoint_from (fields_at 0 endpoint_widths xs)

unfoldable pub view_csid : List ℕ → Csid
view_csid xs = csid_from (fields_at 0 csid_slot_widths xs)

-- n records of w octets each, from a place on
unfoldable pub view_area : {A : Type 0} → (List ℕ → A) → ℕ → ℕ → ℕ → List ℕ → List A
view_area g w n at xs = map g (slices w n (drop at xs))

unfoldable pub view_session : List ℕ → Session
view_session xs =
    record {
      peer = octet_at xs 0;
      seid = number_at seid_at 8 xs;
      pdrs = view_area view_pdr pdr_width (octet_at xs pdr_count_at) pdrs_at xs;
      endpoints = view_area view_endpoint endpoint_width (octet_at xs endpoint_count_at) endpoints_at xs;
      csids = view_area view_csid csid_width (octet_at xs csid_count_at) csids_at xs;
    }

unfoldable pub view_peer : ℕ → List ℕ → Peer
view_peer at xs = record { address = number_at at 4 xs; guarantee = number_at (at + 4) 4 xs; limit = number_at (at + 8) 4 xs }

unfoldable pub view_settings : List ℕ → Settings
view_settings xs =
    record {
      ipv4 = part 0 4 xs;
      ipv6 = pick (eqb (octet_at xs ipv6_there_at) 0) [] (part ipv6_at 16 xs);
      first = number_at first_at 4 xs;
      size = number_at size_at 4 xs;
      first_address = number_at first_address_at 4 xs;
      address_count = number_at address_count_at 4 xs;
      limit = number_at limit_at 2 xs;
      peer1 = view_peer peer1_at xs;
      peer2 = view_peer peer2_at xs;
    }

unfoldable pub view_sessions : List ℕ → Sessions
view_sessions xs = view_area view_session session_width (number_at settings_width 2 xs) head_width xs

unfoldable pub computing : ℕ
unfolding fields_at field_octets option_read families tunnel_read match_kind match_teid match_families match_endpoint match_read pdr_numbers pdr_from endpoint_numbers endpoint_from csid_slot_numbers address_read csid_from area pdr_octets endpoint_octets csid_octets session_octets peer_octets settings_octets encode view_pdr view_endpoint view_csid view_area view_session view_peer view_settings view_sessions
computing = 0
