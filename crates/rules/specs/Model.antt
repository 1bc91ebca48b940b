-- The unit's settings and the live sessions, as the table holds them (01, "Settings and table").
-- Assumes nothing.
use Rattle.std.specs.Prelude.{ℕ, ◌+◌, ◌-◌, ◌*◌, ◌/◌, ◌^◌, Bool, true, false, ◌&&◌, ◌||◌, List, [], ◌∷◌, ◌++◌, map, leb, ltb, eqb}
use Rattle.std.proofs.Math.Option.{Option, none, some}
use Rattle.octets.specs.Choice.{map_option, pick}
use Rattle.octets.specs.Lists.{distinct, without, range, keep, collect}

-- ---- records

-- A control plane (02 (xiv)): its signalling IPv4 address on the unit, as a number; how many TEIDs it is guaranteed, and how many it may hold.
pub record Peer : Type 0 where
  pub address : ℕ
  pub guarantee : ℕ
  pub limit : ℕ

-- The settings: the unit's addresses (the IPv6 one empty where there is none), its pool of TEIDs, its pool of IPv4 addresses for patients
-- (02 (v)), an address as a number, how many sessions it has room for (02 (vi)), and its two peers (02 (xiv)).
pub record Settings : Type 0 where
  pub ipv4 : List ℕ
  pub ipv6 : List ℕ
  pub first : ℕ
  pub size : ℕ
  pub first_address : ℕ
  pub address_count : ℕ
  pub limit : ℕ
  pub peer1 : Peer
  pub peer2 : Peer

-- a held F-TEID: its addresses are the unit's
pub record Tunnel : Type 0 where
  pub teid : ℕ
  pub v4 : Bool
  pub v6 : Bool

-- what a PDR matches on: nothing, a local F-TEID, or a traffic endpoint by its ID
pub data Match : Type 0 where
  neither : Match
  tunnel : Tunnel → Match
  endpoint : ℕ → Match

pub record Pdr : Type 0 where
  pub id : ℕ
  pub precedence : ℕ
  pub far : Option ℕ
  pub source : ℕ
  pub match : Match
  pub address : Option ℕ

pub record Endpoint : Type 0 where
  pub id : ℕ
  pub local : Tunnel
  pub address : Option ℕ

-- an FQ-CSID with one CSID
pub record Csid : Type 0 where
  pub node_type : ℕ
  pub id_type : ℕ
  pub address : List ℕ
  pub csid : ℕ

-- its peer, 1 or 2, and its SEID among that peer's sessions; PDRs and endpoints in ascending order of ID, FQ-CSIDs of node type
pub record Session : Type 0 where
  pub peer : ℕ
  pub seid : ℕ
  pub pdrs : List Pdr
  pub endpoints : List Endpoint
  pub csids : List Csid

-- sessions in ascending order of peer, then SEID
abbrev pub Sessions : Type 0
Sessions = List Session

-- ---- who holds which TEID

-- one record's hold on a TEID: a PDR's may be shared, an endpoint's not
pub record Holding : Type 0 where
  pub shared : Bool
  pub teid : ℕ
  pub v4 : Bool
  pub v6 : Bool
  pub source : ℕ

unfoldable pub matched_tunnel : Match → Option Tunnel
matched_tunnel neither = none
matched_tunnel (tunnel t) = some t
matched_tunnel (endpoint e) = none

unfoldable pub matched_endpoint : Match → Option ℕ
matched_endpoint neither = none
matched_endpoint (tunnel t) = none
matched_endpoint (endpoint e) = some e

unfoldable pub pdr_endpoint : Pdr → Option ℕ
pdr_endpoint p = matched_endpoint p.match

unfoldable pub tunnel_holding : Bool → ℕ → Tunnel → Holding
tunnel_holding shared source t = record { shared = shared; teid = t.teid; v4 = t.v4; v6 = t.v6; source = source }

-- a PDR's hold, which other PDRs of its session may share
unfoldable pub pdr_holding : Pdr → Option Holding
pdr_holding p = map_option (tunnel_holding true p.source) (matched_tunnel p.match)

-- an endpoint's hold, its own alone
unfoldable pub endpoint_holding : Endpoint → Holding
endpoint_holding e = tunnel_holding false 0 e.local

unfoldable pub session_holdings : Session → List Holding
session_holdings x = map endpoint_holding x.endpoints ++ collect pdr_holding x.pdrs

abbrev pub teid_of : Holding → ℕ
teid_of h = h.teid

-- the TEIDs in a session's records, as often as they stand there
unfoldable pub session_teids : Session → List ℕ
session_teids x = map teid_of (session_holdings x)

-- every TEID in the records
unfoldable pub held_teids : Sessions → List ℕ
held_teids [] = []
held_teids (x ∷ m) = session_teids x ++ held_teids m

-- 01's free count: pool size minus the number of different TEIDs in the records
unfoldable pub free_count : Settings → Sessions → ℕ
free_count s m = s.size - distinct (held_teids m)

-- the TEIDs of the pool that no record holds, the lowest first
unfoldable pub free_teids : Settings → Sessions → List ℕ
free_teids s m = without (range s.first s.size) (held_teids m)

-- ---- who holds which IPv4 address (02 (v))

abbrev pub pdr_address : Pdr → Option ℕ
pdr_address p = p.address

abbrev pub endpoint_address : Endpoint → Option ℕ
endpoint_address e = e.address

unfoldable pub in_address_pool : Settings → ℕ → Bool
in_address_pool s a = leb s.first_address a && ltb a (s.first_address + s.address_count)

-- the addresses of the pool in a session's records, as often as they stand there; those outside the pool are the control plane's
unfoldable pub session_addresses : Settings → Session → List ℕ
session_addresses s x = keep (in_address_pool s) (collect endpoint_address x.endpoints ++ collect pdr_address x.pdrs)

-- every address of the pool in the records
unfoldable pub held_addresses : Settings → Sessions → List ℕ
held_addresses s [] = []
held_addresses s (x ∷ m) = session_addresses s x ++ held_addresses s m

-- how many are free, and which, the lowest first
unfoldable pub free_address_count : Settings → Sessions → ℕ
free_address_count s m = s.address_count - distinct (held_addresses s m)

unfoldable pub free_addresses : Settings → Sessions → List ℕ
free_addresses s m = without (range s.first_address s.address_count) (held_addresses s m)

-- ---- the two peers (02 (xiv))

unfoldable pub is_peer : ℕ → Bool
is_peer who = eqb who 1 || eqb who 2

unfoldable pub other_peer : ℕ → ℕ
other_peer who = pick (eqb who 1) 2 1

unfoldable pub peer_of : Settings → ℕ → Peer
peer_of s who = pick (eqb who 1) s.peer1 s.peer2

-- how many sessions each may have: half the session limit, rounded down
unfoldable pub half : Settings → ℕ
half s = s.limit / 2

unfoldable pub has_peer : ℕ → Session → Bool
has_peer who x = eqb x.peer who

-- the sessions of one
unfoldable pub of_peer : ℕ → Sessions → Sessions
of_peer who m = keep (has_peer who) m

-- how many different TEIDs its records hold
unfoldable pub holdings : ℕ → Sessions → ℕ
holdings who m = distinct (held_teids (of_peer who m))

-- and how many of those guaranteed to it they don't
unfoldable pub unused : Settings → ℕ → Sessions → ℕ
unused s who m = (peer_of s who).guarantee - holdings who m

-- ---- keys

abbrev pub pdr_id : Pdr → ℕ
pdr_id p = p.id

abbrev pub endpoint_id : Endpoint → ℕ
endpoint_id e = e.id

abbrev pub node_type_of : Csid → ℕ
node_type_of c = c.node_type

-- one number for a peer and a SEID, which is below 2 ^ 64: by it sessions are told apart, and stand in order of peer, then SEID
unfoldable pub key_for : ℕ → ℕ → ℕ
key_for who n = who * 2 ^ 64 + n

abbrev pub session_key : Session → ℕ
session_key x = key_for x.peer x.seid

unfoldable pub computing : ℕ
unfolding matched_tunnel matched_endpoint pdr_endpoint tunnel_holding pdr_holding endpoint_holding session_holdings session_teids held_teids free_count free_teids in_address_pool session_addresses held_addresses free_address_count free_addresses is_peer other_peer peer_of half has_peer of_peer holdings unused key_for
computing = 0
