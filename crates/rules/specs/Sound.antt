-- Which settings are allowed, which octets are a table that is not broken, and the calls that make and count (01, "Settings and table").
-- Assumes nothing.
use Rattle.std.specs.Prelude.{ℕ, zero, suc, ◌+◌, ◌*◌, ◌/◌, ◌%◌, ◌^◌, Bool, true, false, not, ◌&&◌, ◌||◌, List, [], ◌∷◌, map, length, get_or, leb, ltb, eqb}
use Rattle.std.proofs.Math.Option.{Option, none, some}
use Rattle.octets.specs.Choice.{pick, all_of, is_nil, same_bool, flag}
use Rattle.octets.specs.Octets.{octets, same_octets, bit}
use Rattle.octets.specs.Lists.{member, any_in, ascending, all, all_pairs}
use Rattle.rules.specs.Model.{Peer, is_peer, peer_of, half, of_peer, holdings, unused, Settings, Tunnel, Match, neither, tunnel, endpoint, Pdr, Endpoint, Csid, Session, Sessions, Holding, session_holdings, session_teids, held_teids, free_count, session_addresses, held_addresses, free_address_count, pdr_id, endpoint_id, node_type_of, session_key}
use Rattle.rules.specs.Limits.{max_pdrs, max_endpoints, node_types, max_sessions, max_pool, max_addresses}
use Rattle.rules.specs.Elements.{node_address_allowed, node_type_kept, below16}
use Rattle.rules.specs.Layout.{table_length, encode, view_settings, view_sessions}
use Rattle.rules.specs.Limits.{map_words, address_words}

-- ---- settings

-- the first TEID at least 1, the size 1 to 65,536, the last TEID at most 4,294,967,295
unfoldable pub pool_tests : ℕ → ℕ → List Bool
pool_tests first size = leb 1 first ∷ leb 1 size ∷ leb size max_pool ∷ leb (first + size) (2 ^ 32) ∷ []

-- the number of addresses 1 to 1,024, the last one at most 255.255.255.255 (02 (v))
unfoldable pub address_pool_tests : ℕ → ℕ → List Bool
address_pool_tests first count = leb 1 count ∷ leb count max_addresses ∷ leb (first + count) (2 ^ 32) ∷ []

-- room for 2 to 256 sessions (02 (vi) and (xiv))
unfoldable pub limit_tests : ℕ → List Bool
limit_tests limit = leb 2 limit ∷ leb limit max_sessions ∷ []

unfoldable pub ipv6_allowed : List ℕ → Bool
ipv6_allowed a = is_nil a || eqb (length a) 16

-- a peer's limit is from its guarantee to the pool's size (02 (xiv))
unfoldable pub peer_tests : ℕ → Peer → List Bool
peer_tests size q = ltb q.address (2 ^ 32) ∷ leb q.guarantee q.limit ∷ leb q.limit size ∷ []

-- the two have other addresses, and their guarantees together don't exceed the pool
unfoldable pub peers_tests : ℕ → Peer → Peer → List Bool
peers_tests size q r =
    all_of (peer_tests size q) ∷ all_of (peer_tests size r) ∷ not (eqb q.address r.address) ∷ leb (q.guarantee + r.guarantee) size ∷ []

unfoldable pub settings_tests : Settings → List Bool
settings_tests s =
    eqb (length s.ipv4) 4
    ∷ octets s.ipv4
    ∷ ipv6_allowed s.ipv6
    ∷ octets s.ipv6
    ∷ all_of (pool_tests s.first s.size)
    ∷ all_of (address_pool_tests s.first_address s.address_count)
    ∷ all_of (limit_tests s.limit)
    ∷ all_of (peers_tests s.size s.peer1 s.peer2)
    ∷ []

unfoldable pub settings_allowed : Settings → Bool
settings_allowed s = all_of (settings_tests s)

-- ---- records

unfoldable pub in_pool : Settings → ℕ → Bool
in_pool s t = leb s.first t && ltb t (s.first + s.size)

-- IPv4 is always the unit's, IPv6 where the unit has it
unfoldable pub unit_families : Settings → Bool → Bool
unit_families s v6 = not v6 || not (is_nil s.ipv6)

-- in the pool, with a family at least, and the unit's
unfoldable pub tunnel_tests : Settings → Tunnel → List Bool
tunnel_tests s t = in_pool s t.teid ∷ (t.v4 || t.v6) ∷ unit_families s t.v6 ∷ []

unfoldable pub tunnel_allowed : Settings → Tunnel → Bool
tunnel_allowed s t = all_of (tunnel_tests s t)

-- a named endpoint exists
unfoldable pub match_allowed : Settings → List ℕ → Match → Bool
match_allowed s live neither = true
match_allowed s live (tunnel t) = tunnel_allowed s t
match_allowed s live (endpoint e) = ltb e 256 && member e live

unfoldable pub far_allowed : Option ℕ → Bool
far_allowed none = true
far_allowed (some n) = ltb n (2 ^ 32)

-- an IPv4 address, of the pool or not
unfoldable pub address_allowed : Option ℕ → Bool
address_allowed none = true
address_allowed (some a) = ltb a (2 ^ 32)

-- the fields' widths; the source interface has four bits
unfoldable pub pdr_tests : Settings → List ℕ → Pdr → List Bool
pdr_tests s live p =
    ltb p.id (2 ^ 16)
    ∷ ltb p.precedence (2 ^ 32)
    ∷ far_allowed p.far
    ∷ ltb p.source 16
    ∷ match_allowed s live p.match
    ∷ address_allowed p.address
    ∷ []

unfoldable pub pdr_allowed : Settings → List ℕ → Pdr → Bool
pdr_allowed s live p = all_of (pdr_tests s live p)

unfoldable pub endpoint_tests : Settings → Endpoint → List Bool
endpoint_tests s e = ltb e.id 256 ∷ tunnel_allowed s e.local ∷ address_allowed e.address ∷ []

unfoldable pub endpoint_allowed : Settings → Endpoint → Bool
endpoint_allowed s e = all_of (endpoint_tests s e)

-- an FQ-CSID's rules with m = 1
unfoldable pub csid_tests : Csid → List Bool
csid_tests c = node_type_kept c.node_type ∷ node_address_allowed c.id_type c.address ∷ below16 c.csid ∷ []

unfoldable pub csid_allowed : Csid → Bool
csid_allowed c = all_of (csid_tests c)

-- two holds on one TEID within a session are of PDRs, with equal family flags and source interface
unfoldable pub share_tests : Holding → Holding → List Bool
share_tests h k = h.shared ∷ k.shared ∷ same_bool h.v4 k.v4 ∷ same_bool h.v6 k.v6 ∷ eqb h.source k.source ∷ []

unfoldable pub agree : Holding → Holding → Bool
agree h k = not (eqb h.teid k.teid) || all_of (share_tests h k)

-- a session's fields and records, each by itself
unfoldable pub record_tests : Settings → Session → List Bool
record_tests s x =
    leb 1 x.seid
    ∷ ltb x.seid (2 ^ 64)
    ∷ leb (length x.pdrs) max_pdrs
    ∷ ascending (map pdr_id x.pdrs)
    ∷ all (pdr_allowed s (map endpoint_id x.endpoints)) x.pdrs
    ∷ leb (length x.endpoints) max_endpoints
    ∷ ascending (map endpoint_id x.endpoints)
    ∷ all (endpoint_allowed s) x.endpoints
    ∷ leb (length x.csids) node_types
    ∷ ascending (map node_type_of x.csids)
    ∷ all csid_allowed x.csids
    ∷ is_peer x.peer
    ∷ []

unfoldable pub records_allowed : Settings → Session → Bool
records_allowed s x = all_of (record_tests s x)

-- and every two of its holds keep the rule on shared TEIDs
unfoldable pub session_allowed : Settings → Session → Bool
session_allowed s x = records_allowed s x && all_pairs agree (session_holdings x)

-- two sessions hold no TEID and no address of the pool in common
unfoldable pub apart : Settings → Session → Session → Bool
apart s x y = not (any_in (session_teids x) (session_teids y)) && not (any_in (session_addresses s x) (session_addresses s y))

-- a peer has its half of the sessions at most (02 (xiv))
unfoldable pub few_sessions : Settings → ℕ → Sessions → Bool
few_sessions s who m = leb (length (of_peer who m)) (half s)

-- and its limit of TEIDs
unfoldable pub few_teids : Settings → ℕ → Sessions → Bool
few_teids s who m = leb (holdings who m) (peer_of s who).limit

-- its holdings or its guarantee, whichever is more
unfoldable pub due : Settings → ℕ → Sessions → ℕ
due s who m = holdings who m + unused s who m

unfoldable pub peers_kept : Settings → Sessions → List Bool
peers_kept s m = few_sessions s 1 m ∷ few_sessions s 2 m ∷ few_teids s 1 m ∷ few_teids s 2 m ∷ leb (due s 1 m + due s 2 m) s.size ∷ []

unfoldable pub sessions_tests : Settings → Sessions → List Bool
sessions_tests s m = all_of (peers_kept s m) ∷ ascending (map session_key m) ∷ all (session_allowed s) m ∷ all_pairs (apart s) m ∷ []

unfoldable pub sessions_allowed : Settings → Sessions → Bool
sessions_allowed s m = all_of (sessions_tests s m)

-- ---- tables

-- as long as the limit of its settings says, settings and records that keep the rules, in octets that are just what they encode to; anything else
-- is 01's broken table
unfoldable pub sound_tests : List ℕ → Settings → Sessions → List Bool
sound_tests t s m = eqb (length t) (table_length s.limit) ∷ settings_allowed s ∷ sessions_allowed s m ∷ same_octets (encode s m) t ∷ []

unfoldable pub sound : List ℕ → Bool
sound t = all_of (sound_tests t (view_settings t) (view_sessions t))

-- ---- making an empty table

-- how many octets a table of so many sessions has; 0 for a limit that is not allowed (02 (vi))
unfoldable pub length_for : ℕ → ℕ
length_for limit = pick (all_of (limit_tests limit)) (table_length limit) 0

-- whether it was made, and the table's octets at exit
pub record Made : Type 0 where
  pub made : Bool
  pub table : List ℕ

unfoldable pub make : Settings → List ℕ → Made
make s t =
    pick (settings_allowed s && eqb (length t) (table_length s.limit))
    (record { made = true; table = encode s [] })
    (record { made = false; table = t })

-- ---- counting

-- outcome 1, or the free count
pub data Count : Type 0 where
  broken : Count
  free : ℕ → Count

unfoldable pub count_free : List ℕ → Count
count_free t = pick (sound t) (free (free_count (view_settings t) (view_sessions t))) broken

-- the same for the addresses of the pool (02 (v))
unfoldable pub count_addresses : List ℕ → Count
count_addresses t = pick (sound t) (free (free_address_count (view_settings t) (view_sessions t))) broken

-- ---- the maps of what is taken

-- an offset is marked in a map of words of 64 bits: its bit in its word is 1
unfoldable pub marked : List ℕ → ℕ → Bool
marked words i = bit (i % 64) (get_or words (i / 64) 0)

-- is the number at an offset from the first one among those held
unfoldable pub taken : ℕ → List ℕ → ℕ → Bool
taken first held i = member (first + i) held

-- the bits from offset i on, n of them, the lowest first, as a number
unfoldable pub taken_bits : ℕ → List ℕ → ℕ → ℕ → ℕ
taken_bits first held zero i = 0
taken_bits first held (suc n) i = flag (taken first held i) + 2 * taken_bits first held n (i + 1)

-- n words of 64 bits, the first for the offsets from i on
unfoldable pub taken_words : ℕ → List ℕ → ℕ → ℕ → List ℕ
taken_words first held zero i = []
taken_words first held (suc n) i = taken_bits first held 64 i ∷ taken_words first held n (i + 64)

-- 01's map: words of 64 bits, the lowest bit of the first for the first TEID of the pool; bits past the pool are 0
unfoldable pub taken_map : Settings → Sessions → List ℕ
taken_map s m = taken_words s.first (held_teids m) map_words 0

-- the map of taken addresses likewise (02 (v))
unfoldable pub address_map : Settings → Sessions → List ℕ
address_map s m = taken_words s.first_address (held_addresses s m) address_words 0

unfoldable pub computing : ℕ
unfolding pool_tests address_pool_tests limit_tests peer_tests peers_tests ipv6_allowed settings_tests settings_allowed in_pool unit_families tunnel_tests tunnel_allowed match_allowed far_allowed address_allowed pdr_tests pdr_allowed endpoint_tests endpoint_allowed csid_tests csid_allowed share_tests agree record_tests records_allowed session_allowed apart few_sessions few_teids due peers_kept sessions_tests sessions_allowed sound_tests sound length_for make count_free count_addresses marked taken taken_bits taken_words taken_map address_map
computing = 0
