-- The lists of tests of Sound as records with a named field for each test: what is taken from them and what is proved of them goes by name.
-- Assumes nothing.
use mathlib.Core.Path.{◌≡◌}
use Prim.Native.Nat.{ℕ, ◌^◌, ◌≤◌, ◌<◌}
use mathlib.Core.Bool.{not, ◌&&◌, ◌||◌}
use mathlib.Core.Option.{Option}
use mathlib.Core.List.{List, [], ◌∷◌, map}
use lib.ListN.{length}
use lib.Dec.{T, leb, ltb, eqb, eqb→eq, leb→le, ltb→lt, lt→ltb}
use mir.Facts.{yes_leb, yes_eqb}
use Rattle.octets.specs.Choice.{all_of, is_nil, same_bool}
use Rattle.octets.specs.Octets.{octets}
use Rattle.octets.specs.Lists.{ascending, all, all_pairs}
use Rattle.octets.proofs.Tests.{each, all_of_each, and_left, and_right, both, of_true}
use Rattle.octets.proofs.Numbers.{same_eq, same_refl}
use Rattle.rules.specs.Model.{Settings, Tunnel, Pdr, Endpoint, Csid, Session, Sessions, Holding, session_holdings, pdr_id, endpoint_id, node_type_of, session_key, is_peer}
use Rattle.rules.specs.Limits.{max_pdrs, max_endpoints, node_types}
use Rattle.rules.specs.Elements.{address_of, given_tests, address_length, operator_allowed, node_address_tests, node_address_allowed, node_type_kept, below16}
use Rattle.rules.specs.Layout.{table_length, encode, view_settings, view_sessions}
use Rattle.rules.specs.Sound.{settings_allowed, in_pool, unit_families, tunnel_tests, tunnel_allowed, match_allowed, far_allowed, address_allowed, pdr_tests, pdr_allowed, endpoint_tests, endpoint_allowed, csid_tests, csid_allowed, share_tests, agree, record_tests, records_allowed, session_allowed, apart, peers_kept, sessions_tests, sessions_allowed, sound_tests, sound}
use Rattle.rules.specs.Apply.{pdr_with}
use Rattle.rules.specs.Restoration.{Sender, sender_tests, sender_allowed}

-- ---- elements

-- Elements.given_tests
pub record GivenKept (t : ℕ) (a b : List ℕ) : Type 0 where
  pub teid : t < 2 ^ 32
  pub ipv4 : T (address_of 4 a)
  pub ipv6 : T (address_of 16 b)
  pub some : T (not (is_nil a && is_nil b))

-- from the tests to the names
pub given_kept : (t : ℕ) (a b : List ℕ) → T (all_of (given_tests t a b)) → GivenKept t a b
unfolding given_tests
given_kept t a b h = let e = each (given_tests t a b) h in record { teid = ltb→lt t (2 ^ 32) e.0; ipv4 = e.1.0; ipv6 = e.1.1.0; some = e.1.1.1.0 }

-- and back
pub given_tests_lem : {t : ℕ} {a b : List ℕ} → GivenKept t a b → T (all_of (given_tests t a b))
unfolding given_tests
given_tests_lem {t} {a} {b} k = all_of_each (given_tests t a b) (lt→ltb t (2 ^ 32) k.teid, (k.ipv4, (k.ipv6, (k.some, tt))))

-- Elements.node_address_tests
pub record NodeAddressKept (t : ℕ) (a : List ℕ) : Type 0 where
  pub type : t ≤ 2
  pub long : length a ≡ address_length t
  pub octets : T (octets a)
  pub operator : T (operator_allowed t a)

-- from the tests to the names
pub node_address_kept : (t : ℕ) (a : List ℕ) → T (node_address_allowed t a) → NodeAddressKept t a
unfolding node_address_allowed node_address_tests
node_address_kept t a h =
    let e = each (node_address_tests t a) h in
    record { type = leb→le t 2 e.0; long = eqb→eq (length a) (address_length t) e.1.0; octets = e.1.1.0; operator = e.1.1.1.0 }

-- and back
pub node_address_allowed_lem : {t : ℕ} {a : List ℕ} → NodeAddressKept t a → T (node_address_allowed t a)
unfolding node_address_allowed node_address_tests
node_address_allowed_lem {t} {a} k = all_of_each (node_address_tests t a) (yes_leb k.type, (yes_eqb k.long, (k.octets, (k.operator, tt))))

-- ---- records of the table

-- Sound.tunnel_tests
pub record TunnelKept (s : Settings) (t : Tunnel) : Type 0 where
  pub pool : T (in_pool s t.teid)
  pub family : T (t.v4 || t.v6)
  pub unit : T (unit_families s t.v6)

-- from the tests to the names
pub tunnel_kept : (s : Settings) (t : Tunnel) → T (tunnel_allowed s t) → TunnelKept s t
unfolding tunnel_allowed tunnel_tests
tunnel_kept s t h = let e = each (tunnel_tests s t) h in record { pool = e.0; family = e.1.0; unit = e.1.1.0 }

-- and back
pub tunnel_allowed_lem : {s : Settings} {t : Tunnel} → TunnelKept s t → T (tunnel_allowed s t)
unfolding tunnel_allowed tunnel_tests
tunnel_allowed_lem {s} {t} k = all_of_each (in_pool s t.teid ∷ (t.v4 || t.v6) ∷ unit_families s t.v6 ∷ []) (k.pool, (k.family, (k.unit, tt)))

-- Sound.pdr_tests
pub record PdrKept (s : Settings) (live : List ℕ) (p : Pdr) : Type 0 where
  pub id : T (ltb p.id (2 ^ 16))
  pub precedence : T (ltb p.precedence (2 ^ 32))
  pub far : T (far_allowed p.far)
  pub source : T (ltb p.source 16)
  pub match : T (match_allowed s live p.match)
  pub address : T (address_allowed p.address)

-- from the tests to the names
pub pdr_kept : (s : Settings) (live : List ℕ) (p : Pdr) → T (pdr_allowed s live p) → PdrKept s live p
unfolding pdr_allowed
pdr_kept s live p h = unfold pdr_tests in (
    let e = each (pdr_tests s live p) h in
    record { id = e.0; precedence = e.1.0; far = e.1.1.0; source = e.1.1.1.0; match = e.1.1.1.1.0; address = e.1.1.1.1.1.0 })

-- and back
pub pdr_allowed_lem : {s : Settings} {live : List ℕ} {p : Pdr} → PdrKept s live p → T (pdr_allowed s live p)
unfolding pdr_allowed pdr_tests
pdr_allowed_lem {s} {live} {p} k = all_of_each (pdr_tests s live p) (k.id, (k.precedence, (k.far, (k.source, (k.match, (k.address, tt))))))

-- with other endpoints, where what it matches on is allowed beside them
pub kept_match : {s : Settings} {live live' : List ℕ} {p : Pdr} → PdrKept s live p → T (match_allowed s live' p.match) → PdrKept s live' p
kept_match k h = record { id = k.id; precedence = k.precedence; far = k.far; source = k.source; match = h; address = k.address }

-- with another precedence and FAR ID
pub kept_with : {s : Settings} {live : List ℕ} {p : Pdr} {n : ℕ} {f : Option ℕ} → PdrKept s live p → T (ltb n (2 ^ 32)) → T (far_allowed f) → PdrKept s live (pdr_with n f p)
kept_with k hn hf = record { id = k.id; precedence = hn; far = hf; source = k.source; match = k.match; address = k.address }

-- Sound.endpoint_tests
pub record EndpointKept (s : Settings) (e : Endpoint) : Type 0 where
  pub id : T (ltb e.id 256)
  pub local : T (tunnel_allowed s e.local)
  pub address : T (address_allowed e.address)

-- from the tests to the names
pub endpoint_kept : (s : Settings) (e : Endpoint) → T (endpoint_allowed s e) → EndpointKept s e
unfolding endpoint_allowed endpoint_tests
endpoint_kept s e h = let k = each (endpoint_tests s e) h in record { id = k.0; local = k.1.0; address = k.1.1.0 }

-- and back
pub endpoint_allowed_lem : {s : Settings} {e : Endpoint} → EndpointKept s e → T (endpoint_allowed s e)
unfolding endpoint_allowed endpoint_tests
endpoint_allowed_lem {s} {e} k = all_of_each (endpoint_tests s e) (k.id, (k.local, (k.address, tt)))

-- Sound.csid_tests
pub record CsidKept (c : Csid) : Type 0 where
  pub node : T (node_type_kept c.node_type)
  pub address : T (node_address_allowed c.id_type c.address)
  pub csid : T (below16 c.csid)

-- from the tests to the names
pub csid_kept : (c : Csid) → T (csid_allowed c) → CsidKept c
unfolding csid_allowed csid_tests
csid_kept c h = let e = each (csid_tests c) h in record { node = e.0; address = e.1.0; csid = e.1.1.0 }

-- and back
pub csid_allowed_lem : {c : Csid} → CsidKept c → T (csid_allowed c)
unfolding csid_allowed csid_tests
csid_allowed_lem {c} k = all_of_each (csid_tests c) (k.node, (k.address, (k.csid, tt)))

-- Sound.share_tests
pub record Shares (h k : Holding) : Type 0 where
  pub first : T h.shared
  pub second : T k.shared
  pub v4 : T (same_bool h.v4 k.v4)
  pub v6 : T (same_bool h.v6 k.v6)
  pub source : T (eqb h.source k.source)

-- from the tests to the names
pub shares : (h k : Holding) → T (all_of (share_tests h k)) → Shares h k
unfolding share_tests
shares h k t = let e = each (share_tests h k) t in record { first = e.0; second = e.1.0; v4 = e.1.1.0; v6 = e.1.1.1.0; source = e.1.1.1.1.0 }

-- and back
pub share_tests_lem : {h k : Holding} → Shares h k → T (all_of (share_tests h k))
unfolding share_tests
share_tests_lem {h} {k} e = all_of_each (share_tests h k) (e.first, (e.second, (e.v4, (e.v6, (e.source, tt)))))

-- Sound.record_tests
pub record RecordsKept (s : Settings) (x : Session) : Type 0 where
  pub seid : T (leb 1 x.seid)
  pub seid_fits : T (ltb x.seid (2 ^ 64))
  pub few_pdrs : T (leb (length x.pdrs) max_pdrs)
  pub pdr_order : T (ascending (map pdr_id x.pdrs))
  pub pdrs : T (all (pdr_allowed s (map endpoint_id x.endpoints)) x.pdrs)
  pub few_endpoints : T (leb (length x.endpoints) max_endpoints)
  pub endpoint_order : T (ascending (map endpoint_id x.endpoints))
  pub endpoints : T (all (endpoint_allowed s) x.endpoints)
  pub few_csids : T (leb (length x.csids) node_types)
  pub csid_order : T (ascending (map node_type_of x.csids))
  pub csids : T (all csid_allowed x.csids)
  pub peer : T (is_peer x.peer)

-- from the tests to the names
pub records_kept : (s : Settings) (x : Session) → T (records_allowed s x) → RecordsKept s x
unfolding records_allowed record_tests
records_kept s x h =
    let e = each (record_tests s x) h in
    let f = e.1.1.1.1 in
    let g = f.1.1.1.1 in
    record {
      seid = e.0;
      seid_fits = e.1.0;
      few_pdrs = e.1.1.0;
      pdr_order = e.1.1.1.0;
      pdrs = f.0;
      few_endpoints = f.1.0;
      endpoint_order = f.1.1.0;
      endpoints = f.1.1.1.0;
      few_csids = g.0;
      csid_order = g.1.0;
      csids = g.1.1.0;
      peer = g.1.1.1.0;
    }

-- and back
pub records_allowed_lem : {s : Settings} {x : Session} → RecordsKept s x → T (records_allowed s x)
unfolding records_allowed record_tests
records_allowed_lem {s} {x} k =
    all_of_each (record_tests s x) (k.seid, (k.seid_fits, (k.few_pdrs, (k.pdr_order, (k.pdrs, (k.few_endpoints, (k.endpoint_order, (k.endpoints, (k.few_csids, (k.csid_order, (k.csids, (k.peer, tt))))))))))))

-- Sound.session_allowed
pub record SessionKept (s : Settings) (x : Session) : Type 0 where
  pub records : RecordsKept s x
  pub holds : T (all_pairs agree (session_holdings x))

-- from the tests to the names
pub session_kept : (s : Settings) (x : Session) → T (session_allowed s x) → SessionKept s x
unfolding session_allowed
session_kept s x h =
    record { records = records_kept s x (and_left (records_allowed s x) (all_pairs agree (session_holdings x)) h); holds = and_right (records_allowed s x) (all_pairs agree (session_holdings x)) h }

-- and back
pub session_allowed_lem : {s : Settings} {x : Session} → SessionKept s x → T (session_allowed s x)
unfolding session_allowed
session_allowed_lem {s} {x} k = both (records_allowed s x) (all_pairs agree (session_holdings x)) (records_allowed_lem k.records) k.holds

-- Sound.sessions_tests
pub record SessionsKept (s : Settings) (m : Sessions) : Type 0 where
  pub peers : T (all_of (peers_kept s m))
  pub order : T (ascending (map session_key m))
  pub sessions : T (all (session_allowed s) m)
  pub separate : T (all_pairs (apart s) m)

-- from the tests to the names
pub sessions_kept : (s : Settings) (m : Sessions) → T (sessions_allowed s m) → SessionsKept s m
unfolding sessions_allowed sessions_tests
sessions_kept s m h = let e = each (sessions_tests s m) h in record { peers = e.0; order = e.1.0; sessions = e.1.1.0; separate = e.1.1.1.0 }

-- and back
pub sessions_allowed_lem : {s : Settings} {m : Sessions} → SessionsKept s m → T (sessions_allowed s m)
unfolding sessions_allowed sessions_tests
sessions_allowed_lem {s} {m} k = all_of_each (sessions_tests s m) (k.peers, (k.order, (k.sessions, (k.separate, tt))))

-- ---- a table that is not broken

-- Sound.sound_tests
pub record TableKept (t : List ℕ) : Type 0 where
  pub whole : length t ≡ table_length (view_settings t).limit
  pub settings : T (settings_allowed (view_settings t))
  pub sessions : T (sessions_allowed (view_settings t) (view_sessions t))
  pub encoded : encode (view_settings t) (view_sessions t) ≡ t

-- from the tests to the names
pub table_kept : (t : List ℕ) → T (sound t) → TableKept t
unfolding sound sound_tests
table_kept t h =
    let e = each (sound_tests t (view_settings t) (view_sessions t)) h in
    record { whole = eqb→eq (length t) (table_length (view_settings t).limit) e.0; settings = e.1.0; sessions = e.1.1.0; encoded = same_eq (encode (view_settings t) (view_sessions t)) t e.1.1.1.0 }

-- and back
pub table_sound : {t : List ℕ} → TableKept t → T (sound t)
unfolding sound sound_tests
table_sound {t} k =
    all_of_each (sound_tests t (view_settings t) (view_sessions t))
    (yes_eqb k.whole, (k.settings, (k.sessions, (rw k.encoded (of_true (same_refl t)), tt))))

-- ---- the sender of a restoration

-- Restoration.sender_tests
pub record SenderKept (p : Sender) : Type 0 where
  pub header : T (ltb p.header (2 ^ 64))
  pub sequence : T (ltb p.sequence (2 ^ 24))
  pub ipv4 : T (address_of 4 p.ipv4)
  pub ipv6 : T (address_of 16 p.ipv6)
  pub some : T (not (is_nil p.ipv4 && is_nil p.ipv6))

-- from the tests to the names
pub sender_kept : (p : Sender) → T (sender_allowed p) → SenderKept p
unfolding sender_allowed sender_tests
sender_kept p h = let e = each (sender_tests p) h in record { header = e.0; sequence = e.1.0; ipv4 = e.1.1.0; ipv6 = e.1.1.1.0; some = e.1.1.1.1.0 }

-- and back
pub sender_allowed_lem : {p : Sender} → SenderKept p → T (sender_allowed p)
unfolding sender_allowed sender_tests
sender_allowed_lem {p} k = all_of_each (sender_tests p) (k.header, (k.sequence, (k.ipv4, (k.ipv6, (k.some, tt)))))
