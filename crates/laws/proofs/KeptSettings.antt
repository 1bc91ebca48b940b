-- The tests of the settings (Sound.settings_tests and the lists in it) as records with a named field for each test.
-- Assumes nothing.
use mathlib.Core.Path.{◌≡◌}
use Prim.Native.Nat.{ℕ, ◌+◌, ◌^◌, ◌≤◌, ◌<◌}
use mathlib.Core.Bool.{not}
use lib.ListN.{length}
use lib.Dec.{T, eqb, eqb→eq, leb→le, ltb→lt}
use Rattle.octets.specs.Choice.{all_of}
use Rattle.octets.specs.Octets.{octets}
use Rattle.octets.proofs.Tests.{each}
use Rattle.rules.specs.Model.{Settings, Peer}
use Rattle.rules.specs.Limits.{max_sessions, max_pool, max_addresses}
use Rattle.rules.specs.Sound.{pool_tests, address_pool_tests, limit_tests, ipv6_allowed, peer_tests, peers_tests, settings_tests, settings_allowed}

-- Sound.pool_tests, of the first TEID and how many there are
pub record PoolKept (f n : ℕ) : Type 0 where
  pub first : 1 ≤ f
  pub some : 1 ≤ n
  pub few : n ≤ max_pool
  pub last : f + n ≤ 2 ^ 32

pub pool_kept_lem : (f n : ℕ) → T (all_of (pool_tests f n)) → PoolKept f n
unfolding pool_tests
pool_kept_lem f n h =
    let e = each (pool_tests f n) h in
    record { first = leb→le 1 f e.0; some = leb→le 1 n e.1.0; few = leb→le n max_pool e.1.1.0; last = leb→le (f + n) (2 ^ 32) e.1.1.1.0 }

-- Sound.address_pool_tests, likewise
pub record AddressPoolKept (f n : ℕ) : Type 0 where
  pub some : 1 ≤ n
  pub few : n ≤ max_addresses
  pub last : f + n ≤ 2 ^ 32

pub address_pool_kept : (f n : ℕ) → T (all_of (address_pool_tests f n)) → AddressPoolKept f n
unfolding address_pool_tests
address_pool_kept f n h =
    let e = each (address_pool_tests f n) h in
    record { some = leb→le 1 n e.0; few = leb→le n max_addresses e.1.0; last = leb→le (f + n) (2 ^ 32) e.1.1.0 }

-- Sound.limit_tests
pub record LimitKept (n : ℕ) : Type 0 where
  pub least : 2 ≤ n
  pub most : n ≤ max_sessions

pub limit_kept : (n : ℕ) → T (all_of (limit_tests n)) → LimitKept n
unfolding limit_tests
limit_kept n h = let e = each (limit_tests n) h in record { least = leb→le 2 n e.0; most = leb→le n max_sessions e.1.0 }

-- Sound.peer_tests: a peer's limit is from its guarantee to the pool's size, and its address has four octets
pub record PeerAllowed (size : ℕ) (q : Peer) : Type 0 where
  pub address : q.address < 256 ^ 4
  pub guarantee : q.guarantee ≤ q.limit
  pub limit : q.limit ≤ size

pub peer_allowed_lem : (size : ℕ) (q : Peer) → T (all_of (peer_tests size q)) → PeerAllowed size q
unfolding peer_tests
peer_allowed_lem size q h =
    let e = each (peer_tests size q) h in
    record { address = ltb→lt q.address (2 ^ 32) e.0; guarantee = leb→le q.guarantee q.limit e.1.0; limit = leb→le q.limit size e.1.1.0 }

-- Sound.peers_tests
pub record PeersAllowed (size : ℕ) (q r : Peer) : Type 0 where
  pub one : PeerAllowed size q
  pub other : PeerAllowed size r
  pub differ : T (not (eqb q.address r.address))
  pub guarantees : q.guarantee + r.guarantee ≤ size

pub peers_allowed_lem : (size : ℕ) (q r : Peer) → T (all_of (peers_tests size q r)) → PeersAllowed size q r
unfolding peers_tests
peers_allowed_lem size q r h =
    let e = each (peers_tests size q r) h in
    record {
      one = peer_allowed_lem size q e.0;
      other = peer_allowed_lem size r e.1.0;
      differ = e.1.1.0;
      guarantees = leb→le (q.guarantee + r.guarantee) size e.1.1.1.0;
    }

-- Sound.settings_tests
pub record SettingsKept (s : Settings) : Type 0 where
  pub ipv4_four : length s.ipv4 ≡ 4
  pub ipv4_octets : T (octets s.ipv4)
  pub ipv6 : T (ipv6_allowed s.ipv6)
  pub ipv6_octets : T (octets s.ipv6)
  pub pool : PoolKept s.first s.size
  pub addresses : AddressPoolKept s.first_address s.address_count
  pub limit : LimitKept s.limit
  pub peers : PeersAllowed s.size s.peer1 s.peer2

pub settings_kept : (s : Settings) → T (settings_allowed s) → SettingsKept s
unfolding settings_allowed settings_tests
settings_kept s h =
    let e = each (settings_tests s) h in
    let f = e.1.1.1.1 in
    record {
      ipv4_four = eqb→eq (length s.ipv4) 4 e.0;
      ipv4_octets = e.1.0;
      ipv6 = e.1.1.0;
      ipv6_octets = e.1.1.1.0;
      pool = pool_kept_lem s.first s.size f.0;
      addresses = address_pool_kept s.first_address s.address_count f.1.0;
      limit = limit_kept s.limit f.1.1.0;
      peers = peers_allowed_lem s.size s.peer1 s.peer2 f.1.1.1.0;
    }
