-- Which settings are allowed, return by return. The value's addresses are whole by its widths; the pools and the session limit are left to test.
-- Assumes nothing.
use Rattle.std.specs.Prelude.{Option, Some, None}
use mathlib.Core.Path.{◌≡◌, refl, sym, ◌∙◌}
use mathlib.Core.Bool.{Bool, true, false, not, ◌&&◌, true≢false}
use mathlib.Core.List.{◌++◌}
use Prim.Native.Nat.{ℕ, ◌+◌, ◌-◌, ◌≤◌, ◌<◌, ◌^◌}
use native.Mathlib.Omega.{arith}
use borrow.Author.Tests.{lt-leb, le-leb, eq-eqb, lt-ltb, le-ltb}
use lib.Dec.{leb, ltb, eqb}
use lib.ListN.{length}
use Rattle.octets.specs.Choice.{all_of}
use Rattle.octets.specs.Octets.{be, octets}
use Rattle.octets.proofs.Tests.{is_true}
use Rattle.octets.proofs.Ordered.{orders}
use Rattle.octets.proofs.Numbers.{length_be, bytes_be}
use Rattle.octets.proofs.Digits.{octets_append}
use Rattle.octets.proofs.Bools.{and-false, and-true}
use Rattle.rules.specs.Limits.{max_sessions, max_pool, max_addresses}
use Rattle.rules.specs.Sound.{pool_tests, address_pool_tests, limit_tests, ipv6_allowed, settings_tests, settings_allowed, peer_tests, peers_tests}
use Rattle.unit.specs.declared.Settings.{Settings as Unit}
use Rattle.unit.specs.declared.Peer as declared
use Rattle.unit.specs.declared.Ipv6.{Ipv6}
use Rattle.unit.specs.Meaning.{ipv6_octets, settings_of, range_tests, peer_from}

-- an IPv6 address, or none
ipv6_is_allowed : (a : Option Ipv6) → ipv6_allowed (ipv6_octets a) ≡ true
unfolding ipv6_allowed be
ipv6_is_allowed None = refl
ipv6_is_allowed (Some a) = refl

ipv6_is_octets : (a : Option Ipv6) → octets (ipv6_octets a) ≡ true
ipv6_is_octets None = refl
ipv6_is_octets (Some a) = is_true (octets (be 8 a.high ++ be 8 a.low)) (octets_append (be 8 a.high) (be 8 a.low) (bytes_be 8 a.high) (bytes_be 8 a.low))

-- ---- a pool, return by return

module _ (first size most : ℕ) where
  pub pool_empty : size < 1 → false ≡ all_of (range_tests first size most)
  pool_empty h = rw (lt-leb 1 size h) refl

  pub pool_large : 1 ≤ size → most < size → false ≡ all_of (range_tests first size most)
  pool_large e h = rw (le-leb 1 size e, lt-leb size most h) refl

  last_is : size ≤ most → most ≤ 4294967296 → leb first (4294967296 - size) ≡ leb (first + size) (2 ^ 32)
  last_is h k =
      orders (first + size) 4294967296
      (λ j. le-leb first (4294967296 - size) (omega arith) ∙ sym (le-leb (first + size) (2 ^ 32) j))
      (λ j. lt-leb first (4294967296 - size) (omega arith) ∙ sym (lt-leb (first + size) (2 ^ 32) j))

  pub pool_last : most ≤ 4294967296 → 1 ≤ size → size ≤ most → leb first (4294967296 - size) ≡ all_of (range_tests first size most)
  pool_last k e h = last_is h k ∙ rw (le-leb 1 size e, le-leb size most h) (sym (and-true (leb (first + size) (2 ^ 32))))

-- ---- the session limit

pub limit_none : (l : ℕ) → l < 2 → false ≡ all_of (limit_tests l)
unfolding limit_tests
limit_none l h = rw (lt-leb 2 l h) refl

pub limit_some : (l : ℕ) → 2 ≤ l → leb l max_sessions ≡ all_of (limit_tests l)
unfolding limit_tests
limit_some l h = rw (le-leb 2 l h) (sym (and-true (leb l max_sessions)))

-- ---- the peers, return by return

module _ (q : declared.Peer) (size : ℕ) where
  pub peer_address : 4294967295 < q.address → false ≡ all_of (peer_tests size (peer_from q))
  unfolding peer_tests
  peer_address h = let far : 2 ^ 32 ≤ q.address = omega arith in rw (le-ltb q.address (2 ^ 32) far) refl

  near : q.address ≤ 4294967295 → ltb q.address (2 ^ 32) ≡ true
  near h = lt-ltb q.address (2 ^ 32) (omega arith)

  pub peer_guarantee : q.address ≤ 4294967295 → q.limit < q.guarantee → false ≡ all_of (peer_tests size (peer_from q))
  unfolding peer_tests
  peer_guarantee a h = rw (near a, lt-leb q.guarantee q.limit h) refl

  pub peer_limit : q.address ≤ 4294967295 → q.guarantee ≤ q.limit → leb q.limit size ≡ all_of (peer_tests size (peer_from q))
  unfolding peer_tests
  peer_limit a g = rw (near a, le-leb q.guarantee q.limit g) (sym (and-true (leb q.limit size)))

module _ (q r : declared.Peer) (size : ℕ) where
  abbrev first_ok : Bool
  first_ok = all_of (peer_tests size (peer_from q))

  abbrev second_ok : Bool
  second_ok = all_of (peer_tests size (peer_from r))

  pub peers_first : (b : Bool) → b ≡ first_ok → not b ≡ true → false ≡ all_of (peers_tests size (peer_from q) (peer_from r))
  unfolding peers_tests
  peers_first true e h = absurd (true≢false (sym h))
  peers_first false e h = rw (← e) refl

  pub peers_second : (b c : Bool) → b ≡ first_ok → not b ≡ false → c ≡ second_ok → not c ≡ true → false ≡ all_of (peers_tests size (peer_from q) (peer_from r))
  unfolding peers_tests
  peers_second b true e h f g = absurd (true≢false (sym g))
  peers_second b false e h f g = rw (← f, and-false first_ok) refl

  -- the guarantees pass the pool
  past : size < q.guarantee + r.guarantee → false ≡ all_of (peers_tests size (peer_from q) (peer_from r))
  unfolding peers_tests
  past h = rw (lt-leb (q.guarantee + r.guarantee) size h, and-false (not (eqb q.address r.address)), and-false second_ok, and-false first_ok) refl

  pub peers_large : size < r.guarantee → false ≡ all_of (peers_tests size (peer_from q) (peer_from r))
  peers_large h = past (omega arith)

  pub peers_both : r.guarantee ≤ size → size - r.guarantee < q.guarantee → false ≡ all_of (peers_tests size (peer_from q) (peer_from r))
  peers_both g h = past (omega arith)

  pub peers_last : (b c : Bool) → b ≡ first_ok → not b ≡ false → c ≡ second_ok → not c ≡ false → r.guarantee ≤ size → q.guarantee ≤ size - r.guarantee
      → not (eqb q.address r.address) ≡ all_of (peers_tests size (peer_from q) (peer_from r))
  unfolding peers_tests
  peers_last true true e h f g k l =
      let fits : q.guarantee + r.guarantee ≤ size = omega arith in
      rw (← e, ← f, le-leb (q.guarantee + r.guarantee) size fits) (sym (and-true (not (eqb q.address r.address))))
  peers_last true false e h f g k l = absurd (true≢false g)
  peers_last false c e h f g k l = absurd (true≢false h)

-- ---- the settings

module _ (u : Unit) where
  abbrev teids : Bool
  teids = all_of (range_tests u.first u.size max_pool)

  abbrev ips : Bool
  ips = all_of (range_tests u.first_address u.addresses max_addresses)

  abbrev room : Bool
  room = all_of (limit_tests u.limit)

  abbrev peers : Bool
  peers = all_of (peers_tests u.size (peer_from u.peer1) (peer_from u.peer2))

  pub allowed_is : settings_allowed (settings_of u) ≡ ((leb 1 u.first && teids) && (ips && (room && peers)))
  unfolding settings_allowed settings_tests settings_of pool_tests address_pool_tests
  allowed_is =
      rw (eq-eqb (length (be 4 u.ipv4)) 4 (length_be 4 u.ipv4), is_true (octets (be 4 u.ipv4)) (bytes_be 4 u.ipv4), ipv6_is_allowed u.ipv6, ipv6_is_octets u.ipv6, and-true peers) refl
