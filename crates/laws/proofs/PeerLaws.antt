-- The two peers (02 (xiv)): each session is of one of them, and the settings say what each is due.
-- Assumes nothing.
use mathlib.Core.Path.{◌≡◌, refl, sym, subst}
use Prim.Native.Nat.{ℕ, suc, ◌+◌, ◌^◌, ◌≤◌, ◌<◌}
use native.Mathlib.Omega.{arith}
use mathlib.Core.Bool.{Bool, true, false, ◌||◌}
use mathlib.Core.List.{List, [], ◌∷◌}
use lib.ListN.{length, drop}
use lib.Dec.{T, eqb, eqb→eq, leb→le}
use mir.Facts.{yes_leb}
use Rattle.octets.specs.Choice.{pick, all_of}
use Rattle.octets.specs.Lists.{all, keep}
use Rattle.octets.proofs.Tests.{each, all_of_each, all_head, all_tail}
use Rattle.octets.proofs.ListLaws.{all_imply}
use Rattle.rules.specs.Model.{Settings, Session, Sessions, is_peer, peer_of, other_peer, half, has_peer, of_peer, holdings, key_for}
use Rattle.rules.specs.Sound.{settings_allowed, session_allowed, few_sessions, few_teids, due, peers_kept, sessions_allowed}
use Rattle.rules.specs.Message.{header_seid}
use Rattle.octets.specs.Octets.{number_at, octets}
use Rattle.laws.proofs.BoundLaws.{bytes_drop, field_bound}
use Rattle.laws.proofs.KeptSettings.{PeerAllowed, settings_kept}
use Rattle.laws.proofs.KeptRules.{session_kept, sessions_kept}

-- what holds of 1 and of 2 holds of a peer
pub peer_cases : (P : ℕ → Type 0) → P 1 → P 2 → (who : ℕ) → T (is_peer who) → P who
unfolding is_peer
peer_cases P a b who h = one (eqb who 1) refl (eqb who 2) refl h
  where
    one : (c : Bool) → eqb who 1 ≡ c → (d : Bool) → eqb who 2 ≡ d → T (c || d) → P who
    one true e d f g = subst P (sym (eqb→eq who 1 (subst T (sym e) tt))) a
    one false e true f g = subst P (sym (eqb→eq who 2 (subst T (sym f) tt))) b
    one false e false f g = absurd g

pub known_peer : (s : Settings) (x : Session) → T (session_allowed s x) → T (is_peer x.peer)
known_peer s x h = (session_kept s x h).records.peer

pub known_peers : (s : Settings) (m : Sessions) → T (all (session_allowed s) m) → T (all (λ x. is_peer x.peer) m)
known_peers s m h = all_imply (session_allowed s) (λ x. is_peer x.peer) (known_peer s) m h

-- the sessions of the two are all
pub count_peers : (m : Sessions) → T (all (λ x. is_peer x.peer) m) → length m ≡ length (of_peer 1 m) + length (of_peer 2 m)
unfolding of_peer keep has_peer
count_peers [] h = refl
count_peers (x ∷ m) h =
    let ih = count_peers m (all_tail (λ y. is_peer y.peer) x m h) in
    peer_cases
    (λ (n : ℕ). suc (length m) ≡ length (pick (eqb n 1) (x ∷ keep (λ y. eqb y.peer 1) m) (keep (λ y. eqb y.peer 1) m))
    + length (pick (eqb n 2) (x ∷ keep (λ y. eqb y.peer 2) m) (keep (λ y. eqb y.peer 2) m)))
    (omega arith) (omega arith) x.peer (all_head (λ y. is_peer y.peer) x m h)

-- ---- the settings

module _ (s : Settings) (hs : T (settings_allowed s)) where
  pub peer_known : (who : ℕ) → T (is_peer who) → PeerAllowed s.size (peer_of s who)
  unfolding peer_of
  peer_known = peer_cases (λ (who : ℕ). PeerAllowed s.size (pick (eqb who 1) s.peer1 s.peer2)) (settings_kept s hs).peers.one (settings_kept s hs).peers.other

  -- the guarantees together don't exceed the pool
  pub guarantees_fit : s.peer1.guarantee + s.peer2.guarantee ≤ s.size
  guarantees_fit = (settings_kept s hs).peers.guarantees

-- ---- what the sessions keep for the peers

pub other_peer_lem : (who : ℕ) → T (is_peer who) → T (is_peer (other_peer who))
unfolding other_peer is_peer
other_peer_lem = peer_cases (λ (who : ℕ). T (eqb (pick (eqb who 1) 2 1) 1 || eqb (pick (eqb who 1) 2 1) 2)) tt tt

-- Sound.peers_kept, of either peer
pub record PeersKept (s : Settings) (m : Sessions) : Type 0 where
  pub sessions : (who : ℕ) → T (is_peer who) → length (of_peer who m) ≤ half s
  pub teids : (who : ℕ) → T (is_peer who) → holdings who m ≤ (peer_of s who).limit
  pub pool : (who : ℕ) → T (is_peer who) → due s who m + due s (other_peer who) m ≤ s.size

pub peers_kept_lem : (s : Settings) (m : Sessions) → T (sessions_allowed s m) → PeersKept s m
unfolding peers_kept few_sessions few_teids other_peer
peers_kept_lem s m h =
    let e = each (peers_kept s m) (sessions_kept s m h).peers in
    let pool : due s 1 m + due s 2 m ≤ s.size = leb→le (due s 1 m + due s 2 m) s.size e.1.1.1.1.0 in
    record {
      sessions = peer_cases (λ (who : ℕ). length (of_peer who m) ≤ half s) (leb→le (length (of_peer 1 m)) (half s) e.0) (leb→le (length (of_peer 2 m)) (half s) e.1.0);
      teids = peer_cases (λ (who : ℕ). holdings who m ≤ (peer_of s who).limit) (leb→le (holdings 1 m) (peer_of s 1).limit e.1.1.0) (leb→le (holdings 2 m) (peer_of s 2).limit e.1.1.1.0);
      pool = peer_cases (λ (who : ℕ). due s who m + due s (pick (eqb who 1) 2 1) m ≤ s.size) pool (omega arith);
    }

pub peers_keep : (s : Settings) (m : Sessions) → PeersKept s m → T (all_of (peers_kept s m))
unfolding peers_kept few_sessions few_teids
peers_keep s m k =
    let pool : due s 1 m + due s 2 m ≤ s.size = unfold other_peer in (k.pool 1 one) in
    all_of_each (peers_kept s m)
    (yes_leb (k.sessions 1 one), (yes_leb (k.sessions 2 two), (yes_leb (k.teids 1 one), (yes_leb (k.teids 2 two), (yes_leb pool, tt)))))
  where
    one : T (is_peer 1)
    one = unfold is_peer in tt

    two : T (is_peer 2)
    two = unfold is_peer in tt

-- no more sessions than the limit
pub all_sessions : (s : Settings) (m : Sessions) → T (sessions_allowed s m) → length m ≤ s.limit
unfolding half
all_sessions s m h =
    let k = peers_kept_lem s m h in
    let a = k.sessions 1 (unfold is_peer in tt) in
    let b = k.sessions 2 (unfold is_peer in tt) in
    let c = count_peers m (known_peers s m (sessions_kept s m h).sessions) in
    omega arith

-- ---- keys

-- a key says whose it is
pub key_peer : (a n b k : ℕ) → n < 2 ^ 64 → k < 2 ^ 64 → key_for a n ≡ key_for b k → a ≡ b
unfolding key_for
key_peer a n b k h g e = omega arith

-- a header's SEID has eight octets
pub header_seid_fits : (msg : List ℕ) → T (octets msg) → header_seid msg < 2 ^ 64
unfolding header_seid number_at
header_seid_fits msg h = field_bound 8 (drop 4 msg) (bytes_drop 4 msg h)
