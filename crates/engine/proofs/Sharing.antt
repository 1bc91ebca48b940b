-- A peer's share at entry, from what the walk over the sessions told (02 (xiv)).
-- Assumes nothing.
use mathlib.Core.Path.{◌≡◌, refl, sym, ap, ◌∙◌, subst}
use mathlib.Core.List.{List}
use Prim.Native.Nat.{ℕ, ◌+◌, ◌-◌, ◌*◌, ◌≤◌, ◌<◌}
use native.Mathlib.Omega.{arith}
use lib.Dec.{T}
use lib.ListN.{length}
use borrow.Author.Tests.{lt-ltb, le-ltb}
use Rattle.rules.specs.Model.{Settings, Sessions, is_peer, peer_of, other_peer, of_peer, holdings, unused}
use Rattle.rules.specs.Layout.{view_settings, view_sessions, settings_width, session_width}
use Rattle.rules.specs.Sound.{sound, due}
use Rattle.laws.proofs.PeerLaws.{PeersKept, peers_kept_lem, peer_cases, known_peers, count_peers}
use Rattle.laws.proofs.KeptRules.{sessions_kept, TableKept, table_kept}
use Rattle.areas.specs.Counted.{count_in}
use Rattle.session.specs.Areas.{table_area}
use Rattle.session.proofs.Saved.{sessions_counted_lem}
use Rattle.stages.specs.Rules.{ShareOf, room_by, room_for}
use Rattle.stages.proofs.ShareLaws.{share_of_lem}
use Rattle.unit.specs.declared.Settings.{Settings as Unit}
use Rattle.unit.specs.Meaning.{settings_of}
use Rattle.unit.proofs.FieldLaws.{size_is, limit_is}
use Rattle.engine.specs.Steps.{Tallied}

-- the less of the two
module _ (limit size own due : ℕ) where
  pub room_rest : size - (own + due) < limit - own → size - (own + due) ≡ room_by limit size own due
  unfolding room_by
  room_rest h = sym (rw (lt-ltb (size - (own + due)) (limit - own) h))

  pub room_limit : limit - own ≤ size - (own + due) → limit - own ≡ room_by limit size own due
  unfolding room_by
  room_limit h = sym (rw (le-ltb (size - (own + due)) (limit - own) h))

module _ (t : List ℕ) (h : T (sound t)) where
  abbrev s : Settings
  s = view_settings t

  abbrev m : Sessions
  m = view_sessions t

  kept : TableKept t
  kept = table_kept t h

  peers : PeersKept s m
  peers = peers_kept_lem s m kept.sessions

  -- the number of sessions is that of the two
  both_count : (room n : ℕ) → room ≡ s.limit → n ≡ count_in (table_area room) t → n ≡ length (of_peer 1 m) + length (of_peer 2 m)
  both_count room n l e =
      e ∙ ap (λ (i : ℕ). count_in (table_area i) t) l ∙ ap (count_in (table_area s.limit)) (sym kept.encoded)
      ∙ sessions_counted_lem s kept.settings m kept.sessions ∙ count_peers m (known_peers s m (sessions_kept s m kept.sessions).sessions)

  -- either peer, by its numbers and the other's
  module _ (who : ℕ) (known : T (is_peer who)) {limit size own other guarantee d : ℕ} (l : limit ≡ (peer_of s who).limit) (z : size ≡ s.size) (o : own ≡ holdings who m)
      (p : other ≡ holdings (other_peer who) m) (g : guarantee ≡ (peer_of s (other_peer who)).guarantee) (e : d ≡ other + (guarantee - other)) where
    is_due : d ≡ due s (other_peer who) m
    unfolding due unused
    is_due = e ∙ (λ i. p i + (g i - p i))

    fits : (own ≤ limit) × (own + d ≤ size)
    fits =
        let a = peers.teids who known in
        let b = peers.pool who known in
        let c : holdings who m ≤ due s who m = unfold due unused in (omega arith) in
        (omega arith, omega (arith, is_due))

    shares : {teids sessions : ℕ} → teids ≡ room_by limit size own d → sessions ≡ length (of_peer who m) → ShareOf s m who teids sessions
    unfolding room_for
    shares {teids} {sessions} q n =
        share_of_lem s m peers who known teids sessions (q ∙ (λ i. room_by (l i) (z i) (o i) (is_due i))) n

module _ (peer : ℕ) (known : T (is_peer peer)) {u : Unit} {t : List ℕ} {one two first : ℕ} (k : Tallied u t one two first) where
  abbrev st : Settings
  st = view_settings t

  same_size : u.size ≡ st.size
  same_size = size_is u st k.settings

  -- the sessions are counted, and peer 1's are among them
  pub count_room : {room : ℕ} → room ≡ u.limit → settings_width + 2 + room * session_width ≤ length t
  count_room r = let w = (table_kept t k.table).whole in omega (arith, limit_is u st k.settings)

  pub first_within : {n : ℕ} → n ≡ count_in (table_area u.limit) t → first ≤ n
  first_within {n} c = omega (arith, k.first_sessions, both_count t k.table u.limit n (limit_is u st k.settings) c)

  -- peer 1
  module _ (is : peer ≡ 1) {d : ℕ} (e : d ≡ two + (u.peer2.guarantee - two)) where
    pub first_fits : (one ≤ u.peer1.limit) × (one + d ≤ u.size)
    unfolding settings_of peer_of other_peer is_peer
    first_fits =
        fits t k.table 1 tt (ap (λ (x : Settings). (peer_of x 1).limit) k.settings) same_size k.first_holds k.second_holds (ap (λ (x : Settings). (peer_of x 2).guarantee) k.settings) e

    pub first_share : {teids : ℕ} → teids ≡ room_by u.peer1.limit u.size one d → ShareOf (view_settings t) (view_sessions t) peer teids first
    unfolding settings_of peer_of other_peer is_peer
    first_share {teids} q =
        subst (λ (n : ℕ). ShareOf (view_settings t) (view_sessions t) n teids first) (sym is)
        (shares t k.table 1 tt (ap (λ (x : Settings). (peer_of x 1).limit) k.settings) same_size k.first_holds k.second_holds (ap (λ (x : Settings). (peer_of x 2).guarantee) k.settings) e q k.first_sessions)

  -- peer 2
  module _ (other : peer ≡ 1 → ⊥) where
    is_second : peer ≡ 2
    is_second = peer_cases (λ (n : ℕ). (n ≡ 1 → ⊥) → n ≡ 2) (λ z. absurd (z refl)) (λ z. refl) peer known other

    module _ {d : ℕ} (e : d ≡ one + (u.peer1.guarantee - one)) where
      pub second_fits : (two ≤ u.peer2.limit) × (two + d ≤ u.size)
      unfolding settings_of peer_of other_peer is_peer
      second_fits =
          fits t k.table 2 tt (ap (λ (x : Settings). (peer_of x 2).limit) k.settings) same_size k.second_holds k.first_holds (ap (λ (x : Settings). (peer_of x 1).guarantee) k.settings) e

      pub second_share : {teids n : ℕ} → teids ≡ room_by u.peer2.limit u.size two d → n ≡ count_in (table_area u.limit) t
          → ShareOf (view_settings t) (view_sessions t) peer teids (n - first)
      unfolding settings_of peer_of other_peer is_peer
      second_share {teids} {n} q c =
          subst (λ (i : ℕ). ShareOf (view_settings t) (view_sessions t) i teids (n - first)) (sym is_second)
          (shares t k.table 2 tt (ap (λ (x : Settings). (peer_of x 2).limit) k.settings) same_size k.second_holds k.first_holds (ap (λ (x : Settings). (peer_of x 1).guarantee) k.settings) e q
          (omega (arith, k.first_sessions, both_count t k.table u.limit n (limit_is u st k.settings) c)))
