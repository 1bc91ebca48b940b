-- The table's octets read back: `view` is the inverse of `encode` on settings and sessions that are allowed, and the length is fixed.
-- Assumes nothing.
use mathlib.Core.Path.{◌≡◌, refl, sym, ap, ap₂, ◌∙◌}
use Prim.Native.Nat.{ℕ, suc, ◌+◌, ◌-◌, ◌*◌, ◌^◌, ◌≤◌, ◌<◌, zero-le}
use native.Mathlib.Nat.{le_of_eq, lt_of_le_of_lt}
use native.Mathlib.Omega.{arith}
use mathlib.Core.Bool.{not}
use mathlib.Core.List.{List, [], ◌∷◌, ◌++◌, map, append_assoc, append-nil}
use lib.ListN.{length, take, drop, length-append}
use lib.Dec.{T, eqb, eqb→eq, lit<}
use mir.Facts.{yes_eqb}
use lib.Seq.{take_at, drop_at, drop-drop}
use Rattle.octets.specs.Choice.{pick, flag, is_nil}
use Rattle.octets.specs.Octets.{be, number, number_at, octet_at, zeros, padded, slices}
use Rattle.octets.specs.Lists.{all}
use Rattle.octets.proofs.Tests.{all_of_each, of_true}
use Rattle.octets.proofs.Numbers.{same_refl, number_be, length_be, length_padded}
use Rattle.rules.specs.Model.{Settings, Sessions, Peer}
use Rattle.rules.specs.Limits.{max_sessions}
use Rattle.rules.specs.Sound.{ipv6_allowed, settings_allowed, session_allowed, sessions_allowed, sound_tests, sound}
use Rattle.rules.specs.Layout.{head_width, session_width, table_length, area, session_octets, settings_octets, encode, view_area, view_session, view_peer, view_settings, view_sessions, settings_width, peer_octets}
use Rattle.laws.proofs.KeptSettings.{PeerAllowed, SettingsKept, settings_kept}
use Rattle.laws.proofs.KeptRules.{sessions_kept}
use Rattle.laws.proofs.PeerLaws.{all_sessions}
use Rattle.laws.proofs.LayoutLaws.{length_area, area_back, length_session, session_back}

-- ---- settings

-- a list of four, cell by cell
four : (P : List ℕ → Type 0) → ((a b c d : ℕ) → P (a ∷ b ∷ c ∷ d ∷ [])) → (v : List ℕ) → length v ≡ 4 → P v
four P f [] h = absurd (omega arith)
four P f (a ∷ []) h = absurd (omega arith)
four P f (a ∷ b ∷ []) h = absurd (omega arith)
four P f (a ∷ b ∷ c ∷ []) h = absurd (omega arith)
four P f (a ∷ b ∷ c ∷ d ∷ []) h = f a b c d
four P f (a ∷ b ∷ c ∷ d ∷ e ∷ v) h = absurd (omega arith)

pub ipv6_short : (v : List ℕ) → T (ipv6_allowed v) → length v ≤ 16
unfolding ipv6_allowed
ipv6_short [] h = zero-le
ipv6_short (y ∷ ys) h = le_of_eq (eqb→eq (length (y ∷ ys)) 16 h)

-- what stands k octets after a part of sixteen
after16 : (p r t : List ℕ) → length p ≡ 16 → (k : ℕ) → drop (16 + k) ((p ++ r) ++ t) ≡ drop k (r ++ t)
after16 p r t h k = sym (drop-drop k 16 ((p ++ r) ++ t)) ∙ ap (drop k) (ap (drop 16) (append_assoc p r t) ∙ drop_at p (r ++ t) 16 h)

ipv6_back : (v r t : List ℕ) → T (ipv6_allowed v) → pick (eqb (flag (not (is_nil v))) 0) [] (take 16 ((padded 16 v ++ r) ++ t)) ≡ v
unfolding ipv6_allowed padded
ipv6_back [] r t h = refl
ipv6_back (y ∷ ys) r t h =
    let v = y ∷ ys in
    let z = zeros (16 - length v) in
    ap (take 16) (append_assoc (v ++ z) r t ∙ append_assoc v z (r ++ t)) ∙ take_at v (z ++ (r ++ t)) 16 (eqb→eq (length v) 16 h)

-- a peer's numbers have four octets each
record Fits (q : Peer) : Type 0 where
  address : q.address < 256 ^ 4
  guarantee : q.guarantee < 256 ^ 4
  limit : q.limit < 256 ^ 4

module _ (a b c d : ℕ) (v : List ℕ) (f n u k l : ℕ) (q r : Peer) (t : List ℕ) (hv : T (ipv6_allowed v)) where
  -- the settings in cells, with what follows them in a table
  tail : List ℕ
  tail = be 4 f ++ (be 4 n ++ (be 4 u ++ (be 4 k ++ (be 2 l ++ (peer_octets q ++ peer_octets r)))))

  full : length (padded 16 v) ≡ 16
  full = length_padded 16 v (ipv6_short v hv)

  -- a number of four octets, so many after the IPv6 address
  there : (i x : ℕ) (rest : List ℕ) → drop i (tail ++ t) ≡ be 4 x ++ rest → x < 256 ^ 4 → number (take 4 (drop (16 + i) ((padded 16 v ++ tail) ++ t))) ≡ x
  there i x rest e h = ap (λ (xs : List ℕ). number (take 4 xs)) (after16 (padded 16 v) tail t full i ∙ e) ∙ ap number (take_at (be 4 x) rest 4 (length_be 4 x)) ∙ number_be 4 x h

  cells : f < 256 ^ 4 → n < 256 ^ 4 → u < 256 ^ 4 → k < 256 ^ 4 → l < 256 ^ 2 → Fits q → Fits r
      → view_settings (settings_octets (record { ipv4 = a ∷ b ∷ c ∷ d ∷ []; ipv6 = v; first = f; size = n; first_address = u; address_count = k; limit = l; peer1 = q; peer2 = r }) ++ t)
      ≡ record { ipv4 = a ∷ b ∷ c ∷ d ∷ []; ipv6 = v; first = f; size = n; first_address = u; address_count = k; limit = l; peer1 = q; peer2 = r }
  unfolding view_settings view_peer settings_octets peer_octets number_at octet_at be tail
  cells hf hn hu hk hl hq hr =
      λ j. record {
        ipv4 = a ∷ b ∷ c ∷ d ∷ [];
        ipv6 = ipv6_back v tail t hv j;
        first = (ap (λ (xs : List ℕ). number (take 4 xs)) (after16 (padded 16 v) tail t full 0) ∙ number_be 4 f hf) j;
        size = (ap (λ (xs : List ℕ). number (take 4 xs)) (after16 (padded 16 v) tail t full 4) ∙ number_be 4 n hn) j;
        first_address = (ap (λ (xs : List ℕ). number (take 4 xs)) (after16 (padded 16 v) tail t full 8) ∙ number_be 4 u hu) j;
        address_count = (ap (λ (xs : List ℕ). number (take 4 xs)) (after16 (padded 16 v) tail t full 12) ∙ number_be 4 k hk) j;
        limit = (ap (λ (xs : List ℕ). number (take 2 xs)) (after16 (padded 16 v) tail t full 16) ∙ number_be 2 l hl) j;
        peer1 = record { address = there 18 q.address _ refl hq.address j; guarantee = there 22 q.guarantee _ refl hq.guarantee j; limit = there 26 q.limit _ refl hq.limit j };
        peer2 = record { address = there 30 r.address _ refl hr.address j; guarantee = there 34 r.guarantee _ refl hr.guarantee j; limit = there 38 r.limit _ refl hr.limit j };
      }

  -- and what stands i octets after them
  past : (i : ℕ) → drop (16 + (42 + i)) ((padded 16 v ++ tail) ++ t) ≡ drop i t
  unfolding tail peer_octets be
  past i = after16 (padded 16 v) tail t full (42 + i) ∙ sym (drop-drop i 42 (tail ++ t))

-- ---- tables

regroup : (n : ℕ) → settings_width + suc (suc n) ≡ head_width + n
regroup n = omega arith

module _ (s : Settings) (hs : T (settings_allowed s)) where
  kept : SettingsKept s
  kept = settings_kept s hs

  pub ipv4_four_lem : length s.ipv4 ≡ 4
  ipv4_four_lem = kept.ipv4_four

  pub ipv6_ok : T (ipv6_allowed s.ipv6)
  ipv6_ok = kept.ipv6

  pub pool_fits : s.first + s.size ≤ 256 ^ 4
  pool_fits = kept.pool.last

  first_fits : s.first < 256 ^ 4
  first_fits = omega (arith, kept.pool.some, pool_fits)

  size_fits : s.size < 256 ^ 4
  size_fits = omega (arith, kept.pool.first, pool_fits)

  pub address_pool_fits : s.first_address + s.address_count ≤ 256 ^ 4
  address_pool_fits = kept.addresses.last

  first_address_fits : s.first_address < 256 ^ 4
  first_address_fits = omega (arith, kept.addresses.some, address_pool_fits)

  address_count_fits : s.address_count < 256 ^ 4
  address_count_fits = lt_of_le_of_lt kept.addresses.few (lit< tt)

  pub limit_most : s.limit ≤ max_sessions
  limit_most = kept.limit.most

  pub limit_fits : s.limit < 256 ^ 2
  limit_fits = lt_of_le_of_lt limit_most (lit< tt)

  peer_fits : (q : Peer) → PeerAllowed s.size q → Fits q
  peer_fits q h =
      let a = h.guarantee in
      let b = h.limit in
      let c = size_fits in
      record { address = h.address; guarantee = omega arith; limit = omega arith }

  pub settings_back : (t : List ℕ) → view_settings (settings_octets s ++ t) ≡ s
  settings_back t =
      four
      (λ (v : List ℕ). view_settings (settings_octets (record { ipv4 = v; ipv6 = s.ipv6; first = s.first; size = s.size; first_address = s.first_address; address_count = s.address_count; limit = s.limit; peer1 = s.peer1; peer2 = s.peer2 }) ++ t)
      ≡ record { ipv4 = v; ipv6 = s.ipv6; first = s.first; size = s.size; first_address = s.first_address; address_count = s.address_count; limit = s.limit; peer1 = s.peer1; peer2 = s.peer2 })
      (λ a b c d. cells a b c d s.ipv6 s.first s.size s.first_address s.address_count s.limit s.peer1 s.peer2 t ipv6_ok first_fits size_fits first_address_fits address_count_fits limit_fits
      (peer_fits s.peer1 kept.peers.one) (peer_fits s.peer2 kept.peers.other))
      s.ipv4 ipv4_four_lem

  pub length_settings : length (settings_octets s) ≡ settings_width
  unfolding settings_octets peer_octets be
  length_settings =
      let numbers = be 4 s.first ++ (be 4 s.size ++ (be 4 s.first_address ++ (be 4 s.address_count ++ (be 2 s.limit ++ (peer_octets s.peer1 ++ peer_octets s.peer2))))) in
      length-append s.ipv4 (flag (not (is_nil s.ipv6)) ∷ padded 16 s.ipv6 ++ numbers)
      ∙ ap₂ (λ (i j : ℕ). i + suc j) ipv4_four_lem
      (length-append (padded 16 s.ipv6) numbers ∙ ap (λ (k : ℕ). k + 42) (length_padded 16 s.ipv6 (ipv6_short s.ipv6 ipv6_ok)))

  module _ (m : Sessions) (hm : T (sessions_allowed s m)) where
    few_sessions : length m ≤ s.limit
    few_sessions = all_sessions s m hm

    each_session : T (all (session_allowed s) m)
    each_session = (sessions_kept s m hm).sessions

    session_area : List ℕ
    session_area = area session_octets session_width s.limit m

    after : List ℕ
    after = be 2 (length m) ++ session_area

    area_read : map view_session (slices session_width (length m) session_area) ≡ m
    unfolding session_area
    area_read =
        ap (λ (xs : List ℕ). map view_session (slices session_width (length m) xs)) (sym (append-nil session_area))
        ∙ area_back session_octets session_width (session_allowed s) (length_session s hs) view_session (session_back s hs) s.limit m each_session []

    sessions_cells : (a b c d : ℕ)
        → view_sessions (settings_octets (record { ipv4 = a ∷ b ∷ c ∷ d ∷ []; ipv6 = s.ipv6; first = s.first; size = s.size; first_address = s.first_address; address_count = s.address_count; limit = s.limit; peer1 = s.peer1; peer2 = s.peer2 }) ++ after) ≡ m
    unfolding view_sessions view_area settings_octets number_at after peer_octets be tail
    sessions_cells a b c d =
        let behind = past a b c d s.ipv6 s.first s.size s.first_address s.address_count s.limit s.peer1 s.peer2 after ipv6_ok in
        ap₂ (λ (k : ℕ) (xs : List ℕ). map view_session (slices session_width k xs))
        (ap (λ (xs : List ℕ). number (take 2 xs)) (behind 0) ∙ number_be 2 (length m) (lt_of_le_of_lt few_sessions limit_fits))
        (behind 2)
        ∙ area_read

    -- the sessions are read back
    pub sessions_back : view_sessions (encode s m) ≡ m
    unfolding encode after session_area
    sessions_back =
        four (λ (v : List ℕ). view_sessions (settings_octets (record { ipv4 = v; ipv6 = s.ipv6; first = s.first; size = s.size; first_address = s.first_address; address_count = s.address_count; limit = s.limit; peer1 = s.peer1; peer2 = s.peer2 }) ++ after) ≡ m)
        sessions_cells s.ipv4 ipv4_four_lem

    -- and so are the settings
    pub encoded_settings : view_settings (encode s m) ≡ s
    unfolding encode
    encoded_settings = settings_back (be 2 (length m) ++ area session_octets session_width s.limit m)

    -- the length depends on the session limit alone
    pub length_encode : length (encode s m) ≡ table_length s.limit
    unfolding encode be session_area
    length_encode =
        length-append (settings_octets s) (be 2 (length m) ++ session_area)
        ∙ ap₂ (λ (i j : ℕ). i + suc (suc j)) length_settings (length_area session_octets session_width (session_allowed s) (length_session s hs) s.limit m each_session few_sessions)
        ∙ regroup (s.limit * session_width)

    -- what is allowed is encoded as a table that is not broken
    pub sound_encode : T (sound (encode s m))
    unfolding sound sound_tests
    sound_encode =
        all_of_each (sound_tests (encode s m) (view_settings (encode s m)) (view_sessions (encode s m)))
        (rw (encoded_settings, sessions_back) (yes_eqb length_encode, (hs, (hm, (of_true (same_refl (encode s m)), tt)))))
