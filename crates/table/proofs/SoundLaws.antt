-- The tests on a table's octets say just that it is not broken.
-- Assumes nothing.
use mathlib.Core.Path.{◌≡◌, refl, sym, ap, subst, ◌∙◌}
use Prim.Native.Nat.{ℕ, ◌+◌, ◌-◌, ◌*◌, ◌≤◌}
use native.Mathlib.Nat.{le_trans, le_of_eq}
use native.Mathlib.Omega.{arith}
use mathlib.Core.Bool.{Bool, true, false, ◌&&◌}
use mathlib.Core.List.{List, [], ◌∷◌, ◌++◌, map}
use lib.ListN.{length, take, drop, length-drop, length-map, take-append-drop}
use lib.Seq.{take-take, take_at, drop_at, drop-drop, get_or-take}
use lib.Dec.{T, eqb, eqb→eq, leb→le, lit≤, lit<}
use mir.Facts.{yes_leb, yes_eqb}
use Rattle.octets.specs.Choice.{pick, all_of}
use Rattle.octets.specs.Octets.{part, be, number, number_at, octet_at, same_octets, all_zero, octets}
use Rattle.octets.specs.Lists.{all, all_pairs, ascending}
use Rattle.octets.proofs.Tests.{each, all_of_each, both, and_left, and_right, of_true, all_head, all_tail, all_cons}
use Rattle.octets.proofs.Numbers.{same_refl, length_slices}
use Rattle.octets.proofs.Digits.{be_back, part_octets, drop_octets}
use Rattle.octets.proofs.Put.{length_part, drop_take}
use Rattle.rules.specs.Limits.{map_words, address_words}
use Rattle.rules.specs.Model.{Settings, Session, session_key}
use Rattle.rules.specs.Layout.{head_width, key_width, view_peer, peer1_at, peer2_at, session_width, table_length, area, session_octets, settings_octets, encode, view_area, view_session, view_settings, view_sessions, settings_width, ipv6_there_at, ipv6_at, first_at, size_at, first_address_at, address_count_at, limit_at}
use Rattle.rules.specs.Sound.{settings_allowed, session_allowed, apart, peers_kept, sessions_allowed, sound}
use Rattle.laws.proofs.KeptRules.{sessions_kept, sessions_allowed_lem, table_kept, table_sound}
use Rattle.laws.proofs.LayoutLaws.{length_session}
use Rattle.laws.proofs.TableLaws.{length_settings}
use Rattle.laws.proofs.PeerLaws.{all_sessions}
use Rattle.pool.proofs.TakenLaws.{pool_fits}
use Rattle.pool.proofs.AddressLaws.{addresses_fit}
use Rattle.marking.specs.Walk.{apart_teids, apart_addresses}
use Rattle.marking.proofs.AddressWalk.{apart_both}
use Rattle.areas.specs.Records.{key_of}
use Rattle.records.specs.Kept.{kept, settings_sound}
use Rattle.records.specs.Slot.{area_sound}
use Rattle.records.proofs.Areas.{area_from, area_to, kept_allowed, kept_same}
use Rattle.records.proofs.SlotLaws.{key_session}
use Rattle.table.specs.Tests.{session_count, limit_of, slots_of, order_sound, front_tests, front_sound, walk_sound, peers_sound}
use Rattle.table.proofs.Walks.{canonical, slots_whole, slots_law, free_law}
use Rattle.octets.proofs.Bools.{and-false, both_ways, and-true}

-- ---- what the settings and sessions are read from

within : (at n k : ℕ) (t : List ℕ) → k ≤ n → part at k (take (at + n) t) ≡ part at k t
within at n k t h = ap (take k) (drop_take at n t) ∙ take-take k n (drop at t) h

pub settings_front : (t : List ℕ) → view_settings (part 0 settings_width t) ≡ view_settings t
unfolding view_settings view_peer octet_at number_at
settings_front t =
    λ i. record {
      ipv4 = within 0 settings_width 4 t (lit≤ tt) i;
      ipv6 = pick (eqb (get_or-take settings_width t ipv6_there_at 0 (lit< tt) i) 0) [] (within ipv6_at (settings_width - ipv6_at) 16 t (lit≤ tt) i);
      first = number (within first_at (settings_width - first_at) 4 t (lit≤ tt) i);
      size = number (within size_at (settings_width - size_at) 4 t (lit≤ tt) i);
      first_address = number (within first_address_at (settings_width - first_address_at) 4 t (lit≤ tt) i);
      address_count = number (within address_count_at (settings_width - address_count_at) 4 t (lit≤ tt) i);
      limit = number (within limit_at (settings_width - limit_at) 2 t (lit≤ tt) i);
      peer1 = record {
        address = number (within peer1_at (settings_width - peer1_at) 4 t (lit≤ tt) i);
        guarantee = number (within (peer1_at + 4) (settings_width - (peer1_at + 4)) 4 t (lit≤ tt) i);
        limit = number (within (peer1_at + 8) (settings_width - (peer1_at + 8)) 4 t (lit≤ tt) i);
      };
      peer2 = record {
        address = number (within peer2_at (settings_width - peer2_at) 4 t (lit≤ tt) i);
        guarantee = number (within (peer2_at + 4) (settings_width - (peer2_at + 4)) 4 t (lit≤ tt) i);
        limit = number (within (peer2_at + 8) (settings_width - (peer2_at + 8)) 4 t (lit≤ tt) i);
      };
    }

pub sessions_are : (t : List ℕ) → view_sessions t ≡ map view_session (slots_of t)
unfolding view_sessions view_area number_at
sessions_are t = refl

pub count_are : (t : List ℕ) → length (view_sessions t) ≡ session_count t
count_are t = ap length (sessions_are t) ∙ length-map (slots_of t) view_session ∙ length_slices session_width (session_count t) (drop head_width t)

-- Tests.front_tests by name
pub record FrontKept (t : List ℕ) : Type 0 where
  pub settings : T (settings_sound (part 0 settings_width t))
  pub long : length t ≡ table_length (limit_of t)
  pub few : session_count t ≤ limit_of t
  pub order : T (order_sound t)

-- from the tests to the names
pub front_kept : (t : List ℕ) → T (front_sound t) → FrontKept t
unfolding front_sound front_tests
front_kept t h =
    let e = each (front_tests t) h in
    record { settings = e.0; long = eqb→eq (length t) (table_length (limit_of t)) e.1.0; few = leb→le (session_count t) (limit_of t) e.1.1.0; order = e.1.1.1.0 }

-- and back
front_sound_lem : {t : List ℕ} → FrontKept t → T (front_sound t)
unfolding front_sound front_tests
front_sound_lem {t} k = all_of_each (front_tests t) (k.settings, (yes_eqb k.long, (yes_leb k.few, (k.order, tt))))

-- the settings' slot
module _ (t : List ℕ) where
  pub settings_from : T (settings_sound (part 0 settings_width t)) → T (settings_allowed (view_settings t)) × (settings_octets (view_settings t) ≡ part 0 settings_width t)
  unfolding settings_sound
  settings_from h = (
    subst (λ (x : Settings). T (settings_allowed x)) (settings_front t) (kept_allowed settings_allowed settings_octets view_settings (part 0 settings_width t) h),
    ap settings_octets (sym (settings_front t)) ∙ kept_same settings_allowed settings_octets view_settings (part 0 settings_width t) h,
  )

  settings_to : T (settings_allowed (view_settings t)) → settings_octets (view_settings t) ≡ part 0 settings_width t → T (settings_sound (part 0 settings_width t))
  unfolding settings_sound kept
  settings_to h e =
      both (settings_allowed (view_settings (part 0 settings_width t))) (same_octets (settings_octets (view_settings (part 0 settings_width t))) (part 0 settings_width t))
      (subst (λ (x : Settings). T (settings_allowed x)) (sym (settings_front t)) h)
      (of_true (ap (λ (l : List ℕ). same_octets l (part 0 settings_width t)) (ap settings_octets (settings_front t) ∙ e) ∙ same_refl (part 0 settings_width t)))

-- ---- slots that are sessions' that are allowed

module _ (s : Settings) where
  all_canonical : (xss : List (List ℕ)) → T (all (kept (session_allowed s) session_octets view_session) xss) → T (all canonical xss)
  unfolding all
  all_canonical [] h = tt
  all_canonical (xs ∷ xss) h =
      let k = all_head (kept (session_allowed s) session_octets view_session) xs xss h in
      all_cons canonical xs xss (of_true (ap (λ (l : List ℕ). same_octets l xs) (kept_same (session_allowed s) session_octets view_session xs k) ∙ same_refl xs))
      (all_canonical xss (all_tail (kept (session_allowed s) session_octets view_session) xs xss h))

  all_kept : (xss : List (List ℕ)) → T (all (session_allowed s) (map view_session xss)) → T (all canonical xss) → T (all (kept (session_allowed s) session_octets view_session) xss)
  unfolding all kept
  all_kept [] h g = tt
  all_kept (xs ∷ xss) h g =
      all_cons (kept (session_allowed s) session_octets view_session) xs xss
      (both (session_allowed s (view_session xs)) (canonical xs) (all_head (session_allowed s) (view_session xs) (map view_session xss) h) (all_head canonical xs xss g))
      (all_kept xss (all_tail (session_allowed s) (view_session xs) (map view_session xss) h) (all_tail canonical xs xss g))

-- ---- the octets part by part

module _ (t : List ℕ) (long : length t ≡ table_length (limit_of t)) (o : T (octets t)) where
  abbrev s : Settings
  s = view_settings t

  area_long : length (drop head_width t) ≡ s.limit * session_width
  area_long = length-drop head_width t ∙ omega arith

  parts : part 0 settings_width t ++ (part settings_width 2 t ++ drop head_width t) ≡ t
  parts =
      ap (λ (l : List ℕ). part 0 settings_width t ++ l) (ap (λ (l : List ℕ). part settings_width 2 t ++ l) (sym (drop-drop 2 settings_width t)) ∙ take-append-drop 2 (drop settings_width t))
      ∙ take-append-drop settings_width t

  count_written : be 2 (length (view_sessions t)) ≡ part settings_width 2 t
  count_written = ap (be 2) (count_are t) ∙ be_back 2 (part settings_width 2 t) (length_part settings_width 2 t (omega arith)) (part_octets settings_width 2 t o)

  -- the area of sessions
  sessions_from : T (settings_allowed s) → session_count t ≤ s.limit → T (area_sound (kept (session_allowed s) session_octets view_session) session_width key_width (session_count t) (drop head_width t))
      → T (all (session_allowed s) (map view_session (slots_of t))) × T (ascending (map session_key (map view_session (slots_of t)))) × (area session_octets session_width s.limit (map view_session (slots_of t)) ≡ drop head_width t)
  sessions_from hs few h =
      area_from (session_allowed s) session_octets view_session session_key session_width key_width (length_session s hs) key_session s.limit (session_count t) (drop head_width t) area_long few h

  sessions_to : T (settings_allowed s) → session_count t ≤ s.limit → T (all (session_allowed s) (map view_session (slots_of t))) → T (ascending (map session_key (map view_session (slots_of t))))
      → area session_octets session_width s.limit (map view_session (slots_of t)) ≡ drop head_width t → T (area_sound (kept (session_allowed s) session_octets view_session) session_width key_width (session_count t) (drop head_width t))
  sessions_to hs few h up e =
      area_to (session_allowed s) session_octets view_session session_key session_width key_width (length_session s hs) key_session s.limit (session_count t) (drop head_width t) area_long few h up e

  -- the walk
  walk_is : T (settings_allowed s) → session_count t ≤ s.limit
      → walk_sound t ≡ ((all (session_allowed s) (map view_session (slots_of t)) && all_pairs (apart s) (map view_session (slots_of t))) && all canonical (slots_of t))
  unfolding walk_sound
  walk_is hs few =
      let m = map view_session (slots_of t) in
      let keeps = slots_law s map_words (slots_of t) (pool_fits s hs) (slots_whole (session_count t) (drop head_width t) (rw area_long (omega arith)) (drop_octets head_width t o)) in
      let free = free_law s address_words (slots_of t) (addresses_fit s hs) in
      (λ i. keeps i && free i)
      ∙ regroup (all (session_allowed s) m) (all_pairs apart_teids m) (all canonical (slots_of t)) (all_pairs (apart_addresses s) m)
      ∙ (λ i. (all (session_allowed s) m && sym (apart_both s m) i) && all canonical (slots_of t))
    where
      regroup : (a b c d : Bool) → (((a && b) && c) && d) ≡ ((a && (b && d)) && c)
      regroup true true true d = sym (and-true d)
      regroup true true false d = sym (and-false d)
      regroup true false c d = refl
      regroup false b c d = refl

  encoded_is : encode s (view_sessions t) ≡ settings_octets s ++ (part settings_width 2 t ++ area session_octets session_width s.limit (map view_session (slots_of t)))
  unfolding encode
  encoded_is = λ i. settings_octets s ++ (count_written i ++ area session_octets session_width s.limit (sessions_are t i))

  -- ---- both ways

  sound_from_lem : T (front_sound t) → T (walk_sound t) → T (peers_sound t) → T (sound t)
  unfolding order_sound area_sound peers_sound
  sound_from_lem h w pk =
      let f = front_kept t h in
      let st = settings_from t f.settings in
      let few : session_count t ≤ s.limit = f.few in
      let wk = subst T (walk_is st.0 few) w in
      let allowed-apart = and_left (all (session_allowed s) (map view_session (slots_of t)) && all_pairs (apart s) (map view_session (slots_of t))) (all canonical (slots_of t)) wk in
      let canon = and_right (all (session_allowed s) (map view_session (slots_of t)) && all_pairs (apart s) (map view_session (slots_of t))) (all canonical (slots_of t)) wk in
      let allowed = and_left (all (session_allowed s) (map view_session (slots_of t))) (all_pairs (apart s) (map view_session (slots_of t))) allowed-apart in
      let apart' = and_right (all (session_allowed s) (map view_session (slots_of t))) (all_pairs (apart s) (map view_session (slots_of t))) allowed-apart in
      let k = kept (session_allowed s) session_octets view_session in
      let ar = sessions_from st.0 few (both (all k (slots_of t)) (ascending (map (key_of key_width) (slots_of t)) && all_zero (drop (session_count t * session_width) (drop head_width t))) (all_kept s (slots_of t) allowed canon) f.order) in
      let whole : encode s (view_sessions t) ≡ t = encoded_is ∙ (λ i. st.1 i ++ (part settings_width 2 t ++ ar.2 i)) ∙ parts in
      table_sound (record {
        whole = long;
        settings = st.0;
        sessions = subst (λ (m : List Session). T (sessions_allowed s m)) (sym (sessions_are t))
            (sessions_allowed_lem (record { peers = subst (λ (m : List Session). T (all_of (peers_kept s m))) (sessions_are t) pk; order = ar.1; sessions = ar.0; separate = apart' }));
        encoded = whole;
      })

  sound_to : T (sound t) → T (front_sound t) × T (walk_sound t) × T (peers_sound t)
  unfolding order_sound area_sound peers_sound
  sound_to h =
      let f = table_kept t h in
      let hs = f.settings in
      let g = sessions_kept s (view_sessions t) f.sessions in
      let same = f.encoded in
      let few : session_count t ≤ s.limit = le_trans (le_of_eq (sym (count_are t))) (all_sessions s (view_sessions t) f.sessions) in
      let m = map view_session (slots_of t) in
      let up : T (ascending (map session_key m)) = subst (λ (x : List Session). T (ascending (map session_key x))) (sessions_are t) g.order in
      let allowed : T (all (session_allowed s) m) = subst (λ (x : List Session). T (all (session_allowed s) x)) (sessions_are t) g.sessions in
      let apart' : T (all_pairs (apart s) m) = subst (λ (x : List Session). T (all_pairs (apart s) x)) (sessions_are t) g.separate in
      let rest : List ℕ = part settings_width 2 t ++ area session_octets session_width s.limit m in
      let eq : settings_octets s ++ rest ≡ t = sym encoded_is ∙ same in
      let se : settings_octets s ≡ part 0 settings_width t = sym (take_at (settings_octets s) rest settings_width (length_settings s hs)) ∙ ap (take settings_width) eq in
      let after : rest ≡ drop settings_width t = sym (drop_at (settings_octets s) rest settings_width (length_settings s hs)) ∙ ap (drop settings_width) eq in
      let ae : area session_octets session_width s.limit m ≡ drop head_width t = sym (drop_at (part settings_width 2 t) (area session_octets session_width s.limit m) 2 (length_part settings_width 2 t (omega arith))) ∙ ap (drop 2) after ∙ drop-drop 2 settings_width t in
      let k = kept (session_allowed s) session_octets view_session in
      let ar = sessions_to hs few allowed up ae in
      let kepts = and_left (all k (slots_of t)) (ascending (map (key_of key_width) (slots_of t)) && all_zero (drop (session_count t * session_width) (drop head_width t))) ar in
      let order = and_right (all k (slots_of t)) (ascending (map (key_of key_width) (slots_of t)) && all_zero (drop (session_count t * session_width) (drop head_width t))) ar in (
        front_sound_lem (record { settings = settings_to t hs se; long = long; few = few; order = order }),
        subst T (sym (walk_is hs few)) (both (all (session_allowed s) m && all_pairs (apart s) m) (all canonical (slots_of t)) (both (all (session_allowed s) m) (all_pairs (apart s) m) allowed apart') (all_canonical s (slots_of t) kepts)),
        g.peers,
      )

-- ---- for any octets

long_of : (t : List ℕ) → T (front_sound t) → length t ≡ table_length (limit_of t)
long_of t h = (front_kept t h).long

long_sound : (t : List ℕ) → T (sound t) → length t ≡ table_length (limit_of t)
long_sound t h = (table_kept t h).whole

-- the tests on the octets say just that the table is not broken
pub sound_law : (t : List ℕ) → T (octets t) → sound t ≡ (front_sound t && (walk_sound t && peers_sound t))
sound_law t o =
    both_ways (sound t) (front_sound t && (walk_sound t && peers_sound t))
    (λ h. let r = sound_to t (long_sound t h) o h in both (front_sound t) (walk_sound t && peers_sound t) r.0 (both (walk_sound t) (peers_sound t) r.1 r.2))
    (λ h.
    let a = and_left (front_sound t) (walk_sound t && peers_sound t) h in
    let b = and_right (front_sound t) (walk_sound t && peers_sound t) h in
    sound_from_lem t (long_of t a) o a (and_left (walk_sound t) (peers_sound t) b) (and_right (walk_sound t) (peers_sound t) b))

-- what the walk says of the sessions, once the front is sound
pub walk_says : (t : List ℕ) → T (octets t) → T (front_sound t) → T (walk_sound t)
    → T (settings_allowed (view_settings t)) × T (all (session_allowed (view_settings t)) (view_sessions t)) × T (all_pairs (apart (view_settings t)) (view_sessions t))
walk_says t o h w =
    let f = front_kept t h in
    let st = settings_from t f.settings in
    let x = view_settings t in
    let m = map view_session (slots_of t) in
    let few : session_count t ≤ x.limit = f.few in
    let both' = and_left (all (session_allowed x) m && all_pairs (apart x) m) (all canonical (slots_of t)) (subst T (walk_is t (long_of t h) o st.0 few) w) in (
      st.0,
      subst (λ (y : List Session). T (all (session_allowed x) y)) (sym (sessions_are t)) (and_left (all (session_allowed x) m) (all_pairs (apart x) m) both'),
      subst (λ (y : List Session). T (all_pairs (apart x) y)) (sym (sessions_are t)) (and_right (all (session_allowed x) m) (all_pairs (apart x) m) both'),
    )
