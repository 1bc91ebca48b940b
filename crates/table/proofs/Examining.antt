-- The answers of the calls that examine a table, return by return: premises are what the code knows there.
-- Assumes nothing.
use mathlib.Core.Path.{◌≡◌, refl, sym, ap, subst, transport, ◌∙◌}
use Prim.Native.Nat.{ℕ, ◌+◌, ◌-◌, ◌*◌, ◌^◌, ◌≤◌, ◌<◌}
use native.Mathlib.Omega.{arith}
use mathlib.Core.Bool.{Bool, true, false, not, ◌&&◌}
use mathlib.Core.List.{List, [], ◌∷◌, map}
use borrow.Author.Tests.{ne_eqb, not-true, not-false}
use lib.ListN.{length, drop, replicate, length-drop}
use lib.Seq.{take_all}
use lib.Dec.{T, eqb, leb, ltb, lt→ltb}
use Rattle.octets.specs.Choice.{pick}
use Rattle.octets.specs.Octets.{part, number, slices, all_zero, octets}
use Rattle.octets.specs.Lists.{all, all_pairs, ascending, distinct}
use Rattle.octets.proofs.Tests.{of_true, all_head, all_tail, all_cons}
use Rattle.rules.specs.Limits.{max_sessions, max_pool, max_addresses, map_words, address_words}
use Rattle.rules.specs.Model.{Settings, Session, Sessions, held_teids, free_count, held_addresses, free_address_count, is_peer, other_peer, peer_of, half, of_peer, holdings, unused}
use Rattle.rules.specs.Layout.{head_width, key_width, session_width, table_length, view_settings, view_sessions, settings_width}
use Rattle.rules.specs.Sound.{settings_allowed, apart, in_pool, peers_kept, few_sessions, few_teids, due, sound_tests, sound, free, count_free, count_addresses}
use Rattle.laws.proofs.KeptRules.{SessionsKept, sessions_kept, TableKept, table_kept}
use Rattle.laws.proofs.KeptSettings.{settings_kept}
use Rattle.laws.proofs.TableLaws.{limit_most}
use Rattle.laws.proofs.PeerLaws.{known_peers, count_peers}
use Rattle.invariants.proofs.Totals.{both_hold}
use Rattle.pool.specs.Map.{marks, new_marks, offsets}
use Rattle.pool.proofs.TakenLaws.{pool_fits, pool_from, pool_below, map_is}
use Rattle.pool.proofs.AddressLaws.{as_pool, held_pooled, address_map_is, address_marks_distinct}
use Rattle.octets.proofs.Counting.{free_distinct}
use Rattle.marking.proofs.MapWalk.{all_in_pool}
use Rattle.areas.specs.Records.{key_of}
use Rattle.unit.specs.declared.Settings.{Settings as Unit}
use Rattle.unit.specs.Meaning.{settings_of}
use Rattle.unit.proofs.FieldLaws.{size_is, addresses_is, limit_is}
use Rattle.records.specs.Kept.{settings_sound}
use Rattle.std.specs.Prelude.{Result, Ok}
use Rattle.marking.specs.declared.Broken.{Broken}
use Rattle.marking.specs.declared.Tally.{Tally}
use Rattle.marking.specs.Refusal.{refusal}
use Rattle.marking.specs.Marking.{teids_in, addresses_in, new_by, slots_by, AllAdmitted}
use Rattle.table.specs.Tests.{limit_of, session_count, slots_of, order_sound, front_tests, front_sound, walk_sound, peers_sound, sessions_fit, teids_fit}
use Rattle.table.specs.Answers.{Examined, counted, examined, count_told}
use Rattle.table.proofs.SoundLaws.{settings_front, settings_from, sessions_are, count_are, sound_law, walk_says, front_kept}
use Rattle.table.proofs.Walks.{teids_are, addresses_are, by_peer, slots_by_lem}
use Rattle.octets.proofs.Bools.{and-true, and-false}
use Rattle.octets.proofs.Tests.{is_true}

-- ---- the front

module _ (t : List ℕ) where
  -- the slots' area as the code lends it
  area_is : part head_width (length t - head_width) t ≡ drop head_width t
  area_is = take_all (length t - head_width) (drop head_width t) (rw length-drop (omega arith))

  -- u has the settings that are read from it
  module _ (u : Unit) (is : settings_of u ≡ view_settings t) where
    pub slot_settings : settings_of u ≡ view_settings (part 0 settings_width t)
    slot_settings = is ∙ sym (settings_front t)

    room : u.limit ≡ limit_of t
    room = limit_is u (view_settings t) is

    pub front_room : settings_sound (part 0 settings_width t) ≡ true → u.limit ≤ max_sessions
    front_room e = omega (arith, room, limit_most (view_settings t) (settings_from t (of_true e)).0)

    pub front_is : (n : ℕ) → n ≡ number (part settings_width 2 t)
        → front_sound t
        ≡ (settings_sound (part 0 settings_width t)
        && (eqb (length t) (table_length u.limit)
        && (leb n u.limit && (ascending (map (key_of key_width) (slices session_width n (part head_width (length t - head_width) t))) && all_zero (drop (n * session_width) (part head_width (length t - head_width) t))))))
    unfolding front_sound front_tests order_sound
    front_is n e =
        rw (room, e, area_is)
        (ap (λ (b : Bool). settings_sound (part 0 settings_width t) && (eqb (length t) (table_length (limit_of t)) && (leb (session_count t) (limit_of t) && b))) (and-true (ascending (map (key_of key_width) (slots_of t)) && all_zero (drop (session_count t * session_width) (drop head_width t)))))

-- ---- what is known once the front is sound

pub record Front (t : List ℕ) (u : Unit) : Type 0 where
  pub long : length t ≡ table_length (limit_of t)
  pub room : limit_of t ≤ max_sessions
  pub few : number (part settings_width 2 t) ≤ limit_of t
  pub pool : u.first + u.size ≤ 2 ^ 32
  pub size : u.size ≤ max_pool
  pub count : u.addresses ≤ max_addresses
  pub last : u.first_address + u.addresses ≤ 2 ^ 32

pub front_facts : (t : List ℕ) (u : Unit) → settings_of u ≡ view_settings t → (f : Bool) → f ≡ front_sound t → not f ≡ false → Front t u
unfolding settings_of
front_facts t u is f q h =
    let e = front_kept t (of_true (sym q ∙ not-false f h)) in
    let hs = (settings_from t e.settings).0 in
    let k = settings_kept (settings_of u) (subst (λ (x : Settings). T (settings_allowed x)) (sym is) hs) in
    record {
      long = e.long;
      room = limit_most (view_settings t) hs;
      few = e.few;
      pool = k.pool.last;
      size = k.pool.few;
      count = k.addresses.few;
      last = k.addresses.last;
    }

-- ---- examining

held_holds : (b : Bool) (x c : Tally) → pick b (Ok x) refusal ≡ Ok c → T b × (c ≡ x)
held_holds true x c e = (tt, (cc))
held_holds false x c e = absurd (let z : ◌≡◌ {A = ℕ} 0 1 = cc in omega arith)

refused : (b : Bool) (x : Tally) → pick b (Ok x) refusal ≡ refusal → b ≡ false
refused true x e = absurd (let z : ◌≡◌ {A = ℕ} 0 1 = cc in omega arith)
refused false x e = refl

regroup : (a b c d e : Bool) → ((a && b) && (c && (d && e))) ≡ (a && (b && (c && (d && (e && true)))))
regroup true true true true e = sym (and-true e)
regroup true true true false e = refl
regroup true true false d e = refl
regroup true false c d e = refl
regroup false b c d e = refl

-- different numbers of a pool are not more than the pool has
held_few : (s : Settings) (held : List ℕ) → T (all (in_pool s) held) → distinct held ≤ s.size
held_few s held h = omega (arith, free_distinct s.first s.size held (below held h) (from held h))
  where
    below : (ts : List ℕ) → T (all (in_pool s) ts) → T (all (λ t. ltb t (s.first + s.size)) ts)
    below [] g = unfold all in tt
    below (x ∷ ts) g = all_cons (λ t. ltb t (s.first + s.size)) x ts (lt→ltb x (s.first + s.size) (pool_below s x (all_head (in_pool s) x ts g))) (below ts (all_tail (in_pool s) x ts g))

    from : (ts : List ℕ) → T (all (in_pool s) ts) → T (all (λ t. ltb s.first (t + 1)) ts)
    from [] g = unfold all in tt
    from (x ∷ ts) g =
        let l = pool_from s x (all_head (in_pool s) x ts g) in
        all_cons (λ t. ltb s.first (t + 1)) x ts (lt→ltb s.first (x + 1) (omega arith)) (from ts (all_tail (in_pool s) x ts g))

broken : (t w v : List ℕ) → sound t ≡ false → Examined t refusal w v
broken t w v e =
    record {
      answer = sym (ap (λ (b : Bool). pick b (Ok (counted t)) refusal) e);
      words = λ c e. absurd (let z : ◌≡◌ {A = ℕ} 0 1 = cc in omega arith);
      addresses = λ c e. absurd (let z : ◌≡◌ {A = ℕ} 0 1 = cc in omega arith);
    }

-- a table that is shorter than its head
pub examined_short : (t w v : List ℕ) → length t < head_width → Examined t refusal w v
examined_short t w v h = broken t w v short
  where
    short : sound t ≡ false
    short = unfold sound sound_tests in rw (ne_eqb (length t) (table_length (limit_of t)) (λ e. omega arith))

-- what the walk tells is the sessions', where it is not refused
pub record Told (t : List ℕ) (c : Tally) : Type 0 where
  pub walk : T (walk_sound t)
  pub same : c ≡ counted t
  pub all : number (part settings_width 2 t) ≡ length (of_peer 1 (view_sessions t)) + length (of_peer 2 (view_sessions t))

module _ (t : List ℕ) (o : T (octets t)) (f : Bool) (q : f ≡ front_sound t) where
  abbrev st : Settings
  st = view_settings t

  abbrev zs : List ℕ
  zs = replicate map_words 0

  abbrev as₀ : List ℕ
  as₀ = replicate address_words 0

  pub examined_broken : (w v : List ℕ) → not f ≡ true → Examined t refusal w v
  examined_broken w v h = broken t w v (sound_law t o ∙ ap (λ (b : Bool). b && (walk_sound t && peers_sound t)) (sym q ∙ not-true f h))

  teids_held : teids_in st (slots_of t) ≡ offsets st.first (held_teids (view_sessions t))
  teids_held = teids_are st (slots_of t) ∙ ap (λ (m : List Session). offsets st.first (held_teids m)) (sym (sessions_are t))

  addresses_held : addresses_in st (slots_of t) ≡ offsets st.first_address (held_addresses st (view_sessions t))
  addresses_held =
      addresses_are st (slots_of t)
      ∙ ap (λ (m : List Session). offsets st.first_address (held_addresses st m)) (sym (sessions_are t))

  module _ (h : not f ≡ false) where
    front_holds : T (front_sound t)
    front_holds = of_true (sym q ∙ not-false f h)

    sound_is : sound t ≡ (walk_sound t && peers_sound t)
    sound_is = sound_law t o ∙ ap (λ (b : Bool). b && (walk_sound t && peers_sound t)) (sym q ∙ not-false f h)

    held_pool : T (walk_sound t) → T (all (in_pool st) (held_teids (view_sessions t)))
    held_pool w = all_in_pool st (view_sessions t) (walk_says t o front_holds w).1

    by_peer_is : T (walk_sound t) → (who : ℕ) → new_by st who zs (slots_of t) ≡ holdings who (view_sessions t)
    by_peer_is w who =
        let says = walk_says t o front_holds w in
        by_peer st map_words (pool_fits st says.0) who (slots_of t)
        (subst (λ (m : Sessions). T (all (in_pool st) (held_teids m))) (sessions_are t) (held_pool w))
        (subst (λ (m : Sessions). T (all_pairs (apart st) m)) (sessions_are t) says.2)
        ∙ ap (holdings who) (sym (sessions_are t))

    module _ (u : Unit) (is : settings_of u ≡ st) (n : ℕ) (ws as' : List ℕ) (r : Result Tally Broken) (w v : List ℕ) (en : n ≡ number (part settings_width 2 t)) (ew : ws ≡ zs) (ev : as' ≡ as₀)
        (x : AllAdmitted (settings_of u) ws as' (slices session_width n (part head_width (length t - head_width) t)) r w v) where
      admitted : AllAdmitted st zs as₀ (slots_of t) r w v
      admitted = transport (λ i. AllAdmitted (is i) (ew i) (ev i) (slices session_width (en i) (area_is t i)) r w v) x

      answered : r ≡ pick (walk_sound t) (Ok (record { one = new_by st 1 zs (slots_of t); two = new_by st 2 zs (slots_of t); first = slots_by 1 (slots_of t); taken = new_marks as₀ (addresses_in st (slots_of t)) })) refusal
      unfolding walk_sound
      answered = admitted.answer

      pub walk_broken : r ≡ refusal → Examined t refusal w v
      walk_broken e = broken t w v (sound_is ∙ ap (λ (b : Bool). b && peers_sound t) (refused (walk_sound t) _ (sym answered ∙ e)))

      module _ (c : Tally) (e : r ≡ Ok c) where
        pub walk_told : Told t c
        walk_told =
            let held = held_holds (walk_sound t) _ c (sym answered ∙ e) in
            let says = walk_says t o front_holds held.0 in
            record {
              walk = held.0;
              same =
                  held.1
                  ∙ (λ i. record {
                    one = by_peer_is held.0 1 i;
                    two = by_peer_is held.0 2 i;
                    first = (slots_by_lem 1 (slots_of t) ∙ ap (λ (m : Sessions). length (of_peer 1 m)) (sym (sessions_are t))) i;
                    taken = (ap (new_marks as₀) addresses_held ∙ address_marks_distinct st (view_sessions t) says.0) i;
                  });
              all = sym (count_are t) ∙ count_peers (view_sessions t) (known_peers st (view_sessions t) says.1);
            }

        first_is : c.first ≡ length (of_peer 1 (view_sessions t))
        first_is = ap (λ (x : Tally). x.first) walk_told.same

        pub walk_first : c.first ≤ n
        walk_first = omega (arith, en, first_is, walk_told.all)

        module _ (b : Bool) (eb : b ≡ (sessions_fit (settings_of u) c.first (n - c.first) && teids_fit (settings_of u) c.one c.two)) where
          peers_are : b ≡ peers_sound t
          unfolding peers_sound peers_kept few_sessions few_teids due unused sessions_fit teids_fit
          peers_are =
              let told = walk_told in
              let m = view_sessions t in
              let second : n - c.first ≡ length (of_peer 2 m) = omega (arith, en, first_is, told.all) in
              eb
              ∙ (λ i. sessions_fit (is i) (told.same i).first (second i) && teids_fit (is i) (told.same i).one (told.same i).two)
              ∙ regroup (leb (length (of_peer 1 m)) (half st)) (leb (length (of_peer 2 m)) (half st)) (leb (holdings 1 m) (peer_of st 1).limit) (leb (holdings 2 m) (peer_of st 2).limit) (leb (due st 1 m + due st 2 m) st.size)

          pub peers_broken : not b ≡ true → Examined t refusal w v
          peers_broken g = broken t w v (sound_is ∙ ap (λ (c : Bool). walk_sound t && c) (sym peers_are ∙ not-true b g) ∙ and-false (walk_sound t))

          pub examined_walk : not b ≡ false → Examined t (Ok c) w v
          examined_walk g =
              let told = walk_told in
              let says = walk_says t o front_holds told.walk in
              let yes : sound t ≡ true = sound_is ∙ (λ i. is_true (walk_sound t) told.walk i && (sym peers_are ∙ not-false b g) i) in
              record {
                answer = (λ i. Ok (told.same i)) ∙ sym (ap (λ (c : Bool). pick c (Ok (counted t)) refusal) yes);
                words = λ d z. admitted.words c e ∙ ap (marks zs) teids_held ∙ map_is st (view_sessions t) says.0 (held_pool told.walk);
                addresses = λ d z. admitted.addresses c e ∙ ap (marks as₀) addresses_held ∙ address_map_is st (view_sessions t) says.0;
              }

-- ---- from what is counted to the answers

module _ (t : List ℕ) (r : Result Tally Broken) (x : r ≡ examined t) where
  examined_no : r ≡ refusal → sound t ≡ false
  examined_no e = refused (sound t) _ (sym x ∙ e)

  pub sound_no : r ≡ refusal → false ≡ sound t
  sound_no e = sym (examined_no e)

  pub count_broken : r ≡ refusal → count_told refusal ≡ count_free t
  unfolding count_free
  count_broken e = sym (rw (examined_no e))

  pub addresses_broken : r ≡ refusal → count_told refusal ≡ count_addresses t
  unfolding count_addresses
  addresses_broken e = sym (rw (examined_no e))

  module _ (c : Tally) (e : r ≡ Ok c) where
    examined_yes : T (sound t)
    examined_yes = (held_holds (sound t) (counted t) c (sym x ∙ e)).0

    pub sound_yes : true ≡ sound t
    sound_yes = sym (is_true (sound t) examined_yes)

    pub numbers : c ≡ counted t
    numbers = (held_holds (sound t) (counted t) c (sym x ∙ e)).1

    kept : TableKept t
    kept = table_kept t examined_yes

    sessions : SessionsKept (view_settings t) (view_sessions t)
    sessions = sessions_kept (view_settings t) (view_sessions t) kept.sessions

    -- where the settings are read
    pub count_long : length t ≡ table_length (limit_of t)
    count_long = kept.whole

    -- the two hold all that is held
    held_both : c.one + c.two ≡ distinct (held_teids (view_sessions t))
    unfolding other_peer
    held_both =
        let b = both_hold (view_settings t) 1 (unfold is_peer in tt) (view_sessions t) (known_peers (view_settings t) (view_sessions t) sessions.sessions) sessions.separate in
        omega (arith, ap (λ (y : Tally). y.one) numbers, ap (λ (y : Tally). y.two) numbers)

    pub held_less : c.one + c.two ≤ (view_settings t).size
    held_less = omega (arith, held_both, held_few (view_settings t) (held_teids (view_sessions t)) (all_in_pool (view_settings t) (view_sessions t) sessions.sessions))

    pub count_add : c.one + c.two < 2 ^ 64
    count_add = omega (arith, held_less, pool_fits (view_settings t) kept.settings)

    module _ (s : Unit) (is : settings_of s ≡ view_settings t) where
      pub count_less : c.one + c.two ≤ s.size
      count_less = omega (arith, held_less, size_is s (view_settings t) is)

      pub addresses_less : c.taken ≤ s.addresses
      addresses_less = omega (arith, ap (λ (y : Tally). y.taken) numbers, held_few (as_pool (view_settings t)) (held_addresses (view_settings t) (view_sessions t)) (held_pooled (view_settings t) (view_sessions t)), addresses_is s (view_settings t) is)

      pub count_free_lem : count_told (Ok (s.size - (c.one + c.two))) ≡ count_free t
      unfolding count_free free_count
      count_free_lem = (λ i. free (size_is s (view_settings t) is i - held_both i)) ∙ sym (rw (sym sound_yes))

      pub addresses_free_lem : count_told (Ok (s.addresses - c.taken)) ≡ count_addresses t
      unfolding count_addresses free_address_count
      addresses_free_lem = (λ i. free (addresses_is s (view_settings t) is i - (numbers i).taken)) ∙ sym (rw (sym sound_yes))
