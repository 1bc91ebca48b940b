-- The sessions that go, one after the other. Assumes nothing.
use Rattle.std.specs.Prelude.{Ok}
use mathlib.Core.Path.{◌≡◌, refl, sym, ap, ap₂, ◌∙◌, subst}
use Prim.Native.Nat.{ℕ, zero, suc, ◌+◌, ◌-◌, ◌*◌, ◌≤◌, ◌<◌}
use native.Mathlib.Nat.{le_refl}
use native.Mathlib.Omega.{arith}
use mathlib.Core.Bool.{Bool, true, false, not, ◌&&◌, ◌||◌}
use mathlib.Core.List.{List, [], ◌∷◌, ◌++◌, map}
use lib.ListN.{length, take, drop, get_or}
use lib.Dec.{T, leb→le}
use borrow.Author.Tests.{eq-eqb, ne_eqb, le-leb, lt-leb}
use Rattle.octets.specs.Choice.{pick}
use Rattle.octets.specs.Octets.{octet_at, be, part, number}
use Rattle.octets.specs.Lists.{keep, any, all, ascending}
use Rattle.octets.proofs.Tests.{all_head, all_tail, ascending_head, ascending_tail}
use Rattle.rules.specs.Limits.{node_types}
use Rattle.rules.specs.Model.{Settings, Session, Sessions, session_key, has_peer}
use Rattle.rules.specs.Layout.{csid_count_at, session_octets, view_session, view_settings, view_sessions, encode, head_width, session_width, table_length, settings_width, limit_at}
use Rattle.rules.specs.Sound.{settings_allowed, session_allowed, sessions_allowed}
use Rattle.rules.specs.Sound as rules
use Rattle.rules.specs.Elements.{Fqcsid}
use Rattle.rules.specs.Message.{elements, list_place}
use Rattle.rules.specs.Reading.{done, list_read}
use Rattle.rules.specs.Stages.{has_key, new_session}
use Rattle.rules.specs.Apply.{covers_session, goes_session, stays_session, other_session, remove_session}
use Rattle.laws.proofs.LayoutLaws.{session_back, limit_read}
use Rattle.laws.proofs.TableLaws.{sessions_back, encoded_settings, sound_encode}
use Rattle.laws.proofs.PeerLaws.{all_sessions}
use Rattle.laws.proofs.KeptRules.{session_kept, sessions_kept, table_kept}
use Rattle.invariants.proofs.After.{keep_allowed, remove_allowed}
use Rattle.areas.specs.Records.{lookup_from, lookup}
use Rattle.areas.proofs.Places.{remove_at, remove_found}
use Rattle.areas.specs.Counted.{count_in, place_in, removed_in, area_in}
use Rattle.session.specs.Areas.{table_area}
use Rattle.session.proofs.Saved.{sessions_counted_lem, session_at_lem, session_place_lem, session_taken}
use Rattle.frame.proofs.Front.{Front, behind}
use Rattle.sets.specs.Listed.{blank, gotten, listed_in, lists_in, Sized, slot_at, goes_by, after_one, Sound}
use Rattle.sets.proofs.ListLaws.{rest_fine, listed_sized, lists_more}
use Rattle.octets.proofs.Put.{length_part, get_d_part}
use Rattle.octets.proofs.Bools.{and-false}
use Rattle.session.proofs.Steps.{part_part}

-- ---- a table that encodes sessions

pub record Encodes (s : Settings) (m : Sessions) (t : List ℕ) : Type 0 where
  pub settings : T (settings_allowed s)
  pub sessions : T (sessions_allowed s m)
  pub octets : t ≡ encode s m

pub sound_encodes : {t : List ℕ} → Sound t → Encodes (view_settings t) (view_sessions t) t
sound_encodes {t} h = let k = table_kept t h.sound in record { settings = k.settings; sessions = k.sessions; octets = sym k.encoded }

module _ {s : Settings} {m : Sessions} {t : List ℕ} (h : Encodes s m t) where
  pub encodes_sound : Sound t
  encodes_sound =
      let k : T (rules.sound t) = subst (λ (l : List ℕ). T (rules.sound l)) (sym h.octets) (sound_encode s h.settings m h.sessions) in
      record { sound = k; long = (table_kept t k).whole }

  pub settings_are : view_settings t ≡ s
  settings_are = ap view_settings h.octets ∙ encoded_settings s h.settings m h.sessions

  pub sessions_are : view_sessions t ≡ m
  sessions_are = ap view_sessions h.octets ∙ sessions_back s h.settings m h.sessions

  -- as long as the session limit says
  pub encodes_long : length t ≡ table_length s.limit
  encodes_long = encodes_sound.long ∙ ap (λ (x : Settings). table_length x.limit) settings_are

-- ---- places

-- in ascending keys a key stands at its own place
above : (k : ℕ) (ks : List ℕ) (p : ℕ) → T (ascending (k ∷ ks)) → p < length ks → k < get_or ks p 0
above k [] p up l = absurd (omega arith)
above k (y ∷ ys) zero up l = ascending_head k y ys up
above k (y ∷ ys) (suc p) up l = let a = ascending_head k y ys up in let b = above y ys p (ascending_tail k (y ∷ ys) up) (omega arith) in omega arith

own_place : (i : ℕ) (ks : List ℕ) (p : ℕ) → T (ascending ks) → p < length ks → lookup_from i (get_or ks p 0) ks ≡ Ok (i + p)
unfolding lookup_from
own_place i [] p up l = absurd (omega arith)
own_place i (k ∷ ks) zero up l = let e : i ≡ i + 0 = omega arith in rw (le-leb k k (le_refl k), eq-eqb k k refl) (ap (λ (n : ℕ). Ok n) e)
own_place i (k ∷ ks) (suc p) up l =
    let e : suc i + p ≡ i + suc p = omega arith in
    rw (lt-leb (get_or ks p 0) k (above k ks p up (omega arith))) (own_place (suc i) ks p (ascending_tail k ks up) (omega arith) ∙ ap (λ (n : ℕ). Ok n) e)

keys_at : (m : Sessions) (p : ℕ) (d : Session) → p < length m → get_or (map session_key m) p 0 ≡ session_key (get_or m p d)
keys_at [] p d l = absurd (omega arith)
keys_at (x ∷ m) zero d l = refl
keys_at (x ∷ m) (suc p) d l = keys_at m p d (omega arith)

map_long_lem : (m : Sessions) → length (map session_key m) ≡ length m
map_long_lem [] = refl
map_long_lem (x ∷ m) = ap suc (map_long_lem m)

-- so the key of the session at a place is found there, and taking it out by its key takes out the one at the place
own_found : (m : Sessions) (p : ℕ) (d : Session) → T (ascending (map session_key m)) → p < length m → lookup (session_key (get_or m p d)) (map session_key m) ≡ Ok p
own_found m p d up l =
    ap (λ (k : ℕ). lookup_from 0 k (map session_key m)) (sym (keys_at m p d l)) ∙ own_place 0 (map session_key m) p up (let e = map_long_lem m in omega arith) ∙ ap (λ (k : ℕ). Ok k) (let z : 0 + p ≡ p = omega arith in z)

remove_place : (m : Sessions) (p : ℕ) (d : Session) → T (ascending (map session_key m)) → p < length m → remove_session (session_key (get_or m p d)) m ≡ remove_at p m
unfolding remove_session other_session has_key
remove_place m p d up l = sym (remove_found session_key (session_key (get_or m p d)) p m up (own_found m p d up l))

-- ---- one place

known : (s : Settings) (m : Sessions) (p : ℕ) (d : Session) → T (all (session_allowed s) m) → p < length m → T (session_allowed s (get_or m p d))
known s [] p d h l = absurd (omega arith)
known s (x ∷ m) zero d h l = all_head (session_allowed s) x m h
known s (x ∷ m) (suc p) d h l = known s m p d (all_tail (session_allowed s) x m h) (omega arith)

csids_counted : (x : Session) → octet_at (session_octets x) csid_count_at ≡ length x.csids
unfolding octet_at session_octets be
csids_counted x = refl

module _ {s : Settings} {m : Sessions} {t : List ℕ} (h : Encodes s m t) (p : ℕ) (less : p < length m) where
  -- the session there
  abbrev x : Session
  x = get_or m p (new_session 0 0)

  allowed : T (session_allowed s x)
  allowed = known s m p (new_session 0 0) (sessions_kept s m h.sessions).sessions less

  slot_is : slot_at s.limit p t ≡ session_octets x
  unfolding slot_at
  slot_is = rw h.octets (session_at_lem s h.settings m h.sessions p (new_session 0 0) less)

  pub slot_few : octet_at (slot_at s.limit p t) csid_count_at ≤ node_types
  slot_few = rw (slot_is, csids_counted x) (leb→le (length x.csids) node_types (session_kept s x allowed).records.few_csids)

  -- as many are counted as stand there
  pub place_counted : p < count_in (table_area s.limit) t
  place_counted = rw (h.octets, sessions_counted_lem s h.settings m h.sessions) less

  pub count_within : count_in (table_area s.limit) t ≤ s.limit
  count_within = rw (h.octets, sessions_counted_lem s h.settings m h.sessions) (all_sessions s m h.sessions)

  -- with it, or without
  pub one_after : (who : ℕ) (l : Fqcsid) → Encodes s (pick (goes_by who l x) (remove_at p m) m) (after_one s.limit p who l t)
  unfolding after_one
  one_after who l =
      subst (λ (y : Session). Encodes s (pick (goes_by who l x) (remove_at p m) m) (pick (goes_by who l y) (removed_in (table_area s.limit) p t) t)) (sym (ap view_session slot_is ∙ session_back s h.settings x allowed))
      (go (goes_by who l x))
    where
      up : T (ascending (map session_key m))
      up = (sessions_kept s m h.sessions).order

      gone : remove_session (session_key x) m ≡ remove_at p m
      gone = remove_place m p (new_session 0 0) up less

      there : place_in (table_area s.limit) (session_key x) (encode s m) ≡ Ok p
      there = session_place_lem s h.settings m h.sessions (session_key x) ∙ own_found m p (new_session 0 0) up less

      go : (b : Bool) → Encodes s (pick b (remove_at p m) m) (pick b (removed_in (table_area s.limit) p t) t)
      go true =
          record {
            settings = h.settings;
            sessions = subst (λ (l : Sessions). T (sessions_allowed s l)) gone (remove_allowed s (session_key x) m h.sessions);
            octets = ap (removed_in (table_area s.limit) p) h.octets ∙ session_taken s h.settings m h.sessions (session_key x) p there ∙ ap (encode s) gone;
          }
      go false = h

-- ---- one place of any table

module _ (room p : ℕ) (t : List ℕ) (long : length t ≡ table_length room) (less : p < room) where
  part_is : part (head_width + p * session_width) session_width t ≡ slot_at room p t
  unfolding slot_at area_in
  part_is = sym (part_part head_width (room * session_width) (p * session_width) session_width t (omega arith))

  abbrev slice : List ℕ
  slice = take (head_width + p * session_width + session_width - (head_width + p * session_width)) (drop (head_width + p * session_width) t)

  slice_is : slice ≡ slot_at room p t
  slice_is = let e : head_width + p * session_width + session_width - (head_width + p * session_width) ≡ session_width = omega arith in rw e part_is

  pub slot_long_lem : length (take (head_width + p * session_width + session_width - (head_width + p * session_width)) (drop (head_width + p * session_width) t)) ≡ session_width
  slot_long_lem = rw (slice_is, ← part_is) (length_part (head_width + p * session_width) session_width t (omega arith))

  pub slot_count : octet_at (slot_at room p t) csid_count_at ≤ node_types → octet_at (take (head_width + p * session_width + session_width - (head_width + p * session_width)) (drop (head_width + p * session_width) t)) csid_count_at ≤ node_types
  slot_count h = rw slice_is h

  -- whose it is
  slot_peer : (view_session (slot_at room p t)).peer ≡ get_or t (head_width + p * session_width) 0
  unfolding view_session octet_at
  slot_peer =
      let at : head_width + p * session_width + 0 ≡ head_width + p * session_width = omega arith in
      ap (λ (y : List ℕ). get_or y 0 0) (sym part_is) ∙ get_d_part (head_width + p * session_width) session_width 0 t (omega arith) ∙ ap (λ (i : ℕ). get_or t i 0) at

  module _ (who : ℕ) (v : List ℕ) where
    pub not_theirs : (get_or t (head_width + p * session_width) 0 ≡ who → ⊥) → false ≡ goes_by who (listed_in v) (view_session (slot_at room p t))
    unfolding goes_by has_peer
    not_theirs n = sym (rw (slot_peer, ne_eqb (get_or t (head_width + p * session_width) 0) who n))

    pub slot_here : get_or t (head_width + p * session_width) 0 ≡ who → {r : Bool}
        → r ≡ covers_session (view_session (take (head_width + p * session_width + session_width - (head_width + p * session_width)) (drop (head_width + p * session_width) t))) (listed_in v)
        → r ≡ goes_by who (listed_in v) (view_session (slot_at room p t))
    unfolding goes_by has_peer
    slot_here e h = h ∙ ap (λ (y : List ℕ). covers_session (view_session y) (listed_in v)) slice_is ∙ sym (rw (slot_peer, eq-eqb (get_or t (head_width + p * session_width) 0) who e))

-- it stays, or is taken out
module _ (room p : ℕ) (t : List ℕ) (who : ℕ) (v : List ℕ) {b : Bool} (is : b ≡ goes_by who (listed_in v) (view_session (slot_at room p t))) where
  pub stays_one : b ≡ false → t ≡ after_one room p who (listed_in v) t
  unfolding after_one
  stays_one e = rw (← is, e)

  pub goes_one : b ≡ true → {t' : List ℕ} → t' ≡ removed_in (table_area room) p t → t' ≡ after_one room p who (listed_in v) t
  unfolding after_one
  goes_one e h = h ∙ rw (← is, e)

-- ---- from the last place to the first

abbrev stays : ℕ → Fqcsid → Session → Bool
stays who l = stays_session who (l ∷ [])

all_taken : (q : Session → Bool) (m : Sessions) → take (length m) m ++ keep q (drop (length m) m) ≡ m
unfolding keep
all_taken q [] = refl
all_taken q (x ∷ m) = ap (λ (l : Sessions). x ∷ l) (all_taken q m)

-- up to a place all of m, after it what is kept
abbrev half : (Session → Bool) → ℕ → Sessions → Sessions
half q n m = take n m ++ keep q (drop n m)

half_long : (q : Session → Bool) (n : ℕ) (m : Sessions) → n < length m → n < length (half q (suc n) m)
half_long q n [] l = absurd (omega arith)
half_long q zero (x ∷ m) l = omega arith
half_long q (suc n) (x ∷ m) l = let h = half_long q n m (omega arith) in omega arith

half_at : (q : Session → Bool) (n : ℕ) (m : Sessions) (d : Session) → n < length m → get_or (half q (suc n) m) n d ≡ get_or m n d
half_at q n [] d l = absurd (omega arith)
half_at q zero (x ∷ m) d l = refl
half_at q (suc n) (x ∷ m) d l = half_at q n m d (omega arith)

half_next : (q : Session → Bool) (n : ℕ) (m : Sessions) (d : Session) → n < length m → (b : Bool) → q (get_or m n d) ≡ not b → pick b (remove_at n (half q (suc n) m)) (half q (suc n) m) ≡ half q n m
unfolding remove_at keep
half_next q n [] d l b e = absurd (omega arith)
half_next q zero (x ∷ m) d l true e = rw e
half_next q zero (x ∷ m) d l false e = rw e
half_next q (suc n) (x ∷ m) d l true e = ap (λ (y : Sessions). x ∷ y) (half_next q n m d (omega arith) true e)
half_next q (suc n) (x ∷ m) d l false e = ap (λ (y : Sessions). x ∷ y) (half_next q n m d (omega arith) false e)

pub record Going (t₀ : List ℕ) (who : ℕ) (v t : List ℕ) (room p : ℕ) : Type 0 where
  pub limit : room ≡ (view_settings t₀).limit
  pub within : p ≤ length (view_sessions t₀)
  pub encodes : Encodes (view_settings t₀) (half (stays who (listed_in v)) p (view_sessions t₀)) t

pub count_room : {t : List ℕ} {room : ℕ} → Sound t → room ≡ number (part limit_at 2 t) → settings_width + 2 + room * session_width ≤ length t
count_room {t} {room} h r = let l = h.long in let e : room ≡ (view_settings t).limit = r ∙ sym (limit_read t) in omega arith

pub going_none : {t v : List ℕ} {who room n : ℕ} → Sound t → room ≡ number (part limit_at 2 t) → n ≡ count_in (table_area room) t → Going t who v t room n
going_none {t} {v} {who} {room} {n} h r e =
    let l : room ≡ (view_settings t).limit = r ∙ sym (limit_read t) in
    let k = sound_encodes h in
    let c : n ≡ length (view_sessions t) = e ∙ ap (λ (i : ℕ). count_in (table_area i) t) l ∙ ap (count_in (table_area (view_settings t).limit)) k.octets ∙ sessions_counted_lem (view_settings t) k.settings (view_sessions t) k.sessions in
    record {
      limit = l;
      within = omega arith;
      encodes = subst (λ (m : Sessions). Encodes (view_settings t) m t) (sym (ap (λ (i : ℕ). half (stays who (listed_in v)) i (view_sessions t)) c ∙ all_taken (stays who (listed_in v)) (view_sessions t))) k;
    }

module _ {t₀ v t : List ℕ} {who room p : ℕ} (g : Going t₀ who v t room p) (more : 0 < p) where
  abbrev at : ℕ
  at = p - 1

  here : Encodes (view_settings t₀) (half (stays who (listed_in v)) (suc at) (view_sessions t₀)) t
  here = let e : p ≡ suc (p - 1) = omega arith in subst (λ (i : ℕ). Encodes (view_settings t₀) (half (stays who (listed_in v)) i (view_sessions t₀)) t) e g.encodes

  low : at < length (view_sessions t₀)
  low = let w = g.within in omega arith

  pub going_counted : p - 1 < count_in (table_area room) t
  going_counted = rw g.limit (place_counted here at (half_long (stays who (listed_in v)) at (view_sessions t₀) low))

  pub going_within : count_in (table_area room) t ≤ room
  going_within = rw g.limit (count_within here at (half_long (stays who (listed_in v)) at (view_sessions t₀) low))

  pub going_few : octet_at (slot_at room (p - 1) t) csid_count_at ≤ node_types
  going_few = rw g.limit (slot_few here at (half_long (stays who (listed_in v)) at (view_sessions t₀) low))

  pub going_more : {t' : List ℕ} → t' ≡ after_one room (p - 1) who (listed_in v) t → Going t₀ who v t' room (p - 1)
  going_more {t'} e =
      let l = listed_in v in
      let m = view_sessions t₀ in
      let k = one_after here at (half_long (stays who l) at m low) who l in
      record {
        limit = g.limit;
        within = let w = g.within in omega arith;
        encodes = rw (e, g.limit) (subst (λ (n : Sessions). Encodes (view_settings t₀) n (after_one (view_settings t₀).limit (p - 1) who l t)) same k);
      }
    where
      is_kept_lem : (x : Session) → stays who (listed_in v) x ≡ not (goes_by who (listed_in v) x)
      is_kept_lem x = unfold stays_session goes_session goes_by any in (go (has_peer who x) (covers_session x (listed_in v)))
        where
          go : (a b : Bool) → not (a && (b || false)) ≡ not (a && b)
          go true true = refl
          go true false = refl
          go false b = refl

      same : pick (goes_by who (listed_in v) (get_or (half (stays who (listed_in v)) (suc at) (view_sessions t₀)) at (new_session 0 0))) (remove_at at (half (stays who (listed_in v)) (suc at) (view_sessions t₀))) (half (stays who (listed_in v)) (suc at) (view_sessions t₀))
          ≡ half (stays who (listed_in v)) at (view_sessions t₀)
      same =
          let m = view_sessions t₀ in
          let q = stays who (listed_in v) in
          ap (λ (x : Session). pick (goes_by who (listed_in v) x) (remove_at at (half q (suc at) m)) (half q (suc at) m)) (half_at q at m (new_session 0 0) low)
          ∙ half_next q at m (new_session 0 0) low (goes_by who (listed_in v) (get_or m at (new_session 0 0))) (is_kept_lem (get_or m at (new_session 0 0)))

pub going_end : {t₀ v t : List ℕ} {who room p : ℕ} → Going t₀ who v t room p → p ≤ 0 → t ≡ encode (view_settings t₀) (keep (stays_session who (listed_in v ∷ [])) (view_sessions t₀))
going_end {t₀} {v} {t} {who} {room} {p} g h = let e : p ≡ 0 = omega arith in g.encodes.octets ∙ ap (λ (i : ℕ). encode (view_settings t₀) (half (stays who (listed_in v)) i (view_sessions t₀))) e

pub going_same : {t₀ v t : List ℕ} {who room p : ℕ} → Going t₀ who v t room p → Sound t₀ → length t ≡ length t₀
going_same g h = encodes_long g.encodes ∙ sym h.long

pub going_long : {t₀ v t : List ℕ} {who room p : ℕ} → Going t₀ who v t room p → length t ≡ table_length room
going_long g = encodes_long g.encodes ∙ ap table_length (sym g.limit)

-- ---- by one element, and by all

-- what stays after those, then after these, stays after all of them
stays_both : (who : ℕ) (cs bs : List Fqcsid) (x : Session) → stays_session who (cs ++ bs) x ≡ (stays_session who cs x && stays_session who bs x)
unfolding stays_session goes_session any
stays_both who [] bs x = rw (and-false (has_peer who x))
stays_both who (a ∷ cs) bs x = go (has_peer who x) (covers_session x a) (stays_both who cs bs x)
  where
    go : (p b : Bool) → not (p && any (covers_session x) (cs ++ bs)) ≡ (not (p && any (covers_session x) cs) && not (p && any (covers_session x) bs))
        → not (p && (b || any (covers_session x) (cs ++ bs))) ≡ (not (p && (b || any (covers_session x) cs)) && not (p && any (covers_session x) bs))
    go false b h = refl
    go true true h = refl
    go true false h = h

keep_both : (who : ℕ) (cs bs : List Fqcsid) (m : Sessions) → keep (stays_session who bs) (keep (stays_session who cs) m) ≡ keep (stays_session who (cs ++ bs)) m
unfolding keep
keep_both who cs bs [] = refl
keep_both who cs bs (x ∷ m) = rw (stays_both who cs bs x) (go (stays_session who cs x) (stays_session who bs x) refl (keep_both who cs bs m))
  where
    go : (a b : Bool) → stays_session who bs x ≡ b → keep (stays_session who bs) (keep (stays_session who cs) m) ≡ keep (stays_session who (cs ++ bs)) m
        → keep (stays_session who bs) (pick a (x ∷ keep (stays_session who cs) m) (keep (stays_session who cs) m)) ≡ pick (a && b) (x ∷ keep (stays_session who (cs ++ bs)) m) (keep (stays_session who (cs ++ bs)) m)
    go true true e h = rw e (ap (λ (l : Sessions). x ∷ l) h)
    go true false e h = rw e h
    go false b e h = h

keep_none : (who : ℕ) (m : Sessions) → keep (stays_session who []) m ≡ m
unfolding keep stays_session goes_session any
keep_none who [] = refl
keep_none who (x ∷ m) = rw (and-false (has_peer who x)) (ap (λ (l : Sessions). x ∷ l) (keep_none who m))

pub by_other : (t v : List ℕ) (who k : ℕ) → Sound t → (k ≡ 65 → ⊥) → t ≡ encode (view_settings t) (keep (stays_session who (lists_in k v)) (view_sessions t))
unfolding lists_in
by_other t v who k h n = (sound_encodes h).octets ∙ sym (rw (ne_eqb k 65 n) (ap (encode (view_settings t)) (keep_none who (view_sessions t))))

pub by_listed : (t v : List ℕ) (who k : ℕ) {t' : List ℕ} → k ≡ 65 → t' ≡ encode (view_settings t) (keep (stays_session who (listed_in v ∷ [])) (view_sessions t))
    → t' ≡ encode (view_settings t) (keep (stays_session who (lists_in k v)) (view_sessions t))
unfolding lists_in
by_listed t v who k e h = h ∙ rw (eq-eqb k 65 e)

pub record Left (t₀ : List ℕ) (who : ℕ) (s t rest : List ℕ) : Type 0 where
  pub at : ℕ
  pub sessions : Sessions
  pub encodes : Encodes (view_settings t₀) sessions t
  pub fine : blank (list_read (elements at rest)) ≡ done tt
  pub same : keep (stays_session who (gotten (list_read (elements at rest)))) sessions ≡ keep (stays_session who (gotten (list_read (elements list_place s)))) (view_sessions t₀)

pub left_none : {t s : List ℕ} {who : ℕ} → Sound t → blank (list_read (elements list_place s)) ≡ done tt → Left t who s t s
left_none {t} h f = record { at = list_place; sessions = view_sessions t; encodes = sound_encodes h; fine = f; same = refl }

module _ {t₀ s t rest : List ℕ} {who : ℕ} (l : Left t₀ who s t rest) where
  pub left_sound : Sound t
  left_sound = encodes_sound l.encodes

  pub left_same : Sound t₀ → length t ≡ length t₀
  left_same h = encodes_long l.encodes ∙ sym h.long

  module _ {k e : ℕ} (f : Front rest k e) where
    abbrev value : List ℕ
    value = take (e - 4) (drop 4 rest)

    fine_here : blank (list_read (record { type = k; content = value; place = l.at } ∷ elements (l.at + e) (behind rest e))) ≡ done tt
    fine_here = subst (λ es. blank (list_read es) ≡ done tt) (f.cons l.at) l.fine

    pub left_sized : k ≡ 65 → Sized (take (e - 4) (drop 4 rest))
    left_sized is = listed_sized k l.at value (elements (l.at + e) (behind rest e)) fine_here is

    pub left_more : {t' : List ℕ} → t' ≡ encode (view_settings t) (keep (stays_session who (lists_in k (take (e - 4) (drop 4 rest)))) (view_sessions t)) → Left t₀ who s t' (behind rest e)
    left_more {t'} g =
        let cs = lists_in k value in
        let es = elements (l.at + e) (behind rest e) in
        let m = l.sessions in
        record {
          at = l.at + e;
          sessions = keep (stays_session who cs) m;
          encodes = record {
            settings = l.encodes.settings;
            sessions = keep_allowed (view_settings t₀) (stays_session who cs) m l.encodes.sessions;
            octets = g ∙ ap₂ (λ (u : Settings) (n : Sessions). encode u (keep (stays_session who cs) n)) (settings_are l.encodes) (sessions_are l.encodes);
          };
          fine = rest_fine k l.at value es fine_here;
          same =
              keep_both who cs (gotten (list_read es)) m
              ∙ ap (λ (ds : List Fqcsid). keep (stays_session who ds) m) (lists_more k l.at value es fine_here ∙ ap (λ ds. gotten (list_read ds)) (sym (f.cons l.at)))
              ∙ l.same;
        }

  pub left_end : ((at : ℕ) → elements at rest ≡ []) → t ≡ encode (view_settings t₀) (keep (stays_session who (gotten (list_read (elements list_place s)))) (view_sessions t₀))
  unfolding list_read
  left_end nil = l.encodes.octets ∙ ap (encode (view_settings t₀)) (sym (keep_none who l.sessions) ∙ ap (λ es. keep (stays_session who (gotten (list_read es))) l.sessions) (sym (nil l.at)) ∙ l.same)
