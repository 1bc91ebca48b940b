-- The session at entry: whether a SEID is live, and the session in its slot.
-- Assumes nothing.
use Rattle.std.specs.Result.{is_ok}
use Rattle.std.specs.Prelude.{Result, Ok, Err}
use mathlib.Core.Path.{◌≡◌, refl, sym, ap, ◌∙◌, subst}
use mathlib.Core.Bool.{Bool, true, false}
use mathlib.Core.Option.{some}
use mathlib.Core.List.{List, []}
use Prim.Native.Nat.{ℕ, ◌+◌, ◌*◌, ◌≤◌, ◌<◌, ◌^◌}
use native.Mathlib.Omega.{arith}
use native.Mathlib.Decide.{ℕ_discrete}
use lib.Dec.{T, eqb}
use borrow.Author.Tests.{eqb-true}
use lib.ListN.{length, get_or}
use Rattle.octets.specs.Choice.{is_some}
use Rattle.octets.specs.Octets.{be, number_at, octet_at, part, put, zeros, slices}
use Rattle.octets.specs.Lists.{all}
use Rattle.octets.proofs.Numbers.{number_be}
use Rattle.octets.proofs.ListLaws.{all_every, found_knows}
use Rattle.rules.specs.Model.{Settings, Session, Sessions, is_peer, key_for, session_key}
use Rattle.rules.specs.Layout.{session_octets, encode, view_session, view_area, view_settings, view_sessions, settings_width, session_width, table_length}
use Rattle.rules.specs.Sound.{sound, session_allowed}
use Rattle.rules.specs.Message.{kind_of, header_seid, establishment, set_deletion}
use Rattle.rules.specs.Reading.{read_request}
use Rattle.rules.specs.Stages.{has_key, session_of, is_live, new_session, at_entry, entry_session, unnamed}
use Rattle.laws.proofs.LayoutLaws.{session_back}
use Rattle.laws.proofs.PeerLaws.{peer_cases}
use Rattle.laws.proofs.KeptRules.{TableKept, table_kept, sessions_kept}
use Rattle.invariants.proofs.Changed.{found_has}
use Rattle.areas.specs.declared.Area.{Area}
use Rattle.areas.specs.Records.{pair_key}
use Rattle.areas.specs.Counted.{area_in, place_in}
use Rattle.session.specs.Areas.{table_area}
use Rattle.session.proofs.Saved.{session_found, session_absent, session_loaded, fresh_slot}
use Rattle.stages.proofs.EntryLaws.{slot_live, slot_new}
use Rattle.request.specs.declared.Plan.{Plan}
use Rattle.stages.specs.declared.Known.{Known}
use Rattle.stages.specs.declared.Told.{Told}
use Rattle.changes.specs.Steps.{Fetching, told_of, Fetched, Entered}

-- the table is as long as its room says
pub long_by : (t : List ℕ) (room : ℕ) → room ≡ (view_settings t).limit → length t ≡ table_length (view_settings t).limit → length t ≡ table_length room
long_by t room l long = long ∙ ap table_length (sym l)

-- its room for sessions
pub seek_room : {t slot : List ℕ} {room kind seid p : ℕ} → Fetching t slot room kind seid p → settings_width + 2 + room * session_width ≤ length t
seek_room f = omega (arith, f.table_long)

-- a request that makes no session has a place
pub place_there : {t slot : List ℕ} {room kind seid p : ℕ} → Fetching t slot room kind seid p → (kind ≡ establishment → ⊥) → p < room
place_there f n = f.there n

-- the slot of a live session, as it was copied
pub fetched_old : {t slot slot' : List ℕ} {room kind who p : ℕ} {w : Plan} {q : Told} → Fetching t slot room kind w.seid p → (kind ≡ establishment → ⊥) → length slot' ≡ length slot
    → slot' ≡ part (p * session_width) session_width (area_in (table_area room) t) → q ≡ told_of w (Ok p) → Fetched t room kind who p w q slot'
fetched_old {p = p} f n l e d = record { at = Ok p; told = d; long = l ∙ f.long; new = λ z. absurd (n z); sought = λ z. absurd (n z); still = λ z. refl; old = λ z. e }

-- the slot of a new one
pub fetched_new : {t slot slot' : List ℕ} {room kind who p : ℕ} {w : Plan} {q : Told} {at : Result ℕ ℕ} → Fetching t slot room kind w.seid p → kind ≡ establishment → length slot' ≡ length slot
    → slot' ≡ put 1 (be 8 w.seid) (put 0 (be 1 who) (zeros session_width)) → at ≡ place_in (table_area room) (pair_key who w.seid) t → q ≡ told_of w at → Fetched t room kind who p w q slot'
fetched_new {at = at} f n l e s d = record { at = at; told = d; long = l ∙ f.long; new = λ z. e; sought = λ z. sym s; still = λ z. absurd (z n); old = λ z. absurd (z n) }

-- where the session at entry comes from: the SEID of an establishment's F-SEID, or the place of the header's session in the table
pub record Entering (k : Known) (seid : ℕ) (t msg : List ℕ) (p : ℕ) : Type 0 where
  pub peer : T (is_peer k.share.peer)
  pub table : T (sound t)
  pub table_long : length t ≡ table_length (view_settings t).limit
  pub kind_is : k.kind ≡ kind_of msg
  pub named : eqb (kind_of msg) set_deletion ≡ false
  pub new : k.kind ≡ establishment → seid ≡ (read_request msg).seid
  pub fits : seid < 2 ^ 64
  pub found : (k.kind ≡ establishment → ⊥) → place_in (table_area (view_settings t).limit) (key_for k.share.peer (header_seid msg)) t ≡ Ok p

module _ (t : List ℕ) (h : T (sound t)) where
  abbrev s : Settings
  s = view_settings t

  abbrev m : Sessions
  m = view_sessions t

  abbrev area : Area
  area = table_area s.limit

  kept : TableKept t
  kept = table_kept t h

  at_place : (n room : ℕ) (r q : Result ℕ ℕ) → room ≡ s.limit → r ≡ place_in (table_area room) n t → r ≡ q → place_in area n (encode s m) ≡ q
  at_place n room r q l e d = ap (place_in area n) kept.encoded ∙ ap (λ (z : ℕ). place_in (table_area z) n t) (sym l) ∙ sym e ∙ d

  pub live_found : (who n p room : ℕ) (r : Result ℕ ℕ) → room ≡ s.limit → r ≡ place_in (table_area room) (pair_key who n) t → r ≡ Ok p → true ≡ is_live (key_for who n) (view_sessions t)
  unfolding is_live key_for
  live_found who n p room r l e d =
      sym (ap is_some (session_found s kept.settings m kept.sessions (pair_key who n) p (new_session 0 0) (at_place (pair_key who n) room r (Ok p) l e d)).1)

  pub live_absent : (who n p room : ℕ) (r : Result ℕ ℕ) → room ≡ s.limit → r ≡ place_in (table_area room) (pair_key who n) t → r ≡ Err p → false ≡ is_live (key_for who n) (view_sessions t)
  unfolding is_live key_for
  live_absent who n p room r l e d =
      sym (ap is_some (session_absent s kept.settings m kept.sessions (pair_key who n) p (at_place (pair_key who n) room r (Err p) l e d)))

  -- by what was looked up
  live_is : (who n room : ℕ) (r : Result ℕ ℕ) → room ≡ s.limit → place_in (table_area room) (pair_key who n) t ≡ r → is_ok r ≡ is_live (key_for who n) (view_sessions t)
  live_is who n room (Ok p) l e = live_found who n p room (Ok p) l (sym e) refl
  live_is who n room (Err p) l e = live_absent who n p room (Err p) l (sym e) refl

  each_allowed : T (all (session_allowed s) m)
  each_allowed = (sessions_kept s m kept.sessions).sessions

  live_allowed : (n : ℕ) (x : Session) → session_of n m ≡ some x → T (session_allowed s x)
  unfolding session_of
  live_allowed n x e = found_knows (λ (y : Session). T (session_allowed s y)) (has_key n) m x (all_every (session_allowed s) m each_allowed) e

new_entry : (who : ℕ) (m : Sessions) (msg : List ℕ) → kind_of msg ≡ establishment → entry_session who m msg ≡ new_session who (read_request msg).seid
unfolding entry_session at_entry unnamed
new_entry who m msg e = rw e

pub other_than_lem : (k n : ℕ) → (k ≡ n → ⊥) → eqb k n ≡ false
other_than_lem k n h = go (eqb k n) refl
  where
    go : (b : Bool) → eqb k n ≡ b → b ≡ false
    go true e = absurd (h (eqb-true k n e))
    go false e = refl

live_entry : (who : ℕ) (m : Sessions) (msg : List ℕ) (x : Session) → eqb (kind_of msg) set_deletion ≡ false → (kind_of msg ≡ establishment → ⊥) → session_of (key_for who (header_seid msg)) m ≡ some x → entry_session who m msg ≡ x
unfolding entry_session at_entry unnamed
live_entry who m msg x n h e = rw (other_than_lem (kind_of msg) establishment h, n, e)

new_viewed : (who n : ℕ) → n < 2 ^ 64 → view_session (session_octets (new_session who n)) ≡ new_session who n
unfolding new_session session_octets view_session view_area number_at octet_at be slices
new_viewed who n h = λ j. record { peer = who; seid = number_be 8 n h j; pdrs = []; endpoints = []; csids = [] }

new_key : (who n : ℕ) → session_key (new_session who n) ≡ pair_key who n
unfolding new_session key_for
new_key who n = refl

module _ (k : Known) (w : Plan) (t msg : List ℕ) (p : ℕ) (a : Entering k w.seid t msg p) where
  abbrev who : ℕ
  who = k.share.peer

  abbrev seid : ℕ
  seid = w.seid

  -- a new session in its slot
  entered_new : (at : Result ℕ ℕ) (slot : List ℕ) → k.kind ≡ establishment → slot ≡ put 1 (be 8 seid) (put 0 (be 1 who) (zeros session_width)) → length slot ≡ session_width
      → place_in (table_area (view_settings t).limit) (pair_key who seid) t ≡ at → Entered k (told_of w at) t msg slot
  entered_new place slot new e long l =
      let small : who < 256 = peer_cases (λ (n : ℕ). n < 256) (omega arith) (omega arith) who a.peer in
      let fresh : slot ≡ session_octets (new_session who seid) = e ∙ fresh_slot who seid small in
      let at : new_session who seid ≡ entry_session who (view_sessions t) msg = ap (new_session who) (a.new new) ∙ sym (new_entry who (view_sessions t) msg (sym a.kind_is ∙ new)) in
      let viewed : view_session slot ≡ new_session who seid = ap view_session fresh ∙ new_viewed who seid a.fits in
      let key : pair_key who seid ≡ session_key (entry_session who (view_sessions t) msg) = sym (new_key who seid) ∙ ap (λ (x : Session). session_key x) at in
      record {
        entry = fresh ∙ ap session_octets at;
        viewed = viewed ∙ at;
        place = slot_new slot who seid long viewed;
        stands = ap (λ (n : ℕ). place_in (table_area (view_settings t).limit) n t) (sym key) ∙ l;
        known = λ z. live_is t a.table who seid (view_settings t).limit place refl l;
      }

  -- a live session in its slot
  module _ (other : k.kind ≡ establishment → ⊥) where
    kept_table : TableKept t
    kept_table = table_kept t a.table

    x : Session
    x = get_or (view_sessions t) p (new_session 0 0)

    abbrev area' : Area
    area' = table_area (view_settings t).limit

    abbrev key : ℕ
    key = key_for who (header_seid msg)

    there : place_in area' key (encode (view_settings t) (view_sessions t)) ≡ Ok p
    there = ap (place_in area' key) kept_table.encoded ∙ a.found other

    found : (p < (view_settings t).limit) × (session_of key (view_sessions t) ≡ some x)
    unfolding x
    found = session_found (view_settings t) kept_table.settings (view_sessions t) kept_table.sessions key p (new_session 0 0) there

    place_within : p < (view_settings t).limit
    place_within = found.0

    allowed : T (session_allowed (view_settings t) x)
    allowed = live_allowed t a.table key x found.1

    is_entry : x ≡ entry_session who (view_sessions t) msg
    is_entry = sym (live_entry who (view_sessions t) msg x a.named (λ e. other (a.kind_is ∙ e)) found.1)

    same_key : session_key (entry_session who (view_sessions t) msg) ≡ key
    unfolding session_of
    same_key = ap (λ (y : Session). session_key y) (sym is_entry) ∙ found_has (view_sessions t) key x found.1

    entered_live : (at : Result ℕ ℕ) → at ≡ Ok p → (slot : List ℕ) → slot ≡ part (p * session_width) session_width (area_in area' t) → length slot ≡ session_width → Entered k (told_of w at) t msg slot
    unfolding x
    entered_live at still slot e long =
        let loaded : slot ≡ session_octets x =
        e ∙ ap (λ (u : List ℕ). part (p * session_width) session_width (area_in area' u)) (sym kept_table.encoded) ∙ session_loaded (view_settings t) kept_table.settings (view_sessions t) kept_table.sessions key p (new_session 0 0) there in
        let viewed : view_session slot ≡ x = ap view_session loaded ∙ session_back (view_settings t) kept_table.settings x allowed in
        record {
          entry = loaded ∙ ap session_octets is_entry;
          viewed = viewed ∙ is_entry;
          place = slot_live (view_settings t) slot x long viewed allowed;
          stands = ap (λ (n : ℕ). place_in area' n t) same_key ∙ a.found other ∙ sym still;
          known = λ z. absurd (other z);
        }

  -- what fetching it asks, and that what it leaves is the session at entry
  module _ {room : ℕ} (l : room ≡ (view_settings t).limit) where
    pub fetch_asks : {slot : List ℕ} → length slot ≡ session_width → Fetching t slot room k.kind seid p
    fetch_asks long = record { table = a.table; table_long = long_by t room l a.table_long; limit = l; fits = a.fits; there = λ n. rw l (place_within n); long = long }

    pub entered : {q : Told} {slot : List ℕ} → Fetched t room k.kind who p w q slot → Entered k q t msg slot
    entered {q} {slot} f = subst (λ (d : Told). Entered k d t msg slot) (sym f.told) (go (ℕ_discrete k.kind establishment))
      where
        go : Dec (k.kind ≡ establishment) → Entered k (told_of w f.at) t msg slot
        go (yes e) = entered_new f.at slot e (f.new e) f.long (ap (λ (z : ℕ). place_in (table_area z) (pair_key who seid) t) (sym l) ∙ f.sought e)
        go (no n) = entered_live n f.at (f.still n) slot (f.old n ∙ ap (λ (z : ℕ). part (p * session_width) session_width (area_in (table_area z) t)) l) f.long
