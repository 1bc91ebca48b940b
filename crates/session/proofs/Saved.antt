-- A table that encodes settings and sessions holds the sessions in its area: a session is found there, read, put in, replaced and taken out as
-- the rules say.
-- Assumes nothing.
use Rattle.std.specs.Prelude.{Result, Ok, Err}
use mathlib.Core.Path.{◌≡◌, refl, sym, ap, ◌∙◌}
use mathlib.Core.Option.{none, some}
use mathlib.Core.List.{List, [], ◌∷◌, ◌++◌, append-nil, map}
use Prim.Native.Nat.{ℕ, ◌+◌, ◌*◌, ◌^◌, ◌≤◌, ◌<◌}
use native.Mathlib.Omega.{arith}
use lib.Dec.{T}
use lib.ListN.{length, get_or}
use lib.Seq.{take_at}
use Rattle.octets.specs.Octets.{be, number, part, put, zeros, padded, concat_map}
use Rattle.octets.specs.Lists.{all, ascending, keep, insert_by}
use Rattle.octets.proofs.Numbers.{length_be, number_be}
use Rattle.octets.proofs.Digits.{be_one}
use Rattle.rules.specs.Model.{Settings, Session, Sessions, key_for, session_key}
use Rattle.rules.specs.Layout.{area, key_width, session_width, session_octets, settings_octets, encode}
use Rattle.rules.specs.Sound.{settings_allowed, session_allowed, sessions_allowed}
use Rattle.rules.specs.Stages.{has_key, session_of, new_session}
use Rattle.rules.specs.Apply.{other_session, remove_session, put_session}
use Rattle.laws.proofs.KeptRules.{sessions_kept}
use Rattle.laws.proofs.LayoutLaws.{length_session, seid_fits}
use Rattle.laws.proofs.TableLaws.{length_settings, limit_fits}
use Rattle.laws.proofs.PeerLaws.{all_sessions}
use Rattle.areas.specs.Records.{key_of, lookup}
use Rattle.areas.proofs.Places.{other_than, found_within, found_record, absent_record}
use Rattle.areas.specs.Counted.{count_in, area_in, place_in, at_place, removed_in, with_record, without_record}
use Rattle.areas.proofs.Held.{Held, count_held, place_held, record_held, with_held, without_held}
use Rattle.session.specs.Areas.{table_area}

module _ (s : Settings) (hs : T (settings_allowed s)) where
  key_of_lem : (x : Session) → T (session_allowed s x) → key_of key_width (session_octets x) ≡ session_key x
  unfolding key_of session_octets number key_for
  key_of_lem x h =
      ap (λ (l : List ℕ). number (x.peer ∷ l)) (take_at (be 8 x.seid) _ 8 (length_be 8 x.seid))
      ∙ (λ i. x.peer * 256 ^ length_be 8 x.seid i + number_be 8 x.seid (seid_fits s hs x h) i)

  wide : (x : Session) → T (session_allowed s x) → length (session_octets x) ≡ session_width
  wide x h = length_session s hs x h

  pub good : (x : Session) → T (session_allowed s x) → (length (session_octets x) ≡ (table_area s.limit).width) × (key_of (table_area s.limit).key (session_octets x) ≡ session_key x)
  good x h = (wide x h, key_of_lem x h)

  abbrev HeldSessions : Sessions → List ℕ → Type 0
  HeldSessions m t = Held session_octets session_key (table_area s.limit) (session_allowed s) good (settings_octets s) [] [] m t

  grouped : (m : Sessions) → encode s m ≡ settings_octets s ++ (be 2 (length m) ++ ([] ++ (padded (s.limit * session_width) (concat_map session_octets m) ++ [])))
  unfolding encode area
  grouped m = rw append-nil

  module _ (m : Sessions) (hm : T (sessions_allowed s m)) where
    few : length m ≤ s.limit
    few = all_sessions s m hm

    up : T (ascending (map session_key m))
    up = (sessions_kept s m hm).order

    ok : T (all (session_allowed s) m)
    ok = (sessions_kept s m hm).sessions

    held : HeldSessions m (encode s m)
    held =
        record {
          octets = grouped m;
          before = length_settings s hs;
          gap = refl;
          counted = limit_fits s hs;
          passes = ok;
          fits = few;
          up = up;
        }

    -- a SEID's place in the area is its place among the sessions
    pub session_place_lem : (n : ℕ) → place_in (table_area s.limit) n (encode s m) ≡ lookup n (map session_key m)
    session_place_lem n = place_held session_octets session_key (table_area s.limit) (session_allowed s) good held n

    -- a session found is the rules' session, and its slot its octets
    pub session_found : (n p : ℕ) (d : Session) → place_in (table_area s.limit) n (encode s m) ≡ Ok p → (p < s.limit) × (session_of n m ≡ some (get_or m p d))
    unfolding session_of has_key
    session_found n p d e =
        let f = sym (session_place_lem n) ∙ e in
        let l = found_within session_key n p m f in
        (omega (arith, few, l), found_record session_key n p m d f)

    pub session_absent : (n p : ℕ) → place_in (table_area s.limit) n (encode s m) ≡ Err p → session_of n m ≡ none
    unfolding session_of has_key
    session_absent n p e = absent_record session_key n p m up (sym (session_place_lem n) ∙ e)

    pub session_loaded : (n p : ℕ) (d : Session) → place_in (table_area s.limit) n (encode s m) ≡ Ok p
        → part (p * session_width) session_width (area_in (table_area s.limit) (encode s m)) ≡ session_octets (get_or m p d)
    session_loaded n p d e =
        record_held session_octets session_key (table_area s.limit) (session_allowed s) good held d p
        (found_within session_key n p m (sym (session_place_lem n) ∙ e))

    -- how many there are, and the slot of the one at a place
    pub sessions_counted_lem : count_in (table_area s.limit) (encode s m) ≡ length m
    sessions_counted_lem = count_held session_octets session_key (table_area s.limit) (session_allowed s) good held

    pub session_at_lem : (p : ℕ) (d : Session) → p < length m → part (p * session_width) session_width (area_in (table_area s.limit) (encode s m)) ≡ session_octets (get_or m p d)
    session_at_lem p d l = record_held session_octets session_key (table_area s.limit) (session_allowed s) good held d p l

    -- a session put in or replaced, and one taken out
    pub session_saved : (x : Session) → T (session_allowed s x) → length (put_session x m) ≤ s.limit → with_record (table_area s.limit) (session_octets x) (encode s m) ≡ encode s (put_session x m)
    unfolding put_session remove_session other_session has_key
    session_saved x hx room = (with_held session_octets session_key (table_area s.limit) (session_allowed s) good held x hx room).octets ∙ sym (grouped (insert_by session_key x (keep (other_than session_key (session_key x)) m)))

    pub session_removed : (n : ℕ) → without_record (table_area s.limit) n (encode s m) ≡ encode s (remove_session n m)
    unfolding remove_session other_session has_key
    session_removed n = (without_held session_octets session_key (table_area s.limit) (session_allowed s) good held n).octets ∙ sym (grouped (keep (other_than session_key n) m))

    -- the same by the place where its key was found
    pub session_taken : (n p : ℕ) → place_in (table_area s.limit) n (encode s m) ≡ Ok p → removed_in (table_area s.limit) p (encode s m) ≡ encode s (remove_session n m)
    unfolding without_record
    session_taken n p e = sym (ap (λ (q : Result ℕ ℕ). at_place q (λ k. removed_in (table_area s.limit) k (encode s m)) (λ k. encode s m)) e) ∙ session_removed n

    -- where a session that is live stands, one stands
    pub session_within : (n p : ℕ) → place_in (table_area s.limit) n (encode s m) ≡ Ok p → p < length m
    session_within n p e = found_within session_key n p m (sym (session_place_lem n) ∙ e)

-- the slot of a new session
pub fresh_slot : (who n : ℕ) → who < 256 → put 1 (be 8 n) (put 0 (be 1 who) (zeros session_width)) ≡ session_octets (new_session who n)
unfolding put zeros session_octets new_session area be padded concat_map
fresh_slot who n h = ap (λ (l : List ℕ). put 1 (be 8 n) (put 0 l (zeros session_width))) (be_one who h)
