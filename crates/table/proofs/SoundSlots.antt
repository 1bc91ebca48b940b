-- The slots of a sound table: each holds the session at its place, which keeps the rules, and has no more records than its areas. Assumes nothing.
use mathlib.Core.Path.{◌≡◌, refl, sym, ap, ◌∙◌, subst}
use Prim.Native.Nat.{ℕ, zero, suc, ◌+◌, ◌-◌, ◌*◌, ◌≤◌, ◌<◌}
use native.Mathlib.Omega.{arith}
use mathlib.Core.List.{List, [], ◌∷◌, map}
use lib.Dec.{T, leb→le}
use lib.ListN.{length, get_or, take, drop, length-map, get_or-map}
use lib.Seq.{drop-drop}
use Rattle.octets.specs.Octets.{part, number, octet_at, slices}
use Rattle.octets.specs.Lists.{all}
use Rattle.octets.proofs.Tests.{all_at}
use Rattle.octets.proofs.ListLaws.{all_map}
use Rattle.octets.proofs.Put.{length_part}
use Rattle.octets.proofs.Numbers.{length_slices}
use Rattle.areas.proofs.LookupLaws.{get_d_slices}
use Rattle.rules.specs.Limits.{max_sessions, max_pdrs, max_endpoints, node_types}
use Rattle.rules.specs.Model.{Settings, Session, Sessions}
use Rattle.rules.specs.Layout.{pdr_width, endpoint_width, csid_width, head_width, session_width, table_length, view_area, view_pdr, view_endpoint, view_csid, view_session, view_settings, view_sessions, settings_width, pdr_count_at, endpoint_count_at, csid_count_at, pdrs_at, endpoints_at, csids_at}
use Rattle.rules.specs.Sound.{settings_allowed, csid_allowed, session_allowed, sound}
use Rattle.rules.specs.Stages.{new_session}
use Rattle.rules.specs.Restoring.{session_at}
use Rattle.laws.proofs.KeptRules.{RecordsKept, session_kept, sessions_kept, table_kept}
use Rattle.laws.proofs.TableLaws.{limit_most}
use Rattle.laws.proofs.PeerLaws.{all_sessions}
use Rattle.table.specs.Tests.{session_count, slots_of}
use Rattle.table.proofs.SoundLaws.{sessions_are}

-- ---- the records of a slot

module _ (s : Settings) (slot : List ℕ) (long : length slot ≡ session_width) (h : T (session_allowed s (view_session slot))) where
  facts : RecordsKept s (view_session slot)
  facts = (session_kept s (view_session slot) h).records

  count_pdrs : length (view_session slot).pdrs ≡ get_or slot pdr_count_at 0
  unfolding view_session view_area octet_at
  count_pdrs = length-map (slices pdr_width (get_or slot pdr_count_at 0) (drop pdrs_at slot)) view_pdr ∙ length_slices pdr_width (get_or slot pdr_count_at 0) (drop pdrs_at slot)

  pub few_pdrs_lem : get_or slot pdr_count_at 0 ≤ max_pdrs
  few_pdrs_lem = let g = leb→le (length (view_session slot).pdrs) max_pdrs facts.few_pdrs in let e = count_pdrs in omega arith

  count_endpoints : length (view_session slot).endpoints ≡ get_or slot endpoint_count_at 0
  unfolding view_session view_area octet_at
  count_endpoints = length-map (slices endpoint_width (get_or slot endpoint_count_at 0) (drop endpoints_at slot)) view_endpoint ∙ length_slices endpoint_width (get_or slot endpoint_count_at 0) (drop endpoints_at slot)

  pub few_endpoints_lem : get_or slot endpoint_count_at 0 ≤ max_endpoints
  few_endpoints_lem = let g = leb→le (length (view_session slot).endpoints) max_endpoints facts.few_endpoints in let e = count_endpoints in omega arith

  count_csids : length (view_session slot).csids ≡ get_or slot csid_count_at 0
  unfolding view_session view_area octet_at
  count_csids = length-map (slices csid_width (get_or slot csid_count_at 0) (drop csids_at slot)) view_csid ∙ length_slices csid_width (get_or slot csid_count_at 0) (drop csids_at slot)

  pub few_csids_lem : get_or slot csid_count_at 0 ≤ node_types
  few_csids_lem = let g = leb→le (length (view_session slot).csids) node_types facts.few_csids in let e = count_csids in omega arith

  pub csids_kept : T (all (λ ys. csid_allowed (view_csid ys)) (slices csid_width (get_or slot csid_count_at 0) (drop csids_at slot)))
  unfolding view_session view_area octet_at
  csids_kept = subst T (all_map view_csid csid_allowed (slices csid_width (get_or slot csid_count_at 0) (drop csids_at slot))) facts.csids

-- ---- the slots of a sound table

-- the slot at a place, as it is lent
abbrev pub slot_at : List ℕ → ℕ → List ℕ
slot_at t place = take (head_width + place * session_width + session_width - (head_width + place * session_width)) (drop (head_width + place * session_width) t)

module _ (t : List ℕ) (h : T (sound t)) where
  abbrev st : Settings
  st = view_settings t

  pub table_long_lem : length t ≡ table_length (view_settings t).limit
  table_long_lem = (table_kept t h).whole

  pub settings_allowed_lem : T (settings_allowed st)
  settings_allowed_lem = (table_kept t h).settings

  pub within_limit : length (view_sessions t) ≤ (view_settings t).limit
  within_limit = all_sessions st (view_sessions t) (table_kept t h).sessions

  pub few_sessions_lem : length (view_sessions t) ≤ max_sessions
  few_sessions_lem = omega (arith, within_limit, limit_most st settings_allowed_lem)

  -- the number of sessions, as the table has it
  pub count_read : length (view_sessions t) ≡ number (part settings_width 2 t)
  count_read = ap length (sessions_are t) ∙ length-map (slots_of t) view_session ∙ length_slices session_width (session_count t) (drop head_width t)

  module _ (place : ℕ) (live : place < length (view_sessions t)) where
    abbrev slot : List ℕ
    slot = slot_at t place

    width : head_width + place * session_width + session_width - (head_width + place * session_width) ≡ session_width
    width = omega arith

    pub slot_long_lem : length slot ≡ session_width
    slot_long_lem = rw width (length_part (head_width + place * session_width) session_width t (let e = table_long_lem in let f = within_limit in omega arith))

    pub slot_session : view_session slot ≡ session_at (view_sessions t) place
    unfolding session_at
    slot_session =
        let within : place < session_count t = let e = count_read in omega arith in
        rw width
        (ap (λ (xs : List ℕ). view_session (take session_width xs)) (sym (drop-drop (place * session_width) head_width t))
        ∙ ap view_session (sym (get_d_slices session_width (session_count t) place (drop head_width t) within))
        ∙ sym (get_or-map view_session (slots_of t) place [])
        ∙ get_d_any (map view_session (slots_of t)) place (view_session []) (new_session 0 0) (let e = count_read in let f = ap length (sessions_are t) in omega arith)
        ∙ ap (λ (m : Sessions). get_or m place (new_session 0 0)) (sym (sessions_are t)))
      where
        get_d_any : (m : Sessions) (i : ℕ) (a b : Session) → i < length m → get_or m i a ≡ get_or m i b
        get_d_any [] i a b l = absurd (omega arith)
        get_d_any (x ∷ m) zero a b l = refl
        get_d_any (x ∷ m) (suc i) a b l = get_d_any m i a b (omega arith)

    pub place_allowed : T (session_allowed st (session_at (view_sessions t) place))
    unfolding session_at
    place_allowed = all_at (session_allowed st) (new_session 0 0) (view_sessions t) place live (sessions_kept st (view_sessions t) (table_kept t h).sessions).sessions
