-- A session's slot: its tests, area by area, say that the session that it is read as keeps the rules but for the last one, and that
-- its octets are just what that session is written as.
-- Assumes nothing.
use mathlib.Core.Path.{◌≡◌, refl, sym, ap, subst, ◌∙◌}
use Prim.Native.Nat.{ℕ, ◌+◌, ◌*◌, ◌^◌, ◌≤◌, ◌<◌, suc}
use native.Mathlib.Nat.{le_trans, le_of_eq}
use native.Mathlib.Omega.{arith}
use mathlib.Core.Bool.{Bool, ◌&&◌}
use mathlib.Core.List.{List, [], ◌∷◌, ◌++◌, map, append_assoc}
use lib.ListN.{length, take, drop, get_or, length-map, length-drop, length-append, take-append-drop}
use lib.Seq.{take_at, drop_at, drop-drop, drop-cons, take_all}
use lib.Dec.{T, leb, leb→le, lt→ltb}
use mir.Facts.{yes_leb}
use Rattle.octets.specs.Octets.{part, be, number, number_at, octet_at, slices, same_octets, octets}
use Rattle.octets.specs.Fields.{fields_at}
use Rattle.octets.specs.Lists.{all, ascending, all_pairs}
use Rattle.octets.proofs.Tests.{each, all_of_each, both, and_left, and_right, of_true}
use Rattle.octets.proofs.Numbers.{same_refl, same_eq, length_slices}
use Rattle.octets.proofs.Digits.{be_back, number_below, part_octets}
use Rattle.octets.proofs.Put.{length_part, part_of}
use Rattle.octets.proofs.Bools.{both_ways}
use Rattle.rules.specs.Limits.{max_pdrs, max_endpoints, node_types}
use Rattle.rules.specs.Model.{Settings, Session, pdr_id, endpoint_id, node_type_of, key_for, session_key, is_peer, session_holdings}
use Rattle.rules.specs.Layout.{area, pdr_from, endpoint_from, csid_from, pdr_width, endpoint_width, csid_width, pdr_octets, endpoint_octets, csid_octets, session_octets, view_area, view_pdr, view_endpoint, view_csid, view_session, pdr_count_at, endpoint_count_at, csid_count_at, pdrs_at, endpoints_at, csids_at, session_width, seid_at, key_width}
use Rattle.rules.specs.Sound.{pdr_allowed, endpoint_allowed, csid_allowed, agree, session_allowed, records_allowed}
use Rattle.laws.proofs.KeptRules.{records_kept, records_allowed_lem}
use Rattle.laws.proofs.LayoutLaws.{length_area, length_pdr, length_endpoint, length_csid}
use Rattle.areas.specs.Records.{key_of}
use Rattle.records.specs.Kept.{kept, pdr_sound, endpoint_sound, csid_sound, endpoint_ids, ids_of}
use Rattle.records.specs.Slot.{pdr_area, endpoint_area, csid_area, head_sound, slot_tests, slot_sound, area_sound}
use Rattle.records.proofs.Areas.{slices_take, area_from, area_to}
use Rattle.areas.proofs.PairLaws.{number_pair}
use Rattle.octets.proofs.FieldLaws.{octet_read}

-- ---- the records, and what they hold

pub allowed_split : (s : Settings) (x : Session) → session_allowed s x ≡ (records_allowed s x && all_pairs agree (session_holdings x))
unfolding session_allowed
allowed_split s x = refl

-- ---- keys are the first octets

pub key_pdr : (xs : List ℕ) → length xs ≡ pdr_width → pdr_id (view_pdr xs) ≡ key_of 2 xs
unfolding view_pdr pdr_from fields_at key_of
key_pdr xs e = refl

pub key_endpoint : (xs : List ℕ) → length xs ≡ endpoint_width → endpoint_id (view_endpoint xs) ≡ key_of 1 xs
unfolding view_endpoint endpoint_from fields_at key_of
key_endpoint xs e = refl

pub key_csid : (xs : List ℕ) → length xs ≡ csid_width → node_type_of (view_csid xs) ≡ key_of 1 xs
unfolding view_csid csid_from fields_at key_of
key_csid xs e = refl

pub key_session : (xs : List ℕ) → length xs ≡ session_width → session_key (view_session xs) ≡ key_of key_width xs
unfolding view_session number_at octet_at key_of key_for
key_session xs e = sym (number_pair 0 xs (omega arith) ∙ ap (λ (n : ℕ). n * 2 ^ 64 + number (part seid_at 8 xs)) (octet_read 0 xs (omega arith)))

-- ---- the session that a slot is read as, by its areas

unfoldable pub slot_of : List ℕ → Session
slot_of xs =
    record {
      peer = get_or xs 0 0;
      seid = number (part seid_at 8 xs);
      pdrs = map view_pdr (slices pdr_width (get_or xs pdr_count_at 0) (pdr_area xs));
      endpoints = map view_endpoint (slices endpoint_width (get_or xs endpoint_count_at 0) (endpoint_area xs));
      csids = map view_csid (slices csid_width (get_or xs csid_count_at 0) (csid_area xs));
    }

pub record Counts (xs : List ℕ) : Type 0 where
  pub pdrs : get_or xs pdr_count_at 0 ≤ max_pdrs
  pub endpoints : get_or xs endpoint_count_at 0 ≤ max_endpoints
  pub csids : get_or xs csid_count_at 0 ≤ node_types

pub view_slot : (xs : List ℕ) → Counts xs → view_session xs ≡ slot_of xs
unfolding view_session slot_of view_area number_at octet_at
view_slot xs c =
    λ i. record {
      peer = get_or xs 0 0;
      seid = number (part seid_at 8 xs);
      pdrs = map view_pdr (sym (slices_take pdr_width (get_or xs pdr_count_at 0) (max_pdrs * pdr_width) (drop pdrs_at xs) (omega (arith, c.pdrs))) i);
      endpoints = map view_endpoint (sym (slices_take endpoint_width (get_or xs endpoint_count_at 0) (max_endpoints * endpoint_width) (drop endpoints_at xs) (omega (arith, c.endpoints))) i);
      csids = map view_csid (sym (slices_take csid_width (get_or xs csid_count_at 0) (node_types * csid_width) (drop csids_at xs) (omega (arith, c.csids))) i);
    }

-- ---- the slot's octets, part by part

cut : (at n : ℕ) (xs : List ℕ) → drop at xs ≡ part at n xs ++ drop (at + n) xs
cut at n xs = sym (take-append-drop n (drop at xs)) ∙ rw (drop-drop n at xs)

-- Slot.head_sound by name
record HeadKept (xs : List ℕ) : Type 0 where
  peer : T (is_peer (get_or xs 0 0))
  seid : 1 ≤ number (part seid_at 8 xs)
  counts : Counts xs

abbrev head_tests : List ℕ → List Bool
head_tests xs = is_peer (get_or xs 0 0) ∷ leb 1 (number (part seid_at 8 xs)) ∷ leb (get_or xs pdr_count_at 0) max_pdrs ∷ leb (get_or xs endpoint_count_at 0) max_endpoints ∷ leb (get_or xs csid_count_at 0) node_types ∷ []

-- from the tests to the names
head_kept : (xs : List ℕ) → T (head_sound xs) → HeadKept xs
unfolding head_sound octet_at number_at
head_kept xs h =
    let t = each (head_tests xs) h in
    record {
      peer = t.0;
      seid = leb→le 1 (number (part seid_at 8 xs)) t.1.0;
      counts = record { pdrs = leb→le (get_or xs pdr_count_at 0) max_pdrs t.1.1.0; endpoints = leb→le (get_or xs endpoint_count_at 0) max_endpoints t.1.1.1.0; csids = leb→le (get_or xs csid_count_at 0) node_types t.1.1.1.1.0 };
    }

-- and back
head_sound_lem : {xs : List ℕ} → HeadKept xs → T (head_sound xs)
unfolding head_sound octet_at number_at
head_sound_lem {xs} k = let c = k.counts in all_of_each (head_tests xs) (k.peer, (yes_leb k.seid, (yes_leb c.pdrs, (yes_leb c.endpoints, (yes_leb c.csids, tt)))))

pub counts_headed : (xs : List ℕ) → T (head_sound xs) → Counts xs
counts_headed xs h = (head_kept xs h).counts

-- Slot.slot_tests by name
pub record SlotKept (s : Settings) (xs : List ℕ) : Type 0 where
  pub head : T (head_sound xs)
  pub pdrs : T (area_sound (pdr_sound s (endpoint_ids (get_or xs endpoint_count_at 0) (endpoint_area xs))) pdr_width 2 (get_or xs pdr_count_at 0) (pdr_area xs))
  pub endpoints : T (area_sound (endpoint_sound s) endpoint_width 1 (get_or xs endpoint_count_at 0) (endpoint_area xs))
  pub csids : T (area_sound csid_sound csid_width 1 (get_or xs csid_count_at 0) (csid_area xs))

-- from the tests to the names
pub slot_kept : (s : Settings) (xs : List ℕ) → T (slot_sound s xs) → SlotKept s xs
unfolding slot_sound slot_tests octet_at
slot_kept s xs h = let t = each (slot_tests s xs) h in record { head = t.0; pdrs = t.1.0; endpoints = t.1.1.0; csids = t.1.1.1.0 }

-- and back
slot_sound_lem : {s : Settings} {xs : List ℕ} → SlotKept s xs → T (slot_sound s xs)
unfolding slot_sound slot_tests octet_at
slot_sound_lem {s} {xs} k = all_of_each (slot_tests s xs) (k.head, (k.pdrs, (k.endpoints, (k.csids, tt))))

module _ (xs : List ℕ) (long : length xs ≡ session_width) where
  slot_parts : get_or xs 0 0 ∷ part seid_at 8 xs ++ (get_or xs pdr_count_at 0 ∷ get_or xs endpoint_count_at 0 ∷ get_or xs csid_count_at 0 ∷ pdr_area xs ++ (endpoint_area xs ++ csid_area xs)) ≡ xs
  slot_parts =
      let last : drop csids_at xs ≡ csid_area xs = sym (take_all (node_types * csid_width) (drop csids_at xs) (rw length-drop (omega arith))) in
      let areas : drop pdrs_at xs ≡ pdr_area xs ++ (endpoint_area xs ++ csid_area xs) =
      cut pdrs_at (max_pdrs * pdr_width) xs ∙ ap (λ (l : List ℕ). pdr_area xs ++ l) (cut endpoints_at (max_endpoints * endpoint_width) xs ∙ ap (λ (l : List ℕ). endpoint_area xs ++ l) last) in
      let counts : drop key_width xs ≡ get_or xs pdr_count_at 0 ∷ get_or xs endpoint_count_at 0 ∷ get_or xs csid_count_at 0 ∷ drop pdrs_at xs =
      drop-cons xs 9 0 (omega arith)
      ∙ ap (λ (l : List ℕ). get_or xs pdr_count_at 0 ∷ l) (drop-cons xs 10 0 (omega arith) ∙ ap (λ (l : List ℕ). get_or xs endpoint_count_at 0 ∷ l) (drop-cons xs 11 0 (omega arith))) in
      sym (drop-cons xs 0 0 (omega arith) ∙ ap (λ (l : List ℕ). get_or xs 0 0 ∷ l) (cut seid_at 8 xs ∙ ap (λ (l : List ℕ). part seid_at 8 xs ++ l) (counts ∙ ap (λ (l : List ℕ). get_or xs pdr_count_at 0 ∷ get_or xs endpoint_count_at 0 ∷ get_or xs csid_count_at 0 ∷ l) areas)))

  -- how many records the slot is read as
  count_pdrs : length (map view_pdr (slices pdr_width (get_or xs pdr_count_at 0) (pdr_area xs))) ≡ get_or xs pdr_count_at 0
  count_pdrs = length-map (slices pdr_width (get_or xs pdr_count_at 0) (pdr_area xs)) view_pdr ∙ length_slices pdr_width (get_or xs pdr_count_at 0) (pdr_area xs)

  count_endpoints : length (map view_endpoint (slices endpoint_width (get_or xs endpoint_count_at 0) (endpoint_area xs))) ≡ get_or xs endpoint_count_at 0
  count_endpoints = length-map (slices endpoint_width (get_or xs endpoint_count_at 0) (endpoint_area xs)) view_endpoint ∙ length_slices endpoint_width (get_or xs endpoint_count_at 0) (endpoint_area xs)

  count_csids : length (map view_csid (slices csid_width (get_or xs csid_count_at 0) (csid_area xs))) ≡ get_or xs csid_count_at 0
  count_csids = length-map (slices csid_width (get_or xs csid_count_at 0) (csid_area xs)) view_csid ∙ length_slices csid_width (get_or xs csid_count_at 0) (csid_area xs)

  long_pdrs : length (pdr_area xs) ≡ max_pdrs * pdr_width
  long_pdrs = length_part pdrs_at (max_pdrs * pdr_width) xs (omega arith)

  long_endpoints : length (endpoint_area xs) ≡ max_endpoints * endpoint_width
  long_endpoints = length_part endpoints_at (max_endpoints * endpoint_width) xs (omega arith)

  long_csids : length (csid_area xs) ≡ node_types * csid_width
  long_csids = length_part csids_at (node_types * csid_width) xs (omega arith)

  counts_viewed : (s : Settings) → T (records_allowed s (view_session xs)) → Counts xs
  unfolding view_session view_area octet_at
  counts_viewed s h =
      let t = records_kept s (view_session xs) h in
      let lp = leb→le (length (view_session xs).pdrs) max_pdrs t.few_pdrs in
      let le' = leb→le (length (view_session xs).endpoints) max_endpoints t.few_endpoints in
      let lc = leb→le (length (view_session xs).csids) node_types t.few_csids in
      record {
        pdrs = le_trans (le_of_eq (sym (length-map (slices pdr_width (get_or xs pdr_count_at 0) (drop pdrs_at xs)) view_pdr ∙ length_slices pdr_width (get_or xs pdr_count_at 0) (drop pdrs_at xs)))) lp;
        endpoints = le_trans (le_of_eq (sym (length-map (slices endpoint_width (get_or xs endpoint_count_at 0) (drop endpoints_at xs)) view_endpoint ∙ length_slices endpoint_width (get_or xs endpoint_count_at 0) (drop endpoints_at xs)))) le';
        csids = le_trans (le_of_eq (sym (length-map (slices csid_width (get_or xs csid_count_at 0) (drop csids_at xs)) view_csid ∙ length_slices csid_width (get_or xs csid_count_at 0) (drop csids_at xs)))) lc;
      }

  counts_tested : (s : Settings) → T (slot_sound s xs) → Counts xs
  counts_tested s h = counts_headed xs (slot_kept s xs h).head

  module _ (s : Settings) (o : T (octets xs)) (c : Counts xs) where
    live : List ℕ
    live = endpoint_ids (get_or xs endpoint_count_at 0) (endpoint_area xs)

    -- the areas as the records that they are read as are written
    pdrs_written : List ℕ
    pdrs_written = area pdr_octets pdr_width max_pdrs (map view_pdr (slices pdr_width (get_or xs pdr_count_at 0) (pdr_area xs)))

    endpoints_written : List ℕ
    endpoints_written = area endpoint_octets endpoint_width max_endpoints (map view_endpoint (slices endpoint_width (get_or xs endpoint_count_at 0) (endpoint_area xs)))

    csids_written : List ℕ
    csids_written = area csid_octets csid_width node_types (map view_csid (slices csid_width (get_or xs csid_count_at 0) (csid_area xs)))

    seid_written : be 8 (number (part seid_at 8 xs)) ≡ part seid_at 8 xs
    seid_written = be_back 8 (part seid_at 8 xs) (length_part seid_at 8 xs (omega arith)) (part_octets seid_at 8 xs o)

    written_is : session_octets (slot_of xs) ≡ get_or xs 0 0 ∷ part seid_at 8 xs ++ (get_or xs pdr_count_at 0 ∷ get_or xs endpoint_count_at 0 ∷ get_or xs csid_count_at 0 ∷ pdrs_written ++ (endpoints_written ++ csids_written))
    unfolding session_octets slot_of pdrs_written endpoints_written csids_written
    written_is = λ i. get_or xs 0 0 ∷ seid_written i ++ (count_pdrs i ∷ count_endpoints i ∷ count_csids i ∷ pdrs_written ++ (endpoints_written ++ csids_written))

    -- the facts that the rules but for the last give of the records read
    record Facts : Type 0 where
      peer : T (is_peer (get_or xs 0 0))
      seid : 1 ≤ number (part seid_at 8 xs)
      pdrs : T (all (pdr_allowed s live) (map view_pdr (slices pdr_width (get_or xs pdr_count_at 0) (pdr_area xs))))
      pdrs_up_lem : T (ascending (map pdr_id (map view_pdr (slices pdr_width (get_or xs pdr_count_at 0) (pdr_area xs)))))
      endpoints : T (all (endpoint_allowed s) (map view_endpoint (slices endpoint_width (get_or xs endpoint_count_at 0) (endpoint_area xs))))
      endpoints_up_lem : T (ascending (map endpoint_id (map view_endpoint (slices endpoint_width (get_or xs endpoint_count_at 0) (endpoint_area xs)))))
      csids : T (all csid_allowed (map view_csid (slices csid_width (get_or xs csid_count_at 0) (csid_area xs))))
      csids_up_lem : T (ascending (map node_type_of (map view_csid (slices csid_width (get_or xs csid_count_at 0) (csid_area xs)))))

    facts_from : T (records_allowed s (slot_of xs)) → Facts
    unfolding slot_of live endpoint_ids ids_of slices
    facts_from h =
        let t = records_kept s (slot_of xs) h in
        record {
          peer = t.peer;
          seid = leb→le 1 (number (part seid_at 8 xs)) t.seid;
          pdrs = t.pdrs;
          pdrs_up_lem = t.pdr_order;
          endpoints = t.endpoints;
          endpoints_up_lem = t.endpoint_order;
          csids = t.csids;
          csids_up_lem = t.csid_order;
        }

    facts_to : Facts → T (records_allowed s (slot_of xs))
    unfolding slot_of live endpoint_ids ids_of slices
    facts_to f =
        let below : number (part seid_at 8 xs) < 256 ^ 8 = rw (length_part seid_at 8 xs (omega arith)) at (number_below (part seid_at 8 xs) (part_octets seid_at 8 xs o)) in
        records_allowed_lem (record {
          seid = yes_leb f.seid;
          seid_fits = lt→ltb (number (part seid_at 8 xs)) (2 ^ 64) below;
          few_pdrs = yes_leb (le_trans (le_of_eq count_pdrs) c.pdrs);
          pdr_order = f.pdrs_up_lem;
          pdrs = f.pdrs;
          few_endpoints = yes_leb (le_trans (le_of_eq count_endpoints) c.endpoints);
          endpoint_order = f.endpoints_up_lem;
          endpoints = f.endpoints;
          few_csids = yes_leb (le_trans (le_of_eq count_csids) c.csids);
          csid_order = f.csids_up_lem;
          csids = f.csids;
          peer = f.peer;
        })

    -- from the slot's tests
    slot_from : T (slot_sound s xs) → T (records_allowed s (slot_of xs)) × (session_octets (slot_of xs) ≡ xs)
    unfolding pdr_sound endpoint_sound csid_sound live pdrs_written endpoints_written csids_written
    slot_from h =
        let t = slot_kept s xs h in
        let head = head_kept xs t.head in
        let ps = area_from (pdr_allowed s live) pdr_octets view_pdr pdr_id pdr_width 2 (λ p q. length_pdr p) key_pdr max_pdrs (get_or xs pdr_count_at 0) (pdr_area xs) long_pdrs c.pdrs t.pdrs in
        let es = area_from (endpoint_allowed s) endpoint_octets view_endpoint endpoint_id endpoint_width 1 (λ e q. length_endpoint e) key_endpoint max_endpoints (get_or xs endpoint_count_at 0) (endpoint_area xs) long_endpoints c.endpoints t.endpoints in
        let cs = area_from csid_allowed csid_octets view_csid node_type_of csid_width 1 (λ r q. length_csid r) key_csid node_types (get_or xs csid_count_at 0) (csid_area xs) long_csids c.csids t.csids in (
          facts_to (record {
            peer = head.peer;
            seid = head.seid;
            pdrs = ps.0;
            pdrs_up_lem = ps.1;
            endpoints = es.0;
            endpoints_up_lem = es.1;
            csids = cs.0;
            csids_up_lem = cs.1;
          }),
          written_is ∙ (λ i. get_or xs 0 0 ∷ part seid_at 8 xs ++ (get_or xs pdr_count_at 0 ∷ get_or xs endpoint_count_at 0 ∷ get_or xs csid_count_at 0 ∷ ps.2 i ++ (es.2 i ++ cs.2 i))) ∙ slot_parts,
        )

    -- to the slot's tests
    slot_to : T (records_allowed s (slot_of xs)) → session_octets (slot_of xs) ≡ xs → T (slot_sound s xs)
    unfolding pdr_sound endpoint_sound csid_sound live pdrs_written endpoints_written csids_written
    slot_to h e =
        let f = facts_from h in
        let lp : length pdrs_written ≡ max_pdrs * pdr_width = length_area pdr_octets pdr_width (pdr_allowed s live) (λ p q. length_pdr p) max_pdrs _ f.pdrs (le_trans (le_of_eq count_pdrs) c.pdrs) in
        let le' : length endpoints_written ≡ max_endpoints * endpoint_width = length_area endpoint_octets endpoint_width (endpoint_allowed s) (λ e q. length_endpoint e) max_endpoints _ f.endpoints (le_trans (le_of_eq count_endpoints) c.endpoints) in
        let lc : length csids_written ≡ node_types * csid_width = length_area csid_octets csid_width csid_allowed (λ r q. length_csid r) node_types _ f.csids (le_trans (le_of_eq count_csids) c.csids) in
        let head : List ℕ = get_or xs 0 0 ∷ part seid_at 8 xs ++ (get_or xs pdr_count_at 0 ∷ get_or xs endpoint_count_at 0 ∷ get_or xs csid_count_at 0 ∷ []) in
        let long-head : length head ≡ pdrs_at = ap suc (length-append (part seid_at 8 xs) (get_or xs pdr_count_at 0 ∷ get_or xs endpoint_count_at 0 ∷ get_or xs csid_count_at 0 ∷ []) ∙ ap (λ (n : ℕ). n + 3) (length_part seid_at 8 xs (omega arith))) in
        let same : head ++ (pdrs_written ++ (endpoints_written ++ csids_written)) ≡ xs = ap (λ (l : List ℕ). get_or xs 0 0 ∷ l) (append_assoc (part seid_at 8 xs) (get_or xs pdr_count_at 0 ∷ get_or xs endpoint_count_at 0 ∷ get_or xs csid_count_at 0 ∷ []) _) ∙ sym written_is ∙ e in
        let behind : endpoints_written ++ csids_written ≡ drop endpoints_at xs = sym (drop_at pdrs_written (endpoints_written ++ csids_written) (max_pdrs * pdr_width) lp) ∙ ap (drop (max_pdrs * pdr_width)) (sym (drop_at head _ pdrs_at long-head) ∙ ap (drop pdrs_at) same) ∙ drop-drop (max_pdrs * pdr_width) pdrs_at xs in
        let pe : pdrs_written ≡ pdr_area xs = sym (part_of head pdrs_written (endpoints_written ++ csids_written) pdrs_at (max_pdrs * pdr_width) long-head lp) ∙ ap (part pdrs_at (max_pdrs * pdr_width)) same in
        let ee : endpoints_written ≡ endpoint_area xs = sym (take_at endpoints_written csids_written (max_endpoints * endpoint_width) le') ∙ ap (take (max_endpoints * endpoint_width)) behind in
        let ce : csids_written ≡ csid_area xs =
        sym (take_all (node_types * csid_width) csids_written (le_of_eq lc)) ∙ ap (take (node_types * csid_width)) (sym (drop_at endpoints_written csids_written (max_endpoints * endpoint_width) le') ∙ ap (drop (max_endpoints * endpoint_width)) behind ∙ drop-drop (max_endpoints * endpoint_width) endpoints_at xs) in
        slot_sound_lem (record {
          head = head_sound_lem (record { peer = f.peer; seid = f.seid; counts = c });
          pdrs = area_to (pdr_allowed s live) pdr_octets view_pdr pdr_id pdr_width 2 (λ p q. length_pdr p) key_pdr max_pdrs (get_or xs pdr_count_at 0) (pdr_area xs) long_pdrs c.pdrs f.pdrs f.pdrs_up_lem pe;
          endpoints = area_to (endpoint_allowed s) endpoint_octets view_endpoint endpoint_id endpoint_width 1 (λ e q. length_endpoint e) key_endpoint max_endpoints (get_or xs endpoint_count_at 0) (endpoint_area xs) long_endpoints c.endpoints f.endpoints f.endpoints_up_lem ee;
          csids = area_to csid_allowed csid_octets view_csid node_type_of csid_width 1 (λ r q. length_csid r) key_csid node_types (get_or xs csid_count_at 0) (csid_area xs) long_csids c.csids f.csids f.csids_up_lem ce;
        })

  -- a slot's tests say just that it is the slot of a session that keeps the rules but for the last one
  pub slot_law : (s : Settings) → T (octets xs) → slot_sound s xs ≡ kept (records_allowed s) session_octets view_session xs
  unfolding kept
  slot_law s o =
      both_ways (slot_sound s xs) (records_allowed s (view_session xs) && same_octets (session_octets (view_session xs)) xs)
      (λ h.
      let c = counts_tested s h in
      let r = slot_from s o c h in
      let v = sym (view_slot xs c) in
      both (records_allowed s (view_session xs)) (same_octets (session_octets (view_session xs)) xs)
      (subst (λ (x : Session). T (records_allowed s x)) v r.0)
      (of_true (ap (λ (x : Session). same_octets (session_octets x) xs) (sym v) ∙ ap (λ (l : List ℕ). same_octets l xs) r.1 ∙ same_refl xs)))
      (λ h.
      let a = and_left (records_allowed s (view_session xs)) (same_octets (session_octets (view_session xs)) xs) h in
      let e = same_eq (session_octets (view_session xs)) xs (and_right (records_allowed s (view_session xs)) (same_octets (session_octets (view_session xs)) xs) h) in
      let c = counts_viewed s a in
      let v = view_slot xs c in
      slot_to s o c (subst (λ (x : Session). T (records_allowed s x)) v a) (ap session_octets (sym v) ∙ e))
