-- A slot of a sound table can be written from, holds the session at its place, and its restoration is short. Assumes nothing.
use mathlib.Core.Path.{◌≡◌, sym, ap, ◌∙◌}
use Prim.Native.Nat.{ℕ, zero, suc, ◌+◌, ◌-◌, ◌*◌, ◌^◌, ◌≤◌, ◌<◌}
use native.Mathlib.Nat.{suc-mul}
use native.Mathlib.Omega.{arith}
use mathlib.Core.Bool.{Bool, true}
use mathlib.Core.List.{List}
use lib.Dec.{T, ltb, eqb, lt→ltb}
use lib.ListN.{length, get_or, take, drop, length-drop}
use lib.Seq.{length-take-le}
use mir.Facts.{yes_eqb}
use Rattle.octets.specs.Octets.{be, octet_at, slices}
use Rattle.octets.specs.Lists.{all}
use Rattle.octets.specs.Fields.{fields_at}
use Rattle.octets.proofs.Tests.{each, both, all_head, all_tail, all_cons}
use Rattle.octets.proofs.ListLaws.{all_always}
use Rattle.octets.proofs.Put.{get_d_part}
use Rattle.octets.proofs.FieldLaws.{octet_field}
use Rattle.rules.specs.Limits.{max_restoration}
use Rattle.rules.specs.Model.{Settings, Session}
use Rattle.rules.specs.Layout.{head_width, pdr_width, endpoint_width, csid_width, session_width, csid_from, view_csid, view_session, view_settings, view_sessions, pdr_count_at, endpoint_count_at, csid_count_at, pdrs_at, endpoints_at, csids_at, csid_id_type_at}
use Rattle.rules.specs.Sound.{csid_allowed, session_allowed, sound}
use Rattle.rules.specs.Reply.{message}
use Rattle.rules.specs.Restoration.{sender_allowed, restoration}
use Rattle.rules.specs.Restoring.{session_at, address_tests, sender_addressed, sender_at, restoration_at}
use Rattle.rules.specs.Message.{establishment}
use Rattle.laws.proofs.KeptRules.{node_address_kept, csid_kept, sender_allowed_lem}
use Rattle.laws.proofs.MessageHeader.{message_length_lem}
use Rattle.laws.proofs.RestorationRead.{msg_short}
use Rattle.table.proofs.SoundSlots.{few_pdrs_lem, few_endpoints_lem, few_csids_lem, csids_kept, slot_at, table_long_lem, settings_allowed_lem, within_limit, few_sessions_lem, slot_long_lem, slot_session, place_allowed}
use Rattle.restoration.specs.declared.Kind.TheVariants as kind
use Rattle.restoration.specs.Records.{record_fits, area_fits, SlotFits, content}

-- ---- the records of an area

-- records within the area are whole, and so a test on whole records that keep another one holds of all
slices_each : (w : ℕ) (p q : List ℕ → Bool) → ((ys : List ℕ) → length ys ≡ w → T (q ys) → T (p ys)) → (n : ℕ) (xs : List ℕ) → n * w ≤ length xs
    → T (all q (slices w n xs)) → T (all p (slices w n xs))
unfolding slices all
slices_each w p q f zero xs h g = tt
slices_each w p q f (suc n) xs h g =
    let rows : suc n * w ≡ n * w + w = suc-mul n w in
    all_cons p (take w xs) (slices w n (drop w xs)) (f (take w xs) (length-take-le w xs (omega arith)) (all_head q (take w xs) (slices w n (drop w xs)) g))
    (slices_each w p q f n (drop w xs) (omega (arith, length-drop w xs)) (all_tail q (take w xs) (slices w n (drop w xs)) g))

-- an FQ-CSID that keeps the rules has a Node-ID type below 16
csid_type : (ys : List ℕ) → length ys ≡ csid_width → T (csid_allowed (view_csid ys)) → T (record_fits kind.Csid ys)
unfolding view_csid csid_from fields_at octet_at
csid_type ys l h =
    let c = view_csid ys in
    let t = (node_address_kept c.id_type c.address (csid_kept c h).address).type in
    both (eqb (length ys) csid_width) (ltb (get_or ys csid_id_type_at 0) 16) (yes_eqb l) (lt→ltb (get_or ys csid_id_type_at 0) 16 (let e = octet_field csid_id_type_at ys in omega arith))

module _ (s : Settings) (slot : List ℕ) (long : length slot ≡ session_width) (h : T (session_allowed s (view_session slot))) where
  pub slot_fits : SlotFits slot
  unfolding area_fits octet_at
  slot_fits =
      record {
        long = long;
        pdrs = slices_each pdr_width (record_fits kind.Pdr) (λ _. true) (λ ys l _. yes_eqb l) (get_or slot pdr_count_at 0) (drop pdrs_at slot) (let f = few_pdrs_lem s slot long h in omega (arith, length-drop pdrs_at slot)) (all_always (λ _. true) (λ _. tt) (slices pdr_width (get_or slot pdr_count_at 0) (drop pdrs_at slot)));
        endpoints = slices_each endpoint_width (record_fits kind.Endpoint) (λ _. true) (λ ys l _. yes_eqb l) (get_or slot endpoint_count_at 0) (drop endpoints_at slot) (let f = few_endpoints_lem s slot long h in omega (arith, length-drop endpoints_at slot)) (all_always (λ _. true) (λ _. tt) (slices endpoint_width (get_or slot endpoint_count_at 0) (drop endpoints_at slot)));
        csids = slices_each csid_width (record_fits kind.Csid) (λ ys. csid_allowed (view_csid ys)) csid_type (get_or slot csid_count_at 0) (drop csids_at slot) (let f = few_csids_lem s slot long h in omega (arith, length-drop csids_at slot)) (csids_kept s slot long h);
      }

-- ---- the slots of a sound table

module _ (t : List ℕ) (h : T (sound t)) (place : ℕ) (live : place < length (view_sessions t)) where
  abbrev st : Settings
  st = view_settings t

  abbrev slot : List ℕ
  slot = slot_at t place

  pub place_fits : SlotFits slot
  place_fits = slot_fits st slot (slot_long_lem t h place live) (rw (slot_session t h place live) (place_allowed t h place live))

  -- the peer stands first in the slot
  pub slot_place : head_width + place * session_width < length t
  slot_place = let f = table_long_lem t h in let g = within_limit t h in omega arith

  pub slot_peer : get_or t (head_width + place * session_width) 0 ≡ (session_at (view_sessions t) place).peer
  unfolding view_session octet_at
  slot_peer =
      let at = head_width + place * session_width in
      let same : at + 0 ≡ at = omega arith in
      ap (λ (i : ℕ). get_or t i 0) (sym same)
      ∙ sym (get_d_part at (at + session_width - at) 0 t (omega arith))
      ∙ ap (λ (x : Session). x.peer) (slot_session t h place live)

  module _ (ipv4 ipv6 : List ℕ) (address : T (sender_addressed ipv4 ipv6)) where
    pub sender_kept : T (sender_allowed (sender_at place ipv4 ipv6))
    unfolding sender_at sender_addressed address_tests
    sender_kept =
        let a = each (address_tests ipv4 ipv6) address in
        let f = few_sessions_lem t h in
        sender_allowed_lem (record { header = lt→ltb 0 (2 ^ 64) (omega arith); sequence = lt→ltb (place + 1) (2 ^ 24) (omega arith); ipv4 = a.0; ipv6 = a.1.0; some = a.1.1.0 })

    pub request_is : restoration_at t place ipv4 ipv6 ≡ message establishment 0 (be 3 (place + 1)) (content st (view_session slot) ipv4 ipv6)
    unfolding restoration_at restoration sender_at content
    request_is = rw (slot_session t h place live)

    pub request_short : length (restoration_at t place ipv4 ipv6) ≤ max_restoration
    unfolding restoration_at
    request_short = msg_short st (settings_allowed_lem t h) (sender_at place ipv4 ipv6) sender_kept (session_at (view_sessions t) place) (place_allowed t h place live)

    -- the elements stand after a header of 16 octets
    pub content_room : 16 + length (content st (view_session slot) ipv4 ipv6) ≤ max_restoration
    content_room = let e = ap length request_is ∙ message_length_lem establishment 0 (place + 1) (content st (view_session slot) ipv4 ipv6) in let f = request_short in omega arith
