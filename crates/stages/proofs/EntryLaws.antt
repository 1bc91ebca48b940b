-- What a caller knows of the session at entry and of the settings gives what stages 4 and 5 ask. Assumes nothing.
use Rattle.std.specs.Result.{is_ok}
use mathlib.Core.Path.{◌≡◌, sym, ap, ◌∙◌, subst}
use mathlib.Core.Bool.{false}
use mathlib.Core.List.{List}
use Prim.Native.Nat.{ℕ, ◌+◌, ◌*◌, ◌≤◌}
use native.Mathlib.Omega.{arith}
use lib.Dec.{T, leb→le}
use lib.ListN.{length, take, drop, get_or, replicate, length-map}
use lib.Seq.{sets}
use Rattle.octets.specs.Octets.{octet_at, slices}
use Rattle.octets.specs.Lists.{keep, member}
use Rattle.octets.proofs.Ordered.{keep_length}
use Rattle.octets.proofs.Numbers.{length_slices}
use Rattle.octets.proofs.Loops.{stored}
use Rattle.rules.specs.Limits.{max_pdrs, max_endpoints, map_words, address_words}
use Rattle.rules.specs.Model.{Settings, Session, pdr_id, held_teids, held_addresses, free_address_count, key_for}
use Rattle.rules.specs.Request.{Request}
use Rattle.rules.specs.Layout.{view_pdr, view_endpoint, view_area, view_session, view_settings, view_sessions, pdr_width, endpoint_width, session_width, pdr_count_at, endpoint_count_at, pdrs_at}
use Rattle.rules.specs.Sound.{session_allowed, settings_allowed, sound, marked}
use Rattle.rules.specs.Stages.{new_session, is_live, goes_pdr, removed_pdrs}
use Rattle.rules.specs.Message.{establishment}
use Rattle.laws.proofs.KeptRules.{session_kept, table_kept}
use Rattle.laws.proofs.KeptSettings.{settings_kept}
use Rattle.plan.specs.Rows.{row_width, rows_of}
use Rattle.plan.specs.RowRules.{request_of}
use Rattle.pool.proofs.TakenLaws.{Means}
use Rattle.pool.proofs.AddressLaws.{addresses_fit}
use Rattle.unit.specs.Meaning.{settings_of}
use Rattle.stages.specs.declared.Known.{Known}
use Rattle.stages.specs.declared.Told.{Told}
use Rattle.stages.specs.Rules.{Slot, Gone, ShareOf, AtEntry}

-- ---- the slot

pub pdr_count : (slot : List ℕ) → length (view_session slot).pdrs ≡ get_or slot pdr_count_at 0
unfolding view_session view_area octet_at
pdr_count slot = length-map (slices pdr_width (get_or slot pdr_count_at 0) (drop pdrs_at slot)) view_pdr ∙ length_slices pdr_width (get_or slot pdr_count_at 0) (drop pdrs_at slot)

pub endpoint_count : (slot : List ℕ) → length (view_session slot).endpoints ≡ get_or slot endpoint_count_at 0
unfolding view_session view_area octet_at
endpoint_count slot = length-map (slices endpoint_width (get_or slot endpoint_count_at 0) _) view_endpoint ∙ length_slices endpoint_width (get_or slot endpoint_count_at 0) _

pub slot_of : (slot : List ℕ) (x : Session) → length slot ≡ session_width → view_session slot ≡ x → length x.pdrs ≤ max_pdrs → length x.endpoints ≤ max_endpoints → Slot slot
slot_of slot x long e p q =
    record {
      long = long;
      pdrs = omega (arith, pdr_count slot, ap (λ (y : Session). length y.pdrs) e);
      endpoints = omega (arith, endpoint_count slot, ap (λ (y : Session). length y.endpoints) e);
    }

-- of a live session
pub slot_live : (s : Settings) (slot : List ℕ) (x : Session) → length slot ≡ session_width → view_session slot ≡ x → T (session_allowed s x) → Slot slot
slot_live s slot x long e h =
    let k = (session_kept s x h).records in
    slot_of slot x long e (leb→le (length x.pdrs) max_pdrs k.few_pdrs) (leb→le (length x.endpoints) max_endpoints k.few_endpoints)

-- of a new one
pub slot_new : (slot : List ℕ) (who seid : ℕ) → length slot ≡ session_width → view_session slot ≡ new_session who seid → Slot slot
unfolding new_session
slot_new slot who seid long e = slot_of slot (new_session who seid) long e (omega arith) (omega arith)

-- ---- the PDRs that go, as they were stored in an array

pub gone_few : (r : Request) (slot : List ℕ) → Slot slot → length (removed_pdrs r (view_session slot).pdrs) ≤ max_pdrs
unfolding removed_pdrs
gone_few r slot h =
    let a = length-map (keep (goes_pdr r) (view_session slot).pdrs) pdr_id in
    let b = keep_length (goes_pdr r) (view_session slot).pdrs in
    let c = pdr_count slot in
    omega (arith, h.pdrs)

pub gone_stored : (slot out : List ℕ) (rows : List (List ℕ)) (k : ℕ) → Slot slot → k ≡ length (removed_pdrs (request_of false rows) (view_session slot).pdrs)
    → out ≡ sets (replicate 16 0) 0 (removed_pdrs (request_of false rows) (view_session slot).pdrs) → Gone slot rows (take k out)
gone_stored slot out rows k h e f = stored (replicate 16 0) (removed_pdrs (request_of false rows) (view_session slot).pdrs) out k e f (gone_few (request_of false rows) slot h)

-- ---- the map

-- the map has a bit for each TEID of the pool
pub pool_wide : (s : Settings) (words : List ℕ) → T (settings_allowed s) → length words ≡ map_words → s.size ≤ 64 * length words
pool_wide s words h e = omega (arith, (settings_kept s h).pool.few)

-- ---- a sound table, with its maps and free counts

pub at_entry : {k : Known} {q : Told} {t taken addresses slot gone plan : List ℕ} → settings_of k.u ≡ view_settings t → T (sound t) → Slot slot → q.rows * row_width ≤ length plan → Gone slot (rows_of q.rows plan) gone
    → length taken ≡ map_words → Means (view_settings t).first taken (held_teids (view_sessions t))
    → ShareOf (view_settings t) (view_sessions t) k.share.peer k.share.teids k.share.sessions
    → length addresses ≡ address_words → Means (view_settings t).first_address addresses (held_addresses (view_settings t) (view_sessions t))
    → k.addresses ≡ free_address_count (view_settings t) (view_sessions t)
    → (k.kind ≡ establishment → is_ok q.place ≡ is_live (key_for k.share.peer q.seid) (view_sessions t))
    → AtEntry k q t taken addresses slot gone plan
at_entry {k} {q} {t} {taken} {addresses} {slot} {gone} {plan} same h place rows removed words means count words_address means_address count_a known =
    let settings = (table_kept t h).settings in
    record {
      place = place;
      rows = rows;
      removed = removed;
      wide = subst (λ (x : Settings). x.size ≤ 64 * length taken) (sym same) (pool_wide (view_settings t) taken settings words);
      marks = λ i below. subst (λ (x : Settings). marked taken i ≡ member (x.first + i) (held_teids (view_sessions t))) (sym same) (means i);
      share = subst (λ (x : Settings). ShareOf x (view_sessions t) k.share.peer k.share.teids k.share.sessions) (sym same) count;
      wide_addresses = subst (λ (x : Settings). x.address_count ≤ 64 * length addresses) (sym same) (omega (arith, words_address, addresses_fit (view_settings t) settings));
      marks_addresses = λ i below. subst (λ (x : Settings). marked addresses i ≡ member (x.first_address + i) (held_addresses x (view_sessions t))) (sym same) (means_address i);
      count_addresses = count_a ∙ ap (λ (x : Settings). free_address_count x (view_sessions t)) (sym same);
      known = known;
    }
