-- The session at entry by its slot's octets: the IDs of its records, and of the PDRs that go. Assumes nothing.
use mathlib.Core.Path.{◌≡◌, refl, sym, ap, ap₂, ◌∙◌}
use mathlib.Core.Bool.{Bool, true, false, ◌&&◌, ◌||◌}
use mathlib.Core.Option.{Option, none, some}
use mathlib.Core.List.{List, [], ◌∷◌, map, map-map}
use Prim.Native.Nat.{ℕ, suc, ◌+◌, ◌-◌, ◌≤◌, ◌<◌}
use lib.Dec.{eqb}
use lib.ListN.{length, take, drop, get_or, set, replicate, length-map}
use Rattle.std.proofs.Common.{add-one}
use Rattle.std.proofs.lemmas.List.{drop_all}
use Rattle.std.specs.Simd.{first_chunks}
use Rattle.plan.proofs.ChainLaws.{chunks_slices}
use lib.Seq.{sets, drop-cons}
use native.Mathlib.Decide.{ℕ_discrete}
use borrow.Author.Tests.{ne_eqb}
use Rattle.octets.specs.Choice.{pick}
use Rattle.octets.specs.Octets.{number, number_at, part, octet_at, slices}
use Rattle.octets.specs.Fields.{fields_at}
use Rattle.octets.specs.Lists.{member, keep}
use Rattle.octets.proofs.Numbers.{length_slices}
use Rattle.octets.specs.Rows.{column}
use Rattle.octets.proofs.Loops.{left_part, stored}
use Rattle.rules.specs.Model.{Pdr, neither, tunnel, endpoint, pdr_id, endpoint_id, pdr_endpoint, matched_endpoint}
use Rattle.rules.specs.Layout.{tunnel_read, match_read, pdr_from, endpoint_from, view_pdr, view_endpoint, view_area, view_session, pdr_width, endpoint_width, pdr_count_at, endpoint_count_at, pdrs_at, endpoints_at, match_at, teid_at, families_at, named_endpoint_at}
use Rattle.laws.proofs.LayoutLaws.{pdr_view}
use Rattle.rules.specs.Stages.{live_pdrs, live_endpoints, names_one_of, goes_pdr, removed_pdrs}
use Rattle.plan.specs.Rows.{request_in}
use Rattle.rules.specs.Types as ie
use Rattle.plan.specs.Words as its
use Rattle.plan.specs.RowRules.{request_of}
use Rattle.plan.proofs.RequestLaws.{gone_pdrs_lem, gone_endpoints_lem}
use Rattle.stages.specs.Rules.{Slot}

-- ---- IDs

-- the numbers in the first octets of records
abbrev pub ids_in : ℕ → ℕ → ℕ → List ℕ → List ℕ
ids_in width idw n area = map (number_at 0 idw) (slices width n area)

-- a list stored from place k on, and the element that comes next
pub sets_left : (f : List ℕ → ℕ) (records : List (List ℕ)) (k : ℕ) (out one : List ℕ) (v : ℕ) → k < length records → one ≡ get_or records k one → v ≡ f one
    → sets (set out k v) (k + 1) (map f (drop (k + 1) records)) ≡ sets out k (map f (drop k records))
sets_left f records k out one v h is e = rw (add-one, drop-cons records k one h, ← is, e)

pub live_pdrs_lem : (slot : List ℕ) → live_pdrs (view_session slot) ≡ ids_in pdr_width 2 (get_or slot pdr_count_at 0) (drop pdrs_at slot)
unfolding live_pdrs view_session view_area view_pdr pdr_from fields_at number_at octet_at
live_pdrs_lem slot = map-map pdr_id view_pdr (slices pdr_width (get_or slot pdr_count_at 0) (drop pdrs_at slot))

pub live_endpoints_lem : (slot : List ℕ) → live_endpoints (view_session slot) ≡ ids_in endpoint_width 1 (get_or slot endpoint_count_at 0) (drop endpoints_at slot)
unfolding live_endpoints view_session view_area view_endpoint endpoint_from fields_at number_at octet_at
live_endpoints_lem slot = map-map endpoint_id view_endpoint (slices endpoint_width (get_or slot endpoint_count_at 0) (drop endpoints_at slot))

-- ---- a PDR's octets, and whether it goes

none_none : (b : Bool) → pick {X = Option ℕ} b none none ≡ none
none_none true = refl
none_none false = refl

id_is : (pdr : List ℕ) → pdr_id (view_pdr pdr) ≡ number (part 0 2 pdr)
unfolding view_pdr pdr_from fields_at
id_is pdr = refl

module _ (rows : List (List ℕ)) (pdr : List ℕ) where
  match_is : pdr_endpoint (view_pdr pdr) ≡ pick (eqb (get_or pdr match_at 0) 1) none (pick (eqb (get_or pdr match_at 0) 2) (some (get_or pdr named_endpoint_at 0)) none)
  unfolding pdr_endpoint match_read matched_endpoint
  match_is = rw (pdr_view pdr) (one (eqb (get_or pdr match_at 0) 1) (eqb (get_or pdr match_at 0) 2))
    where
      one : (a b : Bool)
          → matched_endpoint (pick a (tunnel (tunnel_read (number (part teid_at 4 pdr)) (get_or pdr families_at 0))) (pick b (endpoint (get_or pdr named_endpoint_at 0)) neither))
          ≡ pick a none (pick b (some (get_or pdr named_endpoint_at 0)) none)
      one true b = refl
      one false true = refl
      one false false = refl

  goes_is : goes_pdr (request_of false rows) (view_pdr pdr) ≡ (member (number (part 0 2 pdr)) (column ie.remove_pdr its.pdr_id rows) || names_one_of (column ie.remove_endpoint its.endpoint_id rows) (pdr_endpoint (view_pdr pdr)))
  unfolding goes_pdr
  goes_is =
      ap₂ (λ (g e : List ℕ). member (view_pdr pdr).id g || names_one_of e (pdr_endpoint (view_pdr pdr))) (gone_pdrs_lem 0 false false rows) (gone_endpoints_lem 0 false false rows)
      ∙ ap (λ (k : ℕ). member k (column ie.remove_pdr its.pdr_id rows) || names_one_of (column ie.remove_endpoint its.endpoint_id rows) (pdr_endpoint (view_pdr pdr))) (id_is pdr)

  pub goes_row : goes_pdr (request_of false rows) (view_pdr pdr)
      ≡ (member (number (part 0 2 pdr)) (column ie.remove_pdr its.pdr_id rows) || (eqb (get_or pdr match_at 0) 2 && member (get_or pdr named_endpoint_at 0) (column ie.remove_endpoint its.endpoint_id rows)))
  unfolding names_one_of
  goes_row = goes_is ∙ rw match_is (ap (λ (b : Bool). member (number (part 0 2 pdr)) (column ie.remove_pdr its.pdr_id rows) || b) (one (get_or pdr match_at 0) (ℕ_discrete (get_or pdr match_at 0) 2)))
    where
      one : (m : ℕ) → Dec (m ≡ 2) → names_one_of (column ie.remove_endpoint its.endpoint_id rows) (pick (eqb m 1) none (pick (eqb m 2) (some (get_or pdr named_endpoint_at 0)) none)) ≡ (eqb m 2 && member (get_or pdr named_endpoint_at 0) (column ie.remove_endpoint its.endpoint_id rows))
      one m (yes e) = rw e
      one m (no n) = rw (ne_eqb m 2 n, none_none (eqb m 1))

-- ---- the IDs of the PDRs that go

-- the request's SEID, restoration and element 129 do not matter
pub removed_rows : (seid : ℕ) (restoring noted : Bool) (rows : List (List ℕ)) (ps : List Pdr) → removed_pdrs (request_in seid restoring noted rows) ps ≡ removed_pdrs (request_of false rows) ps
unfolding removed_pdrs goes_pdr request_in
removed_rows seid restoring noted rows ps = refl

ids_length : (width idw n : ℕ) (s : List ℕ) → length (ids_in width idw n s) ≡ n
ids_length width idw n s = length-map (slices width n s) (number_at 0 idw) ∙ length_slices width n s

-- among PDRs' octets
abbrev pub gone_in : List (List ℕ) → List (List ℕ) → List ℕ
gone_in rows pdrs = removed_pdrs (request_of false rows) (map view_pdr pdrs)

module _ (rows : List (List ℕ)) where
  gone_first : (pdr : List ℕ) (pdrs : List (List ℕ)) → gone_in rows (pdr ∷ pdrs) ≡ pick (goes_pdr (request_of false rows) (view_pdr pdr)) (number (part 0 2 pdr) ∷ gone_in rows pdrs) (gone_in rows pdrs)
  unfolding removed_pdrs keep
  gone_first pdr pdrs = one (goes_pdr (request_of false rows) (view_pdr pdr))
    where
      later : List Pdr
      later = keep (goes_pdr (request_of false rows)) (map view_pdr pdrs)

      one : (b : Bool) → map pdr_id (pick b (view_pdr pdr ∷ later) later) ≡ pick b (number (part 0 2 pdr) ∷ map pdr_id later) (map pdr_id later)
      one true = ap (λ (k : ℕ). k ∷ map pdr_id later) (id_is pdr)
      one false = refl

  -- those left from a place on
  pub gone_none : (pdrs : List (List ℕ)) (i : ℕ) → length pdrs ≤ i → gone_in rows (drop i pdrs) ≡ []
  unfolding removed_pdrs keep
  gone_none pdrs i h = rw (drop_all i pdrs h)

  module _ (pdrs : List (List ℕ)) (i : ℕ) (h : i < length pdrs) where
    pub gone_hit : goes_pdr (request_of false rows) (view_pdr (get_or pdrs i [])) ≡ true → gone_in rows (drop i pdrs) ≡ number (part 0 2 (get_or pdrs i [])) ∷ gone_in rows (drop (i + 1) pdrs)
    gone_hit e = rw (add-one, drop-cons pdrs i [] h) (gone_first (get_or pdrs i []) (drop (suc i) pdrs) ∙ rw e)

    pub gone_miss : goes_pdr (request_of false rows) (view_pdr (get_or pdrs i [])) ≡ false → gone_in rows (drop i pdrs) ≡ gone_in rows (drop (i + 1) pdrs)
    gone_miss e = rw (add-one, drop-cons pdrs i [] h) (gone_first (get_or pdrs i []) (drop (suc i) pdrs) ∙ rw e)

  pub gone_slot : (slot : List ℕ) → gone_in rows (slices pdr_width (get_or slot pdr_count_at 0) (drop pdrs_at slot)) ≡ removed_pdrs (request_of false rows) (view_session slot).pdrs
  unfolding view_session view_area octet_at
  gone_slot slot = refl

-- ---- live IDs as they were stored in an array

-- an area's records, as chunks of what stands from its place on
pub area_records : (width n at : ℕ) (slot : List ℕ) → first_chunks width n (take (length slot - at) (drop at slot)) ≡ slices width n (drop at slot)
area_records width n at slot = rw (left_part slot at) (chunks_slices width n (drop at slot))

module _ (slot : List ℕ) (h : Slot slot) (records : List (List ℕ)) (out : List ℕ) where
  pub pdrs_stored : records ≡ first_chunks pdr_width (get_or slot pdr_count_at 0) (take (length slot - pdrs_at) (drop pdrs_at slot)) → out ≡ sets (replicate 16 0) 0 (map (number_at 0 2) records) → take (get_or slot pdr_count_at 0) out ≡ live_pdrs (view_session slot)
  pdrs_stored r e =
      stored (replicate 16 0) (ids_in pdr_width 2 (get_or slot pdr_count_at 0) (drop pdrs_at slot)) out (get_or slot pdr_count_at 0) (sym (ids_length pdr_width 2 (get_or slot pdr_count_at 0) _))
      (e ∙ ap (λ (rs : List (List ℕ)). sets (replicate 16 0) 0 (map (number_at 0 2) rs)) (r ∙ area_records pdr_width _ pdrs_at slot))
      (rw (ids_length pdr_width 2 (get_or slot pdr_count_at 0) (drop pdrs_at slot)) h.pdrs)
      ∙ sym (live_pdrs_lem slot)

  pub endpoints_stored : records ≡ first_chunks endpoint_width (get_or slot endpoint_count_at 0) (take (length slot - endpoints_at) (drop endpoints_at slot)) → out ≡ sets (replicate 8 0) 0 (map (number_at 0 1) records) → take (get_or slot endpoint_count_at 0) out ≡ live_endpoints (view_session slot)
  endpoints_stored r e =
      stored (replicate 8 0) (ids_in endpoint_width 1 (get_or slot endpoint_count_at 0) (drop endpoints_at slot)) out (get_or slot endpoint_count_at 0) (sym (ids_length endpoint_width 1 (get_or slot endpoint_count_at 0) _))
      (e ∙ ap (λ (rs : List (List ℕ)). sets (replicate 8 0) 0 (map (number_at 0 1) rs)) (r ∙ area_records endpoint_width _ endpoints_at slot))
      (rw (ids_length endpoint_width 1 (get_or slot endpoint_count_at 0) (drop endpoints_at slot)) h.endpoints)
      ∙ sym (live_endpoints_lem slot)
