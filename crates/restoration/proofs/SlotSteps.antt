-- The elements of a session's records, and of the whole request: part_from what the calls leave. Assumes nothing.
use mathlib.Core.Path.{◌≡◌, refl, ap, ap₂, ◌∙◌}
use Prim.Native.Nat.{ℕ, ◌+◌, ◌-◌, ◌≤◌}
use native.Mathlib.Omega.{arith}
use mathlib.Core.List.{List, [], ◌∷◌, ◌++◌, map}
use lib.Dec.{T}
use lib.ListN.{length, get_or, take, drop, length-append}
use Rattle.octets.specs.Octets.{part, number, number_at, octet_at, slices, concat_map}
use Rattle.octets.specs.Lists.{all}
use Rattle.octets.proofs.Put.{part_from}
use Rattle.rules.specs.Model.{Settings, Session}
use Rattle.rules.specs.Elements.{fseid_octets}
use Rattle.rules.specs.Reply.{element}
use Rattle.rules.specs.Layout.{pdr_width, endpoint_width, csid_width, view_area, view_pdr, view_endpoint, view_csid, view_session, pdr_count_at, endpoint_count_at, csid_count_at, seid_at, pdrs_at, endpoints_at, csids_at}
use Rattle.rules.specs.Restoration.{pdr_element, endpoint_element, csid_element, record_elements}
use Rattle.rules.specs.Types as ie
use Rattle.writing.specs.Placed.{Placed}
use Rattle.fseid.proofs.ValueLaws.{length_fseid}
use Rattle.writing.proofs.PlacedLaws.{length_element, placed_then}
use Rattle.restoration.specs.declared.Kind.{Kind}
use Rattle.restoration.specs.declared.Kind.TheVariants as kind
use Rattle.restoration.specs.Records.{record_width, record_element, record_fits, area_fits, content}

concat_map_map : {A : Type 0} (f : A → List ℕ) (g : List ℕ → A) (xs : List (List ℕ)) → concat_map f (map g xs) ≡ concat_map (λ x. f (g x)) xs
unfolding concat_map
concat_map_map f g [] = refl
concat_map_map f g (x ∷ xs) = ap (λ (l : List ℕ). f (g x) ++ l) (concat_map_map f g xs)

-- the elements of n records of a kind part_from a place on
abbrev pub area_elements : Kind → Settings → ℕ → List ℕ → List ℕ
area_elements k s n xs = concat_map (record_element k s) (slices (record_width k) n xs)

module _ (s : Settings) (slot : List ℕ) where
  pub records_are : record_elements s (view_session slot)
      ≡ area_elements kind.Pdr s (get_or slot pdr_count_at 0) (drop pdrs_at slot) ++ (area_elements kind.Endpoint s (get_or slot endpoint_count_at 0) (drop endpoints_at slot) ++ area_elements kind.Csid s (get_or slot csid_count_at 0) (drop csids_at slot))
  unfolding record_elements view_session view_area octet_at
  records_are =
      ap₂ (λ (a b : List ℕ). a ++ b) (concat_map_map (pdr_element s) view_pdr (slices pdr_width (get_or slot pdr_count_at 0) (drop pdrs_at slot)))
      (ap₂ (λ (a b : List ℕ). a ++ b) (concat_map_map (endpoint_element s) view_endpoint (slices endpoint_width (get_or slot endpoint_count_at 0) (drop endpoints_at slot)))
      (concat_map_map csid_element view_csid (slices csid_width (get_or slot csid_count_at 0) (drop csids_at slot))))

  pub length_records : length (record_elements s (view_session slot))
      ≡ length (area_elements kind.Pdr s (get_or slot pdr_count_at 0) (drop pdrs_at slot)) + (length (area_elements kind.Endpoint s (get_or slot endpoint_count_at 0) (drop endpoints_at slot)) + length (area_elements kind.Csid s (get_or slot csid_count_at 0) (drop csids_at slot)))
  length_records =
      let a = area_elements kind.Pdr s (get_or slot pdr_count_at 0) (drop pdrs_at slot) in
      let b = area_elements kind.Endpoint s (get_or slot endpoint_count_at 0) (drop endpoints_at slot) in
      let c = area_elements kind.Csid s (get_or slot csid_count_at 0) (drop csids_at slot) in
      ap length records_are ∙ length-append a (b ++ c) ∙ ap (λ (n : ℕ). length a + n) (length-append b c)

  -- an area as it is lent
  pub area_fits_lem : (k : Kind) (n at : ℕ) → T (area_fits k n at slot) → T (all (record_fits k) (slices (record_width k) n (take (length slot - at) (drop at slot))))
  unfolding area_fits
  area_fits_lem k n at h = rw (part_from at slot) h

  pub area_length : (k : Kind) (n at : ℕ) → length (area_elements k s n (take (length slot - at) (drop at slot))) ≡ length (area_elements k s n (drop at slot))
  area_length k n at = rw (part_from at slot)

  pub records_steps : (at : ℕ) (out : List ℕ) {a b e : ℕ} {out₁ out₂ out₃ : List ℕ} → at + length (record_elements s (view_session slot)) ≤ length out
      → Placed out at (area_elements kind.Pdr s (get_or slot pdr_count_at 0) (take (length slot - pdrs_at) (drop pdrs_at slot))) a out₁
      → Placed out₁ a (area_elements kind.Endpoint s (get_or slot endpoint_count_at 0) (take (length slot - endpoints_at) (drop endpoints_at slot))) b out₂
      → Placed out₂ b (area_elements kind.Csid s (get_or slot csid_count_at 0) (take (length slot - csids_at) (drop csids_at slot))) e out₃
      → length out₁ ≡ length out → Placed out at (record_elements s (view_session slot)) e out₃
  records_steps at out {a} {b} {e} {out₁} {out₂} {out₃} h p q r l =
      let p' = rw (part_from pdrs_at slot) at p in
      let q' = rw (part_from endpoints_at slot) at q in
      let r' = rw (part_from csids_at slot) at r in
      let n = length_records in
      let m = p'.ends in
      rw records_are (placed_then p' (placed_then q' r' (omega arith)) (omega arith))

-- ---- the request

pub length_own : (seid : ℕ) (ipv4 ipv6 : List ℕ) → length (element ie.fseid (fseid_octets seid ipv4 ipv6)) ≡ 13 + length ipv4 + length ipv6
length_own seid ipv4 ipv6 = omega (arith, length_element ie.fseid (fseid_octets seid ipv4 ipv6), length_fseid seid ipv4 ipv6)

module _ (s : Settings) (x : Session) (ipv4 ipv6 : List ℕ) where
  abbrev own : List ℕ
  own = element ie.fseid (fseid_octets x.seid ipv4 ipv6)

  pub length_content : length (content s x ipv4 ipv6) ≡ 13 + length ipv4 + length ipv6 + (5 + length (record_elements s x))
  unfolding content
  length_content =
      omega (arith, length_own x.seid ipv4 ipv6, length-append own (element ie.session_flags (1 ∷ []) ++ record_elements s x), length-append (element ie.session_flags (1 ∷ [])) (record_elements s x), length_element ie.session_flags (1 ∷ []))

  pub content_steps : (seid : ℕ) (out : List ℕ) {a b e : ℕ} {out₁ out₂ out₃ : List ℕ} → 16 + length (content s x ipv4 ipv6) ≤ length out → seid ≡ x.seid
      → Placed out 16 (element ie.fseid (fseid_octets seid ipv4 ipv6)) a out₁ → Placed out₁ a (element ie.session_flags (1 ∷ [])) b out₂ → Placed out₂ b (record_elements s x) e out₃
      → length out₁ ≡ length out → Placed out 16 (content s x ipv4 ipv6) e out₃
  unfolding content
  content_steps seid out {a} {b} {e} {out₁} h w p q r l =
      let n = length_content in
      let g = length_own x.seid ipv4 ipv6 in
      let p' : Placed out 16 own a out₁ = rw w at p in
      let m = p'.ends in
      let k = length_element ie.session_flags (1 ∷ []) in
      placed_then p' (placed_then q r (omega arith)) (omega arith)

-- the session's SEID is in eight octets of the slot
pub slot_seid : (slot : List ℕ) → number (part seid_at 8 slot) ≡ (view_session slot).seid
unfolding view_session number_at
slot_seid slot = refl
