-- A slot that holds a session: its octets, and what its areas hold. A change of one area's records is a change of the session's.
-- Assumes nothing.
use mathlib.Core.Path.{◌≡◌, refl, sym, ap, ◌∙◌}
use mathlib.Core.Bool.{Bool, true, ◌&&◌}
use mathlib.Core.List.{List, [], ◌∷◌, ◌++◌, append_assoc, append-nil, map}
use Prim.Native.Nat.{ℕ, suc, ◌*◌, ◌^◌, ◌≤◌, ◌<◌}
use native.Mathlib.Omega.{arith}
use lib.Dec.{T, ltb, leb, ltb→lt, lit<}
use lib.ListN.{length, length-append}
use lib.Seq.{take_at}
use Rattle.octets.specs.Octets.{be, number, padded, concat_map}
use Rattle.octets.specs.Lists.{all, ascending}
use Rattle.octets.specs.Fields.{field_octets}
use Rattle.octets.proofs.Tests.{and_left}
use Rattle.octets.proofs.Numbers.{length_be, number_be, length_padded, length_concat_map}
use Rattle.octets.proofs.Digits.{be_one}
use Rattle.rules.specs.Model.{Pdr, Endpoint, Csid, Session, pdr_id, endpoint_id, node_type_of}
use Rattle.rules.specs.Layout.{area, pdr_numbers, endpoint_numbers, csid_slot_numbers, pdr_width, endpoint_width, csid_width, pdr_octets, endpoint_octets, csid_octets, session_octets}
use Rattle.rules.specs.Limits.{max_pdrs, max_endpoints, node_types}
use Rattle.laws.proofs.LayoutLaws.{length_pdr, length_endpoint, length_csid}
use Rattle.areas.specs.Records.{key_of}
use Rattle.areas.proofs.Held.{Held}
use Rattle.session.specs.Areas.{area_of_pdrs, area_of_endpoints, area_of_csids}

-- ---- what a record has to keep, so that it has the area's width and its key in front

abbrev pub pdr_fits : Pdr → Bool
pdr_fits p = ltb p.id 65536

abbrev pub endpoint_fits : Endpoint → Bool
endpoint_fits e = ltb e.id 256

abbrev pub csid_fits : Csid → Bool
csid_fits c = ltb c.node_type 6 && leb (length c.address) 16

-- the key of fields is the first of them
key_first : (w v : ℕ) (ws vs : List ℕ) → v < 256 ^ w → key_of w (field_octets (w ∷ ws) (v ∷ vs)) ≡ v
unfolding key_of field_octets
key_first w v ws vs h = ap number (take_at (be w v) (field_octets ws vs) w (length_be w v)) ∙ number_be w v h

pub pdr_good : (p : Pdr) → T (pdr_fits p) → (length (pdr_octets p) ≡ area_of_pdrs.width) × (key_of area_of_pdrs.key (pdr_octets p) ≡ pdr_id p)
unfolding pdr_octets pdr_numbers
pdr_good p h = (length_pdr p, key_first 2 p.id _ _ (ltb→lt p.id 65536 h))

pub endpoint_good : (e : Endpoint) → T (endpoint_fits e) → (length (endpoint_octets e) ≡ area_of_endpoints.width) × (key_of area_of_endpoints.key (endpoint_octets e) ≡ endpoint_id e)
unfolding endpoint_octets endpoint_numbers
endpoint_good e h = (length_endpoint e, key_first 1 e.id _ _ (ltb→lt e.id 256 h))

pub csid_good : (c : Csid) → T (csid_fits c) → (length (csid_octets c) ≡ area_of_csids.width) × (key_of area_of_csids.key (csid_octets c) ≡ node_type_of c)
unfolding csid_octets csid_slot_numbers
csid_good c h =
    let n : c.node_type < 6 = ltb→lt c.node_type 6 (and_left (ltb c.node_type 6) (leb (length c.address) 16) h) in
    (length_csid c, key_first 1 c.node_type _ _ (omega arith))

-- ---- the areas of a slot

abbrev pub HeldPdrs : List ℕ → List ℕ → List ℕ → List Pdr → List ℕ → Type 0
HeldPdrs pre mid post rs s = Held pdr_octets pdr_id area_of_pdrs pdr_fits pdr_good pre mid post rs s

abbrev pub HeldEndpoints : List ℕ → List ℕ → List ℕ → List Endpoint → List ℕ → Type 0
HeldEndpoints pre mid post rs s = Held endpoint_octets endpoint_id area_of_endpoints endpoint_fits endpoint_good pre mid post rs s

abbrev pub HeldCsids : List ℕ → List ℕ → List ℕ → List Csid → List ℕ → Type 0
HeldCsids pre mid post rs s = Held csid_octets node_type_of area_of_csids csid_fits csid_good pre mid post rs s

-- s holds the session x
pub record Slot (x : Session) (s : List ℕ) : Type 0 where
  pub octets : s ≡ session_octets x
  pub pdrs_fit : T (all pdr_fits x.pdrs)
  pub pdrs_few : length x.pdrs ≤ 16
  pub pdrs_up : T (ascending (map pdr_id x.pdrs))
  pub endpoints_fit : T (all endpoint_fits x.endpoints)
  pub endpoints_few : length x.endpoints ≤ 8
  pub endpoints_up : T (ascending (map endpoint_id x.endpoints))
  pub csids_fit : T (all csid_fits x.csids)
  pub csids_few : length x.csids ≤ 6
  pub csids_up : T (ascending (map node_type_of x.csids))

-- the octets of a session by its records, after its peer
unfoldable pub tail_by : ℕ → List Pdr → List Endpoint → List Csid → List ℕ
tail_by n ps es cs =
    be 8 n
    ++ (length ps ∷ length es ∷ length cs
    ∷ padded (max_pdrs * pdr_width) (concat_map pdr_octets ps) ++ (padded (max_endpoints * endpoint_width) (concat_map endpoint_octets es) ++ padded (node_types * csid_width) (concat_map csid_octets cs)))

-- and with it
unfoldable pub octets_by : ℕ → ℕ → List Pdr → List Endpoint → List Csid → List ℕ
octets_by q n ps es cs = q ∷ tail_by n ps es cs

by_octets : (x : Session) → session_octets x ≡ octets_by x.peer x.seid x.pdrs x.endpoints x.csids
unfolding session_octets octets_by tail_by area
by_octets x = refl

module _ (q n : ℕ) (ps : List Pdr) (es : List Endpoint) (cs : List Csid) where
  abbrev pub pdr_pre : List ℕ
  pdr_pre = q ∷ be 8 n

  abbrev pub pdr_mid : List ℕ
  pdr_mid = length es ∷ length cs ∷ []

  abbrev pub pdr_post : List ℕ
  pdr_post = padded (max_endpoints * endpoint_width) (concat_map endpoint_octets es) ++ padded (node_types * csid_width) (concat_map csid_octets cs)

  abbrev pub endpoint_pre : List ℕ
  endpoint_pre = q ∷ be 8 n ++ (length ps ∷ [])

  abbrev pub endpoint_mid : List ℕ
  endpoint_mid = length cs ∷ padded (max_pdrs * pdr_width) (concat_map pdr_octets ps)

  abbrev pub endpoint_post : List ℕ
  endpoint_post = padded (node_types * csid_width) (concat_map csid_octets cs)

  abbrev pub csid_pre : List ℕ
  csid_pre = q ∷ be 8 n ++ (length ps ∷ length es ∷ [])

  abbrev pub csid_mid : List ℕ
  csid_mid = padded (max_pdrs * pdr_width) (concat_map pdr_octets ps) ++ padded (max_endpoints * endpoint_width) (concat_map endpoint_octets es)

  -- the same octets grouped round each area
  by_pdrs : length ps ≤ 16 → octets_by q n ps es cs ≡ pdr_pre ++ (be 1 (length ps) ++ (pdr_mid ++ (padded (max_pdrs * pdr_width) (concat_map pdr_octets ps) ++ pdr_post)))
  unfolding octets_by tail_by
  by_pdrs h = rw (be_one (length ps) (omega arith))

  by_endpoints : length es ≤ 8 → octets_by q n ps es cs ≡ endpoint_pre ++ (be 1 (length es) ++ (endpoint_mid ++ (padded (max_endpoints * endpoint_width) (concat_map endpoint_octets es) ++ endpoint_post)))
  unfolding octets_by
  by_endpoints h = ap (λ (l : List ℕ). q ∷ l) (tail_endpoints h)
    where
      tail_endpoints : length es ≤ 8 → tail_by n ps es cs ≡ (be 8 n ++ (length ps ∷ [])) ++ (be 1 (length es) ++ (endpoint_mid ++ (padded (max_endpoints * endpoint_width) (concat_map endpoint_octets es) ++ endpoint_post)))
      tail_endpoints g = unfold tail_by in rw (be_one (length es) (omega arith)) (simp append_assoc)

  by_csids : length cs ≤ 6 → octets_by q n ps es cs ≡ csid_pre ++ (be 1 (length cs) ++ (csid_mid ++ (padded (node_types * csid_width) (concat_map csid_octets cs) ++ [])))
  unfolding octets_by
  by_csids h = ap (λ (l : List ℕ). q ∷ l) (tail_csids h)
    where
      tail_csids : length cs ≤ 6 → tail_by n ps es cs ≡ (be 8 n ++ (length ps ∷ length es ∷ [])) ++ (be 1 (length cs) ++ (csid_mid ++ (padded (node_types * csid_width) (concat_map csid_octets cs) ++ [])))
      tail_csids g = unfold tail_by in rw (be_one (length cs) (omega arith), append-nil) (simp append_assoc)

all_true : {A : Type 0} (rs : List A) → T (all (λ r. true) rs)
unfolding all
all_true [] = tt
all_true (r ∷ rs) = all_true rs

-- how long an area is
pdrs_long : (ps : List Pdr) → length ps ≤ 16 → length (padded (max_pdrs * pdr_width) (concat_map pdr_octets ps)) ≡ max_pdrs * pdr_width
pdrs_long ps h =
    length_padded (max_pdrs * pdr_width) (concat_map pdr_octets ps)
    (let l = length_concat_map pdr_octets pdr_width (λ p. true) (λ p _. (length_pdr p)) ps (all_true ps) in omega (arith, l))

endpoints_long : (es : List Endpoint) → length es ≤ 8 → length (padded (max_endpoints * endpoint_width) (concat_map endpoint_octets es)) ≡ max_endpoints * endpoint_width
endpoints_long es h =
    length_padded (max_endpoints * endpoint_width) (concat_map endpoint_octets es)
    (let l = length_concat_map endpoint_octets endpoint_width (λ e. true) (λ e _. (length_endpoint e)) es (all_true es) in omega (arith, l))

module _ {x : Session} {s : List ℕ} (h : Slot x s) where
  abbrev q : ℕ
  q = x.peer

  abbrev n : ℕ
  n = x.seid

  abbrev ps : List Pdr
  ps = x.pdrs

  abbrev es : List Endpoint
  es = x.endpoints

  abbrev cs : List Csid
  cs = x.csids

  pub held_pdrs : HeldPdrs (pdr_pre q n ps es cs) (pdr_mid q n ps es cs) (pdr_post q n ps es cs) ps s
  held_pdrs =
      record {
        octets = h.octets ∙ by_octets x ∙ by_pdrs q n ps es cs h.pdrs_few;
        before = ap suc (length_be 8 n);
        gap = refl;
        counted = lit< tt;
        passes = h.pdrs_fit;
        fits = h.pdrs_few;
        up = h.pdrs_up;
      }

  pub held_endpoints : HeldEndpoints (endpoint_pre q n ps es cs) (endpoint_mid q n ps es cs) (endpoint_post q n ps es cs) es s
  held_endpoints =
      record {
        octets = h.octets ∙ by_octets x ∙ by_endpoints q n ps es cs h.endpoints_few;
        before = ap suc (length-append (be 8 n) (length ps ∷ []) ∙ rw length_be);
        gap = let l = pdrs_long ps h.pdrs_few in omega (arith, l);
        counted = lit< tt;
        passes = h.endpoints_fit;
        fits = h.endpoints_few;
        up = h.endpoints_up;
      }

  pub held_csids : HeldCsids (csid_pre q n ps es cs) (csid_mid q n ps es cs) [] cs s
  held_csids =
      record {
        octets = h.octets ∙ by_octets x ∙ by_csids q n ps es cs h.csids_few;
        before = ap suc (length-append (be 8 n) (length ps ∷ length es ∷ []) ∙ rw length_be);
        gap =
            let l = pdrs_long ps h.pdrs_few in
            let m = endpoints_long es h.endpoints_few in
            let k = length-append (padded (max_pdrs * pdr_width) (concat_map pdr_octets ps)) (padded (max_endpoints * endpoint_width) (concat_map endpoint_octets es)) in
            omega (arith, l, m, k);
        counted = lit< tt;
        passes = h.csids_fit;
        fits = h.csids_few;
        up = h.csids_up;
      }

  -- another list of records in an area
  pub with_pdrs : {ps' : List Pdr} {s' : List ℕ} → HeldPdrs (pdr_pre q n ps es cs) (pdr_mid q n ps es cs) (pdr_post q n ps es cs) ps' s'
      → Slot (record { peer = q; seid = n; pdrs = ps'; endpoints = es; csids = cs }) s'
  with_pdrs {ps'} {s'} k =
      record {
        octets = k.octets ∙ sym (by_octets (record { peer = q; seid = n; pdrs = ps'; endpoints = es; csids = cs }) ∙ by_pdrs q n ps' es cs k.fits);
        pdrs_fit = k.passes;
        pdrs_few = k.fits;
        pdrs_up = k.up;
        endpoints_fit = h.endpoints_fit;
        endpoints_few = h.endpoints_few;
        endpoints_up = h.endpoints_up;
        csids_fit = h.csids_fit;
        csids_few = h.csids_few;
        csids_up = h.csids_up;
      }

  pub with_endpoints : {es' : List Endpoint} {s' : List ℕ} → HeldEndpoints (endpoint_pre q n ps es cs) (endpoint_mid q n ps es cs) (endpoint_post q n ps es cs) es' s'
      → Slot (record { peer = q; seid = n; pdrs = ps; endpoints = es'; csids = cs }) s'
  with_endpoints {es'} {s'} k =
      record {
        octets = k.octets ∙ sym (by_octets (record { peer = q; seid = n; pdrs = ps; endpoints = es'; csids = cs }) ∙ by_endpoints q n ps es' cs k.fits);
        pdrs_fit = h.pdrs_fit;
        pdrs_few = h.pdrs_few;
        pdrs_up = h.pdrs_up;
        endpoints_fit = k.passes;
        endpoints_few = k.fits;
        endpoints_up = k.up;
        csids_fit = h.csids_fit;
        csids_few = h.csids_few;
        csids_up = h.csids_up;
      }

  pub with_csids : {cs' : List Csid} {s' : List ℕ} → HeldCsids (csid_pre q n ps es cs) (csid_mid q n ps es cs) [] cs' s'
      → Slot (record { peer = q; seid = n; pdrs = ps; endpoints = es; csids = cs' }) s'
  with_csids {cs'} {s'} k =
      record {
        octets = k.octets ∙ sym (by_octets (record { peer = q; seid = n; pdrs = ps; endpoints = es; csids = cs' }) ∙ by_csids q n ps es cs' k.fits);
        pdrs_fit = h.pdrs_fit;
        pdrs_few = h.pdrs_few;
        pdrs_up = h.pdrs_up;
        endpoints_fit = h.endpoints_fit;
        endpoints_few = h.endpoints_few;
        endpoints_up = h.endpoints_up;
        csids_fit = k.passes;
        csids_few = k.fits;
        csids_up = k.up;
      }
