-- The rows of an accepted request after its TEIDs and its address were granted: their fields fit, and their words hold what the records get.
-- Assumes nothing.
use mathlib.Core.Path.{◌≡◌, refl, sym, ap, ap₂, ◌∙◌, subst}
use mathlib.Core.Bool.{Bool, true, false, not, ◌&&◌, ◌||◌, or-true}
use mathlib.Core.Option.{Option, none, some}
use mathlib.Core.List.{List, [], ◌∷◌, ◌++◌, map}
use Prim.Native.Nat.{ℕ, zero, suc, ◌+◌, ◌*◌, ◌≤◌}
use native.Mathlib.Omega.{arith}
use native.Mathlib.Nat.{suc-mul}
use lib.Dec.{T, eqb, ltb, leb, lt→ltb, ltb→lt, leb→le}
use lib.ListN.{length, drop, length-drop}
use lib.Seq.{length-take-le}
use Rattle.octets.specs.Choice.{pick, cons_option}
use Rattle.octets.specs.Octets.{be, bit, slices}
use Rattle.octets.specs.Lists.{all, any, keep, collect}
use Rattle.octets.specs.Rows.{has_tag}
use Rattle.octets.proofs.Tests.{and_left, both, all_head, all_tail, is_true}
use Rattle.octets.proofs.Ordered.{keep_passes}
use Rattle.octets.proofs.ListLaws.{Every, OnSome, map-map}
use Rattle.rules.specs.Model.{Tunnel, tunnel}
use Rattle.rules.specs.Elements.{given, choose, ue_given, ue_choose, ue_other, Fqcsid, sets, removal, node_type_kept, node_address_allowed, node_address_tests}
use Rattle.rules.specs.Request.{cleared, changed}
use Rattle.rules.specs.Grants.{Kind, of_pdr, of_endpoint, Got, Grant, granted_teid}
use Rattle.rules.specs.Apply.{tunnel_from, match_from, address_got, address_from, made_pdr, made_endpoint, pdr_by}
use Rattle.laws.proofs.RequestLaws.{PdrRead, EndpointRead, CsidsRead, RequestRead}
use Rattle.laws.proofs.ReadLaws.{CsidRead}
use Rattle.plan.specs.Rows.{word, tagged, present, fteid_from, row_fteid, ue_from, row_ue, row_local, row_pdr, row_endpoint, row_csid, row_address, is_null_row, request_in, rows_of, row_width}
use Rattle.rules.specs.Types as ie
use Rattle.plan.specs.Words as its
use Rattle.grants.specs.Choosing.{choosing, row_with}
use Rattle.grants.proofs.RequestLaws.{Alike}
use Rattle.grants.proofs.ReportLaws.{gets, row_got, alike_got_lem, address_word, address_got_lem}
use Rattle.grants.proofs.GrantLaws.{pdr_teid, endpoint_teid}
use Rattle.session.specs.Records.{if_is, row_match}
use Rattle.session.proofs.RowRecords.{pdr_of, endpoint_of}
use Rattle.session.proofs.Passes.{endpoint_row, pdr_row, sets_fit, csid_row}
use Rattle.changes.specs.Answers.{OnlyNull}
use Rattle.changes.proofs.Accepted.{RowsFit, GotStored}

-- ---- the fields fit

endpoint_fits_lem : (qs : List (List ℕ)) → T (all (has_tag ie.create_endpoint) qs) → Every EndpointRead (map row_endpoint qs) → T (all endpoint_row qs)
unfolding all endpoint_row
endpoint_fits_lem [] t h = tt
endpoint_fits_lem (q ∷ qs) t h =
    both (has_tag ie.create_endpoint q && ltb (word its.endpoint_id q) 256) (all endpoint_row qs)
    (both (has_tag ie.create_endpoint q) (ltb (word its.endpoint_id q) 256) (all_head (has_tag ie.create_endpoint) q qs t) (unfold row_endpoint in h.0.id))
    (endpoint_fits_lem qs (all_tail (has_tag ie.create_endpoint) q qs t) h.1)

-- an endpoint ID counts where the PDR names one
named_fits : (q : List ℕ) → OnSome (λ e. T (ltb e 256)) (present (word its.has_endpoint_id q) (word its.endpoint_id q)) → T (ltb (if_is (row_match q) 2 (word its.endpoint_id q)) 256)
unfolding present if_is row_match
named_fits q h = go (eqb (word its.flags q) 0) (eqb (word its.has_endpoint_id q) 1) h
  where
    go : (none? ep : Bool) → OnSome (λ e. T (ltb e 256)) (pick ep (some (word its.endpoint_id q)) none) → T (ltb (pick (eqb (pick none? (pick ep 2 0) 1) 2) (word its.endpoint_id q) 0) 256)
    go true true g = g
    go true false g = tt
    go false ep g = tt

source_fits : (n : ℕ) → T (ltb n 16) → T (ltb n 256)
source_fits n h = let l = ltb→lt n 16 h in lt→ltb n 256 (omega arith)

pdr_fits_lem : (qs : List (List ℕ)) → T (all (has_tag ie.create_pdr) qs) → Every PdrRead (map row_pdr qs) → T (all pdr_row qs)
unfolding all pdr_row
pdr_fits_lem [] t h = tt
pdr_fits_lem (q ∷ qs) t h =
    both (has_tag ie.create_pdr q && (ltb (word its.pdr_id q) 65536 && (ltb (word its.source q) 256 && ltb (if_is (row_match q) 2 (word its.endpoint_id q)) 256))) (all pdr_row qs)
    (both (has_tag ie.create_pdr q) (ltb (word its.pdr_id q) 65536 && (ltb (word its.source q) 256 && ltb (if_is (row_match q) 2 (word its.endpoint_id q)) 256)) (all_head (has_tag ie.create_pdr) q qs t)
    (both (ltb (word its.pdr_id q) 65536) (ltb (word its.source q) 256 && ltb (if_is (row_match q) 2 (word its.endpoint_id q)) 256) (unfold row_pdr in h.0.id)
    (both (ltb (word its.source q) 256) (ltb (if_is (row_match q) 2 (word its.endpoint_id q)) 256) (source_fits (word its.source q) (unfold row_pdr in h.0.source)) (named_fits q (unfold row_pdr in h.0.endpoint)))))
    (pdr_fits_lem qs (all_tail (has_tag ie.create_pdr) q qs t) h.1)

type_fits : (t : ℕ) (a : List ℕ) → T (node_address_allowed t a) → T (ltb t 256)
unfolding node_address_allowed node_address_tests
type_fits t a h = let l = leb→le t 2 (and_left (leb t 2) _ h) in lt→ltb t 256 (omega arith)

csid_fits_lem : (qs : List (List ℕ)) → T (all (has_tag ie.fqcsid) qs) → Every CsidRead (collect row_csid qs) → T (all csid_row qs)
unfolding all csid_row collect
csid_fits_lem [] t h = tt
csid_fits_lem (q ∷ qs) t h =
    both (has_tag ie.fqcsid q && (not (eqb (word its.verb q) 1) || sets_fit q)) (all csid_row qs)
    (both (has_tag ie.fqcsid q) (not (eqb (word its.verb q) 1) || sets_fit q) (all_head (has_tag ie.fqcsid) q qs t) (own h))
    (csid_fits_lem qs (all_tail (has_tag ie.fqcsid) q qs t) (rest (row_csid q) h))
  where
    rest : (o : Option Fqcsid) → Every CsidRead (cons_option o (collect row_csid qs)) → Every CsidRead (collect row_csid qs)
    rest none g = g
    rest (some v) g = g.1

    sets_ok : Every CsidRead (cons_option (some (sets (word its.id_type q) (row_address q) (word its.csid q ∷ []) (word its.node_type q))) (collect row_csid qs)) → T (sets_fit q)
    sets_ok g = unfold sets_fit node_type_kept in (both (ltb (word its.node_type q) 6) (ltb (word its.id_type q) 256) g.0.node (type_fits (word its.id_type q) (row_address q) g.0.address))

    own : Every CsidRead (cons_option (row_csid q) (collect row_csid qs)) → T (not (eqb (word its.verb q) 1) || sets_fit q)
    own g = unfold row_csid in (go (eqb (word its.verb q) 1) (eqb (word its.verb q) 2) g)
      where
        go : (a b : Bool) → Every CsidRead (cons_option (pick a (some (sets (word its.id_type q) (row_address q) (word its.csid q ∷ []) (word its.node_type q))) (pick b (some (removal (word its.node_type q))) none)) (collect row_csid qs)) → T (not a || sets_fit q)
        go true b g = sets_ok g
        go false b g = tt

tags : (t : ℕ) (rows : List (List ℕ)) → T (all (has_tag t) (tagged t rows))
unfolding tagged
tags t rows = keep_passes (has_tag t) rows

pub rows_fit : (seid : ℕ) (restoring noted : Bool) (rows : List (List ℕ)) → OnlyNull rows → RequestRead (request_in seid restoring noted rows) → RowsFit rows
unfolding request_in
rows_fit seid restoring noted rows only h =
    record {
      endpoint_rows = endpoint_fits_lem (tagged ie.create_endpoint rows) (tags ie.create_endpoint rows) h.endpoints;
      pdr_rows = pdr_fits_lem (tagged ie.create_pdr rows) (tags 1 rows) h.pdrs;
      csid_rows = csid_fits_lem (tagged ie.fqcsid rows) (tags 65 rows) (values (any is_null_row (tagged ie.fqcsid rows)) refl h.csids);
    }
  where
    values : (b : Bool) → any is_null_row (tagged ie.fqcsid rows) ≡ b → CsidsRead (pick b cleared (changed (collect row_csid (tagged ie.fqcsid rows)))) → Every CsidRead (collect row_csid (tagged ie.fqcsid rows))
    values true e g = subst (Every CsidRead) (sym (only e)) tt
    values false e g = g

-- ---- the TEID and address words

-- a tunnel's TEID is the chosen one only of a CHOOSE
same_tunnel : (f t a h l c n k : ℕ) → (bit 2 f ≡ true → n ≡ k) → tunnel_from n (fteid_from f t a h l c) ≡ tunnel_from k (fteid_from f t a h l c)
unfolding tunnel_from fteid_from
same_tunnel f t a h l c n k e = go (bit 2 f) e
  where
    go : (b : Bool) → (b ≡ true → n ≡ k)
        → tunnel_from n (pick b (choose (bit 0 f) (bit 1 f) (pick (bit 3 f) (some c) none)) (given t (pick (bit 0 f) (be 4 a) []) (pick (bit 1 f) (be 8 h ++ be 8 l) [])))
        ≡ tunnel_from k (pick b (choose (bit 0 f) (bit 1 f) (pick (bit 3 f) (some c) none)) (given t (pick (bit 0 f) (be 4 a) []) (pick (bit 1 f) (be 8 h ++ be 8 l) [])))
    go true g = unfold tunnel_from in (λ i. record { teid = g refl i; v4 = bit 0 f; v6 = bit 1 f })
    go false g = unfold tunnel_from in refl

tunnel_of_lem : (row : List ℕ) (n : ℕ) → (bit 2 (word its.flags row) ≡ true → n ≡ word its.teid row) → tunnel_from n (row_fteid row) ≡ tunnel_from (word its.teid row) (row_fteid row)
unfolding row_fteid
tunnel_of_lem row n e = same_tunnel (word its.flags row) (word its.teid row) (word its.ipv4 row) (word its.ipv6_high row) (word its.ipv6_low row) (word its.choose_id row) n (word its.teid row) e

-- and so is its address
address_of_lem : (row : List ℕ) (n : ℕ) → (eqb (word its.ue_kind row) 2 ≡ true → n ≡ word its.ue_address row) → address_from n (row_ue row) ≡ address_from (word its.ue_address row) (row_ue row)
unfolding row_ue ue_from
address_of_lem row n e = go (eqb (word its.ue_kind row) 0) (eqb (word its.ue_kind row) 1) (eqb (word its.ue_kind row) 2) e
  where
    go : (a b c : Bool) → (c ≡ true → n ≡ word its.ue_address row)
        → address_from n (pick a none (some (pick b (ue_given (word its.ue_address row)) (pick c ue_choose ue_other))))
        ≡ address_from (word its.ue_address row) (pick a none (some (pick b (ue_given (word its.ue_address row)) (pick c ue_choose ue_other))))
    go true b c g = unfold address_from in refl
    go false true c g = unfold address_from address_got in refl
    go false false true g = unfold address_from address_got in (ap (λ (k : ℕ). some k) (g refl))
    go false false false g = unfold address_from address_got in refl

endpoint_stored : (got : Kind → ℕ → Got) (row : List ℕ) → (bit 2 (word its.flags row) ≡ true → (got of_endpoint (word its.endpoint_id row)).teid ≡ word its.teid row)
    → (eqb (word its.ue_kind row) 2 ≡ true → (got of_endpoint (word its.endpoint_id row)).address ≡ word its.ue_address row) → made_endpoint got (row_endpoint row) ≡ endpoint_of row
unfolding made_endpoint endpoint_of row_endpoint
endpoint_stored got row e f =
    let local = tunnel_of_lem row (got of_endpoint (word its.endpoint_id row)).teid e in
    let address = address_of_lem row (got of_endpoint (word its.endpoint_id row)).address f in
    λ i. record { id = word its.endpoint_id row; local = local i; address = address i }

match_of : (row : List ℕ) (n : ℕ) → (bit 2 (word its.flags row) ≡ true → n ≡ word its.teid row) → (e : Option ℕ) → match_from n (row_local row) e ≡ match_from (word its.teid row) (row_local row) e
unfolding row_local match_from
match_of row n h e = go (eqb (word its.flags row) 0)
  where
    go : (b : Bool) → match_from n (pick b none (some (row_fteid row))) e ≡ match_from (word its.teid row) (pick b none (some (row_fteid row))) e
    go true = unfold match_from in refl
    go false = unfold match_from in (ap (λ (t : Tunnel). tunnel t) (tunnel_of_lem row n h))

pdr_stored : (got : Kind → ℕ → Got) (row : List ℕ) → (bit 2 (word its.flags row) ≡ true → (got of_pdr (word its.pdr_id row)).teid ≡ word its.teid row)
    → (eqb (word its.ue_kind row) 2 ≡ true → (got of_pdr (word its.pdr_id row)).address ≡ word its.ue_address row) → made_pdr got (row_pdr row) ≡ pdr_of row
unfolding made_pdr pdr_of row_pdr
pdr_stored got row e f =
    let matched = match_of row (got of_pdr (word its.pdr_id row)).teid e (present (word its.has_endpoint_id row) (word its.endpoint_id row)) in
    let address = address_of_lem row (got of_pdr (word its.pdr_id row)).address f in
    λ i. pdr_by (row_pdr row) (matched i) (address i)

-- a row that chooses holds its grant
chooses_as : (t : ℕ) (row : List ℕ) → T (has_tag t row) → bit 2 (word its.flags row) ≡ true → choosing t row ≡ true
unfolding choosing
chooses_as t row h e = ap₂ (λ (a b : Bool). a && b) (is_true (has_tag t row) h) e

either_tag : (row : List ℕ) → (T (has_tag ie.create_endpoint row) → (has_tag ie.create_endpoint row || has_tag ie.create_pdr row) ≡ true) × (T (has_tag ie.create_pdr row) → (has_tag ie.create_endpoint row || has_tag ie.create_pdr row) ≡ true)
either_tag row = (λ h. ap (λ (b : Bool). b || has_tag ie.create_pdr row) (is_true (has_tag ie.create_endpoint row) h), λ h. ap (λ (b : Bool). has_tag ie.create_endpoint row || b) (is_true (has_tag ie.create_pdr row) h) ∙ or-true (has_tag ie.create_endpoint row))

module _ (gs : List Grant) (a : ℕ) where
  abbrev with : List ℕ → List ℕ
  with row = row_got gs a row

  abbrev like : (row : List ℕ) → Alike (with row) row
  like row = alike_got_lem gs a row

  tag_with : (t : ℕ) (row : List ℕ) → has_tag t (with row) ≡ has_tag t row
  unfolding has_tag
  tag_with t row = ap (λ (n : ℕ). eqb n t) ((like row).words 0 (λ e. omega arith) (λ e. omega arith))

  flags_with : (row : List ℕ) → bit 2 (word its.flags (with row)) ≡ true → bit 2 (word its.flags row) ≡ true
  flags_with row e = ap (bit 2) (sym ((like row).words 12 (λ z. omega arith) (λ z. omega arith))) ∙ e

  ue_with : (row : List ℕ) → eqb (word its.ue_kind (with row)) 2 ≡ true → eqb (word its.ue_kind row) 2 ≡ true
  ue_with row e = ap (λ (n : ℕ). eqb n 2) (sym ((like row).words 18 (λ z. omega arith) (λ z. omega arith))) ∙ e

  -- the rows of a type after the grants
  rows_with : {A : Type 0} (f g : List ℕ → A) (t : ℕ) → ((row : List ℕ) → length row ≡ row_width → T (has_tag t row) → f (with row) ≡ g (with row))
      → (rows : List (List ℕ)) → Every (λ row. length row ≡ row_width) rows → map f (tagged t (map with rows)) ≡ map g (tagged t (map with rows))
  unfolding tagged keep
  rows_with f g t same [] h = refl
  rows_with {A} f g t same (row ∷ rows) h = go (has_tag t (with row)) refl (rows_with f g t same rows h.1)
    where
      go : (b : Bool) → has_tag t (with row) ≡ b → map f (keep (has_tag t) (map with rows)) ≡ map g (keep (has_tag t) (map with rows))
          → map f (pick b (with row ∷ keep (has_tag t) (map with rows)) (keep (has_tag t) (map with rows))) ≡ map g (pick b (with row ∷ keep (has_tag t) (map with rows)) (keep (has_tag t) (map with rows)))
      go true e ih = ap₂ (λ (a : A) (l : List A). a ∷ l) (same row h.0 (subst T (sym e ∙ tag_with t row) tt)) ih
      go false e ih = ih

  teid_word : (row : List ℕ) → word its.teid (with row) ≡ word its.teid (row_with gs row)
  teid_word row = address_word gs a (row_with gs row) 13 (λ z. omega arith)

  pub got_stored : (rows : List (List ℕ)) → Every (λ row. length row ≡ row_width) rows → GotStored (gets gs a) (map with rows)
  got_stored rows h =
      record {
        endpoint_got =
            map-map row_endpoint (made_endpoint (gets gs a)) (tagged ie.create_endpoint (map with rows))
            ∙ rows_with (λ row. made_endpoint (gets gs a) (row_endpoint row)) endpoint_of ie.create_endpoint
            (λ row l t. endpoint_stored (gets gs a) (with row)
            (λ e. ap (granted_teid gs of_endpoint) ((like row).words 11 (λ z. omega arith) (λ z. omega arith))
            ∙ sym (teid_word row ∙ endpoint_teid gs row l (chooses_as ie.create_endpoint row t (flags_with row e))))
            (λ e. sym (address_got_lem gs a row l ((either_tag row).0 t) (ue_with row e)))) rows h;
        pdr_got =
            map-map row_pdr (made_pdr (gets gs a)) (tagged ie.create_pdr (map with rows))
            ∙ rows_with (λ row. made_pdr (gets gs a) (row_pdr row)) pdr_of ie.create_pdr
            (λ row l t. pdr_stored (gets gs a) (with row)
            (λ e. ap (granted_teid gs of_pdr) ((like row).words 7 (λ z. omega arith) (λ z. omega arith))
            ∙ sym (teid_word row ∙ pdr_teid gs row l (chooses_as ie.create_pdr row t (flags_with row e))))
            (λ e. sym (address_got_lem gs a row l ((either_tag row).1 t) (ue_with row e)))) rows h;
      }

-- the rows of a plan that holds them are whole
pub whole_rows : (n : ℕ) (plan : List ℕ) → n * row_width ≤ length plan → Every (λ row. length row ≡ row_width) (rows_of n plan)
unfolding slices
whole_rows zero plan h = tt
whole_rows (suc n) plan h =
    let e : suc n * row_width ≡ n * row_width + row_width = suc-mul n row_width in
    (length-take-le row_width plan (omega arith), whole_rows n (drop row_width plan) (rw length-drop (omega arith)))
