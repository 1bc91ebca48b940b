-- What a pass over the rows of one type makes of a slot that holds a session: the session with those records taken out, put in or changed.
-- Assumes nothing.
use Rattle.std.specs.Prelude.{Result, Ok, Err}
use mathlib.Core.Path.{◌≡◌, refl, sym, ap, ◌∙◌, subst}
use mathlib.Core.Bool.{Bool, true, false, not, ◌&&◌, ◌||◌}
use mathlib.Core.Option.{none, some}
use mathlib.Core.List.{List, [], ◌∷◌, ◌++◌, map}
use Prim.Native.Nat.{ℕ, ◌+◌, ◌*◌, ◌≤◌}
use native.Mathlib.Omega.{arith}
use lib.Dec.{T, eqb, ltb, leb, eqb→eq, ltb→lt, lt→ltb, le→leb}
use lib.ListN.{length, get_or, length-map}
use Rattle.octets.specs.Choice.{pick}
use Rattle.octets.specs.Octets.{be, part}
use Rattle.octets.specs.Lists.{all, ascending, keep, find_by, insert_by}
use Rattle.octets.specs.Rows.{has_tag}
use Rattle.octets.proofs.Tests.{and_left, and_right, both, all_head, all_tail, is_true, is_false, pick_either}
use Rattle.rules.specs.Model.{Pdr, Endpoint, Csid, Session, pdr_id, endpoint_id, node_type_of}
use Rattle.rules.specs.Layout.{pdr_octets, endpoint_octets, csid_octets, pdr_width, view_pdr}
use Rattle.plan.specs.Rows.{word, tagged, row_endpoint_id, row_pdr, row_endpoint, row_change, row_address}
use Rattle.rules.specs.Apply.{made_pdr, made_endpoint, or_old, changed_pdr, update_all, pdr_with}
use Rattle.rules.specs.Types as ie
use Rattle.plan.specs.Words as its
use Rattle.areas.specs.Records.{lookup}
use Rattle.areas.proofs.Places.{other_than, found_within, found_record, absent_record}
use Rattle.areas.specs.Counted.{area_in, replaced_in, at_place, with_record, without_record, cleared_in}
use Rattle.areas.proofs.Held.{place_held, record_held, with_passes, with_up, with_held, without_held, cleared_held, changed_held}
use Rattle.session.specs.Areas.{area_of_pdrs, area_of_endpoints, area_of_csids}
use Rattle.session.specs.Records.{if_is, row_match, csid_record, updated_record}
use Rattle.session.specs.Build.{without_pdrs, updated_at, updated_pdr, followed_csid, row_applied, passed}
use Rattle.session.proofs.Steps.{row_130, row_127, row_1, row_9, row_65}
use Rattle.session.proofs.RowRecords.{pdr_of, pdr_record_lem, endpoint_of, endpoint_record_lem, csid_of, csid_record_lem}
use Rattle.session.proofs.Slot.{Slot, HeldPdrs, pdr_pre, pdr_mid, pdr_post, pdr_fits, endpoint_fits, csid_fits, pdr_good, endpoint_good, csid_good, held_pdrs, held_endpoints, held_csids, with_pdrs, with_endpoints, with_csids}
use Rattle.session.proofs.UpdateRecords.{changed, record_changed}
use Rattle.session.proofs.InTurn.{take_out, put_in, put_long, no_more}

-- ---- a pass goes over the rows of its type alone

unfoldable pub applied : List (List ℕ) → List ℕ → List ℕ
applied [] s = s
applied (row ∷ rows) s = applied rows (row_applied row s)

pub pass_tagged : (t : ℕ) (rows : List (List ℕ)) (s : List ℕ) → passed t rows s ≡ applied (tagged t rows) s
unfolding passed tagged keep applied
pass_tagged t [] s = refl
pass_tagged t (row ∷ rows) s = go (has_tag t row) (pass_tagged t rows)
  where
    go : (b : Bool) → ((s : List ℕ) → passed t rows s ≡ applied (keep (has_tag t) rows) s)
        → passed t rows (pick b (row_applied row s) s) ≡ applied (pick b (row ∷ keep (has_tag t) rows) (keep (has_tag t) rows)) s
    go true ih = ih (row_applied row s)
    go false ih = ih s

tag_is : (t : ℕ) (row : List ℕ) → T (has_tag t row) → word its.tag row ≡ t
unfolding has_tag
tag_is t row h = eqb→eq (word its.tag row) t h

-- ---- a session with other records of one kind

abbrev pub set_pdrs : Session → List Pdr → Session
set_pdrs x ps = record { peer = x.peer; seid = x.seid; pdrs = ps; endpoints = x.endpoints; csids = x.csids }

abbrev pub set_endpoints : Session → List Endpoint → Session
set_endpoints x es = record { peer = x.peer; seid = x.seid; pdrs = x.pdrs; endpoints = es; csids = x.csids }

abbrev pub set_csids_of : Session → List Csid → Session
set_csids_of x cs = record { peer = x.peer; seid = x.seid; pdrs = x.pdrs; endpoints = x.endpoints; csids = cs }

-- a slot's octets said otherwise
same_slot : {x : Session} {s t : List ℕ} → s ≡ t → Slot x s → Slot x t
same_slot {x} e h = subst (λ (l : List ℕ). Slot x l) e h

-- ---- removals

pub pdrs_out : (is : List ℕ) {x : Session} {s : List ℕ} → Slot x s → Slot (set_pdrs x (take_out pdr_id is x.pdrs)) (without_pdrs is s)
unfolding without_pdrs take_out
pdrs_out [] h = h
pdrs_out (i ∷ is) h = pdrs_out is (with_pdrs h (without_held pdr_octets pdr_id area_of_pdrs pdr_fits pdr_good (held_pdrs h) i))

pub endpoints_out : (qs : List (List ℕ)) → T (all (has_tag ie.remove_endpoint) qs) → {x : Session} {s : List ℕ} → Slot x s → Slot (set_endpoints x (take_out endpoint_id (map row_endpoint_id qs) x.endpoints)) (applied qs s)
unfolding applied take_out
endpoints_out [] t h = h
endpoints_out (row ∷ qs) t {x} {s} h =
    let one : Slot (set_endpoints x (keep (other_than endpoint_id (word its.endpoint_id row)) x.endpoints)) (without_record area_of_endpoints (word its.endpoint_id row) s)
    = with_endpoints h (without_held endpoint_octets endpoint_id area_of_endpoints endpoint_fits endpoint_good (held_endpoints h) (word its.endpoint_id row)) in
    endpoints_out qs (all_tail (has_tag ie.remove_endpoint) row qs t) (same_slot (row_130 row s (without_record area_of_endpoints (word its.endpoint_id row) s) area_of_endpoints refl (tag_is ie.remove_endpoint row (all_head (has_tag ie.remove_endpoint) row qs t)) refl) one)

-- ---- endpoints and PDRs put in

-- what the reading gives of a row that creates an endpoint, and a PDR
unfoldable pub endpoint_row : List ℕ → Bool
endpoint_row row = has_tag ie.create_endpoint row && ltb (word its.endpoint_id row) 256

unfoldable pub pdr_row : List ℕ → Bool
pdr_row row = has_tag ie.create_pdr row && (ltb (word its.pdr_id row) 65536 && (ltb (word its.source row) 256 && ltb (if_is (row_match row) 2 (word its.endpoint_id row)) 256))

pub endpoints_in : (qs : List (List ℕ)) → T (all endpoint_row qs) → {x : Session} {s : List ℕ} → length x.endpoints + length qs ≤ 8 → Slot x s
    → Slot (set_endpoints x (put_in endpoint_id (map endpoint_of qs) x.endpoints)) (applied qs s)
unfolding applied put_in endpoint_row
endpoints_in [] t room h = h
endpoints_in (row ∷ qs) t {x} {s} room h =
    let q = all_head endpoint_row row qs t in
    let tag = tag_is ie.create_endpoint row (and_left (has_tag ie.create_endpoint row) (ltb (word its.endpoint_id row) 256) q) in
    let small = ltb→lt (word its.endpoint_id row) 256 (and_right (has_tag ie.create_endpoint row) (ltb (word its.endpoint_id row) 256) q) in
    let e = endpoint_of row in
    let long = put_long endpoint_id e x.endpoints in
    let fits : T (endpoint_fits e) = unfold endpoint_of made_endpoint row_endpoint in (lt→ltb (word its.endpoint_id row) 256 small) in
    let one : Slot (set_endpoints x (insert_by endpoint_id e (keep (other_than endpoint_id e.id) x.endpoints))) (with_record area_of_endpoints (endpoint_octets e) s)
    = with_endpoints h (with_held endpoint_octets endpoint_id area_of_endpoints endpoint_fits endpoint_good (held_endpoints h) e fits (omega arith)) in
    endpoints_in qs (all_tail endpoint_row row qs t) (omega arith)
    (same_slot (row_127 row s (with_record area_of_endpoints (endpoint_octets e) s) (endpoint_octets e) tag (sym (endpoint_record_lem row)) refl) one)

pub pdrs_in : (qs : List (List ℕ)) → T (all pdr_row qs) → {x : Session} {s : List ℕ} → length x.pdrs + length qs ≤ 16 → Slot x s
    → Slot (set_pdrs x (put_in pdr_id (map pdr_of qs) x.pdrs)) (applied qs s)
unfolding applied put_in pdr_row
pdrs_in [] t room h = h
pdrs_in (row ∷ qs) t {x} {s} room h =
    let q = all_head pdr_row row qs t in
    let tag = tag_is ie.create_pdr row (and_left (has_tag ie.create_pdr row) (ltb (word its.pdr_id row) 65536 && (ltb (word its.source row) 256 && ltb (if_is (row_match row) 2 (word its.endpoint_id row)) 256)) q) in
    let k = and_right (has_tag ie.create_pdr row) (ltb (word its.pdr_id row) 65536 && (ltb (word its.source row) 256 && ltb (if_is (row_match row) 2 (word its.endpoint_id row)) 256)) q in
    let kid = and_left (ltb (word its.pdr_id row) 65536) (ltb (word its.source row) 256 && ltb (if_is (row_match row) 2 (word its.endpoint_id row)) 256) k in
    let p = pdr_of row in
    let long = put_long pdr_id p x.pdrs in
    let fits : T (pdr_fits p) = unfold pdr_of made_pdr row_pdr in kid in
    let one : Slot (set_pdrs x (insert_by pdr_id p (keep (other_than pdr_id p.id) x.pdrs))) (with_record area_of_pdrs (pdr_octets p) s)
    = with_pdrs h (with_held pdr_octets pdr_id area_of_pdrs pdr_fits pdr_good (held_pdrs h) p fits (omega arith)) in
    pdrs_in qs (all_tail pdr_row row qs t) (omega arith)
    (same_slot (row_1 row s (with_record area_of_pdrs (pdr_octets p) s) (pdr_octets p) tag (sym (pdr_record_lem row)) refl) one)

-- ---- updates

find_some : {A : Type 0} (q : A → Bool) (rs : List A) (r : A) → find_by q rs ≡ some r → T (q r)
unfolding find_by
find_some q [] r e = absurd (let z : ◌≡◌ {A = ℕ} 0 1 = cc in omega arith)
find_some {A} q (y ∷ rs) r e = go (q y) refl e (λ h. find_some q rs r h)
  where
    go : (b : Bool) → q y ≡ b → pick b (some y) (find_by q rs) ≡ some r → (find_by q rs ≡ some r → T (q r)) → T (q r)
    go true t e k = let s : y ≡ r = cc in subst (λ (z : A). T (q z)) s (subst T (sym t) tt)
    go false t e k = k e

-- a PDR with another ID is not changed, and a change keeps the ID
update_other : (row : List ℕ) (p : Pdr) → T (other_than pdr_id (word its.pdr_id row) p) → changed_pdr (row_change row) p ≡ p
unfolding changed_pdr row_change
update_other row p h = rw (is_false (eqb p.id (word its.pdr_id row)) h)

update_own : (row : List ℕ) (p : Pdr) → T (eqb p.id (word its.pdr_id row)) → changed_pdr (row_change row) p ≡ changed row p
unfolding changed_pdr row_change changed
update_own row p h = rw (is_true (eqb p.id (word its.pdr_id row)) h)

update_id : (row : List ℕ) (p : Pdr) → pdr_id (changed_pdr (row_change row) p) ≡ pdr_id p
unfolding changed_pdr
update_id row p = go (eqb p.id (row_change row).id)
  where
    go : (b : Bool) → pdr_id (pick {X = Pdr} b (pdr_with (or_old p.precedence (row_change row).precedence) (or_old p.far (row_change row).far) p) p) ≡ p.id
    go true = refl
    go false = refl

update_none : (row : List ℕ) (ps : List Pdr) → find_by (λ p. eqb (pdr_id p) (word its.pdr_id row)) ps ≡ none → map (changed_pdr (row_change row)) ps ≡ ps
unfolding find_by
update_none row [] e = refl
update_none row (p ∷ ps) e = go (eqb p.id (word its.pdr_id row)) refl e (λ h. update_none row ps h)
  where
    go : (b : Bool) → eqb p.id (word its.pdr_id row) ≡ b → pick b (some p) (find_by (λ p. eqb (pdr_id p) (word its.pdr_id row)) ps) ≡ none
        → (find_by (λ p. eqb (pdr_id p) (word its.pdr_id row)) ps ≡ none → map (changed_pdr (row_change row)) ps ≡ ps) → map (changed_pdr (row_change row)) (p ∷ ps) ≡ p ∷ ps
    go true t e k = absurd (let z : ◌≡◌ {A = ℕ} 0 1 = cc in omega arith)
    go false t e k = λ i. update_other row p (subst (λ (b : Bool). T (not b)) (sym t) tt) i ∷ k e i

updated_by : (row : List ℕ) (n : ℕ) (s v : List ℕ) → updated_record row (part (n * pdr_width) pdr_width (area_in area_of_pdrs s)) ≡ v → updated_at row n s ≡ replaced_in area_of_pdrs n v s
unfolding updated_at
updated_by row n s v e = ap (λ (u : List ℕ). replaced_in area_of_pdrs n u s) e

one_update : (row : List ℕ) {x : Session} {s : List ℕ} → Slot x s → Slot (set_pdrs x (map (changed_pdr (row_change row)) x.pdrs)) (updated_pdr row s)
unfolding updated_pdr
one_update row {x} {s} h =
    subst (λ (q : Result ℕ ℕ). Slot (set_pdrs x (map (changed_pdr (row_change row)) x.pdrs)) (at_place q (λ p. updated_at row p s) (λ p. s)))
    (sym (place_held pdr_octets pdr_id area_of_pdrs pdr_fits pdr_good k (word its.pdr_id row))) (go (lookup (word its.pdr_id row) (map pdr_id x.pdrs)) refl)
  where
    k : HeldPdrs (pdr_pre x.peer x.seid x.pdrs x.endpoints x.csids) (pdr_mid x.peer x.seid x.pdrs x.endpoints x.csids) (pdr_post x.peer x.seid x.pdrs x.endpoints x.csids) x.pdrs s
    k = held_pdrs h

    d : Pdr
    d = view_pdr []

    go : (q : Result ℕ ℕ) → lookup (word its.pdr_id row) (map pdr_id x.pdrs) ≡ q → Slot (set_pdrs x (map (changed_pdr (row_change row)) x.pdrs)) (at_place q (λ p. updated_at row p s) (λ p. s))
    go (Ok n) e =
        let r : Pdr = get_or x.pdrs n d in
        let own : T (eqb (pdr_id r) (word its.pdr_id row)) = find_some (λ p. eqb (pdr_id p) (word its.pdr_id row)) x.pdrs r (found_record pdr_id (word its.pdr_id row) n x.pdrs d e) in
        let new : updated_record row (part (n * pdr_width) pdr_width (area_in area_of_pdrs s)) ≡ pdr_octets (changed_pdr (row_change row) r)
        = ap (updated_record row) (record_held pdr_octets pdr_id area_of_pdrs pdr_fits pdr_good k d n (found_within pdr_id (word its.pdr_id row) n x.pdrs e))
        ∙ record_changed row r ∙ ap pdr_octets (sym (update_own row r own)) in
        same_slot (sym (updated_by row n s (pdr_octets (changed_pdr (row_change row) r)) new))
        (with_pdrs h
        (changed_held pdr_octets pdr_id area_of_pdrs pdr_fits pdr_good k d (word its.pdr_id row) n (changed_pdr (row_change row)) (update_other row)
        (λ r fits. subst (λ (i : ℕ). T (ltb i 65536)) (sym (update_id row r)) fits) (update_id row) e))
    go (Err n) e =
        subst (λ (ps : List Pdr). Slot (set_pdrs x ps) s)
        (sym (update_none row x.pdrs (absent_record pdr_id (word its.pdr_id row) n x.pdrs h.pdrs_up e))) h

pub pdrs_updated : (qs : List (List ℕ)) → T (all (has_tag ie.update_pdr) qs) → {x : Session} {s : List ℕ} → Slot x s → Slot (set_pdrs x (update_all (map row_change qs) x.pdrs)) (applied qs s)
unfolding applied update_all
pdrs_updated [] t h = h
pdrs_updated (row ∷ qs) t {x} {s} h =
    pdrs_updated qs (all_tail (has_tag ie.update_pdr) row qs t) (same_slot (row_9 row s (updated_pdr row s) (tag_is ie.update_pdr row (all_head (has_tag ie.update_pdr) row qs t)) refl) (one_update row h))

-- ---- FQ-CSIDs

-- one that sets a node type's has a node type that is kept, and a Node-ID type of one octet
unfoldable pub sets_fit : List ℕ → Bool
sets_fit row = ltb (word its.node_type row) 6 && ltb (word its.id_type row) 256

unfoldable pub csid_row : List ℕ → Bool
csid_row row = has_tag ie.fqcsid row && (not (eqb (word its.verb row) 1) || sets_fit row)

-- what one row makes of the FQ-CSIDs, and what rows make of them in turn
unfoldable pub csid_step : List ℕ → List Csid → List Csid
csid_step row cs =
    pick (eqb (word its.verb row) 1) (insert_by node_type_of (csid_of row) (keep (other_than node_type_of (word its.node_type row)) cs))
    (pick (eqb (word its.verb row) 2) (keep (other_than node_type_of (word its.node_type row)) cs) (pick (eqb (word its.verb row) 3) [] cs))

unfoldable pub csids_from : List (List ℕ) → List Csid → List Csid
csids_from [] cs = cs
csids_from (row ∷ rows) cs = csids_from rows (csid_step row cs)

address_short : (row : List ℕ) → length (row_address row) ≤ 16
unfolding row_address
address_short row = pick_either (λ (l : List ℕ). length l ≤ 16) (eqb (word its.id_type row) 1) (be 8 (word its.address_high row) ++ be 8 (word its.address_low row)) (be 4 (word its.address_low row))
    (unfold be in (omega arith)) (unfold be in (omega arith))

node_types_lem : (cs : List Csid) → T (all csid_fits cs) → T (all (λ n. ltb n 6) (map node_type_of cs))
unfolding all
node_types_lem [] h = tt
node_types_lem (c ∷ cs) h =
    both (ltb c.node_type 6) (all (λ n. ltb n 6) (map node_type_of cs)) (and_left (ltb c.node_type 6) (leb (length c.address) 16) (all_head csid_fits c cs h))
    (node_types_lem cs (all_tail csid_fits c cs h))

few_csids_lem : (cs : List Csid) → T (all csid_fits cs) → T (ascending (map node_type_of cs)) → length cs ≤ 6
few_csids_lem cs h up = subst (λ (n : ℕ). n ≤ 6) (length-map cs node_type_of) (no_more 6 (map node_type_of cs) up (node_types_lem cs h))

csid_fits_lem : (row : List ℕ) → T (sets_fit row) → T (csid_fits (csid_of row))
unfolding sets_fit csid_of
csid_fits_lem row h =
    both (ltb (word its.node_type row) 6) (leb (length (row_address row)) 16) (and_left (ltb (word its.node_type row) 6) (ltb (word its.id_type row) 256) h)
    (le→leb (length (row_address row)) 16 (address_short row))

csid_tag : (row : List ℕ) → T (csid_row row) → T (has_tag ie.fqcsid row)
unfolding csid_row
csid_tag row h = and_left (has_tag ie.fqcsid row) (not (eqb (word its.verb row) 1) || sets_fit row) h

sets_fit_lem : (row : List ℕ) → T (csid_row row) → eqb (word its.verb row) 1 ≡ true → T (sets_fit row)
unfolding csid_row
sets_fit_lem row h e = subst (λ (b : Bool). T (not b || sets_fit row)) e (and_right (has_tag ie.fqcsid row) (not (eqb (word its.verb row) 1) || sets_fit row) h)

one_csid : (row : List ℕ) → T (csid_row row) → {x : Session} {s : List ℕ} → Slot x s → Slot (set_csids_of x (csid_step row x.csids)) (followed_csid row s)
unfolding csid_step followed_csid csid_of
one_csid row t {x} {s} h = go (eqb (word its.verb row) 1) refl (eqb (word its.verb row) 2) (eqb (word its.verb row) 3)
  where
    with : List Csid
    with = insert_by node_type_of (csid_of row) (keep (other_than node_type_of (word its.node_type row)) x.csids)

    set : T (sets_fit row) → Slot (set_csids_of x with) (with_record area_of_csids (csid_record row) s)
    set ok' =
        let k = held_csids h in
        let fits : T (csid_fits (csid_of row)) = csid_fits_lem row ok' in
        let up = with_up csid_octets node_type_of area_of_csids csid_fits csid_good k (csid_of row) fits in
        let ok = with_passes csid_octets node_type_of area_of_csids csid_fits csid_good k (csid_of row) fits in
        let few = few_csids_lem (insert_by node_type_of (csid_of row) (keep (other_than node_type_of (node_type_of (csid_of row))) x.csids)) ok up in
        same_slot (ap (λ (v : List ℕ). with_record area_of_csids v s) (sym (csid_record_lem row)))
        (with_csids h (with_held csid_octets node_type_of area_of_csids csid_fits csid_good k (csid_of row) fits few))

    go : (a : Bool) → eqb (word its.verb row) 1 ≡ a → (b d : Bool)
        → Slot (set_csids_of x (pick a with (pick b (keep (other_than node_type_of (word its.node_type row)) x.csids) (pick d [] x.csids))))
        (pick a (with_record area_of_csids (csid_record row) s) (pick b (without_record area_of_csids (word its.node_type row) s) (pick d (cleared_in area_of_csids s) s)))
    go true e b d = set (sets_fit_lem row t e)
    go false e true d = with_csids h (without_held csid_octets node_type_of area_of_csids csid_fits csid_good (held_csids h) (word its.node_type row))
    go false e false true = with_csids h (cleared_held csid_octets node_type_of area_of_csids csid_fits csid_good (held_csids h))
    go false e false false = h

pub csids_followed : (qs : List (List ℕ)) → T (all csid_row qs) → {x : Session} {s : List ℕ} → Slot x s → Slot (set_csids_of x (csids_from qs x.csids)) (applied qs s)
unfolding applied csids_from
csids_followed [] t h = h
csids_followed (row ∷ qs) t {x} {s} h =
    let q = all_head csid_row row qs t in
    let tag : word its.tag row ≡ ie.fqcsid = tag_is ie.fqcsid row (csid_tag row q) in
    csids_followed qs (all_tail csid_row row qs t) (same_slot (row_65 row s (followed_csid row s) tag refl) (one_csid row q h))
