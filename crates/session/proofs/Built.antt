-- The session that a plan builds is the rules' session.
-- Assumes nothing.
use mathlib.Core.Path.{◌≡◌, refl, sym, ap, ◌∙◌, subst}
use mathlib.Core.Bool.{Bool, true, false, true≢false, not, ◌||◌}
use mathlib.Core.Option.{Option, none, some}
use mathlib.Core.List.{List, [], ◌∷◌, map}
use Prim.Native.Nat.{ℕ, ◌+◌, ◌≤◌}
use native.Mathlib.Omega.{arith}
use lib.Dec.{T, eqb}
use lib.ListN.{length}
use Rattle.octets.specs.Choice.{pick, cons_option}
use Rattle.octets.specs.Lists.{any_in, has_repeat, all, any, keep, insert_by, insert_all, collect}
use Rattle.octets.specs.Rows.{has_tag}
use Rattle.octets.proofs.Ordered.{keep_passes}
use Rattle.rules.specs.Model.{Pdr, Endpoint, Csid, Session, pdr_id, endpoint_id, node_type_of}
use Rattle.rules.specs.Elements.{Fqcsid, sets, removal}
use Rattle.rules.specs.Request.{cleared, changed}
use Rattle.rules.specs.Grants.{Kind, Got}
use Rattle.rules.specs.Stages.{removed_pdrs}
use Rattle.rules.specs.Apply.{made_pdr, made_endpoint, update_all, other_node, set_csid, set_csids, follow_csids, kept_pdr, kept_endpoint, pdrs_after, endpoints_after, apply}
use Rattle.plan.specs.Rows.{word, tagged, row_endpoint_id, row_pdr, row_endpoint, row_change, row_address, row_csid, is_null_row, request_in}
use Rattle.rules.specs.Types as ie
use Rattle.plan.specs.Words as its
use Rattle.areas.proofs.Places.{other_than}
use Rattle.session.specs.Build.{without_pdrs, passed, built}
use Rattle.session.proofs.RowRecords.{pdr_of, endpoint_of, csid_of}
use Rattle.session.proofs.Slot.{Slot}
use Rattle.session.proofs.InTurn.{take_out, take_out_lem, put_in, put_in_lem, none_of_kept}
use Rattle.session.proofs.Passes.{applied, pass_tagged, set_pdrs, set_endpoints, endpoint_row, pdr_row, csid_row, csid_step, csids_from, pdrs_out, endpoints_out, endpoints_in, pdrs_in, pdrs_updated, csids_followed}

tagged_tags : (t : ℕ) (rows : List (List ℕ)) → T (all (has_tag t) (tagged t rows))
unfolding tagged
tagged_tags t rows = keep_passes (has_tag t) rows

or_left : (a b : Bool) → (a || b) ≡ false → a ≡ false
or_left true b e = e
or_left false b e = refl

or_right : (a b : Bool) → (a || b) ≡ false → b ≡ false
or_right true b e = absurd (let z : ◌≡◌ {A = Bool} true false = e in true≢false z)
or_right false b e = e

-- ---- FQ-CSIDs in turn

-- what a row makes of the FQ-CSIDs, by the value that it has, if any
unfoldable by_value : Option Fqcsid → Bool → List Csid → List Csid
by_value none null cs = pick null [] cs
by_value (some v) null cs = set_csid v cs

step_by : (row : List ℕ) (cs : List Csid) → csid_step row cs ≡ by_value (row_csid row) (is_null_row row) cs
unfolding row_csid csid_step is_null_row
step_by row cs = go (eqb (word its.verb row) 1) (eqb (word its.verb row) 2)
  where
    go : (a b : Bool)
        → pick a (insert_by node_type_of (csid_of row) (keep (other_than node_type_of (word its.node_type row)) cs)) (pick b (keep (other_than node_type_of (word its.node_type row)) cs) (pick (eqb (word its.verb row) 3) [] cs))
        ≡ by_value (pick a (some (sets (word its.id_type row) (row_address row) (word its.csid row ∷ []) (word its.node_type row))) (pick b (some (removal (word its.node_type row))) none)) (eqb (word its.verb row) 3) cs
    go true b = unfold by_value set_csid csid_of other_node in refl
    go false true = unfold by_value set_csid other_node in refl
    go false false = unfold by_value in refl

-- rows of which none is null set and remove in turn
all_values : (rows : List (List ℕ)) (cs : List Csid) → any is_null_row rows ≡ false → csids_from rows cs ≡ set_csids (collect row_csid rows) cs
unfolding csids_from set_csids collect any
all_values [] cs e = refl
all_values (row ∷ rows) cs e =
    let n : is_null_row row ≡ false = or_left (is_null_row row) (any is_null_row rows) e in
    let m : any is_null_row rows ≡ false = or_right (is_null_row row) (any is_null_row rows) e in
    ap (csids_from rows) (step_by row cs ∙ ap (λ (b : Bool). by_value (row_csid row) b cs) n) ∙ go (row_csid row) (λ ds. all_values rows ds m)
  where
    go : (o : Option Fqcsid) → ((ds : List Csid) → csids_from rows ds ≡ set_csids (collect row_csid rows) ds)
        → csids_from rows (by_value o false cs) ≡ set_csids (cons_option o (collect row_csid rows)) cs
    go none ih = unfold by_value in (ih cs)
    go (some v) ih = unfold by_value in (ih (set_csid v cs))

-- rows without a value do nothing, or remove all
no_values : (rows : List (List ℕ)) (cs : List Csid) → collect row_csid rows ≡ [] → csids_from rows cs ≡ pick (any is_null_row rows) [] cs
unfolding csids_from collect any
no_values [] cs e = refl
no_values (row ∷ rows) cs e = ap (csids_from rows) (step_by row cs) ∙ go (row_csid row) (is_null_row row) e (λ ds h. no_values rows ds h)
  where
    twice : (a b : Bool) → pick b [] (pick a [] cs) ≡ pick (a || b) [] cs
    twice true true = refl
    twice true false = refl
    twice false b = refl

    go : (o : Option Fqcsid) (b : Bool) → cons_option o (collect row_csid rows) ≡ [] → ((ds : List Csid) → collect row_csid rows ≡ [] → csids_from rows ds ≡ pick (any is_null_row rows) [] ds)
        → csids_from rows (by_value o b cs) ≡ pick (b || any is_null_row rows) [] cs
    go none b h ih = unfold by_value in (ih (pick b [] cs) h ∙ twice b (any is_null_row rows))
    go (some v) b h ih = absurd (let z : ◌≡◌ {A = ℕ} 0 1 = cc in omega arith)

csids_in_turn : (rows : List (List ℕ)) (cs : List Csid) → (any is_null_row rows ≡ true → collect row_csid rows ≡ [])
    → csids_from rows cs ≡ follow_csids (pick (any is_null_row rows) cleared (changed (collect row_csid rows))) cs
csids_in_turn rows cs only = go (any is_null_row rows) refl
  where
    go : (b : Bool) → any is_null_row rows ≡ b → csids_from rows cs ≡ follow_csids (pick b cleared (changed (collect row_csid rows))) cs
    go true e = unfold follow_csids in (no_values rows cs (only e) ∙ ap (λ (b : Bool). pick b [] cs) e)
    go false e = unfold follow_csids in (all_values rows cs e)

-- ---- the session

-- what the stages before have found of the rows and the session at entry, and what was granted
pub record Ready (got : Kind → ℕ → Got) (gone : List ℕ) (rows : List (List ℕ)) (x : Session) : Type 0 where
  pub endpoint_rows : T (all endpoint_row (tagged ie.create_endpoint rows))
  pub pdr_rows : T (all pdr_row (tagged ie.create_pdr rows))
  pub csid_rows : T (all csid_row (tagged ie.fqcsid rows))
  pub endpoint_room : length (keep (kept_endpoint (map row_endpoint_id (tagged ie.remove_endpoint rows))) x.endpoints) + length (tagged ie.create_endpoint rows) ≤ 8
  pub pdr_room : length (keep (kept_pdr gone) x.pdrs) + length (tagged ie.create_pdr rows) ≤ 16
  pub endpoints_once : T (not (has_repeat (map endpoint_id (map endpoint_of (tagged ie.create_endpoint rows)))))
  pub endpoints_new : T (not (any_in (map endpoint_id (map endpoint_of (tagged ie.create_endpoint rows))) (map endpoint_id x.endpoints)))
  pub pdrs_once : T (not (has_repeat (map pdr_id (map pdr_of (tagged ie.create_pdr rows)))))
  pub pdrs_new : T (not (any_in (map pdr_id (map pdr_of (tagged ie.create_pdr rows))) (map pdr_id x.pdrs)))
  pub endpoint_got : map (made_endpoint got) (map row_endpoint (tagged ie.create_endpoint rows)) ≡ map endpoint_of (tagged ie.create_endpoint rows)
  pub pdr_got : map (made_pdr got) (map row_pdr (tagged ie.create_pdr rows)) ≡ map pdr_of (tagged ie.create_pdr rows)
  pub only_null : any is_null_row (tagged ie.fqcsid rows) ≡ true → collect row_csid (tagged ie.fqcsid rows) ≡ []

module _ (got : Kind → ℕ → Got) (gone : List ℕ) (rows : List (List ℕ)) {x : Session} {s : List ℕ} (h : Slot x s) (k : Ready got gone rows x) where
  abbrev q : ℕ → List (List ℕ)
  q t = tagged t rows

  abbrev kept_ps : List Pdr
  kept_ps = keep (kept_pdr gone) x.pdrs

  abbrev kept_es : List Endpoint
  kept_es = keep (kept_endpoint (map row_endpoint_id (q ie.remove_endpoint))) x.endpoints

  -- a pass, by the rows of its type
  by_pass : (t : ℕ) (u : List ℕ) {y : Session} → Slot y (applied (q t) u) → Slot y (passed t rows u)
  by_pass t u {y} g = subst (λ (l : List ℕ). Slot y l) (sym (pass_tagged t rows u)) g

  kept_pdrs : take_out pdr_id gone x.pdrs ≡ kept_ps
  unfolding kept_pdr
  kept_pdrs = take_out_lem pdr_id gone x.pdrs

  kept_endpoints : take_out endpoint_id (map row_endpoint_id (q ie.remove_endpoint)) x.endpoints ≡ kept_es
  unfolding kept_endpoint
  kept_endpoints = take_out_lem endpoint_id (map row_endpoint_id (q ie.remove_endpoint)) x.endpoints

  removed : Slot (set_endpoints (set_pdrs x kept_ps) kept_es) (passed ie.remove_endpoint rows (without_pdrs gone s))
  removed =
      let a : Slot (set_pdrs x kept_ps) (without_pdrs gone s) = subst (λ (ps : List Pdr). Slot (set_pdrs x ps) (without_pdrs gone s)) kept_pdrs (pdrs_out gone h) in
      subst (λ (es : List Endpoint). Slot (set_endpoints (set_pdrs x kept_ps) es) (passed ie.remove_endpoint rows (without_pdrs gone s))) kept_endpoints
      (by_pass ie.remove_endpoint (without_pdrs gone s) (endpoints_out (q ie.remove_endpoint) (tagged_tags ie.remove_endpoint rows) a))

  new_endpoints_lem : put_in endpoint_id (map endpoint_of (q ie.create_endpoint)) kept_es ≡ insert_all endpoint_id (map (made_endpoint got) (map row_endpoint (q ie.create_endpoint))) kept_es
  new_endpoints_lem =
      put_in_lem endpoint_id (map endpoint_of (q ie.create_endpoint)) kept_es k.endpoints_once
      (none_of_kept endpoint_id (kept_endpoint (map row_endpoint_id (q ie.remove_endpoint))) (map endpoint_id (map endpoint_of (q ie.create_endpoint))) x.endpoints k.endpoints_new)
      ∙ ap (λ (es : List Endpoint). insert_all endpoint_id es kept_es) (sym k.endpoint_got)

  new_pdrs_lem : put_in pdr_id (map pdr_of (q ie.create_pdr)) kept_ps ≡ insert_all pdr_id (map (made_pdr got) (map row_pdr (q ie.create_pdr))) kept_ps
  new_pdrs_lem =
      put_in_lem pdr_id (map pdr_of (q ie.create_pdr)) kept_ps k.pdrs_once
      (none_of_kept pdr_id (kept_pdr gone) (map pdr_id (map pdr_of (q ie.create_pdr))) x.pdrs k.pdrs_new)
      ∙ ap (λ (ps : List Pdr). insert_all pdr_id ps kept_ps) (sym k.pdr_got)

  -- the session that the plan builds, where those that go are the rules'
  pub built_session : (seid : ℕ) (restoring noted : Bool) → gone ≡ removed_pdrs (request_in seid restoring noted rows) x.pdrs → Slot (apply got (request_in seid restoring noted rows) x) (built gone rows s)
  unfolding built apply request_in pdrs_after endpoints_after
  built_session seid restoring noted e =
      let s₂ = passed ie.remove_endpoint rows (without_pdrs gone s) in
      let a = by_pass ie.create_endpoint s₂ (endpoints_in (q ie.create_endpoint) k.endpoint_rows k.endpoint_room removed) in
      let b = by_pass ie.create_pdr (passed ie.create_endpoint rows s₂) (pdrs_in (q ie.create_pdr) k.pdr_rows k.pdr_room a) in
      let c = by_pass ie.update_pdr (passed ie.create_pdr rows (passed ie.create_endpoint rows s₂)) (pdrs_updated (q ie.update_pdr) (tagged_tags ie.update_pdr rows) b) in
      let d = by_pass ie.fqcsid (passed ie.update_pdr rows (passed ie.create_pdr rows (passed ie.create_endpoint rows s₂))) (csids_followed (q ie.fqcsid) k.csid_rows c) in
      subst (λ (y : Session). Slot y (passed ie.fqcsid rows (passed ie.update_pdr rows (passed ie.create_pdr rows (passed ie.create_endpoint rows (passed ie.remove_endpoint rows (without_pdrs gone s)))))))
      (λ i. record {
        peer = x.peer;
        seid = x.seid;
        pdrs = update_all (map row_change (q ie.update_pdr)) ((new_pdrs_lem ∙ ap (λ (g : List ℕ). insert_all pdr_id (map (made_pdr got) (map row_pdr (q ie.create_pdr))) (keep (kept_pdr g) x.pdrs)) e) i);
        endpoints = new_endpoints_lem i;
        csids = csids_in_turn (q ie.fqcsid) x.csids k.only_null i;
      }) d
