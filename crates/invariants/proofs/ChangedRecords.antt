-- The endpoints and PDRs of a session after an accepted request keep the table's rules: how many, in which order, each by its own rule.
-- Assumes nothing.
use mathlib.Core.Path.{◌≡◌, refl, sym, ap, ◌∙◌, subst}
use Prim.Native.Nat.{ℕ, ◌^◌, ◌≤◌}
use native.Mathlib.Omega.{arith}
use mathlib.Core.Bool.{not, ◌&&◌}
use mathlib.Core.Option.{Option, none, some}
use mathlib.Core.List.{List, [], ◌∷◌, ◌++◌, map}
use lib.ListN.{length, length-map}
use lib.Dec.{T, leb, ltb, eqb}
use mir.Facts.{yes_leb}
use Rattle.octets.specs.Choice.{map_option}
use Rattle.octets.specs.Lists.{member, any_in, has_repeat, without, ascending, all, keep, collect}
use Rattle.octets.proofs.Tests.{pick_either, both, and_left, and_right}
use Rattle.octets.proofs.Ordered.{keep_all}
use Rattle.octets.proofs.ListLaws.{Every, on_some, OnSome, all_imply, all_join, all_know, all_front, all_behind, all_map, all_collect, map-map, map_same, collect_map, collect_same}
use Rattle.octets.proofs.MemberLaws.{all_in_lem, kept_key, member_front, member_without}
use Rattle.invariants.proofs.RecordsAfter.{after, after_length, after_ascending, after_all_lem, after_keys}
use Rattle.rules.specs.Model.{Settings, Match, neither, tunnel, endpoint, Pdr, Endpoint, Session, Sessions, free_teids, pdr_id, endpoint_id, matched_endpoint, pdr_endpoint, pdr_holding, pdr_address}
use Rattle.rules.specs.Limits.{max_pdrs, max_endpoints}
use Rattle.rules.specs.Elements.{Fteid, UeIp, ue_given, ue_choose, ue_other, ue_address_of}
use Rattle.rules.specs.Sound.{tunnel_allowed, match_allowed, far_allowed, address_allowed, pdr_allowed, endpoint_allowed}
use Rattle.rules.specs.Request.{Change, Request}
use Rattle.rules.specs.Grants.{Kind, of_pdr, grants, granted_teid, chosen_address, Got, granted, need}
use Rattle.rules.specs.Stages.{named_endpoint, created_pdrs, created_endpoints, live_pdrs, live_endpoints, endpoint_ids_after, removed_pdrs}
use Rattle.rules.specs.Apply.{named_match, match_from, address_got, address_from, made_pdr, made_endpoint, or_old, changed_pdr, update_all, kept_pdr, kept_endpoint, pdrs_after, endpoints_after, pdr_with}
use Rattle.laws.proofs.ReadLaws.{UeRead}
use Rattle.laws.proofs.RequestLaws.{PdrRead, EndpointRead, ChangeRead, RequestRead}
use Rattle.invariants.proofs.RemovedPdrs.{removed_live, removed_once, stays_named}
use Rattle.laws.proofs.KeptRules.{pdr_kept, pdr_allowed_lem, kept_match, kept_with, endpoint_allowed_lem, SessionKept}
use Rattle.laws.proofs.KeptRequest.{RulesKept, RoomLeft}
use Rattle.invariants.proofs.NewHolds.{locals, endpoint_new, pdr_new, local_tunnel, locals_read}
use Rattle.invariants.proofs.NewTeids.{new_tunnels}

-- ---- updates

-- what no update changes
module _ {B : Type 0} (f : Pdr → B) (same : (c : Change) (p : Pdr) → f (changed_pdr c p) ≡ f p) where
  -- in every PDR
  pub update_map : (cs : List Change) (ps : List Pdr) → map f (update_all cs ps) ≡ map f ps
  unfolding update_all
  update_map [] ps = refl
  update_map (c ∷ cs) ps = update_map cs (map (changed_pdr c) ps) ∙ map-map (changed_pdr c) f ps ∙ map_same (λ p. f (changed_pdr c p)) f (same c) ps

-- the ID
pub update_id : (c : Change) (p : Pdr) → pdr_id (changed_pdr c p) ≡ pdr_id p
unfolding changed_pdr
update_id c p = pick_either (λ (q : Pdr). q.id ≡ p.id) (eqb p.id c.id) _ p refl refl

-- the hold
pub update_holding : (c : Change) (p : Pdr) → pdr_holding (changed_pdr c p) ≡ pdr_holding p
unfolding changed_pdr pdr_holding
update_holding c p = pick_either (λ (q : Pdr). pdr_holding q ≡ pdr_holding p) (eqb p.id c.id) _ p refl refl

-- the address
pub update_address : (c : Change) (p : Pdr) → pdr_address (changed_pdr c p) ≡ pdr_address p
unfolding changed_pdr
update_address c p = pick_either (λ (q : Pdr). q.address ≡ p.address) (eqb p.id c.id) _ p refl refl

-- the holds of updated PDRs
pub update_holds : (cs : List Change) (ps : List Pdr) → collect pdr_holding (update_all cs ps) ≡ collect pdr_holding ps
unfolding update_all
update_holds [] ps = refl
update_holds (c ∷ cs) ps = update_holds cs (map (changed_pdr c) ps) ∙ collect_map (changed_pdr c) pdr_holding ps ∙ collect_same (λ p. pdr_holding (changed_pdr c p)) pdr_holding (update_holding c) ps

-- an updated PDR keeps its rule
update_one : (s : Settings) (live : List ℕ) (c : Change) → ChangeRead c → (p : Pdr) → T (pdr_allowed s live p) → T (pdr_allowed s live (changed_pdr c p))
unfolding changed_pdr
update_one s live c k p h =
    let old = pdr_kept s live p h in
    pick_either (λ (q : Pdr). T (pdr_allowed s live q)) (eqb p.id c.id) (pdr_with (or_old p.precedence c.precedence) (or_old p.far c.far) p) p
    (pdr_allowed_lem (kept_with old (number c.precedence k.precedence old.precedence) (far_id_lem c.far k.far old.far))) h
  where
    number : (o : Option ℕ) → OnSome (λ n. T (ltb n (2 ^ 32))) o → T (ltb p.precedence (2 ^ 32)) → T (ltb (or_old p.precedence o) (2 ^ 32))
    number none g old = unfold or_old in old
    number (some n) g old = unfold or_old in g

    far_id_lem : (o : Option (Option ℕ)) → OnSome (λ f. T (far_allowed f)) o → T (far_allowed p.far) → T (far_allowed (or_old p.far o))
    far_id_lem none g old = unfold or_old in old
    far_id_lem (some f) g old = unfold or_old in g

-- so all do
pub update_allowed : (s : Settings) (live : List ℕ) (cs : List Change) (ps : List Pdr) → Every ChangeRead cs → T (all (pdr_allowed s live) ps) → T (all (pdr_allowed s live) (update_all cs ps))
unfolding update_all
update_allowed s live [] ps k h = h
update_allowed s live (c ∷ cs) ps k h =
    update_allowed s live cs (map (changed_pdr c) ps) k.1
    (subst T (sym (all_map (changed_pdr c) (pdr_allowed s live) ps)) (all_imply (pdr_allowed s live) (λ p. pdr_allowed s live (changed_pdr c p)) (update_one s live c k.0) ps h))

-- ---- addresses

-- those of updated PDRs
pub update_addresses : (cs : List Change) (ps : List Pdr) → collect pdr_address (update_all cs ps) ≡ collect pdr_address ps
unfolding update_all
update_addresses [] ps = refl
update_addresses (c ∷ cs) ps =
    update_addresses cs (map (changed_pdr c) ps) ∙ collect_map (changed_pdr c) pdr_address ps ∙ collect_same (λ p. pdr_address (changed_pdr c p)) pdr_address (update_address c) ps

-- a new record's address has four octets
address_made : (n : ℕ) → T (ltb n (2 ^ 32)) → (o : Option UeIp) → OnSome UeRead o → T (address_allowed (address_from n o))
unfolding address_allowed address_from address_got ue_address_of
address_made n h none k = tt
address_made n h (some (ue_given a)) k = k
address_made n h (some ue_choose) k = h
address_made n h (some ue_other) k = tt

-- ---- a session that keeps the rules, and a request that keeps them and finds room

module _ (kind : ℕ) (s : Settings) (who : ℕ) (m : Sessions) (x : Session) (r : Request) (kept : SessionKept s x) (rules : RulesKept s m x r) (room : RoomLeft kind s who m x r) (read : RequestRead r) (enough : need r ≤ length (free_teids s m))
    (fits : T (ltb (chosen_address s m) (2 ^ 32))) where
  -- what the records get, and the TEIDs of it
  abbrev got : Kind → ℕ → Got
  got = granted s m r

  abbrev teids : Kind → ℕ → ℕ
  teids = granted_teid (grants s m r)

  -- the endpoints that the request makes
  abbrev new_endpoints : List Endpoint
  new_endpoints = map (made_endpoint got) r.endpoints

  -- the PDRs that the request makes
  abbrev new_pdrs : List Pdr
  new_pdrs = map (made_pdr got) r.pdrs

  -- the IDs of the new records are the created ones
  endpoint_ids_lem : map endpoint_id new_endpoints ≡ created_endpoints r
  unfolding made_endpoint created_endpoints
  endpoint_ids_lem = map-map (made_endpoint got) endpoint_id r.endpoints

  -- the same for PDRs
  pdr_ids : map pdr_id new_pdrs ≡ created_pdrs r
  unfolding made_pdr created_pdrs
  pdr_ids = map-map (made_pdr got) pdr_id r.pdrs

  -- their F-TEIDs keep the rule of the table
  tunnels : T (all (λ l. tunnel_allowed s (local_tunnel teids l)) (locals r))
  tunnels = new_tunnels s m x r rules enough (locals_read r read.endpoints read.pdrs)

  -- ---- endpoints

  -- at most 8 endpoints
  pub endpoints_few_lem : T (leb (length (endpoints_after got r x.endpoints)) max_endpoints)
  unfolding endpoints_after kept_endpoint
  endpoints_few_lem =
      let a = after_length endpoint_id r.gone_endpoints new_endpoints x.endpoints rules.gone_endpoints_once (unfold live_endpoints in rules.gone_endpoints_live) in
      let b = length-map r.endpoints (made_endpoint got) in
      let c = room.endpoints in
      let d : length (after endpoint_id r.gone_endpoints new_endpoints x.endpoints) ≤ max_endpoints = omega arith in
      yes_leb d

  -- in ascending order of ID
  pub endpoints_order : T (ascending (map endpoint_id (endpoints_after got r x.endpoints)))
  unfolding endpoints_after kept_endpoint
  endpoints_order =
      after_ascending endpoint_id r.gone_endpoints new_endpoints x.endpoints (subst (λ (l : List ℕ). T (not (has_repeat l))) (sym endpoint_ids_lem) rules.created_endpoints_once)
      (subst (λ (l : List ℕ). T (not (any_in l (map endpoint_id x.endpoints)))) (sym endpoint_ids_lem) (unfold live_endpoints in rules.created_endpoints_new)) kept.records.endpoint_order

  -- each by its rule
  pub endpoints_allowed : T (all (endpoint_allowed s) (endpoints_after got r x.endpoints))
  unfolding endpoints_after kept_endpoint
  endpoints_allowed =
      after_all_lem endpoint_id r.gone_endpoints new_endpoints x.endpoints (endpoint_allowed s)
      (subst T (sym (all_map (made_endpoint got) (endpoint_allowed s) r.endpoints))
      (all_know EndpointRead (λ e. tunnel_allowed s (local_tunnel teids (endpoint_new e))) (λ e. endpoint_allowed s (made_endpoint got e))
      (λ e k h. unfold made_endpoint in (endpoint_allowed_lem {s = s} {e = made_endpoint got e} (record { id = k.id; local = unfold granted in h; address = unfold granted in (address_made (chosen_address s m) fits e.address k.address) }))) r.endpoints read.endpoints
      (subst T (all_map endpoint_new (λ l. tunnel_allowed s (local_tunnel teids l)) r.endpoints)
      (all_front (λ l. tunnel_allowed s (local_tunnel teids l)) (map endpoint_new r.endpoints) (collect pdr_new r.pdrs) (unfold locals in tunnels)))))
      (keep_all (kept_key endpoint_id r.gone_endpoints) (endpoint_allowed s) x.endpoints kept.records.endpoints)

  -- the IDs of the endpoints afterwards
  abbrev live_after : List ℕ
  live_after = map endpoint_id (endpoints_after got r x.endpoints)

  -- an ID that is there afterwards by 01's rule is there
  named_live : (k : ℕ) → T (member k (endpoint_ids_after x r)) → T (member k live_after)
  unfolding endpoints_after kept_endpoint endpoint_ids_after live_endpoints
  named_live k h =
      after_keys endpoint_id r.gone_endpoints new_endpoints x.endpoints k
      (subst (λ (l : List ℕ). T (member k (without (map endpoint_id x.endpoints) r.gone_endpoints ++ l))) (sym endpoint_ids_lem) h)

  -- ---- PDRs

  -- the IDs of the PDRs that go
  abbrev gone : List ℕ
  gone = removed_pdrs r x.pdrs

  -- the PDRs before the updates
  abbrev base_pdrs : List Pdr
  base_pdrs = after pdr_id gone new_pdrs x.pdrs

  -- the updates keep the IDs
  pdr_keys : map pdr_id (pdrs_after got r x.pdrs) ≡ map pdr_id base_pdrs
  unfolding pdrs_after kept_pdr
  pdr_keys = update_map pdr_id update_id r.changes base_pdrs

  -- at most 16 PDRs
  pub pdrs_few_lem : T (leb (length (pdrs_after got r x.pdrs)) max_pdrs)
  pdrs_few_lem =
      let a = after_length pdr_id gone new_pdrs x.pdrs (removed_once r x.pdrs kept.records.pdr_order) (removed_live r x.pdrs) in
      let b = length-map r.pdrs (made_pdr got) in
      let c = room.pdrs in
      let e = ap length pdr_keys in
      let f = length-map (pdrs_after got r x.pdrs) pdr_id in
      let g = length-map base_pdrs pdr_id in
      let d : length (pdrs_after got r x.pdrs) ≤ max_pdrs = omega arith in
      yes_leb d

  -- in ascending order of ID
  pub pdrs_order : T (ascending (map pdr_id (pdrs_after got r x.pdrs)))
  pdrs_order =
      subst (λ (l : List ℕ). T (ascending l)) (sym pdr_keys)
      (after_ascending pdr_id gone new_pdrs x.pdrs (subst (λ (l : List ℕ). T (not (has_repeat l))) (sym pdr_ids) rules.created_pdrs_once)
      (subst (λ (l : List ℕ). T (not (any_in l (map pdr_id x.pdrs)))) (sym pdr_ids) (unfold live_pdrs in rules.created_pdrs_new)) kept.records.pdr_order)

  -- a new PDR keeps its rule
  new_pdrs_allowed : T (all (pdr_allowed s live_after) new_pdrs)
  unfolding made_pdr granted
  new_pdrs_allowed =
      subst T (sym (all_map (made_pdr got) (pdr_allowed s live_after) r.pdrs))
      (all_know PdrRead (λ p. on_some (λ l. tunnel_allowed s (local_tunnel teids l)) (pdr_new p) && on_some (λ n. member n (endpoint_ids_after x r)) p.endpoint) (λ p. pdr_allowed s live_after (made_pdr got p))
      (λ p k h. pdr_allowed_lem {s = s} {live = live_after} {p = made_pdr got p} (record {
        id = k.id;
        precedence = k.precedence;
        far = k.far;
        source = k.source;
        match = matched p.id p.source p.local p.endpoint k.endpoint
            (and_left (on_some (λ l. tunnel_allowed s (local_tunnel teids l)) (pdr_new p)) (on_some (λ n. member n (endpoint_ids_after x r)) p.endpoint) h)
            (and_right (on_some (λ l. tunnel_allowed s (local_tunnel teids l)) (pdr_new p)) (on_some (λ n. member n (endpoint_ids_after x r)) p.endpoint) h);
        address = address_made (chosen_address s m) fits p.address k.address;
      })) r.pdrs read.pdrs
      (all_join (λ p. on_some (λ l. tunnel_allowed s (local_tunnel teids l)) (pdr_new p)) (λ p. on_some (λ n. member n (endpoint_ids_after x r)) p.endpoint)
      (λ p. on_some (λ l. tunnel_allowed s (local_tunnel teids l)) (pdr_new p) && on_some (λ n. member n (endpoint_ids_after x r)) p.endpoint)
      (λ p a b. both (on_some (λ l. tunnel_allowed s (local_tunnel teids l)) (pdr_new p)) (on_some (λ n. member n (endpoint_ids_after x r)) p.endpoint) a b) r.pdrs
      (subst T (all_collect pdr_new (λ l. tunnel_allowed s (local_tunnel teids l)) r.pdrs)
      (all_behind (λ l. tunnel_allowed s (local_tunnel teids l)) (map endpoint_new r.endpoints) (collect pdr_new r.pdrs) (unfold locals in tunnels)))
      (subst T (all_collect named_endpoint (λ n. member n (endpoint_ids_after x r)) r.pdrs) (all_in_lem (collect named_endpoint r.pdrs) (endpoint_ids_after x r) rules.named_there))))
    where
      matched : (i a : ℕ) (o : Option Fteid) (e : Option ℕ) → OnSome (λ n. T (ltb n 256)) e
          → T (on_some (λ l. tunnel_allowed s (local_tunnel teids l)) (map_option (λ v. record { kind = of_pdr; id = i; source = a; fteid = v }) o)) → T (on_some (λ n. member n (endpoint_ids_after x r)) e)
          → T (match_allowed s live_after (match_from (teids of_pdr i) o e))
      matched i a (some v) e k h g = unfold match_from match_allowed in h
      matched i a none none k h g = unfold match_from named_match match_allowed in tt
      matched i a none (some n) k h g = unfold match_from named_match match_allowed in (both (ltb n 256) (member n live_after) k (named_live n g))

  -- a PDR that stays keeps its rule: its endpoint stays too
  old_pdrs_allowed : T (all (pdr_allowed s live_after) (keep (kept_key pdr_id gone) x.pdrs))
  unfolding pdr_endpoint
  old_pdrs_allowed =
      all_join (pdr_allowed s (map endpoint_id x.endpoints)) (λ p. on_some (λ n. not (member n r.gone_endpoints)) (pdr_endpoint p)) (pdr_allowed s live_after) one
      (keep (kept_key pdr_id gone) x.pdrs) (keep_all (kept_key pdr_id gone) (pdr_allowed s (map endpoint_id x.endpoints)) x.pdrs kept.records.pdrs)
      (stays_named r x.pdrs)
    where
      matched : (q : Match) → T (match_allowed s (map endpoint_id x.endpoints) q) → T (on_some (λ n. not (member n r.gone_endpoints)) (matched_endpoint q)) → T (match_allowed s live_after q)
      matched neither h g = unfold match_allowed in tt
      matched (tunnel t) h g = unfold match_allowed in h
      matched (endpoint e) h g =
          unfold match_allowed matched_endpoint in (
          both (ltb e 256) (member e live_after) (and_left (ltb e 256) (member e (map endpoint_id x.endpoints)) h)
          (named_live e (unfold endpoint_ids_after live_endpoints in (member_front e (without (map endpoint_id x.endpoints) r.gone_endpoints) (created_endpoints r)
          (member_without e (map endpoint_id x.endpoints) r.gone_endpoints (and_right (ltb e 256) (member e (map endpoint_id x.endpoints)) h) g)))))

      one : (p : Pdr) → T (pdr_allowed s (map endpoint_id x.endpoints) p) → T (on_some (λ n. not (member n r.gone_endpoints)) (pdr_endpoint p)) → T (pdr_allowed s live_after p)
      one p h g =
          let k = pdr_kept s (map endpoint_id x.endpoints) p h in
          pdr_allowed_lem (kept_match k (matched p.match k.match g))

  -- every PDR afterwards keeps its rule
  pub pdrs_allowed : T (all (pdr_allowed s live_after) (pdrs_after got r x.pdrs))
  unfolding pdrs_after kept_pdr
  pdrs_allowed =
      update_allowed s live_after r.changes base_pdrs read.changes
      (after_all_lem pdr_id gone new_pdrs x.pdrs (pdr_allowed s live_after) new_pdrs_allowed old_pdrs_allowed)
