-- A restoration request of a session that is not live, whose TEIDs and addresses no other session holds, is accepted where there is room.
-- Assumes nothing.
use mathlib.Core.Path.{◌≡◌, refl, sym, ap, ap₂, ◌∙◌, subst}
use Prim.Native.Nat.{ℕ, ◌+◌, ◌-◌, ◌≤◌, ◌<◌}
use native.Mathlib.Nat.{le_trans}
use native.Mathlib.Omega.{arith}
use mathlib.Core.Bool.{Bool, true, false, not, ◌&&◌, ◌||◌}
use mathlib.Core.Option.{none, some}
use mathlib.Core.List.{List, [], ◌∷◌, ◌++◌, map}
use lib.ListN.{length, length-map}
use lib.Dec.{T, leb, ltb}
use mir.Facts.{no_ltb, no_leb}
use Rattle.octets.specs.Choice.{pick, map_option, bind_option, cons_option, is_nil, is_some}
use Rattle.octets.specs.Lists.{collect, member, any_in, all_in, has_repeat, without, any, all, all_pairs, ascending, keep, distinct}
use Rattle.octets.proofs.Tests.{both, and_right, all_head, all_tail, is_true, is_false}
use Rattle.octets.proofs.Numbers.{same_refl}
use Rattle.octets.proofs.ListLaws.{map-append, collect_map, map_collect}
use Rattle.rules.specs.Model.{Settings, Tunnel, Match, neither, tunnel, endpoint, Pdr, Endpoint, Session, Sessions, Holding, endpoint_id, pdr_id, matched_tunnel, matched_endpoint, tunnel_holding, pdr_holding, endpoint_holding, session_holdings, teid_of, session_teids, held_teids, endpoint_address, pdr_address, in_address_pool, session_addresses, held_addresses, free_addresses, session_key, peer_of, other_peer, half, of_peer, holdings, unused}
use Rattle.rules.specs.Elements.{Fteid, unit_fteid, has_v6, chooses, choose_id_of, UeIp, ue_given, ue_address_of, ue_chooses}
use Rattle.rules.specs.Sound.{settings_allowed, in_pool, unit_families, tunnel_allowed, match_allowed, pdr_allowed, endpoint_allowed, session_allowed, agree}
use Rattle.laws.proofs.KeptRules.{tunnel_kept, pdr_kept, endpoint_kept, session_kept}
use Rattle.laws.proofs.LayoutLaws.{pdrs_ok, endpoints_ok, few_pdrs, few_endpoints}
use Rattle.laws.proofs.TableLaws.{ipv4_four_lem}
use Rattle.rules.specs.Request.{Request}
use Rattle.rules.specs.Grants.{Kind, choice_of, endpoint_choice, pdr_choice, choices, need, Choice, need_of}
use Rattle.rules.specs.Stages.{new_session, is_live, new_pdr_id, new_endpoint_id, named_endpoint, pdr_local, endpoint_local, created_pdrs, created_endpoints, updated_pdrs, live_pdrs, live_endpoints, fteids_of, allocation_wrong, invalid_allocation, id_twice, created_live, absent_id, updates_removed, names_both, endpoint_ids_after, names_absent, removed_pdrs, same_choice, fteids_may_share, locals_may_share, choices_agree, lacks_family, other_address, strange, restored_holding, endpoint_restored, pdr_restored, restored_holdings, clash, new_pdr_address, new_endpoint_address, addresses_of, wrong_address, restored_addresses, address_clash, request_rules, broken_rules, breaks_rule, too_many_sessions, too_many_pdrs, too_many_endpoints, too_few_teids, room_lacks, address_lacks, plain, judge, needed, passes_limit, passes_pool, reasons, because, first_of, already_live}
use Rattle.rules.specs.Restoration.{restored_pdr, restored_endpoint, restored_request}
use Rattle.rules.specs.Causes as why
use Rattle.rules.specs.Message.{establishment}
use Rattle.invariants.proofs.InsertLaws.{ascending_once}

-- ---- room for a session

-- among its peer's sessions, and for its TEIDs by the peer's limit and by what the other is due
pub record RoomFor (s : Settings) (x : Session) (m : Sessions) : Type 0 where
  pub sessions : length (of_peer x.peer m) < half s
  pub limit : holdings x.peer m + distinct (session_teids x) ≤ (peer_of s x.peer).limit
  pub pool : holdings x.peer m + holdings (other_peer x.peer) m + distinct (session_teids x) + unused s (other_peer x.peer) m ≤ s.size

-- ---- lists

pub any_in_nil : (xs : List ℕ) → any_in xs [] ≡ false
unfolding any_in member
any_in_nil [] = refl
any_in_nil (x ∷ xs) = any_in_nil xs

pub all_map : {A B : Type 0} (f : A → B) (p : B → Bool) → ((a : A) → p (f a) ≡ true) → (rs : List A) → all p (map f rs) ≡ true
unfolding all
all_map f p h [] = refl
all_map f p h (r ∷ rs) = ap₂ ◌&&◌ (h r) (all_map f p h rs)

pub all_pairs_map : {A B : Type 0} (f : A → B) (p : B → B → Bool) → ((a b : A) → p (f a) (f b) ≡ true) → (rs : List A) → all_pairs p (map f rs) ≡ true
unfolding all_pairs
all_pairs_map f p h [] = refl
all_pairs_map f p h (r ∷ rs) = ap₂ ◌&&◌ (all_map f (p (f r)) (h r) rs) (all_pairs_map f p h rs)

module _ (s : Settings) (hs : T (settings_allowed s)) where
  -- ---- the unit's F-TEIDs as they are read

  ipv4_there : is_nil s.ipv4 ≡ false
  ipv4_there = go s.ipv4 (ipv4_four_lem s hs)
    where
      go : (a : List ℕ) → length a ≡ 4 → is_nil a ≡ false
      go [] h = absurd (omega arith)
      go (y ∷ a) h = refl

  -- the family flags are the record's
  pub v4_same : (v4 : Bool) → not (is_nil (pick v4 s.ipv4 [])) ≡ v4
  v4_same true = ap not ipv4_there
  v4_same false = refl

  pub v6_same : (v6 : Bool) → T (unit_families s v6) → not (is_nil (pick v6 s.ipv6 [])) ≡ v6
  unfolding unit_families
  v6_same true h = is_true (not (is_nil s.ipv6)) h
  v6_same false h = refl

  pub unit_families_lem : (t : Tunnel) → T (tunnel_allowed s t) → T (unit_families s t.v6)
  unit_families_lem t h = (tunnel_kept s t h).unit

  unit_in_pool : (t : Tunnel) → T (tunnel_allowed s t) → T (in_pool s t.teid)
  unit_in_pool t h = (tunnel_kept s t h).pool

  unit_lacks : (t : Tunnel) → T (tunnel_allowed s t) → lacks_family s (unit_fteid s t) ≡ false
  unfolding lacks_family unit_fteid has_v6
  unit_lacks t h =
      ap (λ (b : Bool). not (unit_families s b)) (v6_same t.v6 (unit_families_lem t h)) ∙ ap not (is_true (unit_families s t.v6) (unit_families_lem t h))

  own_address : (b : Bool) (a : List ℕ) → other_address a (pick b a []) ≡ false
  unfolding other_address
  own_address false a = refl
  own_address true a = ap (λ (c : Bool). not (is_nil a) && not c) (same_refl a) ∙ and-false (not (is_nil a))
    where
      and-false : (c : Bool) → (c && false) ≡ false
      and-false true = refl
      and-false false = refl

  unit_strange : (t : Tunnel) → T (tunnel_allowed s t) → strange s (unit_fteid s t) ≡ false
  unfolding strange unit_fteid
  unit_strange t h =
      λ i. not (is_true (in_pool s t.teid) (unit_in_pool t h) i) || own_address t.v4 s.ipv4 i || own_address t.v6 s.ipv6 i

  unit_given : (t : Tunnel) → T (tunnel_allowed s t) → allocation_wrong true (unit_fteid s t) ≡ false
  unfolding allocation_wrong chooses unit_fteid
  unit_given t h = refl

  -- a hold of the unit's F-TEID is the record's hold
  unit_holding : (shared : Bool) (c : ℕ) (t : Tunnel) → T (tunnel_allowed s t)
      → restored_holding shared c (unit_fteid s t) ≡ some (tunnel_holding shared c t)
  unfolding restored_holding unit_fteid tunnel_holding
  unit_holding shared c t h =
      λ i. some (record { shared = shared; teid = t.teid; v4 = v4_same t.v4 i; v6 = v6_same t.v6 (unit_families_lem t h) i; source = c })

  -- ---- the records

  -- a test that fails on every unit F-TEID fails on those of PDRs and endpoints
  module _ (q : Fteid → Bool) (no-unit : (t : Tunnel) → T (tunnel_allowed s t) → q (unit_fteid s t) ≡ false) where
    any_match : (live : List ℕ) (l : Match) → T (match_allowed s live l) → (vs : List Fteid) → any q vs ≡ false
        → any q (cons_option (map_option (unit_fteid s) (matched_tunnel l)) vs) ≡ false
    unfolding match_allowed matched_tunnel any
    any_match live neither h vs k = k
    any_match live (tunnel t) h vs k = ap₂ ◌||◌ (no-unit t h) k
    any_match live (endpoint e) h vs k = k

    any_pdrs : (live : List ℕ) (ps : List Pdr) → T (all (pdr_allowed s live) ps) → any q (collect pdr_local (map (restored_pdr s) ps)) ≡ false
    unfolding collect restored_pdr any
    any_pdrs live [] h = refl
    any_pdrs live (p ∷ ps) h =
        any_match live p.match (pdr_kept s live p (all_head (pdr_allowed s live) p ps h)).match (collect pdr_local (map (restored_pdr s) ps))
        (any_pdrs live ps (all_tail (pdr_allowed s live) p ps h))

    any_both : (es : List Endpoint) → T (all (endpoint_allowed s) es) → (vs : List Fteid) → any q vs ≡ false
        → any q (map endpoint_local (map (restored_endpoint s) es) ++ vs) ≡ false
    unfolding restored_endpoint any
    any_both [] h vs k = k
    any_both (e ∷ es) h vs k =
        ap₂ ◌||◌ (no-unit e.local (endpoint_kept s e (all_head (endpoint_allowed s) e es h)).local) (any_both es (all_tail (endpoint_allowed s) e es h) vs k)

  ids_pdrs : (ps : List Pdr) → map new_pdr_id (map (restored_pdr s) ps) ≡ map pdr_id ps
  unfolding restored_pdr
  ids_pdrs [] = refl
  ids_pdrs (p ∷ ps) = ap (λ (ns : List ℕ). p.id ∷ ns) (ids_pdrs ps)

  ids_endpoints : (es : List Endpoint) → map new_endpoint_id (map (restored_endpoint s) es) ≡ map endpoint_id es
  unfolding restored_endpoint
  ids_endpoints [] = refl
  ids_endpoints (e ∷ es) = ap (λ (ns : List ℕ). e.id ∷ ns) (ids_endpoints es)

  one_match_lem : (l : Match) → (is_some (map_option (unit_fteid s) (matched_tunnel l)) && is_some (matched_endpoint l)) ≡ false
  unfolding matched_tunnel matched_endpoint
  one_match_lem neither = refl
  one_match_lem (tunnel t) = refl
  one_match_lem (endpoint e) = refl

  none_both : (ps : List Pdr) → any names_both (map (restored_pdr s) ps) ≡ false
  unfolding any names_both restored_pdr
  none_both [] = refl
  none_both (p ∷ ps) = ap₂ ◌||◌ (one_match_lem p.match) (none_both ps)

  named_match_lem : (live : List ℕ) (l : Match) → T (match_allowed s live l) → (ns : List ℕ) → T (all_in ns live) → T (all_in (cons_option (matched_endpoint l) ns) live)
  unfolding match_allowed matched_endpoint all_in
  named_match_lem live neither h ns k = k
  named_match_lem live (tunnel t) h ns k = k
  named_match_lem live (endpoint e) h ns k = both (member e live) (all_in ns live) (and_right (ltb e 256) (member e live) h) k

  named_there_lem : (live : List ℕ) (ps : List Pdr) → T (all (pdr_allowed s live) ps) → T (all_in (collect named_endpoint (map (restored_pdr s) ps)) live)
  unfolding collect restored_pdr all_in
  named_there_lem live [] h = tt
  named_there_lem live (p ∷ ps) h =
      named_match_lem live p.match (pdr_kept s live p (all_head (pdr_allowed s live) p ps h)).match (collect named_endpoint (map (restored_pdr s) ps))
      (named_there_lem live ps (all_tail (pdr_allowed s live) p ps h))

  matches_agree : (k l : Match) (i j : ℕ)
      → locals_may_share (map_option (unit_fteid s) (matched_tunnel k)) i (map_option (unit_fteid s) (matched_tunnel l)) j ≡ true
  unfolding locals_may_share matched_tunnel fteids_may_share same_choice choose_id_of unit_fteid
  matches_agree neither l i j = refl
  matches_agree (tunnel t) neither i j = refl
  matches_agree (tunnel t) (tunnel u) i j = refl
  matches_agree (tunnel t) (endpoint e) i j = refl
  matches_agree (endpoint e) l i j = refl

  choices_agree_lem : (ps : List Pdr) → all_pairs choices_agree (map (restored_pdr s) ps) ≡ true
  choices_agree_lem ps = all_pairs_map (restored_pdr s) choices_agree (λ p q. unfold choices_agree restored_pdr in (matches_agree p.match q.match p.source q.source)) ps

  -- ---- holds

  match_holds : (live : List ℕ) (p : Pdr) → T (match_allowed s live p.match) → pdr_restored (restored_pdr s p) ≡ pdr_holding p
  unfolding pdr_restored restored_pdr pdr_holding
  match_holds live p h = go p.match h
    where
      go : (l : Match) → T (match_allowed s live l)
          → bind_option (map_option (unit_fteid s) (matched_tunnel l)) (restored_holding true p.source) ≡ map_option (tunnel_holding true p.source) (matched_tunnel l)
      go neither g = unfold matched_tunnel in refl
      go (tunnel t) g = unfold matched_tunnel match_allowed in (unit_holding true p.source t g)
      go (endpoint e) g = unfold matched_tunnel in refl

  pdr_holds_lem : (live : List ℕ) (ps : List Pdr) → T (all (pdr_allowed s live) ps) → collect pdr_restored (map (restored_pdr s) ps) ≡ collect pdr_holding ps
  unfolding collect
  pdr_holds_lem live [] h = refl
  pdr_holds_lem live (p ∷ ps) h =
      ap₂ cons_option (match_holds live p (pdr_kept s live p (all_head (pdr_allowed s live) p ps h)).match)
      (pdr_holds_lem live ps (all_tail (pdr_allowed s live) p ps h))

  endpoint_holds_lem : (es : List Endpoint) → T (all (endpoint_allowed s) es) → collect endpoint_restored (map (restored_endpoint s) es) ≡ map endpoint_holding es
  unfolding collect endpoint_restored restored_endpoint endpoint_holding
  endpoint_holds_lem [] h = refl
  endpoint_holds_lem (e ∷ es) h =
      ap₂ cons_option (unit_holding false 0 e.local (endpoint_kept s e (all_head (endpoint_allowed s) e es h)).local)
      (endpoint_holds_lem es (all_tail (endpoint_allowed s) e es h))

  -- ---- no CHOOSE

  no_pdr_choice : (ps : List Pdr) → collect pdr_choice (map (restored_pdr s) ps) ≡ []
  unfolding collect pdr_choice restored_pdr choice_of unit_fteid
  no_pdr_choice [] = refl
  no_pdr_choice (p ∷ ps) = ap₂ cons_option (go p.match) (no_pdr_choice ps)
    where
      go : (l : Match) → bind_option (map_option (unit_fteid s) (matched_tunnel l)) (choice_of Kind.of_pdr p.id) ≡ none
      go neither = unfold matched_tunnel in refl
      go (tunnel t) = unfold matched_tunnel choice_of unit_fteid in refl
      go (endpoint e) = unfold matched_tunnel in refl

  no_endpoint_choice : (es : List Endpoint) → collect endpoint_choice (map (restored_endpoint s) es) ≡ []
  unfolding collect endpoint_choice restored_endpoint choice_of unit_fteid
  no_endpoint_choice [] = refl
  no_endpoint_choice (e ∷ es) = no_endpoint_choice es

  -- ---- addresses that are given

  any_given : (q : UeIp → Bool) → ((a : ℕ) → q (ue_given a) ≡ false) → (l : List ℕ) → any q (map ue_given l) ≡ false
  unfolding any
  any_given q f [] = refl
  any_given q f (a ∷ l) = ap₂ ◌||◌ (f a) (any_given q f l)

  collect_given : (l : List ℕ) → collect ue_address_of (map ue_given l) ≡ l
  unfolding collect ue_address_of
  collect_given [] = refl
  collect_given (a ∷ l) = ap (λ (k : List ℕ). a ∷ k) (collect_given l)

  -- ---- the request of a session

  module _ (x : Session) (hx : T (session_allowed s x)) where
    request : Request
    request = restored_request s x

    ids_up : T (ascending (map pdr_id x.pdrs))
    ids_up = (session_kept s x hx).records.pdr_order

    endpoint_ids_up : T (ascending (map endpoint_id x.endpoints))
    endpoint_ids_up = (session_kept s x hx).records.endpoint_order

    no_fteid : (q : Fteid → Bool) → ((t : Tunnel) → T (tunnel_allowed s t) → q (unit_fteid s t) ≡ false) → any q (fteids_of request) ≡ false
    unfolding fteids_of request restored_request
    no_fteid q f =
        any_both q f x.endpoints (endpoints_ok s hs x hx) (collect pdr_local (map (restored_pdr s) x.pdrs))
        (any_pdrs q f (map endpoint_id x.endpoints) x.pdrs (pdrs_ok s hs x hx))

    once : id_twice request ≡ false
    unfolding id_twice request restored_request created_pdrs created_endpoints updated_pdrs has_repeat
    once =
        λ i. is_false (has_repeat (map new_pdr_id (map (restored_pdr s) x.pdrs))) pdrs_once_lem i
        || (is_false (has_repeat (map new_endpoint_id (map (restored_endpoint s) x.endpoints))) endpoints_once_lem i || false)
      where
        pdrs_once_lem : T (not (has_repeat (map new_pdr_id (map (restored_pdr s) x.pdrs))))
        pdrs_once_lem = subst (λ (ns : List ℕ). T (not (has_repeat ns))) (sym (ids_pdrs x.pdrs)) (ascending_once (map pdr_id x.pdrs) ids_up)

        endpoints_once_lem : T (not (has_repeat (map new_endpoint_id (map (restored_endpoint s) x.endpoints))))
        endpoints_once_lem = subst (λ (ns : List ℕ). T (not (has_repeat ns))) (sym (ids_endpoints x.endpoints)) (ascending_once (map endpoint_id x.endpoints) endpoint_ids_up)

    not_live : created_live (new_session x.peer x.seid) request ≡ false
    unfolding created_live live_pdrs live_endpoints new_session
    not_live = ap₂ ◌||◌ (any_in_nil (created_pdrs request)) (any_in_nil (created_endpoints request))

    absent : absent_id (new_session x.peer x.seid) request ≡ false
    unfolding absent_id request restored_request updated_pdrs all_in
    absent = refl

    names : names_absent (new_session x.peer x.seid) request ≡ false
    unfolding names_absent endpoint_ids_after live_endpoints new_session without request restored_request created_endpoints
    names =
        ap (λ (ns : List ℕ). not (all_in (collect named_endpoint (map (restored_pdr s) x.pdrs)) ns)) (ids_endpoints x.endpoints)
        ∙ ap not (is_true (all_in (collect named_endpoint (map (restored_pdr s) x.pdrs)) (map endpoint_id x.endpoints))
        (named_there_lem (map endpoint_id x.endpoints) x.pdrs (pdrs_ok s hs x hx)))

    -- the holds are the session's
    holds : restored_holdings request ≡ session_holdings x
    unfolding restored_holdings session_holdings request restored_request
    holds = ap₂ ◌++◌ (endpoint_holds_lem x.endpoints (endpoints_ok s hs x hx)) (pdr_holds_lem (map endpoint_id x.endpoints) x.pdrs (pdrs_ok s hs x hx))

    -- and so are the addresses
    own_addresses : List ℕ
    own_addresses = collect endpoint_address x.endpoints ++ collect pdr_address x.pdrs

    addresses : addresses_of request ≡ map ue_given own_addresses
    unfolding addresses_of request restored_request restored_pdr restored_endpoint own_addresses
    addresses =
        ap₂ ◌++◌ (collect_map (restored_endpoint s) new_endpoint_address x.endpoints ∙ sym (map_collect endpoint_address ue_given x.endpoints))
        (collect_map (restored_pdr s) new_pdr_address x.pdrs ∙ sym (map_collect pdr_address ue_given x.pdrs))
        ∙ sym (map-append ue_given (collect endpoint_address x.endpoints) (collect pdr_address x.pdrs))

    -- a test that fails on every address that is given
    no_address_lem : (q : UeIp → Bool) → ((a : ℕ) → q (ue_given a) ≡ false) → any q (addresses_of request) ≡ false
    no_address_lem q f = ap (any q) addresses ∙ any_given q f own_addresses

    restored_addresses_lem : restored_addresses s request ≡ session_addresses s x
    unfolding restored_addresses session_addresses own_addresses
    restored_addresses_lem = ap (λ (l : List UeIp). keep (in_address_pool s) (collect ue_address_of l)) addresses ∙ ap (keep (in_address_pool s)) (collect_given own_addresses)

    given_right : (a : ℕ) → wrong_address s true (ue_given a) ≡ false
    unfolding wrong_address
    given_right a = no (in_address_pool s a)
      where
        no : (b : Bool) → (b && false) ≡ false
        no true = refl
        no false = refl

    no_ue_choice : (a : ℕ) → ue_chooses (ue_given a) ≡ false
    unfolding ue_chooses
    no_ue_choice a = refl

    pub no_choices : choices (restored_request s x) ≡ []
    unfolding choices restored_request
    no_choices = ap₂ ◌++◌ (no_endpoint_choice x.endpoints) (no_pdr_choice x.pdrs)

    -- it needs the TEIDs of the session
    needs : needed request ≡ distinct (session_teids x)
    unfolding needed need need_of keep collect distinct session_teids request
    needs = let e = ap₂ (λ (l : List Choice) (hs' : List Holding). need_of l + distinct (map teid_of hs')) no_choices holds in omega arith

    module _ (m : Sessions) (fresh : is_live (session_key x) m ≡ false) (room : RoomFor s x m)
        (separate : T (not (any_in (session_teids x) (held_teids m)))) (separate_addresses : T (not (any_in (session_addresses s x) (held_addresses s m)))) where
      own : T (all_pairs agree (session_holdings x))
      own = (session_kept s x hx).holds

      no_clash : clash m request ≡ false
      unfolding clash session_teids
      no_clash =
          ap (λ (hs' : List Holding). any_in (map teid_of hs') (held_teids m) || not (all_pairs agree hs')) holds
          ∙ (λ i. is_false (any_in (session_teids x) (held_teids m)) separate i || not (is_true (all_pairs agree (session_holdings x)) own i))

      no_address_clash : address_clash s m request ≡ false
      unfolding address_clash
      no_address_clash = ap (λ (l : List ℕ). any_in l (held_addresses s m)) restored_addresses_lem ∙ is_false (any_in (session_addresses s x) (held_addresses s m)) separate_addresses

      rules_kept : breaks_rule s m (new_session x.peer x.seid) request ≡ false
      unfolding breaks_rule request_rules broken_rules updates_removed updated_pdrs any_in request restored_request
      rules_kept =
          λ i. once i || (not_live i || (absent i || (false || (none_both x.pdrs i || (names i || (not (choices_agree_lem x.pdrs i)
          || (no_fteid (lacks_family s) unit_lacks i || (no_fteid (strange s) unit_strange i || (no_address_lem (wrong_address s true) given_right i || (no_clash i || (no_address_clash i || false)))))))))))

      enough_room : room_lacks establishment s x.peer m (new_session x.peer x.seid) request ≡ false
      unfolding room_lacks too_many_sessions too_many_pdrs removed_pdrs keep too_many_endpoints too_few_teids passes_limit passes_pool new_session request restored_request
      enough_room =
          λ i. sessions_fit_lem i || (pdrs_fit_lem i || (endpoints_fit_lem i || (teids_fit_lem i || false)))
        where
          sessions_fit_lem : leb (half s) (length (of_peer x.peer m)) ≡ false
          sessions_fit_lem = is_false (leb (half s) (length (of_peer x.peer m))) (no_leb room.sessions)

          few : (k n l : ℕ) → l ≡ n → n ≤ k → ltb k (0 - 0 + l) ≡ false
          few k n l e h = is_false (ltb k (0 - 0 + l)) (no_ltb (le_trans (omega arith) h))

          pdrs_fit_lem : ltb 16 (0 - 0 + length (map (restored_pdr s) x.pdrs)) ≡ false
          pdrs_fit_lem = few 16 (length x.pdrs) (length (map (restored_pdr s) x.pdrs)) (length-map x.pdrs (restored_pdr s)) (few_pdrs s hs x hx)

          endpoints_fit_lem : ltb 8 (0 - 0 + length (map (restored_endpoint s) x.endpoints)) ≡ false
          endpoints_fit_lem = few 8 (length x.endpoints) (length (map (restored_endpoint s) x.endpoints)) (length-map x.endpoints (restored_endpoint s)) (few_endpoints s hs x hx)

          within : holdings x.peer m + needed request ≤ (peer_of s x.peer).limit
          within = let a = needs in let b = room.limit in omega arith

          inside : holdings x.peer m + holdings (other_peer x.peer) m + needed request + unused s (other_peer x.peer) m ≤ s.size
          inside = let a = needs in let b = room.pool in omega arith

          limit_fits : ltb (peer_of s x.peer).limit (holdings x.peer m + needed request) ≡ false
          limit_fits = is_false (ltb (peer_of s x.peer).limit (holdings x.peer m + needed request)) (no_ltb within)

          pool_fits : ltb s.size (holdings x.peer m + holdings (other_peer x.peer) m + needed request + unused s (other_peer x.peer) m) ≡ false
          pool_fits =
              is_false (ltb s.size (holdings x.peer m + holdings (other_peer x.peer) m + needed request + unused s (other_peer x.peer) m))
              (no_ltb inside)

          teids_fit_lem : (ltb (peer_of s x.peer).limit (holdings x.peer m + needed request)
              || ltb s.size (holdings x.peer m + holdings (other_peer x.peer) m + needed request + unused s (other_peer x.peer) m)) ≡ false
          teids_fit_lem = λ i. limit_fits i || pool_fits i

      -- accepted
      pub restored_judged : judge establishment s x.peer m (new_session x.peer x.seid) (restored_request s x) ≡ plain why.accepted
      unfolding judge reasons already_live request restored_request invalid_allocation address_lacks
      restored_judged =
          λ i. plain (first_of (
          because why.rejected (fresh i)
          ∷ because why.wrong_allocation (no_fteid (allocation_wrong true) unit_given i)
          ∷ because why.not_supported false
          ∷ because why.broken_rule (rules_kept i)
          ∷ because why.no_room (enough_room i)
          ∷ because why.no_address (no_address_lem ue_chooses no_ue_choice i && is_nil (free_addresses s m))
          ∷ []
          ))
