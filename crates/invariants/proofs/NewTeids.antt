-- The TEIDs that an accepted request gives to the records it makes: in the pool, held by no record at entry, and shared only as the table's rule allows.
-- Assumes nothing.
use mathlib.Core.Path.{◌≡◌, refl, sym, subst}
use Prim.Native.Nat.{ℕ, ◌≤◌}
use mathlib.Core.Bool.{Bool, true, false, not, ◌&&◌, ◌||◌}
use mathlib.Core.Option.{Option}
use mathlib.Core.List.{List, [], map}
use lib.ListN.{length}
use lib.Dec.{T, T_not, not_T, eqb}
use Rattle.octets.specs.Choice.{all_of, is_nil, same_bool}
use Rattle.octets.specs.Lists.{member, all, any, all_pairs, find_by}
use Rattle.octets.proofs.Tests.{both, and_left, and_right}
use Rattle.octets.proofs.ListLaws.{not_not, or_right, or_by_left, or_by_right, by_test, Every, every_both, all_every, on_some, on_both, all_imply, all_join, all_know, pairs_know, pairs_join, none_any, all_map, pairs_map, all_collect, pairs_collect}
use Rattle.octets.proofs.MemberLaws.{none_in}
use Rattle.octets.proofs.Bools.{not_or}
use Rattle.rules.specs.Model.{Settings, Session, Sessions, Holding, teid_of, tunnel_holding, held_teids, free_teids}
use Rattle.rules.specs.Elements.{Fteid, given, choose, has_v4, has_v6, chooses, choose_id_of}
use Rattle.rules.specs.Sound.{in_pool, unit_families, tunnel_allowed, share_tests, agree}
use Rattle.rules.specs.Request.{Request}
use Rattle.rules.specs.Grants.{Kind, of_pdr, of_endpoint, Choice, Grant, choice_of, choices, grants, granted_teid, granted, need}
use Rattle.rules.specs.Stages.{fteids_of, allocation_wrong, invalid_allocation, same_choice, alike_fteids, fteids_may_share, lacks_family, other_address, strange, restored_holding, restored_holdings}
use Rattle.rules.specs.Apply.{tunnel_from}
use Rattle.invariants.proofs.PoolLaws.{free_in_pool, free_not_held}
use Rattle.invariants.proofs.FreeTeids.{free_once}
use Rattle.laws.proofs.NeedLaws.{enough_given}
use Rattle.laws.proofs.ReadLaws.{FteidRead}
use Rattle.laws.proofs.KeptRules.{tunnel_allowed_lem, share_tests_lem}
use Rattle.laws.proofs.KeptRequest.{RulesKept}
use Rattle.invariants.proofs.GrantedTeids.{Granted, granted_from, choice_in, granted_grants, granted_choices, granted_all, granted_apart_lem, other_record, own_teid_lem, no_choice}
use Rattle.invariants.proofs.NewHolds.{shared, locals, local_fteid, local_choice, local_restored, local_tunnel, local_holding, new_holdings, choices_locals, restored_locals, fteids_locals, new_locals, choices_other, alike_locals, locals_alike}

-- ---- the CHOOSEs of a request and the TEIDs that are looked up for them

module _ (s : Settings) (m : Sessions) (r : Request) (other : T (all_pairs other_record (choices r))) (enough : need r ≤ length (free_teids s m)) where
  -- what is looked up among the grants
  abbrev teids : Kind → ℕ → ℕ
  teids = granted_teid (grants s m r)

  -- the CHOOSEs with their TEIDs
  abbrev given' : List Granted
  given' = granted_from [] (free_teids s m) (choices r)

  -- what is looked up for a CHOOSE
  abbrev teid_for' : Choice → ℕ
  teid_for' c = teids c.kind c.id

  -- what is looked up for each is what it was given
  pub looked_up_lem : Every (λ d. teids d.choice.kind d.choice.id ≡ d.teid) given'
  unfolding grants
  looked_up_lem =
      subst (λ (gs : List Grant). Every (λ d. granted_teid gs d.choice.kind d.choice.id ≡ d.teid) given') (sym (granted_grants (choices r) [] (free_teids s m)))
      (own_teid_lem given' (subst T (pairs_map choice_in other_record given') (subst (λ (l : List Choice). T (all_pairs other_record l)) (sym (granted_choices (choices r) [] (free_teids s m))) other)))

  -- a test of every free TEID holds of every TEID given
  pub given_test : (p : ℕ → Bool) → T (all p (free_teids s m)) → T (all (λ c. p (teid_for' c)) (choices r))
  given_test p h =
      subst (λ (l : List Choice). T (all (λ c. p (teid_for' c)) l)) (granted_choices (choices r) [] (free_teids s m))
      (subst T (sym (all_map choice_in (λ c. p (teid_for' c)) given'))
      (all_know (λ d. teids d.choice.kind d.choice.id ≡ d.teid) (λ d. p d.teid) (λ d. p (teid_for' d.choice)) (λ d e g. subst (λ (t : ℕ). T (p t)) (sym e) g) given' looked_up_lem
      (granted_all p (λ i t. p t) (λ i t g. g) (choices r) [] (free_teids s m) [] (λ i. unfold member find_by in refl) (unfold all in tt) h (enough_given r (length (free_teids s m)) enough))))

  -- two CHOOSEs have one TEID only with one CHOOSE ID
  abbrev given_apart : Choice → Choice → Bool
  given_apart c d = not (eqb (teid_for' c) (teid_for' d)) || same_choice c.choose_id d.choose_id

  -- which holds of every two
  pub given_apart_lem : T (all_pairs given_apart (choices r))
  given_apart_lem =
      subst (λ (l : List Choice). T (all_pairs given_apart l)) (granted_choices (choices r) [] (free_teids s m))
      (subst T (sym (pairs_map choice_in given_apart given'))
      (pairs_know (λ d. teids d.choice.kind d.choice.id ≡ d.teid) (λ a b. not (eqb a.teid b.teid) || same_choice a.choice.choose_id b.choice.choose_id)
      (λ a b. given_apart a.choice b.choice)
      (λ a b e g h. subst (λ (t : ℕ). T (not (eqb t (teid_for' b.choice)) || same_choice a.choice.choose_id b.choice.choose_id)) (sym e)
      (subst (λ (t : ℕ). T (not (eqb a.teid t) || same_choice a.choice.choose_id b.choice.choose_id)) (sym g) h)) given' looked_up_lem
      (granted_apart_lem (choices r) [] (free_teids s m) [] (λ i. unfold member find_by in refl)
      (record { taken = unfold all in tt; own = unfold all_pairs in tt; once = free_once s m }) (enough_given r (length (free_teids s m)) enough))))

-- ---- sharing

-- two CHOOSEs of one TEID are of PDRs, with equal families and source interface
sharing : (k k' : Kind) (a b t u : ℕ) (c d e f : Bool) (o p : Option ℕ) → FteidRead (not (shared k)) (choose c d o) → FteidRead (not (shared k')) (choose e f p)
    → T (not (eqb t u) || same_choice o p) → T (not (shared k) || (not (shared k') || fteids_may_share (choose c d o) a (choose e f p) b))
    → T (agree (tunnel_holding (shared k) a (record { teid = t; v4 = c; v6 = d })) (tunnel_holding (shared k') b (record { teid = u; v4 = e; v6 = f })))
unfolding agree tunnel_holding
sharing k k' a b t u c d e f o p rv rw' g al =
    by_test (not (eqb t u)) (λ n. or_by_left (not (eqb t u)) (all_of (share_tests (first k) (second k'))) n)
    (λ n. or_by_right (not (eqb t u)) (all_of (share_tests (first k) (second k'))) (one k k' rv rw' al (or_right (not (eqb t u)) (same_choice o p) g n)))
  where
    first : Kind → Holding
    first k = record { shared = shared k; teid = t; v4 = c; v6 = d; source = a }

    second : Kind → Holding
    second k = record { shared = shared k; teid = u; v4 = e; v6 = f; source = b }

    one : (k k' : Kind) → FteidRead (not (shared k)) (choose c d o) → FteidRead (not (shared k')) (choose e f p)
        → T (not (shared k) || (not (shared k') || fteids_may_share (choose c d o) a (choose e f p) b)) → T (same_choice o p) → T (all_of (share_tests (first k) (second k')))
    one of_endpoint k' rv rw' al h = unfold choose_id_of same_choice in (absurd (subst (λ (q : Option ℕ). T (same_choice q p)) (rv.no_choose_id tt) h))
    one of_pdr of_endpoint rv rw' al h = unfold choose_id_of in (absurd (subst T (no_choice o) (subst (λ (q : Option ℕ). T (same_choice o q)) (rw'.no_choose_id tt) h)))
    one of_pdr of_pdr rv rw' al h =
        unfold fteids_may_share alike_fteids has_v4 has_v6 choose_id_of in (
        let both' = or_right (not (same_choice o p)) ((same_bool c e && same_bool d f) && eqb a b) al (not_T (not (same_choice o p)) (λ n. T_not (same_choice o p) n h)) in
        let alike = and_left (same_bool c e && same_bool d f) (eqb a b) both' in
        share_tests_lem {h = first of_pdr} {k = second of_pdr}
        (record { first = tt; second = tt; v4 = and_left (same_bool c e) (same_bool d f) alike; v6 = and_right (same_bool c e) (same_bool d f) alike; source = and_right (same_bool c e && same_bool d f) (eqb a b) both' }))

-- ---- the F-TEIDs of a request that keeps the rules

module _ (s : Settings) (m : Sessions) (x : Session) (r : Request) (rules : RulesKept s m x r) (enough : need r ≤ length (free_teids s m)) where
  -- what is looked up among the grants
  abbrev teids' : Kind → ℕ → ℕ
  teids' = granted_teid (grants s m r)

  -- each CHOOSE is of another record
  other' : T (all_pairs other_record (choices r))
  other' = choices_other r rules.created_pdrs_once rules.created_endpoints_once

  -- a test of every free TEID holds of every F-TEID with CH
  local_test : (p : ℕ → Bool) → T (all p (free_teids s m)) → T (all (λ l. on_some (λ c. p (teids' c.kind c.id)) (local_choice l)) (locals r))
  local_test p h =
      subst T (all_collect local_choice (λ c. p (teids' c.kind c.id)) (locals r))
      (subst (λ (l : List Choice). T (all (λ c. p (teids' c.kind c.id)) l)) (choices_locals r) (given_test s m r other' enough p h))

  -- a test of every F-TEID of the request
  fteid_test : (p : Fteid → Bool) → T (not (any p (fteids_of r))) → T (all (λ l. not (p l.fteid)) (locals r))
  fteid_test p h =
      subst T (all_map local_fteid (λ v. not (p v)) (locals r)) (subst (λ (l : List Fteid). T (all (λ v. not (p v)) l)) (fteids_locals r) (none_any p (fteids_of r) h))

  -- a new TEID is held by no record at entry
  pub new_not_held : T (all (λ l. not (member (local_tunnel teids' l).teid (held_teids m))) (locals r))
  new_not_held =
      all_join (λ l. on_some (λ c. not (member (teids' c.kind c.id) (held_teids m))) (local_choice l)) (λ l. on_some (λ h. not (member h.teid (held_teids m))) (local_restored l))
      (λ l. not (member (local_tunnel teids' l).teid (held_teids m))) (λ l. one l.kind l.id l.source l.fteid) (locals r)
      (local_test (λ t. not (member t (held_teids m))) (free_not_held s m))
      (subst T (all_collect local_restored (λ h. not (member h.teid (held_teids m))) (locals r))
      (subst (λ (l : List Holding). T (all (λ h. not (member h.teid (held_teids m))) l)) (restored_locals r)
      (subst T (all_map teid_of (λ t. not (member t (held_teids m))) (restored_holdings r)) (none_in (map teid_of (restored_holdings r)) (held_teids m) rules.restored_free))))
    where
      one : (k : Kind) (i a : ℕ) (v : Fteid) → T (on_some (λ c. not (member (teids' c.kind c.id) (held_teids m))) (choice_of k i v))
          → T (on_some (λ h. not (member h.teid (held_teids m))) (restored_holding (shared k) a v)) → T (not (member (tunnel_from (teids' k i) v).teid (held_teids m)))
      one k i a (given t b c) h g = unfold restored_holding tunnel_from in g
      one k i a (choose b c d) h g = unfold choice_of tunnel_from in h

  -- a new TEID is in the pool
  new_in_pool : T (all (λ l. in_pool s (local_tunnel teids' l).teid) (locals r))
  new_in_pool =
      all_join (λ l. on_some (λ c. in_pool s (teids' c.kind c.id)) (local_choice l)) (λ l. not (strange s l.fteid)) (λ l. in_pool s (local_tunnel teids' l).teid)
      (λ l. one l.kind l.id l.fteid) (locals r) (local_test (in_pool s) (free_in_pool s m)) (fteid_test (strange s) rules.restored)
    where
      one : (k : Kind) (i : ℕ) (v : Fteid) → T (on_some (λ c. in_pool s (teids' c.kind c.id)) (choice_of k i v)) → T (not (strange s v)) → T (in_pool s (tunnel_from (teids' k i) v).teid)
      one k i (given t a b) h g =
          unfold strange tunnel_from in (
          not_not (in_pool s t) (not_or (not (in_pool s t)) (other_address s.ipv4 a) (not_or (not (in_pool s t) || other_address s.ipv4 a) (other_address s.ipv6 b) g).0).0)
      one k i (choose a b c) h g = unfold choice_of tunnel_from in h

  -- what is read of every F-TEID
  module _ (reads : Every (λ l. FteidRead (not (shared l.kind)) l.fteid) (locals r)) where
    -- a new F-TEID keeps the table's rule
    pub new_tunnels : T (all (λ l. tunnel_allowed s (local_tunnel teids' l)) (locals r))
    new_tunnels =
        all_know (λ l. FteidRead (not (shared l.kind)) l.fteid) (λ l. in_pool s (local_tunnel teids' l).teid && not (lacks_family s l.fteid)) (λ l. tunnel_allowed s (local_tunnel teids' l))
        (λ l k h. one (teids' l.kind l.id) l.fteid k.family
        (and_left (in_pool s (local_tunnel teids' l).teid) (not (lacks_family s l.fteid)) h) (and_right (in_pool s (local_tunnel teids' l).teid) (not (lacks_family s l.fteid)) h)) (locals r) reads
        (all_join (λ l. in_pool s (local_tunnel teids' l).teid) (λ l. not (lacks_family s l.fteid)) (λ l. in_pool s (local_tunnel teids' l).teid && not (lacks_family s l.fteid))
        (λ l a b. both (in_pool s (local_tunnel teids' l).teid) (not (lacks_family s l.fteid)) a b) (locals r) new_in_pool (fteid_test (lacks_family s) rules.families))
      where
        one : (t : ℕ) (v : Fteid) → T (has_v4 v || has_v6 v) → T (in_pool s (tunnel_from t v).teid) → T (not (lacks_family s v)) → T (tunnel_allowed s (tunnel_from t v))
        one t (given u a b) f h g =
            unfold has_v4 has_v6 tunnel_from lacks_family in (tunnel_allowed_lem {s = s} {t = tunnel_from t (given u a b)} (record { pool = h; family = f; unit = not_not (unit_families s (not (is_nil b))) g }))
        one t (choose a b c) f h g =
            unfold has_v4 has_v6 tunnel_from lacks_family in (tunnel_allowed_lem {s = s} {t = tunnel_from t (choose a b c)} (record { pool = h; family = f; unit = not_not (unit_families s b) g }))

    -- two restored F-TEIDs keep the rule of sharing
    restored_agree_lem : T (all (λ l. not (chooses l.fteid)) (locals r)) → T (all_pairs (λ a b. agree (local_holding teids' a) (local_holding teids' b)) (locals r))
    restored_agree_lem h =
        pairs_know (λ l. T (not (chooses l.fteid))) (λ a b. on_both agree (local_restored a) (local_restored b)) (λ a b. agree (local_holding teids' a) (local_holding teids' b))
        (λ a b ha hb g. one a.kind b.kind a.id b.id a.source b.source a.fteid b.fteid ha hb g) (locals r) (all_every (λ l. not (chooses l.fteid)) (locals r) h)
        (subst T (pairs_collect local_restored agree (locals r)) (subst (λ (l : List Holding). T (all_pairs agree l)) (restored_locals r) rules.restored_agree))
      where
        one : (k k' : Kind) (i j a b : ℕ) (v w : Fteid) → T (not (chooses v)) → T (not (chooses w)) → T (on_both agree (restored_holding (shared k) a v) (restored_holding (shared k') b w))
            → T (agree (tunnel_holding (shared k) a (tunnel_from (teids' k i) v)) (tunnel_holding (shared k') b (tunnel_from (teids' k' j) w)))
        one k k' i j a b (given t c d) (given u e f) hv hw g = unfold restored_holding tunnel_holding tunnel_from in g
        one k k' i j a b (given t c d) (choose e f o) hv hw g = unfold chooses in (absurd hw)
        one k k' i j a b (choose c d o) w hv hw g = unfold chooses in (absurd hv)

    -- two F-TEIDs with CH keep the rule of sharing
    chosen_agree : T (all (λ l. chooses l.fteid) (locals r)) → T (all_pairs (λ a b. agree (local_holding teids' a) (local_holding teids' b)) (locals r))
    chosen_agree h =
        pairs_know (λ l. FteidRead (not (shared l.kind)) l.fteid × T (chooses l.fteid))
        (λ a b. on_both (given_apart s m r other' enough) (local_choice a) (local_choice b) && alike_locals a b) (λ a b. agree (local_holding teids' a) (local_holding teids' b))
        (λ a b ha hb g. one a.kind b.kind a.id b.id a.source b.source a.fteid b.fteid ha.0 hb.0 ha.1 hb.1
        (and_left (on_both (given_apart s m r other' enough) (local_choice a) (local_choice b)) (alike_locals a b) g)
        (and_right (on_both (given_apart s m r other' enough) (local_choice a) (local_choice b)) (alike_locals a b) g)) (locals r)
        (every_both (λ l. FteidRead (not (shared l.kind)) l.fteid) (λ l. T (chooses l.fteid)) (locals r) reads (all_every (λ l. chooses l.fteid) (locals r) h))
        (pairs_join (λ a b. on_both (given_apart s m r other' enough) (local_choice a) (local_choice b)) alike_locals (λ a b. on_both (given_apart s m r other' enough) (local_choice a) (local_choice b) && alike_locals a b)
        (λ a b g k. both (on_both (given_apart s m r other' enough) (local_choice a) (local_choice b)) (alike_locals a b) g k) (locals r)
        (subst T (pairs_collect local_choice (given_apart s m r other' enough) (locals r)) (subst (λ (l : List Choice). T (all_pairs (given_apart s m r other' enough) l)) (choices_locals r) (given_apart_lem s m r other' enough)))
        (locals_alike r rules.choices_alike))
      where
        one : (k k' : Kind) (i j a b : ℕ) (v w : Fteid) → FteidRead (not (shared k)) v → FteidRead (not (shared k')) w → T (chooses v) → T (chooses w)
            → T (on_both (given_apart s m r other' enough) (choice_of k i v) (choice_of k' j w)) → T (not (shared k) || (not (shared k') || fteids_may_share v a w b))
            → T (agree (tunnel_holding (shared k) a (tunnel_from (teids' k i) v)) (tunnel_holding (shared k') b (tunnel_from (teids' k' j) w)))
        one k k' i j a b (given t c d) w rv rw' hv hw g al = unfold chooses in (absurd hv)
        one k k' i j a b (choose c d o) (given t e f) rv rw' hv hw g al = unfold chooses in (absurd hw)
        one k k' i j a b (choose c d o) (choose e f p) rv rw' hv hw g al = unfold choice_of tunnel_from in (sharing k k' a b (teids' k i) (teids' k' j) c d e f o p rv rw' g al)

    -- every two new holds keep the rule of sharing
    pub new_agree : T (not (invalid_allocation r)) → T (all_pairs agree (new_holdings (granted s m r) r))
    unfolding invalid_allocation allocation_wrong granted
    new_agree h =
        subst (λ (l : List Holding). T (all_pairs agree l)) (sym (new_locals r (granted s m r)))
        (subst T (sym (pairs_map (local_holding teids') agree (locals r))) (one r.restoring (fteid_test (λ v. same_bool (chooses v) r.restoring) h)))
      where
        one : (b : Bool) → T (all (λ l. not (same_bool (chooses l.fteid) b)) (locals r)) → T (all_pairs (λ a c. agree (local_holding teids' a) (local_holding teids' c)) (locals r))
        one true g = restored_agree_lem (all_imply (λ l. not (same_bool (chooses l.fteid) true)) (λ l. not (chooses l.fteid)) (λ l k. no (chooses l.fteid) k) (locals r) g)
          where
            no : (c : Bool) → T (not (same_bool c true)) → T (not c)
            no true k = k
            no false k = tt
        one false g = chosen_agree (all_imply (λ l. not (same_bool (chooses l.fteid) false)) (λ l. chooses l.fteid) (λ l k. yes' (chooses l.fteid) k) (locals r) g)
          where
            yes' : (c : Bool) → T (not (same_bool c false)) → T c
            yes' true k = tt
            yes' false k = k
