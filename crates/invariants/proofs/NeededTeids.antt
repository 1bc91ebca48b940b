-- An accepted request adds no more TEIDs to its session than it needs (02 (xiv)).
-- Assumes nothing.
use mathlib.Core.Path.{◌≡◌, refl, sym, ap, subst}
use Prim.Native.Nat.{ℕ, ◌+◌, ◌≤◌}
use native.Mathlib.Omega.{arith}
use mathlib.Core.Bool.{Bool, true, false, not}
use mathlib.Core.Option.{Option, none, some}
use mathlib.Core.List.Permᴰ
use mathlib.Core.List.{List, [], ◌∷◌, ◌++◌, map, append-nil}
use lib.ListN.{length}
use lib.Dec.{T}
use Rattle.octets.specs.Choice.{pick, flag, is_some, map_option, head_or, rest}
use Rattle.octets.specs.Lists.{member, distinct, all, find_by}
use Rattle.octets.proofs.Tests.{all_cons, is_true}
use Rattle.octets.proofs.Ordered.{all_perm}
use Rattle.octets.proofs.Counting.{distinct_middle}
use Rattle.octets.proofs.ListLaws.{all_imply, all_every, all_know, all_join, all_append, all_map, all_collect, on_some, found_knows}
use Rattle.octets.proofs.MemberLaws.{member_first, member_front, member_behind, all_members}
use Rattle.rules.specs.Model.{Settings, Session, Sessions, Holding, teid_of, tunnel_holding, session_holdings, session_teids, free_teids}
use Rattle.rules.specs.Elements.{Fteid, given, choose}
use Rattle.rules.specs.Request.{Request}
use Rattle.rules.specs.Grants.{Kind, Choice, Chosen, choice_of, choices, chosen, is_choice, chosen_teid, remember, teid_for, free_after, chosen_after, need, grants, granted_teid, granted}
use Rattle.rules.specs.Stages.{restored_holding, restored_holdings, needed}
use Rattle.rules.specs.Apply.{tunnel_from, apply}
use Rattle.laws.proofs.NeedLaws.{is_fresh, noted, need_from, need_given}
use Rattle.laws.proofs.DistinctLaws.{distinct_within, distinct_both}
use Rattle.laws.proofs.KeptRequest.{RulesKept}
use Rattle.invariants.proofs.GrantLaws.{Matches, matches_new, matches_old}
use Rattle.invariants.proofs.GrantedTeids.{Granted, granted_from, choice_in, granted_choices}
use Rattle.invariants.proofs.NewHolds.{shared, locals, local_choice, local_restored, local_tunnel, local_holding, new_holdings, choices_locals, restored_locals, new_locals, choices_other}
use Rattle.invariants.proofs.NewTeids.{looked_up_lem}
use Rattle.invariants.proofs.ChangedHolds.{staying_holdings, staying_all, changed_holds}

-- ---- the CHOOSEs

abbrev teid_in : Granted → ℕ
teid_in g = g.teid

-- a TEID that is new, and one that is known
new_step : (t : ℕ) (xs known : List ℕ) (n : ℕ) → distinct (xs ++ t ∷ known) ≤ n + distinct (t ∷ known) → distinct (t ∷ (xs ++ known)) ≤ (1 + n) + distinct known
unfolding distinct
new_step t xs known n h =
    let e = distinct_middle t xs known in
    let f = at_most (not (member t known)) in
    omega arith
  where
    at_most : (b : Bool) → flag b ≤ 1
    at_most true = omega arith
    at_most false = omega arith

old_step : (t : ℕ) (xs known : List ℕ) (n : ℕ) → T (member t known) → distinct (xs ++ known) ≤ n + distinct known → distinct (t ∷ (xs ++ known)) ≤ (0 + n) + distinct known
unfolding distinct
old_step t xs known n there h =
    let e = ap (λ (b : Bool). flag (not b)) (is_true (member t (xs ++ known)) (member_behind t xs known there)) in
    omega arith

-- the TEIDs given are no more than those needed, beside the ones known before
granted_few : (l : List Choice) (cs : List Chosen) (free seen known : List ℕ) → Matches seen cs → T (all (λ c. member c.teid known) cs)
    → distinct (map teid_in (granted_from cs free l) ++ known) ≤ need_from seen l + distinct known
unfolding granted_from need_from
granted_few [] cs free seen known h k = omega arith
granted_few (c ∷ l) cs free seen known h k = by_id c.choose_id (λ cs' free' seen' known' h' k'. granted_few l cs' free' seen' known' h' k')
  where
    Rest : Type 0
    Rest =
        (cs' : List Chosen) (free' seen' known' : List ℕ) → Matches seen' cs' → T (all (λ d. member d.teid known') cs')
        → distinct (map teid_in (granted_from cs' free' l) ++ known') ≤ need_from seen' l + distinct known'

    Goal : Option ℕ → Option ℕ → ℕ → Type 0
    Goal i o n = distinct (teid_for o free ∷ (map teid_in (granted_from (chosen_after o cs i free) (free_after o free) l) ++ known)) ≤ n + distinct known

    -- those known stay known
    more : (t : ℕ) → T (all (λ d. member d.teid (t ∷ known)) cs)
    more t = all_imply (λ d. member d.teid known) (λ d. member d.teid (t ∷ known)) (λ d g. member_behind d.teid (t ∷ []) known g) cs k

    with_id_lem : (i : ℕ) → Rest → (o : Option Chosen) → find_by (is_choice i) cs ≡ o → Goal (some i) (map_option chosen o) (pick (not (is_some o)) 1 0 + need_from (i ∷ seen) l)
    with_id_lem i ih none e =
        unfold teid_for chosen_after free_after remember in (
        let t = head_or 0 free in
        let d : Chosen = record { choose_id = i; teid = t } in
        new_step t (map teid_in (granted_from (d ∷ cs) (rest free) l)) known (need_from (i ∷ seen) l)
        (ih (d ∷ cs) (rest free) (i ∷ seen) (t ∷ known) (matches_new seen cs i t h) (all_cons (λ z. member z.teid (t ∷ known)) d cs (member_first t known) (more t))))
    with_id_lem i ih (some d) e =
        unfold teid_for chosen_after free_after in (
        old_step d.teid (map teid_in (granted_from cs free l)) known (need_from (i ∷ seen) l)
        (found_knows (λ z. T (member z.teid known)) (is_choice i) cs d (all_every (λ z. member z.teid known) cs k) e)
        (ih cs free (i ∷ seen) known (matches_old seen cs i h (ap is_some e)) k))

    by_id : (i : Option ℕ) → Rest → Goal i (chosen_teid cs i) (pick (is_fresh seen i) 1 0 + need_from (noted seen i) l)
    by_id none ih =
        unfold teid_for chosen_after free_after remember chosen_teid is_fresh noted in (
        new_step (head_or 0 free) (map teid_in (granted_from cs (rest free) l)) known (need_from seen l) (ih cs (rest free) seen (head_or 0 free ∷ known) h (more (head_or 0 free))))
    by_id (some i) ih =
        unfold chosen_teid is_fresh noted in (
        subst (λ (b : Bool). Goal (some i) (map_option chosen (find_by (is_choice i) cs)) (pick (not b) 1 0 + need_from (i ∷ seen) l)) (sym (h i)) (with_id_lem i ih (find_by (is_choice i) cs) refl))

-- ---- the records of a request

module _ (s : Settings) (m : Sessions) (x : Session) (r : Request) (rules : RulesKept s m x r) (enough : need r ≤ length (free_teids s m)) where
  abbrev teids : Kind → ℕ → ℕ
  teids = granted_teid (grants s m r)

  abbrev given' : List Granted
  given' = granted_from [] (free_teids s m) (choices r)

  -- those given, and those named
  abbrev chosen_teids : List ℕ
  chosen_teids = map teid_in given'

  abbrev named_teids : List ℕ
  named_teids = map teid_of (restored_holdings r)

  few : distinct chosen_teids ≤ need r
  few =
      let a = granted_few (choices r) [] (free_teids s m) [] [] (λ i. unfold member find_by in refl) (unfold all in tt) in
      let b = ap distinct (append-nil chosen_teids) in
      let c : distinct [] ≡ 0 = unfold distinct in refl in
      omega (arith, need_given r)

  -- every CHOOSE has one of those given
  choices_there : T (all (λ c. member (teids c.kind c.id) chosen_teids) (choices r))
  choices_there =
      subst (λ (l : List Choice). T (all (λ c. member (teids c.kind c.id) chosen_teids) l)) (granted_choices (choices r) [] (free_teids s m))
      (subst T (sym (all_map choice_in (λ c. member (teids c.kind c.id) chosen_teids) given'))
      (all_know (λ d. teids d.choice.kind d.choice.id ≡ d.teid) (λ d. member d.teid chosen_teids) (λ d. member (teids d.choice.kind d.choice.id) chosen_teids)
      (λ d e g. subst (λ (t : ℕ). T (member t chosen_teids)) (sym e) g) given'
      (looked_up_lem s m r (choices_other r rules.created_pdrs_once rules.created_endpoints_once) enough)
      (subst T (all_map teid_in (λ n. member n chosen_teids) given') (all_members chosen_teids))))

  -- every new TEID is one given or one named
  new_there : T (all (λ l. member (local_tunnel teids l).teid (named_teids ++ chosen_teids)) (locals r))
  new_there =
      all_join (λ l. on_some (λ c. member (teids c.kind c.id) chosen_teids) (local_choice l)) (λ l. on_some (λ h. member h.teid named_teids) (local_restored l))
      (λ l. member (local_tunnel teids l).teid (named_teids ++ chosen_teids)) (λ l. one l.kind l.id l.source l.fteid) (locals r)
      (subst T (all_collect local_choice (λ c. member (teids c.kind c.id) chosen_teids) (locals r))
      (subst (λ (l : List Choice). T (all (λ c. member (teids c.kind c.id) chosen_teids) l)) (choices_locals r) choices_there))
      (subst T (all_collect local_restored (λ h. member h.teid named_teids) (locals r))
      (subst (λ (l : List Holding). T (all (λ h. member h.teid named_teids) l)) (restored_locals r)
      (subst T (all_map teid_of (λ t. member t named_teids) (restored_holdings r)) (all_members named_teids))))
    where
      one : (k : Kind) (i a : ℕ) (v : Fteid) → T (on_some (λ c. member (teids c.kind c.id) chosen_teids) (choice_of k i v))
          → T (on_some (λ h. member h.teid named_teids) (restored_holding (shared k) a v)) → T (member (tunnel_from (teids k i) v).teid (named_teids ++ chosen_teids))
      one k i a (given t b c) h g = unfold restored_holding tunnel_from in (member_front t named_teids chosen_teids g)
      one k i a (choose b c d) h g = unfold choice_of tunnel_from in (member_behind (teids k i) named_teids chosen_teids h)

  new_held : T (all (λ h. member h.teid (named_teids ++ chosen_teids)) (new_holdings (granted s m r) r))
  unfolding granted
  new_held =
      subst (λ (l : List Holding). T (all (λ h. member h.teid (named_teids ++ chosen_teids)) l)) (sym (new_locals r (granted s m r)))
      (subst T (sym (all_map (local_holding teids) (λ h. member h.teid (named_teids ++ chosen_teids)) (locals r))) (unfold_teid new_there))
    where
      unfold_teid : T (all (λ l. member (local_tunnel teids l).teid (named_teids ++ chosen_teids)) (locals r)) → T (all (λ l. member (local_holding teids l).teid (named_teids ++ chosen_teids)) (locals r))
      unfold_teid h = unfold tunnel_holding in h

  -- the changed session's TEIDs: those, and those that it had
  session_there : T (all (λ n. member n ((named_teids ++ chosen_teids) ++ session_teids x)) (session_teids (apply (granted s m r) r x)))
  unfolding session_teids
  session_there =
      let all' = (named_teids ++ chosen_teids) ++ map teid_of (session_holdings x) in
      subst T (sym (all_map teid_of (λ n. member n all') (session_holdings (apply (granted s m r) r x))))
      (all_perm (λ h. member h.teid all') (Permᴰ.symm (changed_holds (granted s m r) r x))
      (all_append (λ h. member h.teid all') (new_holdings (granted s m r) r) (staying_holdings r x)
      (all_imply (λ h. member h.teid (named_teids ++ chosen_teids)) (λ h. member h.teid all')
      (λ h g. member_front h.teid (named_teids ++ chosen_teids) (map teid_of (session_holdings x)) g) (new_holdings (granted s m r) r) new_held)
      (staying_all r x (λ h. member h.teid all')
      (subst T (all_map teid_of (λ n. member n all') (session_holdings x))
      (all_imply (λ n. member n (map teid_of (session_holdings x))) (λ n. member n all') (λ n g. member_behind n (named_teids ++ chosen_teids) (map teid_of (session_holdings x)) g)
      (map teid_of (session_holdings x)) (all_members (map teid_of (session_holdings x))))))))

  -- so it holds no more than it did, and what the request needs
  pub changed_few : distinct (session_teids (apply (granted s m r) r x)) ≤ distinct (session_teids x) + needed r
  unfolding needed
  changed_few =
      let a = distinct_within (session_teids (apply (granted s m r) r x)) ((named_teids ++ chosen_teids) ++ session_teids x) session_there in
      let b = distinct_both (named_teids ++ chosen_teids) (session_teids x) in
      let c = distinct_both named_teids chosen_teids in
      let d = few in
      omega arith
