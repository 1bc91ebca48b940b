-- Who holds which TEID after an accepted request: the changed session's holds are the new ones and those that stay; they agree, and no other session holds their TEIDs.
-- Assumes nothing.
use mathlib.Core.Path.{◌≡◌, sym, subst}
use Prim.Native.Nat.{ℕ, ◌≤◌}
use mathlib.Core.Bool.{Bool, true, false, not}
use mathlib.Core.Option.{Option}
use mathlib.Core.List.Permᴰ
use mathlib.Core.List.{List, ◌++◌, map, Permᴰ}
use lib.ListN.{length}
use lib.Dec.{T, T_not, not_T, eqb, eqb→eq}
use mir.Facts.{yes_eqb}
use Rattle.octets.specs.Choice.{all_of, same_bool}
use Rattle.octets.specs.Lists.{member, any_in, all, all_pairs, keep, collect}
use Rattle.octets.proofs.Ordered.{keep_all, keep_pairs, all_perm, pairs_perm}
use Rattle.octets.proofs.ListLaws.{or_right, or_by_left, or_by_right, by_test, on_some, on_both, all_imply, all_append, all_front, all_behind, pairs_append, pairs_front, pairs_behind, pairs_across, all_map, pairs_map, all_collect, pairs_collect, collect_append, map-append}
use Rattle.octets.proofs.MemberLaws.{differ_turn, absent_part, none_in, in_none, kept_key}
use Rattle.invariants.proofs.InsertLaws.{map_perm, collect_perm}
use Rattle.invariants.proofs.RecordsAfter.{after, after_perm, append_perm, swap_inner}
use Rattle.rules.specs.Model.{Settings, Pdr, Endpoint, Session, Sessions, Holding, teid_of, pdr_id, endpoint_id, pdr_holding, endpoint_holding, tunnel_holding, session_holdings, session_teids, held_teids, free_teids}
use Rattle.rules.specs.Sound.{share_tests, agree}
use Rattle.rules.specs.Request.{Change, Request}
use Rattle.rules.specs.Grants.{Kind, grants, granted_teid, Got, granted, need}
use Rattle.rules.specs.Stages.{invalid_allocation, removed_pdrs}
use Rattle.rules.specs.Apply.{made_pdr, made_endpoint, update_all, kept_pdr, kept_endpoint, pdrs_after, endpoints_after, apply}
use Rattle.laws.proofs.KeptRules.{shares, share_tests_lem, SessionKept}
use Rattle.laws.proofs.KeptRequest.{RulesKept}
use Rattle.invariants.proofs.NewHolds.{locals, local_tunnel, local_holding, new_holdings, new_locals, locals_read}
use Rattle.invariants.proofs.NewTeids.{new_not_held, new_agree}
use Rattle.laws.proofs.RequestLaws.{RequestRead}
use Rattle.invariants.proofs.ChangedRecords.{update_holds}

-- ---- the rule of sharing, the other way round

-- equal tests, the other way round
same_turn : (a b : Bool) → T (same_bool a b) → T (same_bool b a)
same_turn true true h = tt
same_turn true false h = h
same_turn false true h = h
same_turn false false h = tt

-- two holds that agree
pub agree_turn : (h k : Holding) → T (agree h k) → T (agree k h)
unfolding agree
agree_turn h k g =
    by_test (not (eqb h.teid k.teid)) (λ n. or_by_left (not (eqb k.teid h.teid)) (all_of (share_tests k h)) (differ_turn h.teid k.teid n))
    (λ n. let e = shares h k (or_right (not (eqb h.teid k.teid)) (all_of (share_tests h k)) g n) in
    or_by_right (not (eqb k.teid h.teid)) (all_of (share_tests k h))
    (share_tests_lem {h = k} {k = h} (record { first = e.second; second = e.first; v4 = same_turn h.v4 k.v4 e.v4; v6 = same_turn h.v6 k.v6 e.v6; source = yes_eqb (sym (eqb→eq h.source k.source e.source)) })))

-- ---- what stays of made values

module _ {A B : Type 0} (q : A → Bool) where
  -- tests and relations of the values of those that stay
  stay_map : (f : A → B) (p : B → Bool) (xs : List A) → T (all p (map f xs)) → T (all p (map f (keep q xs)))
  stay_map f p xs h = subst T (sym (all_map f p (keep q xs))) (keep_all q (λ a. p (f a)) xs (subst T (all_map f p xs) h))

  -- the same where some have none
  pub stay_collect : (f : A → Option B) (p : B → Bool) (xs : List A) → T (all p (collect f xs)) → T (all p (collect f (keep q xs)))
  stay_collect f p xs h = subst T (sym (all_collect f p (keep q xs))) (keep_all q (λ a. on_some p (f a)) xs (subst T (all_collect f p xs) h))

  -- a relation of every two
  stay_map_pairs : (f : A → B) (r : B → B → Bool) (xs : List A) → T (all_pairs r (map f xs)) → T (all_pairs r (map f (keep q xs)))
  stay_map_pairs f r xs h = subst T (sym (pairs_map f r (keep q xs))) (keep_pairs q (λ a b. r (f a) (f b)) xs (subst T (pairs_map f r xs) h))

  -- the same where some have none
  stay_collect_pairs : (f : A → Option B) (r : B → B → Bool) (xs : List A) → T (all_pairs r (collect f xs)) → T (all_pairs r (collect f (keep q xs)))
  stay_collect_pairs f r xs h = subst T (sym (pairs_collect f r (keep q xs))) (keep_pairs q (λ a b. on_both r (f a) (f b)) xs (subst T (pairs_collect f r xs) h))

-- ---- the holds that stay

-- a session's holds without those of the records that go
abbrev pub staying_holdings : Request → Session → List Holding
staying_holdings r x = map endpoint_holding (keep (kept_key endpoint_id r.gone_endpoints) x.endpoints) ++ collect pdr_holding (keep (kept_key pdr_id (removed_pdrs r x.pdrs)) x.pdrs)

module _ (r : Request) (x : Session) where
  -- a test of all holds
  pub staying_all : (p : Holding → Bool) → T (all p (session_holdings x)) → T (all p (staying_holdings r x))
  unfolding session_holdings
  staying_all p h =
      all_append p (map endpoint_holding (keep (kept_key endpoint_id r.gone_endpoints) x.endpoints)) (collect pdr_holding (keep (kept_key pdr_id (removed_pdrs r x.pdrs)) x.pdrs))
      (stay_map (kept_key endpoint_id r.gone_endpoints) endpoint_holding p x.endpoints (all_front p (map endpoint_holding x.endpoints) (collect pdr_holding x.pdrs) h))
      (stay_collect (kept_key pdr_id (removed_pdrs r x.pdrs)) pdr_holding p x.pdrs (all_behind p (map endpoint_holding x.endpoints) (collect pdr_holding x.pdrs) h))

  -- a relation of every two
  staying_pairs : (u : Holding → Holding → Bool) → T (all_pairs u (session_holdings x)) → T (all_pairs u (staying_holdings r x))
  unfolding session_holdings
  staying_pairs u h =
      let es = map endpoint_holding x.endpoints in
      let ps = collect pdr_holding x.pdrs in
      let qe = kept_key endpoint_id r.gone_endpoints in
      let qp = kept_key pdr_id (removed_pdrs r x.pdrs) in
      pairs_append u (map endpoint_holding (keep qe x.endpoints)) (collect pdr_holding (keep qp x.pdrs))
      (stay_map_pairs qe endpoint_holding u x.endpoints (pairs_front u es ps h))
      (stay_collect_pairs qp pdr_holding u x.pdrs (pairs_behind u es ps h))
      (all_imply (λ a. all (u a) ps) (λ a. all (u a) (collect pdr_holding (keep qp x.pdrs))) (λ a g. stay_collect qp pdr_holding (u a) x.pdrs g) (map endpoint_holding (keep qe x.endpoints))
      (stay_map qe endpoint_holding (λ a. all (u a) ps) x.endpoints (pairs_across u es ps h)))

-- what is taken from the records of the changed session, list by list (holds or addresses): from the new ones and from those that stay
module _ {B : Type 0} (fe : List Endpoint → List B) (fp : List Pdr → List B) (join_endpoints : (xs ys : List Endpoint) → fe (xs ++ ys) ≡ fe xs ++ fe ys) (join_pdrs : (xs ys : List Pdr) → fp (xs ++ ys) ≡ fp xs ++ fp ys)
    (perm_endpoints : (xs ys : List Endpoint) → Permᴰ xs ys → Permᴰ (fe xs) (fe ys)) (perm_pdrs : (xs ys : List Pdr) → Permᴰ xs ys → Permᴰ (fp xs) (fp ys))
    (same : (cs : List Change) (ps : List Pdr) → fp (update_all cs ps) ≡ fp ps) where
  pub changed_parts : (got : Kind → ℕ → Got) (r : Request) (x : Session)
      → Permᴰ (fe (endpoints_after got r x.endpoints) ++ fp (pdrs_after got r x.pdrs))
      ((fe (map (made_endpoint got) r.endpoints) ++ fp (map (made_pdr got) r.pdrs))
      ++ (fe (keep (kept_key endpoint_id r.gone_endpoints) x.endpoints) ++ fp (keep (kept_key pdr_id (removed_pdrs r x.pdrs)) x.pdrs)))
  unfolding endpoints_after pdrs_after kept_pdr kept_endpoint
  changed_parts got r x =
      let made_endpoints = map (made_endpoint got) r.endpoints in
      let made_pdrs = map (made_pdr got) r.pdrs in
      let left_endpoints = keep (kept_key endpoint_id r.gone_endpoints) x.endpoints in
      let left_pdrs = keep (kept_key pdr_id (removed_pdrs r x.pdrs)) x.pdrs in
      let es = after endpoint_id r.gone_endpoints made_endpoints x.endpoints in
      let ps = after pdr_id (removed_pdrs r x.pdrs) made_pdrs x.pdrs in
      subst (λ (l : List B). Permᴰ (fe es ++ l) ((fe made_endpoints ++ fp made_pdrs) ++ (fe left_endpoints ++ fp left_pdrs))) (sym (same r.changes ps))
      (Permᴰ.trans
      (subst (λ (l : List B). Permᴰ (fe es ++ fp ps) (fe made_endpoints ++ fe left_endpoints ++ l)) (join_pdrs made_pdrs left_pdrs)
      (subst (λ (l : List B). Permᴰ (fe es ++ fp ps) (l ++ fp (made_pdrs ++ left_pdrs))) (join_endpoints made_endpoints left_endpoints)
      (append_perm (perm_endpoints es (made_endpoints ++ left_endpoints) (after_perm endpoint_id r.gone_endpoints made_endpoints x.endpoints)) (perm_pdrs ps (made_pdrs ++ left_pdrs) (after_perm pdr_id (removed_pdrs r x.pdrs) made_pdrs x.pdrs)))))
      (swap_inner (fe made_endpoints) (fe left_endpoints) (fp made_pdrs) (fp left_pdrs)))

-- the changed session's holds: the new ones and those that stay
pub changed_holds : (got : Kind → ℕ → Got) (r : Request) (x : Session) → Permᴰ (session_holdings (apply got r x)) (new_holdings got r ++ staying_holdings r x)
unfolding session_holdings apply new_holdings
changed_holds got r x =
    changed_parts (map endpoint_holding) (collect pdr_holding) (map-append endpoint_holding) (collect_append pdr_holding) (λ _ _ π. map_perm endpoint_holding π) (λ _ _ π. collect_perm pdr_holding π) update_holds got r x

-- ---- the changed session

module _ (s : Settings) (m : Sessions) (x : Session) (r : Request) (kept : SessionKept s x) (rules : RulesKept s m x r) (read : RequestRead r) (enough : need r ≤ length (free_teids s m))
    (held : T (all (λ n. member n (held_teids m)) (session_teids x))) where
  -- what the records get, and the TEIDs of it
  abbrev got : Kind → ℕ → Got
  got = granted s m r

  abbrev teids : Kind → ℕ → ℕ
  teids = granted_teid (grants s m r)

  -- the new holds' TEIDs are held by nobody at entry
  pub new_free : T (all (λ h. not (member h.teid (held_teids m))) (new_holdings got r))
  unfolding granted
  new_free =
      subst (λ (l : List Holding). T (all (λ h. not (member h.teid (held_teids m))) l)) (sym (new_locals r got))
      (subst T (sym (all_map (local_holding teids) (λ h. not (member h.teid (held_teids m))) (locals r))) (unfold_teid (new_not_held s m x r rules enough)))
    where
      unfold_teid : T (all (λ l. not (member (local_tunnel teids l).teid (held_teids m))) (locals r)) → T (all (λ l. not (member (local_holding teids l).teid (held_teids m))) (locals r))
      unfold_teid h = unfold tunnel_holding in h

  -- those that stay are held at entry
  staying_held : T (all (λ h. member h.teid (held_teids m)) (staying_holdings r x))
  unfolding session_teids
  staying_held = staying_all r x (λ h. member h.teid (held_teids m)) (subst T (all_map teid_of (λ n. member n (held_teids m)) (session_holdings x)) held)

  -- a new hold agrees with those that stay: its TEID is another
  across : T (all (λ h. all (agree h) (staying_holdings r x)) (new_holdings got r))
  across =
      all_imply (λ h. not (member h.teid (held_teids m))) (λ h. all (agree h) (staying_holdings r x))
      (λ h free. all_imply (λ k. member k.teid (held_teids m)) (agree h) (λ k there. one h k free there) (staying_holdings r x) staying_held) (new_holdings got r) new_free
    where
      one : (h k : Holding) → T (not (member h.teid (held_teids m))) → T (member k.teid (held_teids m)) → T (agree h k)
      one h k free there = unfold agree in (
          or_by_left (not (eqb h.teid k.teid)) (all_of (share_tests h k))
          (not_T (eqb h.teid k.teid) (λ e. T_not (member h.teid (held_teids m)) free (subst (λ (n : ℕ). T (member n (held_teids m))) (sym (eqb→eq h.teid k.teid e)) there))))

  -- every two holds of the changed session keep the rule of sharing
  pub changed_agree : T (not (invalid_allocation r)) → T (all_pairs agree (session_holdings (apply got r x)))
  changed_agree ok =
      pairs_perm agree agree_turn (Permᴰ.symm (changed_holds got r x))
      (pairs_append agree (new_holdings got r) (staying_holdings r x) (new_agree s m x r rules enough (locals_read r read.endpoints read.pdrs) ok) (staying_pairs r x agree kept.holds) across)

  -- a session that had no TEID in common with the one at entry has none in common with the changed one
  pub teids_apart : (z : Session) → T (all (λ n. member n (held_teids m)) (session_teids z)) → T (not (any_in (session_teids x) (session_teids z))) → T (not (any_in (session_teids (apply got r x)) (session_teids z)))
  teids_apart z there far = in_none (session_teids (apply got r x)) (session_teids z) (unfold session_teids in (
      subst T (sym (all_map teid_of (λ n. not (member n (session_teids z))) (session_holdings (apply got r x))))
      (all_perm (λ h. not (member h.teid (session_teids z))) (Permᴰ.symm (changed_holds got r x))
      (all_append (λ h. not (member h.teid (session_teids z))) (new_holdings got r) (staying_holdings r x)
      (all_imply (λ h. not (member h.teid (held_teids m))) (λ h. not (member h.teid (session_teids z))) (λ h free. absent_part h.teid (session_teids z) (held_teids m) there free) (new_holdings got r) new_free)
      (staying_all r x (λ h. not (member h.teid (session_teids z)))
      (subst T (all_map teid_of (λ n. not (member n (session_teids z))) (session_holdings x)) (none_in (map teid_of (session_holdings x)) (session_teids z) far)))))))
