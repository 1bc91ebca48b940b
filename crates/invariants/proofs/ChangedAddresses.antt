-- Who holds which address of the pool after an accepted request (02 (v)): the changed session's addresses are the new ones and those that
-- stay; a new one of the pool is held by no session at entry, and so no other session holds one of them.
-- Assumes nothing.
use mathlib.Core.Path.{◌≡◌, refl, sym, ap₂, ◌∙◌, subst}
use Prim.Native.Nat.{ℕ, ◌≤◌}
use mathlib.Core.Bool.{Bool, true, false, not, ◌&&◌, ◌||◌}
use mathlib.Core.List.Permᴰ
use mathlib.Core.List.{List, [], ◌∷◌, ◌++◌, map, Permᴰ}
use lib.ListN.{length}
use lib.Dec.{T}
use Rattle.octets.specs.Choice.{pick, is_nil}
use Rattle.octets.specs.Lists.{member, any_in, all, any, keep, collect}
use Rattle.octets.proofs.Tests.{both, and_left, and_right, all_head, all_tail, all_cons}
use Rattle.octets.proofs.Ordered.{keep_all, all_perm}
use Rattle.octets.proofs.ListLaws.{or_right, or_by_left, or_by_right, by_test, on_some, all_imply, all_join, all_always, all_append, all_front, all_behind, none_any, all_collect, collect_append, collect_map, collect_collect}
use Rattle.octets.proofs.MemberLaws.{absent_part, none_in, in_none, kept_key}
use Rattle.invariants.proofs.InsertLaws.{collect_perm}
use Rattle.rules.specs.Model.{Settings, Session, Sessions, pdr_id, endpoint_id, session_teids, held_teids, free_teids, pdr_address, endpoint_address, in_address_pool, session_addresses, held_addresses, free_addresses}
use Rattle.rules.specs.Elements.{UeIp, ue_given, ue_choose, ue_other, ue_address_of, ue_chooses}
use Rattle.rules.specs.Sound.{apart}
use Rattle.rules.specs.Request.{Request}
use Rattle.rules.specs.Grants.{granted, chosen_address, need}
use Rattle.rules.specs.Stages.{new_pdr_address, new_endpoint_address, addresses_of, removed_pdrs, restored_addresses, address_lacks}
use Rattle.rules.specs.Apply.{address_got, address_from, made_pdr, made_endpoint, pdrs_after, endpoints_after, apply}
use Rattle.laws.proofs.RequestLaws.{RequestRead}
use Rattle.laws.proofs.KeptRules.{SessionKept}
use Rattle.laws.proofs.KeptRequest.{RulesKept}
use Rattle.invariants.proofs.HeldLaws.{all_held, all_addresses_held}
use Rattle.invariants.proofs.Beside.{apart_teids_lem, apart_addresses_lem}
use Rattle.invariants.proofs.FreeAddresses.{chosen_free}
use Rattle.invariants.proofs.ChangedRecords.{update_addresses}
use Rattle.invariants.proofs.ChangedHolds.{stay_collect, changed_parts, teids_apart}

-- ---- a test of those that are kept

module _ {A : Type 0} (q p : A → Bool) where
  -- every one that is not kept passes anyway
  abbrev pub when_kept : A → Bool
  when_kept a = not (q a) || p a

  pub kept_pass : (xs : List A) → T (all when_kept xs) → T (all p (keep q xs))
  unfolding keep all
  kept_pass [] h = tt
  kept_pass (x ∷ xs) h = one (q x) (all_head when_kept x xs h) (kept_pass xs (all_tail when_kept x xs h))
    where
      one : (b : Bool) → T (not b || p x) → T (all p (keep q xs)) → T (all p (pick b (x ∷ keep q xs) (keep q xs)))
      one true k ih = all_cons p x (keep q xs) k ih
      one false k ih = ih

  pub pass_kept : (xs : List A) → T (all p (keep q xs)) → T (all when_kept xs)
  unfolding keep all
  pass_kept [] h = tt
  pass_kept (x ∷ xs) h = one (q x) refl h (λ k. pass_kept xs k)
    where
      one : (b : Bool) → q x ≡ b → T (all p (pick b (x ∷ keep q xs) (keep q xs))) → (T (all p (keep q xs)) → T (all when_kept xs)) → T (all when_kept (x ∷ xs))
      one true e k ih = all_cons when_kept x xs (or_by_right (not (q x)) (p x) (all_head p x (keep q xs) k)) (ih (all_tail p x (keep q xs) k))
      one false e k ih = all_cons when_kept x xs (or_by_left (not (q x)) (p x) (subst (λ (c : Bool). T (not c)) (sym e) tt)) (ih k)

-- ---- the addresses of records, of the pool or not

-- those of a session's records that stay
abbrev pub staying_addresses : Request → Session → List ℕ
staying_addresses r x =
    collect endpoint_address (keep (kept_key endpoint_id r.gone_endpoints) x.endpoints) ++ collect pdr_address (keep (kept_key pdr_id (removed_pdrs r x.pdrs)) x.pdrs)

-- a test of all addresses of a session
staying_addresses_lem : (r : Request) (x : Session) (p : ℕ → Bool) → T (all p (collect endpoint_address x.endpoints ++ collect pdr_address x.pdrs)) → T (all p (staying_addresses r x))
staying_addresses_lem r x p h =
    let es = collect endpoint_address x.endpoints in
    let ps = collect pdr_address x.pdrs in
    all_append p (collect endpoint_address (keep (kept_key endpoint_id r.gone_endpoints) x.endpoints)) (collect pdr_address (keep (kept_key pdr_id (removed_pdrs r x.pdrs)) x.pdrs))
    (stay_collect (kept_key endpoint_id r.gone_endpoints) endpoint_address p x.endpoints (all_front p es ps h))
    (stay_collect (kept_key pdr_id (removed_pdrs r x.pdrs)) pdr_address p x.pdrs (all_behind p es ps h))

-- those that a request's records get, where their CHOOSEs get one address
abbrev pub new_addresses : ℕ → Request → List ℕ
new_addresses chosen r = collect (address_got chosen) (addresses_of r)

new_addresses_lem : (s : Settings) (m : Sessions) (r : Request)
    → collect endpoint_address (map (made_endpoint (granted s m r)) r.endpoints) ++ collect pdr_address (map (made_pdr (granted s m r)) r.pdrs) ≡ new_addresses (chosen_address s m) r
unfolding made_endpoint made_pdr granted address_from addresses_of
new_addresses_lem s m r =
    ap₂ ◌++◌ (collect_map (made_endpoint (granted s m r)) endpoint_address r.endpoints ∙ sym (collect_collect new_endpoint_address (address_got (chosen_address s m)) r.endpoints))
    (collect_map (made_pdr (granted s m r)) pdr_address r.pdrs ∙ sym (collect_collect new_pdr_address (address_got (chosen_address s m)) r.pdrs))
    ∙ sym (collect_append (address_got (chosen_address s m)) (collect new_endpoint_address r.endpoints) (collect new_pdr_address r.pdrs))

-- the changed session's: the new ones and those that stay
pub changed_addresses : (s : Settings) (m : Sessions) (r : Request) (x : Session)
    → Permᴰ (collect endpoint_address (apply (granted s m r) r x).endpoints ++ collect pdr_address (apply (granted s m r) r x).pdrs) (new_addresses (chosen_address s m) r ++ staying_addresses r x)
unfolding apply
changed_addresses s m r x =
    subst (λ (l : List ℕ). Permᴰ (collect endpoint_address (endpoints_after (granted s m r) r x.endpoints) ++ collect pdr_address (pdrs_after (granted s m r) r x.pdrs)) (l ++ staying_addresses r x)) (new_addresses_lem s m r)
    (changed_parts (collect endpoint_address) (collect pdr_address) (collect_append endpoint_address) (collect_append pdr_address) (λ _ _ π. collect_perm endpoint_address π) (λ _ _ π. collect_perm pdr_address π) update_addresses
    (granted s m r) r x)

-- ---- the addresses that a request gives

module _ (s : Settings) (m : Sessions) (x : Session) (r : Request) (rules : RulesKept s m x r) (found : T (not (address_lacks s m r))) where
  -- no session holds it
  abbrev unheld : ℕ → Bool
  unheld a = not (member a (held_addresses s m))

  -- a given one of the pool is held by no session
  given_unheld : T (all (λ v. on_some (when_kept (in_address_pool s) unheld) (ue_address_of v)) (addresses_of r))
  unfolding restored_addresses
  given_unheld =
      subst T (all_collect ue_address_of (when_kept (in_address_pool s) unheld) (addresses_of r))
      (pass_kept (in_address_pool s) unheld (collect ue_address_of (addresses_of r)) (none_in (restored_addresses s r) (held_addresses s m) rules.addresses_free))

  -- and so is the chosen one, if one is chosen
  chosen_unheld : T (all (λ v. not (ue_chooses v) || unheld (chosen_address s m)) (addresses_of r))
  unfolding address_lacks
  chosen_unheld =
      by_test (is_nil (free_addresses s m))
      (λ e. all_imply (λ v. not (ue_chooses v)) (λ v. not (ue_chooses v) || unheld (chosen_address s m)) (λ v h. or_by_left (not (ue_chooses v)) (unheld (chosen_address s m)) h) (addresses_of r)
      (none_any ue_chooses (addresses_of r) (left (any ue_chooses (addresses_of r)) (is_nil (free_addresses s m)) found e)))
      (λ e. all_always (λ v. not (ue_chooses v) || unheld (chosen_address s m)) (λ v. or_by_right (not (ue_chooses v)) (unheld (chosen_address s m)) (chosen_free s m e).unheld) (addresses_of r))
    where
      left : (a b : Bool) → T (not (a && b)) → T b → T (not a)
      left true true h k = h
      left true false h k = absurd k
      left false b h k = tt

  -- a new one of the pool is held by no session at entry
  pub new_addresses_free : T (all (when_kept (in_address_pool s) unheld) (new_addresses (chosen_address s m) r))
  new_addresses_free =
      subst T (sym (all_collect (address_got (chosen_address s m)) (when_kept (in_address_pool s) unheld) (addresses_of r)))
      (all_join (λ v. on_some (when_kept (in_address_pool s) unheld) (ue_address_of v)) (λ v. not (ue_chooses v) || unheld (chosen_address s m))
      (λ v. on_some (when_kept (in_address_pool s) unheld) (address_got (chosen_address s m) v)) one (addresses_of r) given_unheld chosen_unheld)
    where
      one : (v : UeIp) → T (on_some (when_kept (in_address_pool s) unheld) (ue_address_of v)) → T (not (ue_chooses v) || unheld (chosen_address s m)) → T (on_some (when_kept (in_address_pool s) unheld) (address_got (chosen_address s m) v))
      one (ue_given a) h g = unfold address_got ue_address_of in h
      one ue_choose h g = unfold address_got in (or_by_right (not (in_address_pool s (chosen_address s m))) (unheld (chosen_address s m)) (unfold ue_chooses in g))
      one ue_other h g = unfold address_got in tt

  -- a session that had no address of the pool in common with the one at entry has none in common with the changed one
  addresses_apart : (z : Session) → T (all (λ n. member n (held_addresses s m)) (session_addresses s z)) → T (not (any_in (session_addresses s x) (session_addresses s z)))
      → T (not (any_in (session_addresses s (apply (granted s m r) r x)) (session_addresses s z)))
  addresses_apart z there far =
      in_none (session_addresses s (apply (granted s m r) r x)) (session_addresses s z) (unfold session_addresses in (
      kept_pass (in_address_pool s) other (collect endpoint_address (apply (granted s m r) r x).endpoints ++ collect pdr_address (apply (granted s m r) r x).pdrs)
      (all_perm (when_kept (in_address_pool s) other) (Permᴰ.symm (changed_addresses s m r x))
      (all_append (when_kept (in_address_pool s) other) (new_addresses (chosen_address s m) r) (staying_addresses r x)
      (all_imply (when_kept (in_address_pool s) unheld) (when_kept (in_address_pool s) other) (λ a h. more a h) (new_addresses (chosen_address s m) r) new_addresses_free)
      (staying_addresses_lem r x (when_kept (in_address_pool s) other) (pass_kept (in_address_pool s) other (collect endpoint_address x.endpoints ++ collect pdr_address x.pdrs)
      (none_in (keep (in_address_pool s) (collect endpoint_address x.endpoints ++ collect pdr_address x.pdrs)) (session_addresses s z) far)))))))
    where
      other : ℕ → Bool
      other a = not (member a (session_addresses s z))

      more : (a : ℕ) → T (when_kept (in_address_pool s) unheld a) → T (when_kept (in_address_pool s) other a)
      more a h =
          by_test (not (in_address_pool s a)) (λ n. or_by_left (not (in_address_pool s a)) (other a) n)
          (λ n. or_by_right (not (in_address_pool s a)) (other a) (absent_part a (session_addresses s z) (held_addresses s m) there (or_right (not (in_address_pool s a)) (unheld a) h n)))

  -- ---- apart from the others

  module _ (kept : SessionKept s x) (read : RequestRead r) (enough : need r ≤ length (free_teids s m)) (held : T (all (λ n. member n (held_teids m)) (session_teids x))) where
    -- a session that was apart from the one at entry is apart from the changed one
    apart_one : (z : Session) → T (all (λ n. member n (held_teids m)) (session_teids z) && all (λ n. member n (held_addresses s m)) (session_addresses s z)) → T (apart s x z) → T (apart s (apply (granted s m r) r x) z)
    unfolding apart
    apart_one z there far =
        let a = all (λ n. member n (held_teids m)) (session_teids z) in
        let b = all (λ n. member n (held_addresses s m)) (session_addresses s z) in
        both (not (any_in (session_teids (apply (granted s m r) r x)) (session_teids z))) (not (any_in (session_addresses s (apply (granted s m r) r x)) (session_addresses s z)))
        (teids_apart s m x r kept rules read enough held z (and_left a b there) (apart_teids_lem s x z far))
        (addresses_apart z (and_right a b there) (apart_addresses_lem s x z far))

    -- and so for the others
    pub changed_apart : (q : Session → Bool) → T (all (apart s x) (keep q m)) → T (all (apart s (apply (granted s m r) r x)) (keep q m))
    changed_apart q h =
        all_join there (apart s x) (apart s (apply (granted s m r) r x)) apart_one (keep q m)
        (keep_all q there m
        (all_join (λ z. all (λ n. member n (held_teids m)) (session_teids z)) (λ z. all (λ n. member n (held_addresses s m)) (session_addresses s z)) there
        (λ z a b. both (all (λ n. member n (held_teids m)) (session_teids z)) (all (λ n. member n (held_addresses s m)) (session_addresses s z)) a b) m (all_held m) (all_addresses_held s m))) h
      where
        there : Session → Bool
        there z = all (λ n. member n (held_teids m)) (session_teids z) && all (λ n. member n (held_addresses s m)) (session_addresses s z)
