-- What the reports of an accepted request say is what its records got: their TEIDs and the address that was chosen. So the live set, which
-- reads the reply, follows the request as the table does.
-- Assumes nothing.
use mathlib.Core.Path.{◌≡◌, refl, sym, ap, ap₂, ◌∙◌, subst}
use Prim.Native.Nat.{ℕ}
use mathlib.Core.Bool.{Bool, true, false, not, ◌&&◌, ◌||◌}
use mathlib.Core.Option.{Option, none, some}
use mathlib.Core.List.{List, [], ◌∷◌, map}
use lib.Dec.{T, T_not, eqb, eqb→eq, eqb_refl}
use Rattle.octets.specs.Choice.{pick, is_some, value_or, map_option, bind_option}
use Rattle.octets.specs.Lists.{has_repeat, all, any, all_pairs, keep, find_by, collect, insert_all}
use Rattle.octets.proofs.Tests.{both, all_head, all_tail, is_true, is_false}
use Rattle.octets.proofs.Ordered.{pairs_head, pairs_tail}
use Rattle.octets.proofs.ListLaws.{Every, OnSome, on_some, every_imply, or_by_left, or_by_right, all_imply, all_append, all_always, none_any, all_collect, pairs_map}
use Rattle.octets.proofs.MemberLaws.{once_differ}
use Rattle.rules.specs.Model.{Settings, Tunnel, Pdr, Endpoint, Sessions, pdr_id, endpoint_id, key_for}
use Rattle.rules.specs.Elements.{Fteid, given, choose, UeIp, ue_given, ue_choose, ue_other, ue_chooses}
use Rattle.rules.specs.Message.{deletion, set_deletion}
use Rattle.rules.specs.Request.{NewPdr, NewEndpoint, Request}
use Rattle.rules.specs.Grants.{Kind, of_pdr, of_endpoint, same_kind, Choice, Chosen, Grant, choice_of, endpoint_choice, pdr_choice, choices, chosen_teid, grant_of, teid_for, free_after, chosen_after, grant_from, grants, grant_teid, is_grant_for, granted_teid, chosen_address, Got, granted}
use Rattle.rules.specs.Stages.{new_pdr_id, new_endpoint_id, created_pdrs, created_endpoints, removed_pdrs, at_entry}
use Rattle.rules.specs.Apply.{tunnel_from, match_from, address_got, address_from, made_pdr, made_endpoint, update_all, follow_csids, kept_pdr, kept_endpoint, pdrs_after, endpoints_after, apply, remove_session, put_session, stays_session, follow, pdr_by}
use Rattle.rules.specs.Reply.{Report, chosen_tunnel, chosen_ip, pdr_report, endpoint_report, something_chosen, reports}
use Rattle.invariants.proofs.GrantReply.{report_teid, report_address, has_id, said}

-- ---- one part of the reports, TEID or address

-- each record's report has the part that `given` says, or none
module _ {A : Type 0} (key : A → ℕ) (report : A → Report) (keys : (a : A) → (report a).id ≡ key a) (part : Report → Option ℕ) (weak : (g : Report) → T (is_some (part g)) → T (something_chosen g))
    (given' : ℕ → ℕ) (says : (a : A) → OnSome (λ n. n ≡ given' (key a)) (part (report a))) where
  -- what the reports say of an ID
  abbrev said_part : ℕ → List A → ℕ
  said_part i xs = value_or 0 (bind_option (find_by (has_id i) (keep something_chosen (map report xs))) part)

  -- has a record the ID and the part
  abbrev pub has_part : ℕ → A → Bool
  has_part i a = eqb (key a) i && is_some (part (report a))

  -- no other record has the ID
  no_other : (i k : ℕ) (xs : List A) → k ≡ i → T (all (λ b. not (eqb k (key b))) xs) → any (has_part i) xs ≡ false
  unfolding any
  no_other i k [] e h = refl
  no_other i k (b ∷ xs) e h = ap₂ ◌||◌ (one (eqb (key b) i) refl) (no_other i k xs e (all_tail (λ c. not (eqb k (key c))) b xs h))
    where
      one : (c : Bool) → eqb (key b) i ≡ c → (c && is_some (part (report b))) ≡ false
      one false f = refl
      one true f =
          absurd (T_not (eqb k (key b)) (all_head (λ d. not (eqb k (key d))) b xs h)
          (subst (λ (n : ℕ). T (eqb k n)) (e ∙ sym (eqb→eq (key b) i (subst T (sym f) tt))) (eqb_refl k)))

  pub said_part_lem : (i : ℕ) (xs : List A) → T (all_pairs (λ a b. not (eqb (key a) (key b))) xs) → said_part i xs ≡ pick (any (has_part i) xs) (given' i) 0
  unfolding keep find_by any has_id
  said_part_lem i [] h = refl
  said_part_lem i (a ∷ xs) h =
      chosen (something_chosen (report a)) (weak (report a)) (says a) (said_part_lem i xs (pairs_tail (λ b c. not (eqb (key b) (key c))) a xs h))
    where
      Rest : Type 0
      Rest = said_part i xs ≡ pick (any (has_part i) xs) (given' i) 0

      -- the report of the first record, which has the ID
      own : key a ≡ i → (o : Option ℕ) → OnSome (λ n. n ≡ given' (key a)) o → value_or 0 o ≡ pick (is_some o || any (has_part i) xs) (given' i) 0
      own e none k = ap (λ (b : Bool). pick b (given' i) 0) (sym (no_other i (key a) xs e (pairs_head (λ b c. not (eqb (key b) (key c))) a xs h)))
      own e (some n) k = k ∙ ap given' e

      hit : (b : Bool) → eqb (key a) i ≡ b → OnSome (λ n. n ≡ given' (key a)) (part (report a)) → Rest
          → value_or 0 (bind_option (pick b (some (report a)) (find_by (has_id i) (keep something_chosen (map report xs)))) part) ≡ pick ((b && is_some (part (report a))) || any (has_part i) xs) (given' i) 0
      hit false e k ih = ih
      hit true e k ih = own (eqb→eq (key a) i (subst T (sym e) tt)) (part (report a)) k

      skipped : (b : Bool) (o : Option ℕ) → (T (is_some o) → ⊥) → (b && is_some o) ≡ false
      skipped false o f = refl
      skipped true none f = refl
      skipped true (some n) f = absurd (f tt)

      chosen : (c : Bool) → (T (is_some (part (report a))) → T c) → OnSome (λ n. n ≡ given' (key a)) (part (report a)) → Rest
          → value_or 0 (bind_option (find_by (has_id i) (pick c (report a ∷ keep something_chosen (map report xs)) (keep something_chosen (map report xs)))) part)
          ≡ pick ((eqb (key a) i && is_some (part (report a))) || any (has_part i) xs) (given' i) 0
      chosen true w k ih =
          ap (λ (n : ℕ). value_or 0 (bind_option (pick (eqb n i) (some (report a)) (find_by (has_id i) (keep something_chosen (map report xs)))) part)) (keys a)
          ∙ hit (eqb (key a) i) refl k ih
      chosen false w k ih = ih ∙ ap (λ (b : Bool). pick (b || any (has_part i) xs) (given' i) 0) (sym (skipped (eqb (key a) i) (part (report a)) w))

  -- a record with the part is among those that have its ID and the part
  own_there : (xs : List A) → Every (λ a. T (is_some (part (report a))) → T (any (has_part (key a)) xs)) xs
  unfolding any
  own_there [] = tt
  own_there (a ∷ xs) = (
    λ h. or_by_left (has_part (key a) a) (any (has_part (key a)) xs) (both (eqb (key a) (key a)) (is_some (part (report a))) (eqb_refl (key a)) h),
    every_imply (λ b. T (is_some (part (report b))) → T (any (has_part (key b)) xs)) (λ b. T (is_some (part (report b))) → T (has_part (key b) a || any (has_part (key b)) xs))
        (λ b f h. or_by_right (has_part (key b) a) (any (has_part (key b)) xs) (f h)) xs (own_there xs),
  )

  -- so it is said of it
  pub said_own : (xs : List A) → T (all_pairs (λ a b. not (eqb (key a) (key b))) xs) → Every (λ a. T (is_some (part (report a))) → said_part (key a) xs ≡ given' (key a)) xs
  said_own xs h =
      every_imply (λ a. T (is_some (part (report a))) → T (any (has_part (key a)) xs)) (λ a. T (is_some (part (report a))) → said_part (key a) xs ≡ given' (key a))
      (λ a f g. said_part_lem (key a) xs h ∙ ap (λ (b : Bool). pick b (given' (key a)) 0) (is_true (any (has_part (key a)) xs) (f g))) xs (own_there xs)

-- what the parts say of a report's being there
teid_chosen : (g : Report) → T (is_some (report_teid g)) → T (something_chosen g)
unfolding something_chosen
teid_chosen g h = or_by_left (is_some g.local) (is_some g.address) (one g.local h)
  where
    one : (o : Option Tunnel) → T (is_some (map_option (λ (t : Tunnel). t.teid) o)) → T (is_some o)
    one none k = k
    one (some t) k = tt

address_chosen : (g : Report) → T (is_some (report_address g)) → T (something_chosen g)
unfolding something_chosen
address_chosen g h = or_by_right (is_some g.local) (is_some g.address) h

-- ---- a record that no CHOOSE is of has no grant

none_granted : (k : Kind) (i : ℕ) (cs : List Chosen) (free : List ℕ) (l : List Choice) → T (all (λ c. not (same_kind k c.kind && eqb c.id i)) l) → find_by (is_grant_for k i) (grant_from cs free l) ≡ none
unfolding grant_from find_by is_grant_for grant_of
none_granted k i cs free [] h = refl
none_granted k i cs free (c ∷ l) h =
    let o = chosen_teid cs c.choose_id in
    ap (λ (b : Bool). pick b (some (grant_of c (teid_for o free))) (find_by (is_grant_for k i) (grant_from (chosen_after o cs c.choose_id free) (free_after o free) l)))
    (is_false (same_kind k c.kind && eqb c.id i) (all_head (λ d. not (same_kind k d.kind && eqb d.id i)) c l h))
    ∙ none_granted k i (chosen_after o cs c.choose_id free) (free_after o free) l (all_tail (λ d. not (same_kind k d.kind && eqb d.id i)) c l h)

-- ---- the reports of a request whose records have IDs of their own

module _ (s : Settings) (m : Sessions) (r : Request) (once_pdrs : T (not (has_repeat (created_pdrs r)))) (once_endpoints : T (not (has_repeat (created_endpoints r)))) where
  -- what its records get
  abbrev got : Kind → ℕ → Got
  got = granted s m r

  -- and what the reports say
  abbrev said_of : Kind → ℕ → Got
  said_of = said (reports got r)

  -- the TEIDs of the grants
  abbrev teids : Kind → ℕ → ℕ
  teids = granted_teid (grants s m r)

  apart_pdrs : T (all_pairs (λ (p q : NewPdr). not (eqb p.id q.id)) r.pdrs)
  unfolding created_pdrs
  apart_pdrs = subst T (pairs_map new_pdr_id (λ a b. not (eqb a b)) r.pdrs) (once_differ (map new_pdr_id r.pdrs) once_pdrs)

  apart_endpoints : T (all_pairs (λ (e f : NewEndpoint). not (eqb e.id f.id)) r.endpoints)
  unfolding created_endpoints
  apart_endpoints = subst T (pairs_map new_endpoint_id (λ a b. not (eqb a b)) r.endpoints) (once_differ (map new_endpoint_id r.endpoints) once_endpoints)

  pdr_key : (p : NewPdr) → (pdr_report got p).id ≡ new_pdr_id p
  unfolding pdr_report
  pdr_key p = refl

  endpoint_key : (e : NewEndpoint) → (endpoint_report got e).id ≡ new_endpoint_id e
  unfolding endpoint_report
  endpoint_key e = refl

  -- ---- TEIDs

  tunnel_says : (t : ℕ) (v : Fteid) → OnSome (λ n. n ≡ t) (map_option (λ (u : Tunnel). u.teid) (chosen_tunnel t v))
  unfolding chosen_tunnel
  tunnel_says t (given n a b) = tt
  tunnel_says t (choose v4 v6 i) = refl

  pdr_says : (p : NewPdr) → OnSome (λ n. n ≡ teids of_pdr p.id) (report_teid (pdr_report got p))
  unfolding pdr_report granted
  pdr_says p = one p.local
    where
      one : (o : Option Fteid) → OnSome (λ n. n ≡ teids of_pdr p.id) (map_option (λ (u : Tunnel). u.teid) (bind_option o (chosen_tunnel (teids of_pdr p.id))))
      one none = tt
      one (some v) = tunnel_says (teids of_pdr p.id) v

  endpoint_says : (e : NewEndpoint) → OnSome (λ n. n ≡ teids of_endpoint e.id) (report_teid (endpoint_report got e))
  unfolding endpoint_report granted
  endpoint_says e = tunnel_says (teids of_endpoint e.id) e.local

  -- is a CHOOSE not of a kind and ID
  abbrev not_of : Kind → ℕ → Choice → Bool
  not_of k i c = not (same_kind k c.kind && eqb c.id i)

  -- a record of the kind whose report has no TEID, or with another ID
  own_choice : (k : Kind) (i j t : ℕ) (v : Fteid) → T (not (eqb j i && is_some (map_option (λ (u : Tunnel). u.teid) (chosen_tunnel t v)))) → T (on_some (not_of k i) (choice_of k j v))
  unfolding choice_of chosen_tunnel
  own_choice k i j t (given n a b) h = tt
  own_choice k i j t (choose a b c) h = one (same_kind k k) (eqb j i) h
    where
      one : (x y : Bool) → T (not (y && true)) → T (not (x && y))
      one true true g = g
      one true false g = tt
      one false y g = tt

  -- a record of the other kind
  other_choice_lem : (k k' : Kind) (i j : ℕ) (v : Fteid) → same_kind k k' ≡ false → T (on_some (not_of k i) (choice_of k' j v))
  unfolding choice_of
  other_choice_lem k k' i j (given n a b) e = tt
  other_choice_lem k k' i j (choose a b c) e = subst (λ (x : Bool). T (not (x && eqb j i))) (sym e) tt

  -- where no report has a TEID of the ID, there is no CHOOSE of it
  no_pdr_choice : (i : ℕ) → T (not (any (λ p. eqb p.id i && is_some (report_teid (pdr_report got p))) r.pdrs)) → T (all (not_of of_pdr i) (choices r))
  unfolding choices same_kind
  no_pdr_choice i h =
      all_append (not_of of_pdr i) (collect endpoint_choice r.endpoints) (collect pdr_choice r.pdrs)
      (subst T (sym (all_collect endpoint_choice (not_of of_pdr i) r.endpoints))
      (all_always (λ e. on_some (not_of of_pdr i) (endpoint_choice e)) (λ e. unfold endpoint_choice in (other_choice_lem of_pdr of_endpoint i e.id e.local refl)) r.endpoints))
      (subst T (sym (all_collect pdr_choice (not_of of_pdr i) r.pdrs))
      (all_imply (λ p. not (eqb p.id i && is_some (report_teid (pdr_report got p)))) (λ p. on_some (not_of of_pdr i) (pdr_choice p))
      (λ p g. unfold pdr_choice in (one p.id p.local (unfold pdr_report in g))) r.pdrs (none_any (λ p. eqb p.id i && is_some (report_teid (pdr_report got p))) r.pdrs h)))
    where
      one : (j : ℕ) (o : Option Fteid) → T (not (eqb j i && is_some (map_option (λ (u : Tunnel). u.teid) (bind_option o (chosen_tunnel (got of_pdr j).teid))))) → T (on_some (not_of of_pdr i) (bind_option o (choice_of of_pdr j)))
      one j none g = tt
      one j (some v) g = own_choice of_pdr i j (got of_pdr j).teid v g

  no_endpoint_choice : (i : ℕ) → T (not (any (λ e. eqb e.id i && is_some (report_teid (endpoint_report got e))) r.endpoints)) → T (all (not_of of_endpoint i) (choices r))
  unfolding choices same_kind
  no_endpoint_choice i h =
      all_append (not_of of_endpoint i) (collect endpoint_choice r.endpoints) (collect pdr_choice r.pdrs)
      (subst T (sym (all_collect endpoint_choice (not_of of_endpoint i) r.endpoints))
      (all_imply (λ e. not (eqb e.id i && is_some (report_teid (endpoint_report got e)))) (λ e. on_some (not_of of_endpoint i) (endpoint_choice e))
      (λ e g. unfold endpoint_choice in (own_choice of_endpoint i e.id (got of_endpoint e.id).teid e.local (unfold endpoint_report in g))) r.endpoints
      (none_any (λ e. eqb e.id i && is_some (report_teid (endpoint_report got e))) r.endpoints h)))
      (subst T (sym (all_collect pdr_choice (not_of of_endpoint i) r.pdrs))
      (all_always (λ p. on_some (not_of of_endpoint i) (pdr_choice p)) (λ p. unfold pdr_choice in (one p.id p.local)) r.pdrs))
    where
      one : (j : ℕ) (o : Option Fteid) → T (on_some (not_of of_endpoint i) (bind_option o (choice_of of_pdr j)))
      one j none = tt
      one j (some v) = other_choice_lem of_endpoint of_pdr i j v refl

  -- a TEID of the grants is said if a report has one; else there is none
  teid_or_none : (k : Kind) (i : ℕ) (b : Bool) → (T (not b) → T (all (not_of k i) (choices r))) → pick b (teids k i) 0 ≡ teids k i
  teid_or_none k i true f = refl
  teid_or_none k i false f = unfold granted_teid grants in (sym (ap (λ (o : Option Grant). value_or 0 (map_option grant_teid o)) (none_granted k i [] _ (choices r) (f tt))))

  -- the TEID that the reports say of any kind and ID is the grants'
  pub said_teids : (k : Kind) (i : ℕ) → (said_of k i).teid ≡ teids k i
  unfolding said reports
  said_teids of_pdr i =
      said_part_lem new_pdr_id (pdr_report got) pdr_key report_teid teid_chosen (teids of_pdr) pdr_says i r.pdrs apart_pdrs
      ∙ teid_or_none of_pdr i (any (λ p. eqb p.id i && is_some (report_teid (pdr_report got p))) r.pdrs) (no_pdr_choice i)
  said_teids of_endpoint i =
      said_part_lem new_endpoint_id (endpoint_report got) endpoint_key report_teid teid_chosen (teids of_endpoint) endpoint_says i r.endpoints apart_endpoints
      ∙ teid_or_none of_endpoint i (any (λ e. eqb e.id i && is_some (report_teid (endpoint_report got e))) r.endpoints) (no_endpoint_choice i)

  -- ---- the address

  ip_says : (o : Option UeIp) → OnSome (λ n. n ≡ chosen_address s m) (bind_option o (chosen_ip (chosen_address s m)))
  unfolding chosen_ip
  ip_says none = tt
  ip_says (some v) = one (ue_chooses v)
    where
      one : (b : Bool) → OnSome (λ n. n ≡ chosen_address s m) (pick b (some (chosen_address s m)) none)
      one true = refl
      one false = tt

  pdr_address_says : (p : NewPdr) → OnSome (λ n. n ≡ chosen_address s m) (report_address (pdr_report got p))
  unfolding pdr_report granted
  pdr_address_says p = ip_says p.address

  endpoint_address_says : (e : NewEndpoint) → OnSome (λ n. n ≡ chosen_address s m) (report_address (endpoint_report got e))
  unfolding endpoint_report granted
  endpoint_address_says e = ip_says e.address

  -- the address that the reports say of a record that chooses one is the chosen one
  pub said_pdr_addresses : Every (λ p. T (is_some (report_address (pdr_report got p))) → (said_of of_pdr p.id).address ≡ chosen_address s m) r.pdrs
  unfolding said reports
  said_pdr_addresses = said_own new_pdr_id (pdr_report got) pdr_key report_address address_chosen (λ _. chosen_address s m) pdr_address_says r.pdrs apart_pdrs

  pub said_endpoint_addresses : Every (λ e. T (is_some (report_address (endpoint_report got e))) → (said_of of_endpoint e.id).address ≡ chosen_address s m) r.endpoints
  unfolding said reports
  said_endpoint_addresses = said_own new_endpoint_id (endpoint_report got) endpoint_key report_address address_chosen (λ _. chosen_address s m) endpoint_address_says r.endpoints apart_endpoints

  -- ---- the records that are made

  -- an address is the same for all that is said of a record that does not choose one
  address_same : (n : ℕ) (o : Option UeIp) → (T (is_some (bind_option o (chosen_ip (chosen_address s m)))) → n ≡ chosen_address s m) → address_from n o ≡ address_from (chosen_address s m) o
  unfolding address_from address_got chosen_ip ue_chooses
  address_same n none f = refl
  address_same n (some (ue_given a)) f = refl
  address_same n (some ue_choose) f = ap (λ (a : ℕ). some a) (f tt)
  address_same n (some ue_other) f = refl

  made_pdr_lem : (p : NewPdr) → (T (is_some (report_address (pdr_report got p))) → (said_of of_pdr p.id).address ≡ chosen_address s m) → made_pdr said_of p ≡ made_pdr got p
  unfolding made_pdr granted
  made_pdr_lem p f =
      λ j. pdr_by p (match_from (said_teids of_pdr p.id j) p.local p.endpoint)
      (address_same (said_of of_pdr p.id).address p.address (unfold pdr_report granted in f) j)

  made_endpoint_lem : (e : NewEndpoint) → (T (is_some (report_address (endpoint_report got e))) → (said_of of_endpoint e.id).address ≡ chosen_address s m) → made_endpoint said_of e ≡ made_endpoint got e
  unfolding made_endpoint granted
  made_endpoint_lem e f =
      λ j. record {
        id = e.id;
        local = tunnel_from (said_teids of_endpoint e.id j) e.local;
        address = address_same (said_of of_endpoint e.id).address e.address (unfold endpoint_report granted in f) j;
      }

  map_every : {A B : Type 0} (f g : A → B) (xs : List A) → Every (λ a. f a ≡ g a) xs → map f xs ≡ map g xs
  map_every f g [] h = refl
  map_every {A} {B} f g (x ∷ xs) h = ap₂ (λ (y : B) (ys : List B). y ∷ ys) h.0 (map_every f g xs h.1)

  made_pdrs : map (made_pdr said_of) r.pdrs ≡ map (made_pdr got) r.pdrs
  made_pdrs =
      map_every (made_pdr said_of) (made_pdr got) r.pdrs
      (every_imply (λ p. T (is_some (report_address (pdr_report got p))) → (said_of of_pdr p.id).address ≡ chosen_address s m) (λ p. made_pdr said_of p ≡ made_pdr got p) made_pdr_lem r.pdrs said_pdr_addresses)

  made_endpoints : map (made_endpoint said_of) r.endpoints ≡ map (made_endpoint got) r.endpoints
  made_endpoints =
      map_every (made_endpoint said_of) (made_endpoint got) r.endpoints
      (every_imply (λ e. T (is_some (report_address (endpoint_report got e))) → (said_of of_endpoint e.id).address ≡ chosen_address s m) (λ e. made_endpoint said_of e ≡ made_endpoint got e) made_endpoint_lem r.endpoints said_endpoint_addresses)

  -- the sessions after it are the same by what the reports say and by what was granted
  pub follow_said : (kind who header : ℕ) → follow said_of kind who header r m ≡ follow got kind who header r m
  unfolding follow apply pdrs_after endpoints_after
  follow_said kind who header =
      let x = at_entry kind who header r m in
      ap₂ {C = Sessions} (λ (ps : List Pdr) (es : List Endpoint). pick (eqb kind set_deletion) (keep (stays_session who r.listed) m) (pick (eqb kind deletion) (remove_session (key_for who header) m) (put_session (record {
        peer = x.peer;
        seid = x.seid;
        pdrs = update_all r.changes (insert_all pdr_id ps (keep (kept_pdr (removed_pdrs r x.pdrs)) x.pdrs));
        endpoints = insert_all endpoint_id es (keep (kept_endpoint r.gone_endpoints) x.endpoints);
        csids = follow_csids r.csids x.csids;
      }) m))) made_pdrs made_endpoints
