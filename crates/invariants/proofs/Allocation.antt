-- Which TEIDs the CHOOSEs of an accepted request get (01, "What a request does"): equal CHOOSE IDs one TEID; every other CHOOSE the lowest
-- TEID that was free at entry and not given before in this request, in 01's order.
-- Assumes nothing.
use mathlib.Core.Path.{◌≡◌, refl, sym, ap, ◌∙◌, subst}
use Prim.Native.Nat.{ℕ, ◌+◌, ◌≤◌, ◌<◌}
use native.Mathlib.Nat.{le_trans, le_of_eq, le_of_lt}
use native.Mathlib.Omega.{arith}
use mathlib.Core.Bool.{Bool, true, false, not, ◌||◌}
use mathlib.Core.Option.{Option, none, some}
use mathlib.Core.List.{List, [], ◌∷◌, map}
use lib.ListN.{length}
use lib.Dec.{T, T_not, not_T, ltb, eqb, ltb→lt, eqb→eq, eqb_refl}
use Rattle.octets.specs.Choice.{pick, is_some, map_option, bind_option, head_or}
use Rattle.octets.specs.Lists.{member, all, all_pairs, find_by, collect}
use Rattle.octets.proofs.Tests.{both, all_head, all_tail, all_cons, is_true, is_false, no_eqb, neither_one}
use Rattle.octets.proofs.Ordered.{pairs_head, pairs_tail}
use Rattle.octets.proofs.ListLaws.{by_test, or_right, or_by_left, or_by_right, Every, on_both, all_every, all_imply, all_join, all_always, pairs_know, pairs_imply, pairs_behind, pairs_map, pairs_collect, found_knows}
use Rattle.octets.proofs.MemberLaws.{member_passes, member_first, member_behind}
use Rattle.octets.proofs.Bools.{not_or}
use Rattle.rules.specs.Model.{Settings, Sessions, held_teids, free_teids}
use Rattle.rules.specs.Elements.{Fteid, given, choose, choose_id_of}
use Rattle.rules.specs.Sound.{in_pool}
use Rattle.rules.specs.Request.{NewPdr, Request}
use Rattle.rules.specs.Grants.{Kind, of_pdr, Choice, Chosen, choice_of, endpoint_choice, pdr_choice, choices, chosen, is_choice, chosen_teid, remember, teid_for, free_after, chosen_after, grants, granted_teid, need}
use Rattle.rules.specs.Stages.{same_choice}
use Rattle.laws.proofs.NeedLaws.{is_fresh, noted, need_from, enough_given}
use Rattle.invariants.proofs.GrantLaws.{Matches, matches_new, matches_old}
use Rattle.invariants.proofs.FreeTeids.{free_there, free_ascends}
use Rattle.invariants.proofs.PoolLaws.{free_in_pool, free_not_held}
use Rattle.invariants.proofs.GrantedTeids.{Granted, granted_from, choice_in, granted_choices, other_record, no_choice}
use Rattle.invariants.proofs.NewTeids.{looked_up_lem}

-- ---- equal CHOOSE IDs

-- a CHOOSE ID has a TEID
abbrev Has : List Chosen → ℕ → ℕ → Type 0
Has cs i t = map_option chosen (find_by (is_choice i) cs) ≡ some t

-- a CHOOSE with the CHOOSE ID i has the TEID t
abbrev pub same_teid : Option ℕ → ℕ → Granted → Bool
same_teid i t b = not (same_choice i b.choice.choose_id) || eqb t b.teid

-- once a CHOOSE ID has its TEID, it keeps it
has_after : (cs : List Chosen) (free : List ℕ) (i t : ℕ) (j : Option ℕ) → Has cs i t → Has (chosen_after (chosen_teid cs j) cs j free) i t
unfolding chosen_teid
has_after cs free i t none h = unfold chosen_after remember in h
has_after cs free i t (some j) h = one (find_by (is_choice j) cs) refl
  where
    new : ℕ → Chosen
    new u = record { choose_id = j; teid = u }

    other : find_by (is_choice j) cs ≡ none → eqb j i ≡ false
    other e = is_false (eqb j i) (not_T (eqb j i) (λ g. subst (λ (o : Option ℕ). T (not (is_some o))) (sym (ap (map_option chosen) (ap (λ (k : ℕ). find_by (is_choice k) cs) (sym (eqb→eq j i g)) ∙ e)) ∙ h) tt))

    one : (o : Option Chosen) → find_by (is_choice j) cs ≡ o → Has (chosen_after (map_option chosen o) cs (some j) free) i t
    one none e = unfold chosen_after remember find_by is_choice in (
        ap (λ (b : Bool). map_option chosen (pick b (some (new (head_or 0 free))) (find_by (λ c. eqb c.choose_id i) cs))) (other e) ∙ h)
    one (some d) e = unfold chosen_after in h

-- the TEID that it keeps is the one given
has_given : (cs : List Chosen) (free : List ℕ) (i t : ℕ) (j : Option ℕ) → Has cs i t → T (not (same_choice (some i) j) || eqb t (teid_for (chosen_teid cs j) free))
unfolding same_choice
has_given cs free i t none h = tt
has_given cs free i t (some j) h =
    by_test (eqb i j)
    (λ e. or_by_right (not (eqb i j)) (eqb t (teid_for (chosen_teid cs (some j)) free)) (subst (λ (k : ℕ). T (eqb t (teid_for (chosen_teid cs (some k)) free))) (eqb→eq i j e) own))
    (λ e. or_by_left (not (eqb i j)) (eqb t (teid_for (chosen_teid cs (some j)) free)) e)
  where
    own : T (eqb t (teid_for (chosen_teid cs (some i)) free))
    own = unfold chosen_teid teid_for in (subst (λ (o : Option ℕ). T (eqb t (teid_for o free))) (sym h) (eqb_refl t))

-- all later CHOOSEs with the CHOOSE ID get its TEID
later_same : (l : List Choice) (cs : List Chosen) (free : List ℕ) (i t : ℕ) → Has cs i t → T (all (same_teid (some i) t) (granted_from cs free l))
unfolding granted_from all
later_same [] cs free i t h = tt
later_same (c ∷ l) cs free i t h =
    let o = chosen_teid cs c.choose_id in
    both (not (same_choice (some i) c.choose_id) || eqb t (teid_for o free)) (all (same_teid (some i) t) (granted_from (chosen_after o cs c.choose_id free) (free_after o free) l))
    (has_given cs free i t c.choose_id h) (later_same l (chosen_after o cs c.choose_id free) (free_after o free) i t (has_after cs free i t c.choose_id h))

-- a CHOOSE with a CHOOSE ID leaves it with the TEID given
given_has : (cs : List Chosen) (free : List ℕ) (i : ℕ) → Has (chosen_after (chosen_teid cs (some i)) cs (some i) free) i (teid_for (chosen_teid cs (some i)) free)
unfolding chosen_teid
given_has cs free i = one (find_by (is_choice i) cs) refl
  where
    new : Chosen
    new = record { choose_id = i; teid = head_or 0 free }

    one : (o : Option Chosen) → find_by (is_choice i) cs ≡ o → Has (chosen_after (map_option chosen o) cs (some i) free) i (teid_for (map_option chosen o) free)
    one none e = unfold chosen_after remember teid_for find_by is_choice in (
        ap (λ (b : Bool). map_option chosen (pick b (some new) (find_by (λ c. eqb c.choose_id i) cs))) (is_true (eqb i i) (eqb_refl i)))
    one (some d) e = unfold chosen_after teid_for in (ap (map_option chosen) e)

-- two CHOOSEs with one CHOOSE ID get one TEID
pub granted_same : (l : List Choice) (cs : List Chosen) (free : List ℕ) → T (all_pairs (λ a b. same_teid a.choice.choose_id a.teid b) (granted_from cs free l))
unfolding granted_from all_pairs
granted_same [] cs free = tt
granted_same (c ∷ l) cs free =
    let o = chosen_teid cs c.choose_id in
    both (all (same_teid c.choose_id (teid_for o free)) (granted_from (chosen_after o cs c.choose_id free) (free_after o free) l))
    (all_pairs (λ a b. same_teid a.choice.choose_id a.teid b) (granted_from (chosen_after o cs c.choose_id free) (free_after o free) l))
    (one c.choose_id) (granted_same l (chosen_after o cs c.choose_id free) (free_after o free))
  where
    one : (i : Option ℕ) → T (all (same_teid i (teid_for (chosen_teid cs i) free)) (granted_from (chosen_after (chosen_teid cs i) cs i free) (free_after (chosen_teid cs i) free) l))
    one none = all_always (same_teid none (teid_for (chosen_teid cs none) free)) (λ b. unfold same_choice in tt) (granted_from (chosen_after (chosen_teid cs none) cs none free) (free_after (chosen_teid cs none) free) l)
    one (some i) =
        later_same l (chosen_after (chosen_teid cs (some i)) cs (some i) free) (free_after (chosen_teid cs (some i)) free) i (teid_for (chosen_teid cs (some i)) free) (given_has cs free i)

-- ---- the lowest free TEID

-- t is the lowest TEID of the pool that no record holds at entry and that was not given before
pub record Lowest (s : Settings) (m : Sessions) (before : List ℕ) (t : ℕ) : Type 0 where
  pub pool : T (in_pool s t)
  pub unheld : T (not (member t (held_teids m)))
  pub new : T (not (member t before))
  pub least : (u : ℕ) → T (in_pool s u) → T (not (member u (held_teids m))) → T (not (member u before)) → t ≤ u

-- each CHOOSE in turn: one without a CHOOSE ID, or with one not seen before in the request, gets the lowest; `before` are the TEIDs given before, `seen` the CHOOSE IDs
abbrev pub EachLowest : Settings → Sessions → List ℕ → List ℕ → List Granted → Type 0
EachLowest s m before seen [] = Unit {0}
EachLowest s m before seen (g ∷ gs) = (T (is_fresh seen g.choice.choose_id) → Lowest s m before g.teid) × EachLowest s m (g.teid ∷ before) (noted seen g.choice.choose_id) gs

-- what stands between two CHOOSEs: the TEIDs left are just those that are free and not given, ascending; the CHOOSE IDs' TEIDs were given
record Between (s : Settings) (m : Sessions) (before : List ℕ) (cs : List Chosen) (free : List ℕ) : Type 0 where
  ascends : T (all_pairs (λ a b. ltb a b) free)
  pool : T (all (in_pool s) free)
  unheld : T (all (λ u. not (member u (held_teids m))) free)
  new : T (all (λ u. not (member u before)) free)
  whole : (u : ℕ) → T (in_pool s u) → T (not (member u (held_teids m))) → T (not (member u before)) → T (member u free)
  known : T (all (λ c. member c.teid before) cs)

module _ (s : Settings) (m : Sessions) where
  -- the first TEID left is the lowest
  first_lowest : (before : List ℕ) (cs : List Chosen) (t : ℕ) (ts : List ℕ) → Between s m before cs (t ∷ ts) → Lowest s m before t
  first_lowest before cs t ts b =
      record {
        pool = all_head (in_pool s) t ts b.pool;
        unheld = all_head (λ u. not (member u (held_teids m))) t ts b.unheld;
        new = all_head (λ u. not (member u before)) t ts b.new;
        least = λ u p h n. least u (b.whole u p h n);
      }
    where
      least : (u : ℕ) → T (member u (t ∷ ts)) → t ≤ u
      least u g =
          by_test (eqb u t) (λ e. le_of_eq (sym (eqb→eq u t e)))
          (λ e. le_of_lt (ltb→lt t u (member_passes (λ k. ltb t k) u ts (or_right (eqb u t) (member u ts) (unfold member in g) e) (pairs_head (λ a c. ltb a c) t ts b.ascends))))

  -- after it was given
  between_first : (before : List ℕ) (cs cs' : List Chosen) (t : ℕ) (ts : List ℕ) → Between s m before cs (t ∷ ts) → T (all (λ c. member c.teid (t ∷ before)) cs') → Between s m (t ∷ before) cs' ts
  between_first before cs cs' t ts b known =
      record {
        ascends = pairs_tail (λ a c. ltb a c) t ts b.ascends;
        pool = all_tail (in_pool s) t ts b.pool;
        unheld = all_tail (λ u. not (member u (held_teids m))) t ts b.unheld;
        new =
            all_join (λ u. not (member u before)) (λ u. ltb t u) (λ u. not (member u (t ∷ before)))
            (λ u n l. unfold member in (neither_one (eqb u t) (member u before) (above u (ltb→lt t u l)) n)) ts (all_tail (λ u. not (member u before)) t ts b.new) (pairs_head (λ a c. ltb a c) t ts b.ascends);
        whole = λ u p h n. left u p h (not_or (eqb u t) (member u before) (unfold member in n));
        known = known;
      }
    where
      above : (u : ℕ) → t < u → T (not (eqb u t))
      above u l = no_eqb u t (omega arith)

      left : (u : ℕ) → T (in_pool s u) → T (not (member u (held_teids m))) → T (not (eqb u t)) × T (not (member u before)) → T (member u ts)
      left u p h n = unfold member in (or_right (eqb u t) (member u ts) (b.whole u p h n.1) n.0)

  -- after a TEID was given again
  between_again : (before : List ℕ) (cs : List Chosen) (free : List ℕ) (t : ℕ) → T (member t before) → Between s m before cs free → Between s m (t ∷ before) cs free
  between_again before cs free t old b =
      record {
        ascends = b.ascends;
        pool = b.pool;
        unheld = b.unheld;
        new = all_imply (λ u. not (member u before)) (λ u. not (member u (t ∷ before))) (λ u n. unfold member in (neither_one (eqb u t) (member u before) (other u n) n)) free b.new;
        whole = λ u p h n. b.whole u p h (not_or (eqb u t) (member u before) (unfold member in n)).1;
        known = all_imply (λ c. member c.teid before) (λ c. member c.teid (t ∷ before)) (λ c k. member_behind c.teid (t ∷ []) before k) cs b.known;
      }
    where
      other : (u : ℕ) → T (not (member u before)) → T (not (eqb u t))
      other u n = not_T (eqb u t) (λ e. T_not (member u before) n (subst (λ (k : ℕ). T (member k before)) (sym (eqb→eq u t e)) old))

  -- every CHOOSE in turn
  each_lowest : (l : List Choice) (cs : List Chosen) (free seen before : List ℕ) → Matches seen cs → Between s m before cs free → need_from seen l ≤ length free → EachLowest s m before seen (granted_from cs free l)
  unfolding granted_from need_from teid_for chosen_after free_after noted is_fresh
  each_lowest [] cs free seen before h b hn = tt
  each_lowest (c ∷ l) cs free seen before h b hn =
      by_id c.choose_id (λ cs' free' seen' before' h' b' hn'. each_lowest l cs' free' seen' before' h' b' hn') hn
    where
      Rest : Type 0
      Rest = (cs' : List Chosen) (free' seen' before' : List ℕ) → Matches seen' cs' → Between s m before' cs' free' → need_from seen' l ≤ length free' → EachLowest s m before' seen' (granted_from cs' free' l)

      Goal : List ℕ → Option ℕ → Option ℕ → Type 0
      Goal fr i o = (T (is_fresh seen i) → Lowest s m before (teid_for o fr)) × EachLowest s m (teid_for o fr ∷ before) (noted seen i) (granted_from (chosen_after o cs i fr) (free_after o fr) l)

      first_use : (i : ℕ) → Rest → (fr : List ℕ) → Between s m before cs fr → 1 + need_from (i ∷ seen) l ≤ length fr → Goal fr (some i) none
      first_use i ih [] d n = absurd (omega arith)
      first_use i ih (t ∷ ts) d n =
          unfold teid_for chosen_after free_after remember noted in (
          let new : Chosen = record { choose_id = i; teid = t } in
          let left : need_from (i ∷ seen) l ≤ length ts = omega arith in
          let old = all_imply (λ e. member e.teid before) (λ e. member e.teid (t ∷ before)) (λ e k. member_behind e.teid (t ∷ []) before k) cs d.known in (
            λ _. first_lowest before cs t ts d,
            ih (new ∷ cs) ts (i ∷ seen) (t ∷ before) (matches_new seen cs i t h) (between_first before cs (new ∷ cs) t ts d (all_cons (λ e. member e.teid (t ∷ before)) new cs (member_first t before) old)) left,
          ))

      alone : Rest → (fr : List ℕ) → Between s m before cs fr → 1 + need_from seen l ≤ length fr → Goal fr none none
      alone ih [] d n = absurd (omega arith)
      alone ih (t ∷ ts) d n =
          unfold teid_for chosen_after free_after remember noted in (
          let left : need_from seen l ≤ length ts = omega arith in
          let old = all_imply (λ e. member e.teid before) (λ e. member e.teid (t ∷ before)) (λ e k. member_behind e.teid (t ∷ []) before k) cs d.known in
          (λ _. first_lowest before cs t ts d, ih cs ts seen (t ∷ before) h (between_first before cs cs t ts d old) left))

      again : (i : ℕ) → Rest → (d : Chosen) → find_by (is_choice i) cs ≡ some d → need_from (i ∷ seen) l ≤ length free → Goal free (some i) (some d.teid)
      again i ih d e n =
          let there : member i seen ≡ true = h i ∙ ap is_some e in
          let old = found_knows (λ e'. T (member e'.teid before)) (is_choice i) cs d (all_every (λ e'. member e'.teid before) cs b.known) e in (
            λ fresh. absurd (subst (λ (k : Bool). T (not k)) there fresh),
            ih cs free (i ∷ seen) (d.teid ∷ before) (matches_old seen cs i h (ap is_some e)) (between_again before cs free d.teid old b) n,
          )

      with_id_lem : (i : ℕ) → Rest → (o : Option Chosen) → find_by (is_choice i) cs ≡ o → pick (not (is_some o)) 1 0 + need_from (i ∷ seen) l ≤ length free → Goal free (some i) (map_option chosen o)
      with_id_lem i ih none e n = first_use i ih free b n
      with_id_lem i ih (some d) e n = again i ih d e (le_trans (omega arith) n)

      by_id : (i : Option ℕ) → Rest → pick (is_fresh seen i) 1 0 + need_from (noted seen i) l ≤ length free → Goal free i (chosen_teid cs i)
      by_id none ih n = unfold chosen_teid is_fresh noted in (alone ih free b n)
      by_id (some i) ih n =
          unfold chosen_teid is_fresh noted in (
          with_id_lem i ih (find_by (is_choice i) cs) refl (subst (λ (k : Bool). pick (not k) 1 0 + need_from (i ∷ seen) l ≤ length free) (h i) n))

-- ---- the request

-- what 01 says of the TEIDs of a request's CHOOSEs; `order` is the request's: endpoints, then PDRs
pub record Allocates (s : Settings) (m : Sessions) (r : Request) : Type 0 where
  pub given : List Granted
  pub order : map choice_in given ≡ choices r
  pub looked_up : Every (λ d. granted_teid (grants s m r) d.choice.kind d.choice.id ≡ d.teid) given
  pub lowest : EachLowest s m [] [] given
  pub shared : T (all_pairs (λ a b. same_teid a.choice.choose_id a.teid b) given)

-- a request whose records are created once, and that finds TEIDs enough
pub allocates : (s : Settings) (m : Sessions) (r : Request) → T (all_pairs other_record (choices r)) → need r ≤ length (free_teids s m) → Allocates s m r
allocates s m r other enough =
    record {
      given = granted_from [] (free_teids s m) (choices r);
      order = granted_choices (choices r) [] (free_teids s m);
      looked_up = looked_up_lem s m r other enough;
      lowest =
          each_lowest s m (choices r) [] (free_teids s m) [] [] (λ i. unfold member find_by in refl)
          (record {
            ascends = free_ascends s m;
            pool = free_in_pool s m;
            unheld = free_not_held s m;
            new = all_always (λ u. not (member u [])) (λ u. unfold member in tt) (free_teids s m);
            whole = λ u p h n. free_there s m u p h;
            known = unfold all in tt;
          }) (enough_given r (length (free_teids s m)) enough);
      shared = granted_same (choices r) [] (free_teids s m);
    }

-- ---- equal CHOOSE IDs of PDRs

-- the CHOOSE ID of a Create PDR, if it has one
abbrev pub pdr_choose_id : NewPdr → Option ℕ
pdr_choose_id p = bind_option p.local choose_id_of

-- two PDRs with one CHOOSE ID have one TEID
pub pdrs_share : (s : Settings) (m : Sessions) (r : Request) → Allocates s m r
    → T (all_pairs (λ p q. not (same_choice (pdr_choose_id p) (pdr_choose_id q)) || eqb (granted_teid (grants s m r) of_pdr p.id) (granted_teid (grants s m r) of_pdr q.id)) r.pdrs)
unfolding choices pdr_choice
pdrs_share s m r a =
    pairs_imply (λ p q. on_both alike (pdr_choice p) (pdr_choice q)) (λ p q. not (same_choice (pdr_choose_id p) (pdr_choose_id q)) || eqb (teid of_pdr p.id) (teid of_pdr q.id))
    (λ p q h. one p.id q.id p.local q.local h) r.pdrs
    (subst T (pairs_collect pdr_choice alike r.pdrs)
    (pairs_behind alike (collect endpoint_choice r.endpoints) (collect pdr_choice r.pdrs)
    (subst (λ (l : List Choice). T (all_pairs alike l)) a.order
    (subst T (sym (pairs_map choice_in alike a.given))
    (pairs_know (λ d. teid d.choice.kind d.choice.id ≡ d.teid) (λ c d. same_teid c.choice.choose_id c.teid d) (λ c d. alike c.choice d.choice)
    (λ c d e g h. subst (λ (k : ℕ). T (not (same_choice c.choice.choose_id d.choice.choose_id) || eqb k (teid d.choice.kind d.choice.id))) (sym e)
    (subst (λ (k : ℕ). T (not (same_choice c.choice.choose_id d.choice.choose_id) || eqb c.teid k)) (sym g) h)) a.given a.looked_up a.shared)))))
  where
    teid : Kind → ℕ → ℕ
    teid = granted_teid (grants s m r)

    alike : Choice → Choice → Bool
    alike c d = not (same_choice c.choose_id d.choose_id) || eqb (teid c.kind c.id) (teid d.kind d.id)

    one : (i j : ℕ) (v w : Option Fteid) → T (on_both alike (bind_option v (choice_of of_pdr i)) (bind_option w (choice_of of_pdr j)))
        → T (not (same_choice (bind_option v choose_id_of) (bind_option w choose_id_of)) || eqb (teid of_pdr i) (teid of_pdr j))
    one i j none w h = unfold same_choice in tt
    one i j (some (given t a b)) w h = unfold choose_id_of same_choice in tt
    one i j (some (choose a b c)) none h = unfold choose_id_of in (or_by_left (not (same_choice c none)) (eqb (teid of_pdr i) (teid of_pdr j)) (subst (λ (k : Bool). T (not k)) (sym (no_choice c)) tt))
    one i j (some (choose a b c)) (some (given t d e)) h = unfold choose_id_of in (or_by_left (not (same_choice c none)) (eqb (teid of_pdr i) (teid of_pdr j)) (subst (λ (k : Bool). T (not k)) (sym (no_choice c)) tt))
    one i j (some (choose a b c)) (some (choose d e f)) h = unfold choose_id_of choice_of in h
