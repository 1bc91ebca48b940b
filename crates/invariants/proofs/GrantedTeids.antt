-- Each CHOOSE of a request with the TEID that it is given: two CHOOSEs get one TEID only if their CHOOSE IDs are equal,
-- and what is looked up among the grants for a record is what its CHOOSE was given.
-- Assumes nothing.
use mathlib.Core.Path.{◌≡◌, refl, sym, ap, ap₂, ◌∙◌, subst}
use Prim.Native.Nat.{ℕ, ◌+◌, ◌≤◌}
use native.Mathlib.Nat.{le_trans}
use native.Mathlib.Omega.{arith}
use mathlib.Core.Bool.{Bool, true, false, not, ◌&&◌, ◌||◌}
use mathlib.Core.Option.{Option, none, some}
use mathlib.Core.List.{List, [], ◌∷◌, map}
use lib.ListN.{length}
use lib.Dec.{T, eqb, eqb→eq, eqb_refl}
use mir.Facts.{yes_eqb}
use Rattle.octets.specs.Choice.{pick, is_some, map_option, value_or, head_or, rest}
use Rattle.octets.specs.Lists.{member, all, all_pairs, find_by}
use Rattle.octets.proofs.Tests.{both, all_head, all_tail, all_cons, is_true, is_false}
use Rattle.octets.proofs.Ordered.{pairs_head, pairs_tail, pairs_cons}
use Rattle.octets.proofs.ListLaws.{by_test, or_right, or_by_left, or_by_right, Every, all_every, all_imply, found_passes, found_knows, found_related}
use Rattle.octets.proofs.MemberLaws.{differ_turn, absent_each, each_absent}
use Rattle.rules.specs.Grants.{Kind, of_pdr, of_endpoint, same_kind, Choice, Chosen, Grant, chosen, is_choice, chosen_teid, remember, grant_of, teid_for, free_after, chosen_after, grant_from, grant_teid, is_grant_for, granted_teid}
use Rattle.rules.specs.Stages.{same_choice}
use Rattle.laws.proofs.NeedLaws.{is_fresh, noted, need_from}
use Rattle.invariants.proofs.GrantLaws.{Matches, matches_new, matches_old, next_ok}

-- a CHOOSE with the TEID that it is given
pub record Granted : Type 0 where
  pub choice : Choice
  pub teid : ℕ

-- Grants.grant_from, the CHOOSEs kept beside the TEIDs
unfoldable pub granted_from : List Chosen → List ℕ → List Choice → List Granted
granted_from cs free [] = []
granted_from cs free (c ∷ more) =
    let o = chosen_teid cs c.choose_id in
    record { choice = c; teid = teid_for o free } ∷ granted_from (chosen_after o cs c.choose_id free) (free_after o free) more

-- its CHOOSE
abbrev pub choice_in : Granted → Choice
choice_in g = g.choice

-- as an entry of the grants
abbrev pub as_grant : Granted → Grant
as_grant g = grant_of g.choice g.teid

-- the grants are these entries
pub granted_grants : (l : List Choice) (cs : List Chosen) (free : List ℕ) → grant_from cs free l ≡ map as_grant (granted_from cs free l)
unfolding grant_from granted_from
granted_grants [] cs free = refl
granted_grants (c ∷ l) cs free =
    let o = chosen_teid cs c.choose_id in
    ap (λ (gs : List Grant). grant_of c (teid_for o free) ∷ gs) (granted_grants l (chosen_after o cs c.choose_id free) (free_after o free))

-- and the CHOOSEs are those of the request, in its order
pub granted_choices : (l : List Choice) (cs : List Chosen) (free : List ℕ) → map choice_in (granted_from cs free l) ≡ l
unfolding granted_from
granted_choices [] cs free = refl
granted_choices (c ∷ l) cs free =
    let o = chosen_teid cs c.choose_id in
    ap (λ (ds : List Choice). c ∷ ds) (granted_choices l (chosen_after o cs c.choose_id free) (free_after o free))

-- ---- a test of every CHOOSE ID and its TEID

-- q holds of a CHOOSE ID and a TEID; p makes it hold whatever the CHOOSE ID
module _ (p : ℕ → Bool) (q : Option ℕ → ℕ → Bool) (any-id : (i : Option ℕ) (t : ℕ) → T (p t) → T (q i t)) where
  -- the test of a CHOOSE ID that has its TEID
  abbrev chosen_test : Chosen → Bool
  chosen_test c = q (some c.choose_id) c.teid

  -- the test of a CHOOSE with its TEID
  abbrev granted_test : Granted → Bool
  granted_test g = q g.choice.choose_id g.teid

  -- what a CHOOSE ID has passes the test with that CHOOSE ID
  chosen_passes : (cs : List Chosen) (i : ℕ) (d : Chosen) → T (all chosen_test cs) → find_by (is_choice i) cs ≡ some d → T (q (some i) d.teid)
  unfolding is_choice
  chosen_passes cs i d h e =
      subst (λ (j : ℕ). T (q (some j) d.teid)) (eqb→eq d.choose_id i (found_passes (is_choice i) cs d e)) (found_knows (λ c. T (chosen_test c)) (is_choice i) cs d (all_every chosen_test cs h) e)

  -- where there are TEIDs enough, every CHOOSE passes the test
  pub granted_all : (l : List Choice) (cs : List Chosen) (free seen : List ℕ) → Matches seen cs → T (all chosen_test cs) → T (all p free) → need_from seen l ≤ length free
      → T (all granted_test (granted_from cs free l))
  unfolding granted_from need_from all
  granted_all [] cs free seen h hc hf hn = tt
  granted_all (c ∷ l) cs free seen h hc hf hn = by_id c.choose_id (λ cs' free' seen' h' hc' hf' hn'. granted_all l cs' free' seen' h' hc' hf' hn') hn
    where
      Rest : Type 0
      Rest = (cs' : List Chosen) (free' seen' : List ℕ) → Matches seen' cs' → T (all chosen_test cs') → T (all p free') → need_from seen' l ≤ length free' → T (all granted_test (granted_from cs' free' l))

      Goal : Option ℕ → Option ℕ → Type 0
      Goal i o = T (q i (teid_for o free) && all granted_test (granted_from (chosen_after o cs i free) (free_after o free) l))

      with_id_lem : (i : ℕ) → Rest → (o : Option Chosen) → find_by (is_choice i) cs ≡ o → pick (not (is_some o)) 1 0 + need_from (i ∷ seen) l ≤ length free → Goal (some i) (map_option chosen o)
      with_id_lem i ih none e n =
          unfold teid_for chosen_after free_after remember in (
          let k = next_ok p free (need_from (i ∷ seen) l) n hf in
          both (q (some i) (head_or 0 free)) (all granted_test (granted_from (record { choose_id = i; teid = head_or 0 free } ∷ cs) (rest free) l)) (any-id (some i) (head_or 0 free) k.0)
          (ih (record { choose_id = i; teid = head_or 0 free } ∷ cs) (rest free) (i ∷ seen) (matches_new seen cs i (head_or 0 free) h)
          (all_cons chosen_test (record { choose_id = i; teid = head_or 0 free }) cs (any-id (some i) (head_or 0 free) k.0) hc) k.1 k.2))
      with_id_lem i ih (some d) e n =
          unfold teid_for chosen_after free_after in (
          both (q (some i) d.teid) (all granted_test (granted_from cs free l)) (chosen_passes cs i d hc e)
          (ih cs free (i ∷ seen) (matches_old seen cs i h (ap is_some e)) hc hf (le_trans (omega arith) n)))

      by_id : (i : Option ℕ) → Rest → pick (is_fresh seen i) 1 0 + need_from (noted seen i) l ≤ length free → Goal i (chosen_teid cs i)
      by_id none ih n =
          unfold teid_for chosen_after free_after remember chosen_teid is_fresh noted in (
          let k = next_ok p free (need_from seen l) n hf in
          both (q none (head_or 0 free)) (all granted_test (granted_from cs (rest free) l)) (any-id none (head_or 0 free) k.0) (ih cs (rest free) seen h hc k.1 k.2))
      by_id (some i) ih n =
          unfold chosen_teid is_fresh noted in (
          with_id_lem i ih (find_by (is_choice i) cs) refl (subst (λ (b : Bool). pick (not b) 1 0 + need_from (i ∷ seen) l ≤ length free) (h i) n))

-- ---- one TEID, one CHOOSE ID

-- no CHOOSE ID is equal to none
pub no_choice : (o : Option ℕ) → same_choice o none ≡ false
unfolding same_choice
no_choice none = refl
no_choice (some i) = refl

-- a TEID of another is the TEID only for the CHOOSE ID
abbrev pub shared_only : Option ℕ → ℕ → Option ℕ → ℕ → Bool
shared_only i t j u = not (eqb t u) || same_choice i j

-- two CHOOSEs share a TEID only with one CHOOSE ID
abbrev pub granted_apart : Granted → Granted → Bool
granted_apart a b = shared_only a.choice.choose_id a.teid b.choice.choose_id b.teid

-- two CHOOSE IDs that have a TEID share it only if they are equal
abbrev pub chosen_apart : Chosen → Chosen → Bool
chosen_apart c d = not (eqb c.teid d.teid) || eqb c.choose_id d.choose_id

-- what is known of the CHOOSE IDs with a TEID, and of the free TEIDs: none of theirs is free, no two CHOOSE IDs have one, none is free twice
pub record Distinct (cs : List Chosen) (free : List ℕ) : Type 0 where
  pub taken : T (all (λ c. not (member c.teid free)) cs)
  pub own : T (all_pairs chosen_apart cs)
  pub once : T (all_pairs (λ a b. not (eqb a b)) free)

-- the next free TEID is no other CHOOSE ID's
others_differ : (cs : List Chosen) (t : ℕ) (ts : List ℕ) → Distinct cs (t ∷ ts) → T (all (λ c. not (eqb t c.teid)) cs)
others_differ cs t ts k =
    all_imply (λ c. not (member c.teid (t ∷ ts))) (λ c. not (eqb t c.teid))
    (λ c h. differ_turn c.teid t (all_head (λ n. not (eqb c.teid n)) t ts (absent_each c.teid (t ∷ ts) h))) cs k.taken

-- with the next free TEID taken away
distinct_rest : (cs : List Chosen) (t : ℕ) (ts : List ℕ) → Distinct cs (t ∷ ts) → Distinct cs ts
distinct_rest cs t ts k =
    record {
      taken = all_imply (λ c. not (member c.teid (t ∷ ts))) (λ c. not (member c.teid ts)) (λ c h. each_absent c.teid ts (all_tail (λ n. not (eqb c.teid n)) t ts (absent_each c.teid (t ∷ ts) h))) cs k.taken;
      own = k.own;
      once = pairs_tail (λ a b. not (eqb a b)) t ts k.once;
    }

-- and given to a CHOOSE ID
distinct_new : (cs : List Chosen) (i t : ℕ) (ts : List ℕ) → Distinct cs (t ∷ ts) → Distinct (record { choose_id = i; teid = t } ∷ cs) ts
distinct_new cs i t ts k =
    let r = distinct_rest cs t ts k in
    let new : Chosen = record { choose_id = i; teid = t } in
    record {
      taken = all_cons (λ c. not (member c.teid ts)) new cs (each_absent t ts (pairs_head (λ a b. not (eqb a b)) t ts k.once)) r.taken;
      own = pairs_cons chosen_apart new cs (all_imply (λ c. not (eqb t c.teid)) (chosen_apart new) (λ c h. or_by_left (not (eqb t c.teid)) (eqb i c.choose_id) h) cs (others_differ cs t ts k)) k.own;
      once = r.once;
    }

-- which holds of one and itself
chosen_own : (c : Chosen) → T (chosen_apart c c)
chosen_own c = or_by_right (not (eqb c.teid c.teid)) (eqb c.choose_id c.choose_id) (eqb_refl c.choose_id)

-- and the other way round
chosen_turn : (c d : Chosen) → T (chosen_apart c d) → T (chosen_apart d c)
chosen_turn c d h =
    by_test (not (eqb c.teid d.teid)) (λ n. or_by_left (not (eqb d.teid c.teid)) (eqb d.choose_id c.choose_id) (differ_turn c.teid d.teid n))
    (λ n. or_by_right (not (eqb d.teid c.teid)) (eqb d.choose_id c.choose_id) (yes_eqb (sym (eqb→eq c.choose_id d.choose_id (or_right (not (eqb c.teid d.teid)) (eqb c.choose_id d.choose_id) h n)))))

-- the later CHOOSEs share a TEID t only for the CHOOSE ID i, where the free TEIDs and the other CHOOSE IDs have others
later_apart : (i : Option ℕ) (t : ℕ) (l : List Choice) (cs : List Chosen) (free seen : List ℕ) → Matches seen cs → T (all (λ c. shared_only i t (some c.choose_id) c.teid) cs)
    → T (all (λ u. not (eqb t u)) free) → need_from seen l ≤ length free → T (all (λ b. shared_only i t b.choice.choose_id b.teid) (granted_from cs free l))
later_apart i t l cs free seen h hc hf hn = granted_all (λ u. not (eqb t u)) (shared_only i t) (λ j u d. or_by_left (not (eqb t u)) (same_choice i j) d) l cs free seen h hc hf hn

-- two CHOOSEs of a request get one TEID only if they have one CHOOSE ID
pub granted_apart_lem : (l : List Choice) (cs : List Chosen) (free seen : List ℕ) → Matches seen cs → Distinct cs free → need_from seen l ≤ length free → T (all_pairs granted_apart (granted_from cs free l))
unfolding granted_from need_from all_pairs teid_for chosen_after free_after remember same_choice is_choice
granted_apart_lem [] cs free seen h k hn = tt
granted_apart_lem (c ∷ l) cs free seen h k hn = by_id c.choose_id (λ cs' free' seen' h' k' hn'. granted_apart_lem l cs' free' seen' h' k' hn') hn
  where
    Rest : Type 0
    Rest = (cs' : List Chosen) (free' seen' : List ℕ) → Matches seen' cs' → Distinct cs' free' → need_from seen' l ≤ length free' → T (all_pairs granted_apart (granted_from cs' free' l))

    Goal : List ℕ → Option ℕ → Option ℕ → Type 0
    Goal fr i o =
        T (all (λ b. shared_only i (teid_for o fr) b.choice.choose_id b.teid) (granted_from (chosen_after o cs i fr) (free_after o fr) l)
        && all_pairs granted_apart (granted_from (chosen_after o cs i fr) (free_after o fr) l))

    first_use : (i : ℕ) → Rest → (fr : List ℕ) → Distinct cs fr → 1 + need_from (i ∷ seen) l ≤ length fr → Goal fr (some i) none
    first_use i ih [] d n = absurd (omega arith)
    first_use i ih (t ∷ ts) d n =
        unfold teid_for chosen_after free_after remember same_choice in (
        let new : Chosen = record { choose_id = i; teid = t } in
        let m' = matches_new seen cs i t h in
        let left : need_from (i ∷ seen) l ≤ length ts = omega arith in
        both (all (λ b. shared_only (some i) t b.choice.choose_id b.teid) (granted_from (new ∷ cs) ts l)) (all_pairs granted_apart (granted_from (new ∷ cs) ts l))
        (later_apart (some i) t l (new ∷ cs) ts (i ∷ seen) m'
        (all_cons (λ e. shared_only (some i) t (some e.choose_id) e.teid) new cs (or_by_right (not (eqb t t)) (eqb i i) (eqb_refl i))
        (all_imply (λ e. not (eqb t e.teid)) (λ e. shared_only (some i) t (some e.choose_id) e.teid) (λ e g. or_by_left (not (eqb t e.teid)) (eqb i e.choose_id) g) cs (others_differ cs t ts d)))
        (pairs_head (λ a b. not (eqb a b)) t ts d.once) left)
        (ih (new ∷ cs) ts (i ∷ seen) m' (distinct_new cs i t ts d) left))

    alone : Rest → (fr : List ℕ) → Distinct cs fr → 1 + need_from seen l ≤ length fr → Goal fr none none
    alone ih [] d n = absurd (omega arith)
    alone ih (t ∷ ts) d n =
        unfold teid_for chosen_after free_after remember same_choice in (
        let left : need_from seen l ≤ length ts = omega arith in
        both (all (λ b. shared_only none t b.choice.choose_id b.teid) (granted_from cs ts l)) (all_pairs granted_apart (granted_from cs ts l))
        (later_apart none t l cs ts seen h
        (all_imply (λ e. not (eqb t e.teid)) (λ e. shared_only none t (some e.choose_id) e.teid) (λ e g. or_by_left (not (eqb t e.teid)) false g) cs (others_differ cs t ts d))
        (pairs_head (λ a b. not (eqb a b)) t ts d.once) left)
        (ih cs ts seen h (distinct_rest cs t ts d) left))

    again : (i : ℕ) → Rest → (d : Chosen) → find_by (is_choice i) cs ≡ some d → need_from (i ∷ seen) l ≤ length free → Goal free (some i) (some d.teid)
    again i ih d e n =
        let m' = matches_old seen cs i h (ap is_some e) in
        let same : d.choose_id ≡ i = eqb→eq d.choose_id i (found_passes (is_choice i) cs d e) in
        both (all (λ b. shared_only (some i) d.teid b.choice.choose_id b.teid) (granted_from cs free l)) (all_pairs granted_apart (granted_from cs free l))
        (later_apart (some i) d.teid l cs free (i ∷ seen) m'
        (subst (λ (j : ℕ). T (all (λ e'. not (eqb d.teid e'.teid) || eqb j e'.choose_id) cs)) same (found_related chosen_apart chosen_own chosen_turn (is_choice i) cs d k.own e))
        (absent_each d.teid free (found_knows (λ e'. T (not (member e'.teid free))) (is_choice i) cs d (all_every (λ e'. not (member e'.teid free)) cs k.taken) e)) n)
        (ih cs free (i ∷ seen) m' k n)

    with_id_lem : (i : ℕ) → Rest → (o : Option Chosen) → find_by (is_choice i) cs ≡ o → pick (not (is_some o)) 1 0 + need_from (i ∷ seen) l ≤ length free → Goal free (some i) (map_option chosen o)
    with_id_lem i ih none e n = first_use i ih free k n
    with_id_lem i ih (some d) e n = again i ih d e (le_trans (omega arith) n)

    by_id : (i : Option ℕ) → Rest → pick (is_fresh seen i) 1 0 + need_from (noted seen i) l ≤ length free → Goal free i (chosen_teid cs i)
    by_id none ih n = unfold chosen_teid is_fresh noted in (alone ih free k n)
    by_id (some i) ih n =
        unfold chosen_teid is_fresh noted in (
        with_id_lem i ih (find_by (is_choice i) cs) refl (subst (λ (b : Bool). pick (not b) 1 0 + need_from (i ∷ seen) l ≤ length free) (h i) n))

-- ---- looking up

-- two records that CHOOSE have another kind or ID
abbrev pub other_record : Choice → Choice → Bool
other_record c d = not (same_kind d.kind c.kind && eqb c.id d.id)

-- a kind is the same as itself
same_kind_lem : (k : Kind) → same_kind k k ≡ true
unfolding same_kind
same_kind_lem of_pdr = refl
same_kind_lem of_endpoint = refl

-- what is found for a record is what its CHOOSE was given
pub own_teid_lem : (ds : List Granted) → T (all_pairs (λ a b. other_record a.choice b.choice) ds) → Every (λ d. granted_teid (map as_grant ds) d.choice.kind d.choice.id ≡ d.teid) ds
unfolding granted_teid find_by is_grant_for grant_of
own_teid_lem [] h = tt
own_teid_lem (d ∷ ds) h = (
  ap (λ (b : Bool). value_or 0 (map_option grant_teid (pick b (some (as_grant d)) (find_by (is_grant_for d.choice.kind d.choice.id) (map as_grant ds)))))
      (ap₂ ◌&&◌ (same_kind_lem d.choice.kind) (is_true (eqb d.choice.id d.choice.id) (eqb_refl d.choice.id))),
  later ds (own_teid_lem ds (pairs_tail (λ a b. other_record a.choice b.choice) d ds h)) (pairs_head (λ a b. other_record a.choice b.choice) d ds h),
)
  where
    later : (es : List Granted) → Every (λ e. value_or 0 (map_option grant_teid (find_by (is_grant_for e.choice.kind e.choice.id) (map as_grant ds))) ≡ e.teid) es
        → T (all (λ e. other_record d.choice e.choice) es)
        → Every (λ e. value_or 0 (map_option grant_teid (pick (same_kind e.choice.kind d.choice.kind && eqb d.choice.id e.choice.id) (some (as_grant d)) (find_by (is_grant_for e.choice.kind e.choice.id) (map as_grant ds)))) ≡ e.teid) es
    later [] g o = tt
    later (e ∷ es) g o = (
      ap (λ (b : Bool). value_or 0 (map_option grant_teid (pick b (some (as_grant d)) (find_by (is_grant_for e.choice.kind e.choice.id) (map as_grant ds)))))
          (is_false (same_kind e.choice.kind d.choice.kind && eqb d.choice.id e.choice.id) (all_head (λ z. other_record d.choice z.choice) e es o)) ∙ g.0,
      later es g.1 (all_tail (λ z. other_record d.choice z.choice) e es o),
    )
