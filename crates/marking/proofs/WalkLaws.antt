-- The walk over the records that remembers the TEIDs seen says just what 01's rule says of every two: holds of one session agree,
-- and two sessions have no TEID in common.
-- Assumes nothing.
use Rattle.std.proofs.Common.{◌≡◌, ℕ, Bool, true, false, not, ◌&&◌, ◌||◌, T, eqb, List, [], ◌∷◌, ◌++◌, map, sym, refl, ap, ◌∙◌, subst, append_assoc, append-nil}
use mathlib.Core.Bool.{and_comm, and_assoc, or_assoc, or-false}
use mathlib.Core.List.{map-append}
use Rattle.octets.specs.Lists.{member, any_in, all, all_pairs}
use Rattle.octets.proofs.Tests.{both, and_left, and_right, all_head, all_tail, all_cons}
use Rattle.octets.proofs.Bools.{both_ways, not_or, and_swap, and_four, or_swap}
use Rattle.octets.proofs.Questions.{member_nil, member_cons, any_cons, any_turn, member_middle}
use Rattle.octets.proofs.EachTwo.{all_step, pairs_step, all_last, pairs_last, pairs_middle, all_map, pairs_map}
use Rattle.rules.specs.Model.{Holding, Sessions, teid_of, session_holdings, session_teids}
use Rattle.rules.specs.Sound.{agree}
use Rattle.marking.specs.Walk.{joins, accepts, session_keeps, seen_after, table_keeps, apart_teids}
use Rattle.marking.proofs.Joining.{joins_agree, joins_test, alone_agrees, agree_joins}

-- holds on no TEID of a list
abbrev pub clear : List ℕ → List Holding → Bool
clear ts hs = all (λ k. not (member k.teid ts)) hs

member_last : (t : ℕ) (h : Holding) (hs : List Holding) → member t (map teid_of (hs ++ h ∷ [])) ≡ (eqb t h.teid || member t (map teid_of hs))
member_last t h hs =
    ap (member t) (map-append teid_of hs (h ∷ []))
    ∙ member_middle t h.teid (map teid_of hs) []
    ∙ ap (λ (l : List ℕ). eqb t h.teid || member t l) (append-nil (map teid_of hs))

none_clear : (hs : List Holding) → clear [] hs ≡ true
unfolding all member
none_clear [] = refl
none_clear (h ∷ hs) = none_clear hs

none_seen : (sessions : List (List Holding)) → all (clear []) sessions ≡ true
unfolding all
none_seen [] = refl
none_seen (hs ∷ more) = λ i. none_clear hs i && none_seen more i

-- ---- one session

-- what the walk has found of the session's earlier holds, where other sessions hold `others`
record Before (others : List ℕ) (earlier : List Holding) (seen : List ℕ) : Type 0 where
  seen_are : (t : ℕ) → member t seen ≡ (member t others || member t (map teid_of earlier))
  own : T (clear others earlier)
  agreed : T (all_pairs agree earlier)

module _ (others : List ℕ) where
  accept_sound : (earlier : List Holding) (seen : List ℕ) (h : Holding) → Before others earlier seen → T (accepts seen earlier h)
      → T (not (member h.teid others)) × T (all (λ k. agree k h) earlier)
  unfolding accepts
  accept_sound earlier seen h w g = one (member h.teid seen) (w.seen_are h.teid) g
    where
      one : (b : Bool) → b ≡ (member h.teid others || member h.teid (map teid_of earlier)) → T (not b || joins earlier h)
          → T (not (member h.teid others)) × T (all (λ k. agree k h) earlier)
      one true e j = (joins_test h (λ t. not (member t others)) earlier j w.own, joins_agree h earlier w.agreed j)
      one false e j =
          let k = not_or (member h.teid others) (member h.teid (map teid_of earlier)) (subst (λ (c : Bool). T (not c)) e tt) in
          (k.0, alone_agrees h earlier k.1)

  accept_complete : (earlier : List Holding) (seen : List ℕ) (h : Holding) → Before others earlier seen → T (not (member h.teid others)) → T (all (λ k. agree k h) earlier)
      → T (accepts seen earlier h)
  unfolding accepts
  accept_complete earlier seen h w o a = one (member h.teid seen) (member h.teid others) (member h.teid (map teid_of earlier)) (w.seen_are h.teid) o (λ m. agree_joins h earlier m a)
    where
      one : (b c d : Bool) → b ≡ (c || d) → T (not c) → (T d → T (joins earlier h)) → T (not b || joins earlier h)
      one b true d e k f = absurd k
      one true false d e k f = f (subst T e tt)
      one false false d e k f = tt

  before_more : (earlier : List Holding) (seen : List ℕ) (h : Holding) → Before others earlier seen → T (not (member h.teid others)) → T (all (λ k. agree k h) earlier)
      → Before others (earlier ++ h ∷ []) (h.teid ∷ seen)
  before_more earlier seen h w o a = record {
    seen_are = λ t. more t (w.seen_are t);
    own = all_last (λ k. not (member k.teid others)) earlier h w.own o;
    agreed = pairs_last agree earlier h w.agreed a;
  }
    where
      more : (t : ℕ) → member t seen ≡ (member t others || member t (map teid_of earlier)) → member t (h.teid ∷ seen) ≡ (member t others || member t (map teid_of (earlier ++ h ∷ [])))
      more t e =
          member_cons t h.teid seen ∙ ap (λ (b : Bool). eqb t h.teid || b) e
          ∙ or_swap (eqb t h.teid) (member t others) (member t (map teid_of earlier))
          ∙ ap (λ (b : Bool). member t others || b) (sym (member_last t h earlier))

  keeps_sound : (hs earlier : List Holding) (seen : List ℕ) → Before others earlier seen → T (session_keeps seen earlier hs) → T (clear others hs) × T (all_pairs agree (earlier ++ hs))
  unfolding session_keeps
  keeps_sound [] earlier seen w g = (unfold all in tt, subst (λ (l : List Holding). T (all_pairs agree l)) (sym (append-nil earlier)) w.agreed)
  keeps_sound (h ∷ hs) earlier seen w g =
      let k = accept_sound earlier seen h w (and_left (accepts seen earlier h) (session_keeps (h.teid ∷ seen) (earlier ++ h ∷ []) hs) g) in
      let ih = keeps_sound hs (earlier ++ h ∷ []) (h.teid ∷ seen) (before_more earlier seen h w k.0 k.1) (and_right (accepts seen earlier h) (session_keeps (h.teid ∷ seen) (earlier ++ h ∷ []) hs) g) in
      (all_cons (λ x. not (member x.teid others)) h hs k.0 ih.0, subst (λ (l : List Holding). T (all_pairs agree l)) (append_assoc earlier (h ∷ []) hs) ih.1)

  keeps_complete : (hs earlier : List Holding) (seen : List ℕ) → Before others earlier seen → T (clear others hs) → T (all_pairs agree (earlier ++ hs)) → T (session_keeps seen earlier hs)
  unfolding session_keeps
  keeps_complete [] earlier seen w o a = tt
  keeps_complete (h ∷ hs) earlier seen w o a =
      let o' = all_head (λ x. not (member x.teid others)) h hs o in
      let a' = pairs_middle agree earlier h hs a in
      both (accepts seen earlier h) (session_keeps (h.teid ∷ seen) (earlier ++ h ∷ []) hs) (accept_complete earlier seen h w o' a')
      (keeps_complete hs (earlier ++ h ∷ []) (h.teid ∷ seen) (before_more earlier seen h w o' a') (all_tail (λ x. not (member x.teid others)) h hs o)
      (subst (λ (l : List Holding). T (all_pairs agree l)) (sym (append_assoc earlier (h ∷ []) hs)) a))

  at_start : Before others [] others
  at_start = record { seen_are = λ t. sym (ap (λ (b : Bool). member t others || b) (member_nil t) ∙ or-false (member t others)); own = unfold all in tt; agreed = unfold all_pairs in tt }

-- a session's holds keep the rule where each two agree and none is on a TEID seen before
pub session_keeps_lem : (seen : List ℕ) (hs : List Holding) → session_keeps seen [] hs ≡ (clear seen hs && all_pairs agree hs)
session_keeps_lem seen hs =
    both_ways (session_keeps seen [] hs) (clear seen hs && all_pairs agree hs)
    (λ g. let k = keeps_sound seen hs [] seen (at_start seen) g in both (clear seen hs) (all_pairs agree hs) k.0 k.1)
    (λ g. keeps_complete seen hs [] seen (at_start seen) (and_left (clear seen hs) (all_pairs agree hs) g) (and_right (clear seen hs) (all_pairs agree hs) g))

-- ---- sessions

-- two lists of holds with no TEID in common
abbrev pub separate : List Holding → List Holding → Bool
separate hs ks = not (any_in (map teid_of hs) (map teid_of ks))

pub seen_after_lem : (seen : List ℕ) (hs : List Holding) (t : ℕ) → member t (seen_after seen hs) ≡ (member t (map teid_of hs) || member t seen)
unfolding seen_after member
seen_after_lem seen [] t = refl
seen_after_lem seen (h ∷ hs) t = seen_after_lem (h.teid ∷ seen) hs t
    ∙ or_swap (member t (map teid_of hs)) (eqb t h.teid) (member t seen)
    ∙ sym (or_assoc (eqb t h.teid) (member t (map teid_of hs)) (member t seen))

-- holds on no TEID of a list
pub clear_any : (ts : List ℕ) (hs : List Holding) → clear ts hs ≡ not (any_in (map teid_of hs) ts)
clear_any ts [] = unfold all any_in in refl
clear_any ts (h ∷ hs) =
    all_step (λ k. not (member k.teid ts)) h hs
    ∙ one (member h.teid ts) (clear ts hs) (any_in (map teid_of hs) ts) (clear_any ts hs)
    ∙ ap not (sym (any_cons h.teid (map teid_of hs) ts))
  where
    one : (a b c : Bool) → b ≡ not c → (not a && b) ≡ not (a || c)
    one true b c e = refl
    one false b c e = e

clear_separate : (hs ks : List Holding) → clear (map teid_of hs) ks ≡ separate hs ks
clear_separate hs ks = clear_any (map teid_of hs) ks ∙ ap not (any_turn (map teid_of ks) (map teid_of hs))

clear_after : (seen : List ℕ) (hs ks : List Holding) → clear (seen_after seen hs) ks ≡ (separate hs ks && clear seen ks)
clear_after seen hs ks = split ks ∙ ap (λ (b : Bool). b && clear seen ks) (clear_separate hs ks)
  where
    one : (a b c d : Bool) → (not (a || b) && (c && d)) ≡ ((not a && c) && (not b && d))
    one true b c d = refl
    one false true true d = refl
    one false true false d = refl
    one false false c d = refl

    split : (xs : List Holding) → clear (seen_after seen hs) xs ≡ (clear (map teid_of hs) xs && clear seen xs)
    split [] = unfold all in refl
    split (x ∷ xs) =
        all_step (λ k. not (member k.teid (seen_after seen hs))) x xs
        ∙ (λ i. not (seen_after_lem seen hs x.teid i) && split xs i)
        ∙ one (member x.teid (map teid_of hs)) (member x.teid seen) (clear (map teid_of hs) xs) (clear seen xs)
        ∙ (λ i. sym (all_step (λ k. not (member k.teid (map teid_of hs))) x xs) i && sym (all_step (λ k. not (member k.teid seen)) x xs) i)

clear_all : (seen : List ℕ) (hs : List Holding) (more : List (List Holding)) → all (clear (seen_after seen hs)) more ≡ (all (separate hs) more && all (clear seen) more)
clear_all seen hs [] = unfold all in refl
clear_all seen hs (ks ∷ more) =
    all_step (clear (seen_after seen hs)) ks more
    ∙ (λ i. clear_after seen hs ks i && clear_all seen hs more i)
    ∙ and_four (separate hs ks) (clear seen ks) (all (separate hs) more) (all (clear seen) more)
    ∙ (λ i. sym (all_step (separate hs) ks more) i && sym (all_step (clear seen) ks more) i)

-- the walk over sessions, from any TEIDs seen
pub table_keeps_from : (seen : List ℕ) (sessions : List (List Holding))
    → table_keeps seen sessions ≡ (all (clear seen) sessions && (all (all_pairs agree) sessions && all_pairs separate sessions))
unfolding table_keeps
table_keeps_from seen [] = unfold all all_pairs in refl
table_keeps_from seen (hs ∷ more) =
    (λ i. session_keeps_lem seen hs i && (table_keeps_from (seen_after seen hs) more ∙ ap (λ (b : Bool). b && (all (all_pairs agree) more && all_pairs separate more)) (clear_all seen hs more)) i)
    ∙ regroup (clear seen hs) (all_pairs agree hs) (all (separate hs) more) (all (clear seen) more) (all (all_pairs agree) more) (all_pairs separate more)
    ∙ (λ i. sym (all_step (clear seen) hs more) i && (sym (all_step (all_pairs agree) hs more) i && sym (pairs_step separate hs more) i))
  where
    regroup : (a b c d e f : Bool) → ((a && b) && ((c && d) && (e && f))) ≡ ((a && d) && ((b && e) && (c && f)))
    regroup a b c d e f =
        ap (λ (x : Bool). (a && b) && (x && (e && f))) (and_comm c d)
        ∙ ap (λ (x : Bool). (a && b) && x) (and_assoc d c (e && f))
        ∙ and_four a b d (c && (e && f))
        ∙ ap (λ (x : Bool). (a && d) && (b && x)) (and_swap c e f)
        ∙ ap (λ (x : Bool). (a && d) && x) (sym (and_assoc b e (c && f)))

-- 01's rule of a table, in one walk
pub table_keeps_lem : (m : Sessions) → table_keeps [] (map session_holdings m) ≡ (all (λ x. all_pairs agree (session_holdings x)) m && all_pairs apart_teids m)
unfolding apart_teids session_teids
table_keeps_lem m =
    table_keeps_from [] (map session_holdings m)
    ∙ ap (λ (b : Bool). b && (all (all_pairs agree) (map session_holdings m) && all_pairs separate (map session_holdings m))) (none_seen (map session_holdings m))
    ∙ (λ i. all_map session_holdings (all_pairs agree) m i && pairs_map session_holdings separate m i)
