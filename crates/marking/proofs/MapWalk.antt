-- The walk with the map of taken TEIDs: the map's bits stand for the TEIDs seen, so it says what the walk with their list says.
-- The TEIDs of records that keep the rules are in the pool, so that each has its bit.
-- Assumes nothing.
use Rattle.std.proofs.Common.{◌≡◌, ℕ, ◌-◌, ◌*◌, ◌≤◌, Bool, true, false, not, ◌&&◌, ◌||◌, T, List, [], ◌∷◌, ◌++◌, map, length, replicate, sym, refl, ap, ◌∙◌, subst}
use mathlib.Core.Bool.{and_assoc}
use mathlib.Core.List.{map-append}
use lib.ListN.{length-replicate}
use Rattle.octets.specs.Choice.{cons_option, map_option}
use Rattle.octets.specs.Lists.{all, all_pairs, collect}
use Rattle.octets.proofs.Tests.{all_head, all_tail, all_cons}
use Rattle.octets.proofs.Bools.{and_swap, and_four}
use Rattle.octets.proofs.EachTwo.{all_step, all_append}
use Rattle.rules.specs.Model.{Settings, Tunnel, Match, neither, tunnel, endpoint, Pdr, Endpoint, Holding, Session, Sessions, teid_of, matched_tunnel, tunnel_holding, pdr_holding, endpoint_holding, endpoint_id, session_holdings, session_teids, held_teids}
use Rattle.rules.specs.Sound.{in_pool, tunnel_allowed, match_allowed, pdr_allowed, endpoint_allowed, agree, session_allowed, sessions_allowed}
use Rattle.laws.proofs.KeptRules.{tunnel_kept, pdr_kept, endpoint_kept, session_kept, sessions_kept}
use Rattle.pool.specs.Map.{mark, marks, offsets}
use Rattle.pool.proofs.Marks.{length_mark, length_marks}
use Rattle.pool.proofs.TakenLaws.{Means, means_empty, means_test, means_mark, pool_from, pool_offset}
use Rattle.marking.specs.Walk.{joins, accepts, session_keeps, seen_after, table_keeps, session_marks, table_marks, apart_teids}
use Rattle.marking.proofs.WalkLaws.{table_keeps_lem}

module _ (s : Settings) where
  -- holds on TEIDs of the pool
  abbrev pub pooled : List Holding → Bool
  pooled hs = all (in_pool s) (map teid_of hs)

  -- the map after a session's holds means the TEIDs seen after them
  pub means_after : (ws seen : List ℕ) (hs : List Holding) → Means s.first ws seen → s.size ≤ 64 * length ws → T (pooled hs)
      → Means s.first (marks ws (offsets s.first (map teid_of hs))) (seen_after seen hs)
  unfolding marks offsets seen_after
  means_after ws seen [] h f g i = h i
  means_after ws seen (k ∷ hs) h f g i =
      let p = all_head (in_pool s) k.teid (map teid_of hs) g in
      let h' = means_mark s.first ws seen k.teid h (pool_from s k.teid p) (pool_offset s (length ws) k.teid f p) in
      means_after (mark ws (k.teid - s.first)) (k.teid ∷ seen) hs h' (rw length_mark f) (all_tail (in_pool s) k.teid (map teid_of hs) g) i

  pub session_marks_lem : (ws seen : List ℕ) (earlier hs : List Holding) → Means s.first ws seen → s.size ≤ 64 * length ws → T (pooled hs)
      → session_marks s.first ws earlier hs ≡ session_keeps seen earlier hs
  unfolding session_marks session_keeps accepts
  session_marks_lem ws seen earlier [] h f g = refl
  session_marks_lem ws seen earlier (k ∷ hs) h f g =
      let p = all_head (in_pool s) k.teid (map teid_of hs) g in
      let h' = means_mark s.first ws seen k.teid h (pool_from s k.teid p) (pool_offset s (length ws) k.teid f p) in
      let e = means_test s.first ws seen k.teid h (pool_from s k.teid p) in
      let ih = session_marks_lem (mark ws (k.teid - s.first)) (k.teid ∷ seen) (earlier ++ k ∷ []) hs h' (rw length_mark f) (all_tail (in_pool s) k.teid (map teid_of hs) g) in
      λ i. (not (e i) || joins earlier k) && ih i

  -- the walk over sessions, each tested before: what the tests say, and what the walk with the list says
  module _ (own : Session → Bool) (in-pool : (x : Session) → T (own x) → T (all (in_pool s) (session_teids x))) where
    table_marks_from : (ws seen : List ℕ) (m : Sessions) → Means s.first ws seen → s.size ≤ 64 * length ws
        → table_marks own s.first ws m ≡ (all own m && table_keeps seen (map session_holdings m))
    unfolding table_marks table_keeps all session_teids
    table_marks_from ws seen [] h f = refl
    table_marks_from ws seen (x ∷ m) h f =
        one (own x) refl
        (λ g. session_marks_lem ws seen [] (session_holdings x) h f (in-pool x g))
        (λ g. table_marks_from (marks ws (offsets s.first (session_teids x))) (seen_after seen (session_holdings x)) m
        (means_after ws seen (session_holdings x) h f (in-pool x g)) (rw length_marks f))
      where
        one : (b : Bool) → own x ≡ b
            → (T (own x) → session_marks s.first ws [] (session_holdings x) ≡ session_keeps seen [] (session_holdings x))
            → (T (own x) → table_marks own s.first (marks ws (offsets s.first (session_teids x))) m ≡ (all own m && table_keeps (seen_after seen (session_holdings x)) (map session_holdings m)))
            → (b && (session_marks s.first ws [] (session_holdings x) && table_marks own s.first (marks ws (offsets s.first (session_teids x))) m))
            ≡ ((b && all own m) && (session_keeps seen [] (session_holdings x) && table_keeps (seen_after seen (session_holdings x)) (map session_holdings m)))
        one false e f' g' = refl
        one true e f' g' =
            let t : T (own x) = subst T (sym e) tt in
            (λ i. f' t i && g' t i) ∙ and_swap (session_keeps seen [] (session_holdings x)) (all own m) (table_keeps (seen_after seen (session_holdings x)) (map session_holdings m))

    -- over a whole table, from an empty map of n words: the sessions' own tests, and 01's rule on TEIDs
    pub table_marks_lem : (n : ℕ) (m : Sessions) → s.size ≤ 64 * n
        → table_marks own s.first (replicate n 0) m ≡ (all own m && (all (λ x. all_pairs agree (session_holdings x)) m && all_pairs apart_teids m))
    table_marks_lem n m f =
        table_marks_from (replicate n 0) [] m (means_empty s.first n) (rw length-replicate f)
        ∙ ap (λ (b : Bool). all own m && b) (table_keeps_lem m)

    -- where these are a session's tests but for its holds, the walk says that every session is allowed and every two have no TEID in common
    pub sessions_marks : (n : ℕ) (m : Sessions) → s.size ≤ 64 * n → ((x : Session) → session_allowed s x ≡ (own x && all_pairs agree (session_holdings x)))
        → table_marks own s.first (replicate n 0) m ≡ (all (session_allowed s) m && all_pairs apart_teids m)
    sessions_marks n m f split = table_marks_lem n m f ∙ sym (and_assoc (all own m) (all (λ x. all_pairs agree (session_holdings x)) m) (all_pairs apart_teids m)) ∙ ap (λ (b : Bool). b && all_pairs apart_teids m) (sym (joined m))
      where
        joined : (xs : Sessions) → all (session_allowed s) xs ≡ (all own xs && all (λ x. all_pairs agree (session_holdings x)) xs)
        joined [] = unfold all in refl
        joined (x ∷ xs) =
            all_step (session_allowed s) x xs ∙ (λ i. split x i && joined xs i)
            ∙ and_four (own x) (all_pairs agree (session_holdings x)) (all own xs) (all (λ y. all_pairs agree (session_holdings y)) xs)
            ∙ (λ i. sym (all_step own x xs) i && sym (all_step (λ y. all_pairs agree (session_holdings y)) x xs) i)

  -- ---- TEIDs of records that keep the rules

  tunnel_pooled : (t : Tunnel) → T (tunnel_allowed s t) → T (in_pool s t.teid)
  tunnel_pooled t h = (tunnel_kept s t h).pool

  endpoints_pooled : (es : List Endpoint) → T (all (endpoint_allowed s) es) → T (pooled (map endpoint_holding es))
  unfolding endpoint_holding tunnel_holding
  endpoints_pooled [] h = unfold all in tt
  endpoints_pooled (e ∷ es) h =
      all_cons (in_pool s) e.local.teid (map teid_of (map endpoint_holding es))
      (tunnel_pooled e.local (endpoint_kept s e (all_head (endpoint_allowed s) e es h)).local)
      (endpoints_pooled es (all_tail (endpoint_allowed s) e es h))

  pdrs_pooled : (live : List ℕ) (ps : List Pdr) → T (all (pdr_allowed s live) ps) → T (pooled (collect pdr_holding ps))
  unfolding collect pdr_holding matched_tunnel tunnel_holding
  pdrs_pooled live [] h = unfold all in tt
  pdrs_pooled live (p ∷ ps) h = one p.match (allowed (all_head (pdr_allowed s live) p ps h)) (pdrs_pooled live ps (all_tail (pdr_allowed s live) p ps h))
    where
      allowed : T (pdr_allowed s live p) → T (match_allowed s live p.match)
      allowed g = (pdr_kept s live p g).match

      one : (w : Match) → T (match_allowed s live w) → T (pooled (collect pdr_holding ps))
          → T (pooled (cons_option (map_option (tunnel_holding true p.source) (matched_tunnel w)) (collect pdr_holding ps)))
      one neither a k = k
      one (tunnel t) a k = all_cons (in_pool s) t.teid (map teid_of (collect pdr_holding ps)) (tunnel_pooled t (unfold match_allowed in a)) k
      one (endpoint e) a k = k

  pub records_in_pool : (x : Session) (live : List ℕ) → T (all (pdr_allowed s live) x.pdrs) → T (all (endpoint_allowed s) x.endpoints) → T (all (in_pool s) (session_teids x))
  unfolding session_teids session_holdings
  records_in_pool x live hp he =
      subst (λ (l : List ℕ). T (all (in_pool s) l)) (sym (map-append teid_of (map endpoint_holding x.endpoints) (collect pdr_holding x.pdrs)))
      (all_append (in_pool s) (map teid_of (map endpoint_holding x.endpoints)) (map teid_of (collect pdr_holding x.pdrs)) (endpoints_pooled x.endpoints he) (pdrs_pooled live x.pdrs hp))

  pub session_in_pool : (x : Session) → T (session_allowed s x) → T (all (in_pool s) (session_teids x))
  session_in_pool x h =
      let k = (session_kept s x h).records in
      records_in_pool x (map endpoint_id x.endpoints) k.pdrs k.endpoints

  pub all_in_pool : (m : Sessions) → T (all (session_allowed s) m) → T (all (in_pool s) (held_teids m))
  unfolding all held_teids
  all_in_pool [] h = tt
  all_in_pool (x ∷ m) h =
      all_append (in_pool s) (session_teids x) (held_teids m) (session_in_pool x (all_head (session_allowed s) x m h)) (all_in_pool m (all_tail (session_allowed s) x m h))

  -- every TEID held in sessions that are allowed is in the pool
  pub held_in_pool : (m : Sessions) → T (sessions_allowed s m) → T (all (in_pool s) (held_teids m))
  held_in_pool m h = all_in_pool m (sessions_kept s m h).sessions
