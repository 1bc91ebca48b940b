-- The walk that marks addresses (02 (v)) says just what `apart` says of addresses: every two sessions have none of the pool in common.
-- Assumes nothing.
use Rattle.std.proofs.Common.{◌≡◌, ℕ, ◌*◌, ◌≤◌, Bool, true, false, not, ◌&&◌, ◌||◌, T, List, [], ◌∷◌, ◌++◌, map, length, replicate, sym, refl, ap, ◌∙◌}
use lib.ListN.{length-replicate}
use Rattle.octets.specs.Lists.{member, any_in, any, all, all_pairs}
use Rattle.octets.proofs.Tests.{all_head, all_tail}
use Rattle.octets.proofs.Bools.{and_four, or_four}
use Rattle.octets.proofs.Questions.{any_nil, any_cons, any_turn, member_append}
use Rattle.octets.proofs.EachTwo.{all_step, pairs_step}
use Rattle.rules.specs.Model.{Settings, Session, Sessions, session_addresses}
use Rattle.rules.specs.Sound.{in_pool, apart, marked}
use Rattle.pool.specs.Map.{marks, offsets}
use Rattle.pool.proofs.Marks.{length_marks}
use Rattle.pool.proofs.TakenLaws.{Means, means_empty, means_test, means_marks, pool_from}
use Rattle.pool.proofs.AddressLaws.{as_pool, session_pooled}
use Rattle.marking.specs.Walk.{apart_teids, apart_addresses, address_offsets, address_marks}

-- ---- two halves

apart_is : (s : Settings) (x y : Session) → apart s x y ≡ (apart_teids x y && apart_addresses s x y)
unfolding apart apart_teids apart_addresses
apart_is s x y = refl

pub apart_both : (s : Settings) (m : Sessions) → all_pairs (apart s) m ≡ (all_pairs apart_teids m && all_pairs (apart_addresses s) m)
apart_both s [] = unfold all_pairs in refl
apart_both s (x ∷ m) =
    pairs_step (apart s) x m
    ∙ (λ i. each m i && apart_both s m i)
    ∙ and_four (all (apart_teids x) m) (all (apart_addresses s x) m) (all_pairs apart_teids m) (all_pairs (apart_addresses s) m)
    ∙ (λ i. sym (pairs_step apart_teids x m) i && sym (pairs_step (apart_addresses s) x m) i)
  where
    each : (ys : Sessions) → all (apart s x) ys ≡ (all (apart_teids x) ys && all (apart_addresses s x) ys)
    each [] = unfold all in refl
    each (y ∷ ys) =
        all_step (apart s x) y ys
        ∙ (λ i. apart_is s x y i && each ys i)
        ∙ and_four (apart_teids x y) (apart_addresses s x y) (all (apart_teids x) ys) (all (apart_addresses s x) ys)
        ∙ (λ i. sym (all_step (apart_teids x) y ys) i && sym (all_step (apart_addresses s x) y ys) i)

-- ---- lists of numbers

any_more : (us ts seen : List ℕ) → any_in us (ts ++ seen) ≡ (any_in us ts || any_in us seen)
any_more [] ts seen = any_nil (ts ++ seen) ∙ (λ i. sym (any_nil ts) i || sym (any_nil seen) i)
any_more (u ∷ us) ts seen =
    any_cons u us (ts ++ seen)
    ∙ (λ i. member_append u ts seen i || any_more us ts seen i)
    ∙ or_four (member u ts) (member u seen) (any_in us ts) (any_in us seen)
    ∙ (λ i. sym (any_cons u us ts) i || sym (any_cons u us seen) i)

not_either : (a b : Bool) → not (a || b) ≡ (not a && not b)
not_either true b = refl
not_either false b = refl

module _ (s : Settings) where
  -- no address of a list in a session's records
  abbrev fresh : List ℕ → Session → Bool
  fresh seen x = not (any_in (session_addresses s x) seen)

  fresh_one : (seen : List ℕ) (x y : Session) → fresh (session_addresses s x ++ seen) y ≡ (apart_addresses s x y && fresh seen y)
  unfolding apart_addresses
  fresh_one seen x y =
      ap not (any_more (session_addresses s y) (session_addresses s x) seen)
      ∙ not_either (any_in (session_addresses s y) (session_addresses s x)) (any_in (session_addresses s y) seen)
      ∙ ap (λ (b : Bool). not b && fresh seen y) (any_turn (session_addresses s y) (session_addresses s x))

  fresh_more : (seen : List ℕ) (x : Session) (ys : Sessions) → all (fresh (session_addresses s x ++ seen)) ys ≡ (all (apart_addresses s x) ys && all (fresh seen) ys)
  fresh_more seen x [] = unfold all in refl
  fresh_more seen x (y ∷ ys) =
      all_step (fresh (session_addresses s x ++ seen)) y ys
      ∙ (λ i. fresh_one seen x y i && fresh_more seen x ys i)
      ∙ and_four (apart_addresses s x y) (fresh seen y) (all (apart_addresses s x) ys) (all (fresh seen) ys)
      ∙ (λ i. sym (all_step (apart_addresses s x) y ys) i && sym (all_step (fresh seen) y ys) i)

  -- the map's bits stand for the addresses seen
  any_marked : (ws seen ts : List ℕ) → Means s.first_address ws seen → T (all (in_pool (as_pool s)) ts) → any (marked ws) (offsets s.first_address ts) ≡ any_in ts seen
  unfolding offsets any any_in
  any_marked ws seen [] h g = refl
  any_marked ws seen (t ∷ ts) h g =
      λ i. means_test s.first_address ws seen t h (pool_from (as_pool s) t (all_head (in_pool (as_pool s)) t ts g)) i
      || any_marked ws seen ts h (all_tail (in_pool (as_pool s)) t ts g) i

  marks_from : (ws seen : List ℕ) (m : Sessions) → Means s.first_address ws seen → s.address_count ≤ 64 * length ws
      → address_marks ws (map (address_offsets s) m) ≡ (all (fresh seen) m && all_pairs (apart_addresses s) m)
  unfolding address_marks
  marks_from ws seen [] h f = unfold all all_pairs in refl
  marks_from ws seen (x ∷ m) h f =
      let here : any (marked ws) (address_offsets s x) ≡ any_in (session_addresses s x) seen = unfold address_offsets in any_marked ws seen (session_addresses s x) h (session_pooled s x) in
      let after : Means s.first_address (marks ws (address_offsets s x)) (session_addresses s x ++ seen) =
      unfold address_offsets in means_marks (as_pool s) ws seen (session_addresses s x) h f (session_pooled s x) in
      let ih = marks_from (marks ws (address_offsets s x)) (session_addresses s x ++ seen) m after (rw length_marks f) in
      (λ i. not (here i) && (ih ∙ ap (λ (b : Bool). b && all_pairs (apart_addresses s) m) (fresh_more seen x m)) i)
      ∙ regroup (fresh seen x) (all (apart_addresses s x) m) (all (fresh seen) m) (all_pairs (apart_addresses s) m)
      ∙ (λ i. sym (all_step (fresh seen) x m) i && sym (pairs_step (apart_addresses s) x m) i)
    where
      regroup : (a b c d : Bool) → (a && ((b && c) && d)) ≡ ((a && c) && (b && d))
      regroup true true c d = refl
      regroup true false true d = refl
      regroup true false false d = refl
      regroup false b c d = refl

  -- over a whole table, from an empty map of n words
  pub address_marks_lem : (n : ℕ) (m : Sessions) → s.address_count ≤ 64 * n → address_marks (replicate n 0) (map (address_offsets s) m) ≡ all_pairs (apart_addresses s) m
  address_marks_lem n m f =
      marks_from (replicate n 0) [] m (means_empty s.first_address n) (rw length-replicate f)
      ∙ ap (λ (b : Bool). b && all_pairs (apart_addresses s) m) (none_seen m)
    where
      none_seen : (ys : Sessions) → all (fresh []) ys ≡ true
      none_seen [] = unfold all in refl
      none_seen (y ∷ ys) = all_step (fresh []) y ys ∙ (λ i. not ((any_turn (session_addresses s y) [] ∙ any_nil (session_addresses s y)) i) && none_seen ys i)
