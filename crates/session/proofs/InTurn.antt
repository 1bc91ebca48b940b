-- Records taken out, put in and changed one by one, and all at once as the rules say it.
-- Assumes nothing.
use mathlib.Core.Path.{◌≡◌, refl, sym, ap, ap₂, ◌∙◌}
use mathlib.Core.Bool.{Bool, true, false, not, ◌&&◌, ◌||◌}
use mathlib.Core.List.{List, [], ◌∷◌, map}
use Prim.Native.Nat.{ℕ, ◌+◌, ◌≤◌}
use native.Mathlib.Omega.{arith}
use lib.Dec.{T, eqb, leb, ltb, ltb→lt}
use lib.ListN.{length}
use borrow.Author.Tests.{ne_eqb}
use Rattle.octets.specs.Choice.{pick, head_or}
use Rattle.octets.specs.Lists.{member, any_in, has_repeat, ascending, all, keep, insert_by, insert_all}
use Rattle.octets.proofs.Tests.{and_left, all_tail, pick_either, neither_one, no_eqb, ascending_head, ascending_tail}
use Rattle.octets.proofs.Ordered.{ne_of, insert_length, keep_length}
use Rattle.octets.proofs.Bools.{not_or}
use Rattle.areas.proofs.Places.{other_than}

-- ---- taking out

keep_keep : {A : Type 0} (p q : A → Bool) (xs : List A) → keep p (keep q xs) ≡ keep (λ x. q x && p x) xs
unfolding keep
keep_keep p q [] = refl
keep_keep {A} p q (x ∷ xs) = go (q x) (keep_keep p q xs)
  where
    go : (b : Bool) → keep p (keep q xs) ≡ keep (λ x. q x && p x) xs → keep p (pick b (x ∷ keep q xs) (keep q xs)) ≡ pick (b && p x) (x ∷ keep (λ x. q x && p x) xs) (keep (λ x. q x && p x) xs)
    go true e = ap₂ (λ (u v : List A). pick (p x) (x ∷ u) v) e e
    go false e = e

keep_same : {A : Type 0} (p q : A → Bool) → ((x : A) → p x ≡ q x) → (xs : List A) → keep p xs ≡ keep q xs
keep_same p q e xs = ap (λ (f : _). keep f xs) (λ i x. e x i)

module _ {A : Type 0} (key : A → ℕ) where
  -- the records of some keys taken out in turn
  unfoldable pub take_out : List ℕ → List A → List A
  take_out [] rs = rs
  take_out (i ∷ is) rs = take_out is (keep (other_than key i) rs)

  abbrev pub not_among : List ℕ → A → Bool
  not_among is r = not (member (key r) is)

  kept_all : (rs : List A) → keep (λ r. true) rs ≡ rs
  unfolding keep
  kept_all [] = refl
  kept_all (r ∷ rs) = ap (λ (l : List A). r ∷ l) (kept_all rs)

  one_more : (x i : ℕ) (is : List ℕ) → (not (eqb x i) && not (member x is)) ≡ not (member x (i ∷ is))
  unfolding member
  one_more x i is = go (eqb x i)
    where
      go : (b : Bool) → (not b && not (member x is)) ≡ not (b || member x is)
      go true = refl
      go false = refl

  pub take_out_lem : (is : List ℕ) (rs : List A) → take_out is rs ≡ keep (not_among is) rs
  unfolding take_out
  take_out_lem [] rs = sym (unfold member in (kept_all rs))
  take_out_lem (i ∷ is) rs =
      take_out_lem is (keep (other_than key i) rs) ∙ keep_keep (not_among is) (other_than key i) rs
      ∙ keep_same (λ r. other_than key i r && not_among is r) (not_among (i ∷ is)) (λ r. one_more (key r) i is) rs

  -- ---- putting in

  -- each over the one of its key, or put in, in turn
  unfoldable pub put_in : List A → List A → List A
  put_in [] rs = rs
  put_in (a ∷ as') rs = put_in as' (insert_by key a (keep (other_than key (key a)) rs))

  other_key_lem : (x : ℕ) (rs : List A) → T (not (member x (map key rs))) → keep (other_than key x) rs ≡ rs
  unfolding member keep
  other_key_lem x [] h = refl
  other_key_lem x (r ∷ rs) h =
      let n = not_or (eqb x (key r)) (member x (map key rs)) h in
      rw (ne_eqb (key r) x (λ e. ne_of x (key r) n.0 (sym e))) (ap (λ (l : List A). r ∷ l) (other_key_lem x rs n.1))

  -- a key that is not there is not there after another was put in
  not_put : (a : A) (y : ℕ) (rs : List A) → T (not (eqb y (key a))) → T (not (member y (map key rs))) → T (not (member y (map key (insert_by key a rs))))
  unfolding member insert_by
  not_put a y [] n h = neither_one (eqb y (key a)) false n tt
  not_put a y (r ∷ rs) n h =
      let k = not_or (eqb y (key r)) (member y (map key rs)) h in
      pick_either (λ (l : List A). T (not (member y (map key l)))) (leb (key a) (key r)) (a ∷ r ∷ rs) (r ∷ insert_by key a rs)
      (neither_one (eqb y (key a)) (eqb y (key r) || member y (map key rs)) n h)
      (neither_one (eqb y (key r)) (member y (map key (insert_by key a rs))) k.0 (not_put a y rs n k.1))

  none_put : (a : A) (ys : List ℕ) (rs : List A) → T (not (member (key a) ys)) → T (not (any_in ys (map key rs))) → T (not (any_in ys (map key (insert_by key a rs))))
  unfolding member any_in
  none_put a [] rs n h = tt
  none_put a (y ∷ ys) rs n h =
      let k = not_or (eqb (key a) y) (member (key a) ys) n in
      let g = not_or (member y (map key rs)) (any_in ys (map key rs)) h in
      neither_one (member y (map key (insert_by key a rs))) (any_in ys (map key (insert_by key a rs)))
      (not_put a y rs (no_eqb y (key a) (λ e. ne_of (key a) y k.0 (sym e))) g.0)
      (none_put a ys rs k.1 g.1)

  -- of different keys, none of them there, it is the rules' insertion
  pub put_in_lem : (as' rs : List A) → T (not (has_repeat (map key as'))) → T (not (any_in (map key as') (map key rs))) → put_in as' rs ≡ insert_all key as' rs
  unfolding put_in insert_all has_repeat any_in
  put_in_lem [] rs d h = refl
  put_in_lem (a ∷ as') rs d h =
      let k = not_or (member (key a) (map key as')) (has_repeat (map key as')) d in
      let g = not_or (member (key a) (map key rs)) (any_in (map key as') (map key rs)) h in
      ap (λ (l : List A). put_in as' (insert_by key a l)) (other_key_lem (key a) rs g.0)
      ∙ put_in_lem as' (insert_by key a rs) k.1 (none_put a (map key as') rs k.0 g.1)

  pub put_long : (a : A) (rs : List A) → length (insert_by key a (keep (other_than key (key a)) rs)) ≤ length rs + 1
  put_long a rs = omega (arith, insert_length key a (keep (other_than key (key a)) rs), keep_length (other_than key (key a)) rs)

-- ---- ascending numbers below a limit are no more than the limit

ahead : (k : ℕ) (ns : List ℕ) → T (ascending ns) → T (all (λ n. ltb n k) ns) → head_or k ns + length ns ≤ k
unfolding ascending all
ahead k [] h g = omega arith
ahead k (x ∷ []) h g = let l = ltb→lt x k (and_left (ltb x k) true g) in omega arith
ahead k (x ∷ y ∷ ns) h g =
    let l = ascending_head x y ns h in
    let ih = ahead k (y ∷ ns) (ascending_tail x (y ∷ ns) h) (all_tail (λ n. ltb n k) x (y ∷ ns) g) in
    omega arith

pub no_more : (k : ℕ) (ns : List ℕ) → T (ascending ns) → T (all (λ n. ltb n k) ns) → length ns ≤ k
no_more k ns h g = let e = ahead k ns h g in omega arith

-- what is kept has no more keys than there were
none_kept : {A : Type 0} (key : A → ℕ) (q : A → Bool) (y : ℕ) (rs : List A) → T (not (member y (map key rs))) → T (not (member y (map key (keep q rs))))
unfolding member keep
none_kept key q y [] h = tt
none_kept {A} key q y (r ∷ rs) h =
    let n = not_or (eqb y (key r)) (member y (map key rs)) h in
    let ih = none_kept key q y rs n.1 in
    pick_either (λ (l : List A). T (not (member y (map key l)))) (q r) (r ∷ keep q rs) (keep q rs) (neither_one (eqb y (key r)) (member y (map key (keep q rs))) n.0 ih) ih

pub none_of_kept : {A : Type 0} (key : A → ℕ) (q : A → Bool) (ys : List ℕ) (rs : List A) → T (not (any_in ys (map key rs))) → T (not (any_in ys (map key (keep q rs))))
unfolding any_in
none_of_kept key q [] rs h = tt
none_of_kept key q (y ∷ ys) rs h =
    let n = not_or (member y (map key rs)) (any_in ys (map key rs)) h in
    neither_one (member y (map key (keep q rs))) (any_in ys (map key (keep q rs))) (none_kept key q y rs n.0) (none_of_kept key q ys rs n.1)
