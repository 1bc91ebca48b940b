-- Lists in ascending order of a key: what stands in them after putting in and taking out, and how many.
-- Assumes nothing.
use mathlib.Core.Path.{◌≡◌, refl, sym, ap, ap₂, ◌∙◌, subst}
use Prim.Native.Nat.{ℕ, suc, ◌+◌, ◌≤◌, zero-le, ◌<◌}
use native.Mathlib.Omega.{arith}
use mathlib.Core.Bool.{Bool, true, false, not, ◌&&◌, ◌||◌}
use mathlib.Core.Option.{Option, none, some}
use mathlib.Core.List.Permᴰ
use mathlib.Core.List.{List, [], ◌∷◌, ◌++◌, map, Permᴰ}
use lib.ListN.{length, length-append}
use lib.Dec.{T, not_T, T_not, leb, ltb, eqb, leb→le, ltb→lt, eqb→eq, lt→ltb}
use mir.Facts.{yes_leb}
use Rattle.octets.specs.Choice.{pick, cons_option}
use Rattle.octets.specs.Lists.{member, has_repeat, ascending, all, any, all_pairs, keep, collect, insert_by, insert_all}
use Rattle.octets.proofs.Tests.{pick_yes, pick_either, all_head, all_tail, ascending_tail, all_cons, neither_one, ascending_head}
use Rattle.octets.proofs.Ordered.{other_key, pairs_head, pairs_tail, insert_ascending, insert_all_lem, keep_length, keep_less, keep_pairs, perm_length}
use Rattle.octets.proofs.ListLaws.{by_test, or_right, or_by_left, or_by_right, all_imply, all_join, all_always}
use Rattle.octets.proofs.MemberLaws.{differ_turn, kept_key, without_keys, member_without}
use Rattle.octets.proofs.Bools.{not_or}
use Rattle.laws.proofs.RangeLaws.{above_not_member}

pub ascending_above : (x : ℕ) (xs : List ℕ) → T (ascending (x ∷ xs)) → T (all (λ n. ltb x n) xs)
unfolding all
ascending_above x [] h = tt
ascending_above x (y ∷ xs) h =
    let up = ascending_head x y xs h in
    all_cons (λ n. ltb x n) y xs (lt→ltb x y up) (raise xs up (ascending_above y xs (ascending_tail x (y ∷ xs) h)))
  where
    raise : (ns : List ℕ) → x < y → T (all (λ n. ltb y n) ns) → T (all (λ n. ltb x n) ns)
    raise [] up g = tt
    raise (n ∷ ns) up g =
        let over = ltb→lt y n (all_head (λ m. ltb y m) n ns g) in
        all_cons (λ m. ltb x m) n ns (lt→ltb x n (omega arith)) (raise ns up (all_tail (λ m. ltb y m) n ns g))

-- ascending numbers do not repeat
pub ascending_once : (xs : List ℕ) → T (ascending xs) → T (not (has_repeat xs))
unfolding has_repeat
ascending_once [] h = tt
ascending_once (x ∷ xs) h =
    neither_one (member x xs) (has_repeat xs) (above_not_member x xs (ascending_above x xs h)) (ascending_once xs (ascending_tail x xs h))

-- ---- orders

module _ {A B : Type 0} where
  -- the values in another order
  pub collect_perm : (f : A → Option B) {xs ys : List A} → Permᴰ xs ys → Permᴰ (collect f xs) (collect f ys)
  unfolding collect
  collect_perm f Permᴰ.nil = Permᴰ.nil
  collect_perm f (Permᴰ.cons {a = a} {b = b} {l₁ = l₁} {l₂ = l₂} e π) =
      subst (λ (z : A). Permᴰ (cons_option (f a) (collect f l₁)) (cons_option (f z) (collect f l₂))) e (one (f a) (collect_perm f π))
    where
      one : (o : Option B) → Permᴰ (collect f l₁) (collect f l₂) → Permᴰ (cons_option o (collect f l₁)) (cons_option o (collect f l₂))
      one none σ = σ
      one (some c) σ = Permᴰ.cons refl σ
  collect_perm f (Permᴰ.swap {a = a} {b = b} {a' = a'} {b' = b'} {l = l} e₁ e₂) =
      subst (λ (z : A). Permᴰ (cons_option (f a) (cons_option (f b) (collect f l))) (cons_option (f a') (cons_option (f z) (collect f l)))) e₁
      (subst (λ (z : A). Permᴰ (cons_option (f a) (cons_option (f b) (collect f l))) (cons_option (f z) (cons_option (f a) (collect f l)))) e₂ (one (f a) (f b)))
    where
      one : (o p : Option B) → Permᴰ (cons_option o (cons_option p (collect f l))) (cons_option p (cons_option o (collect f l)))
      one none p = Permᴰ.refl (cons_option p (collect f l))
      one (some c) none = Permᴰ.refl (c ∷ collect f l)
      one (some c) (some d) = Permᴰ.swap refl refl
  collect_perm f (Permᴰ.trans π₁ π₂) = Permᴰ.trans (collect_perm f π₁) (collect_perm f π₂)

  -- the same for a map
  pub map_perm : (f : A → B) {xs ys : List A} → Permᴰ xs ys → Permᴰ (map f xs) (map f ys)
  map_perm f Permᴰ.nil = Permᴰ.nil
  map_perm f (Permᴰ.cons e π) = Permᴰ.cons (ap f e) (map_perm f π)
  map_perm f (Permᴰ.swap e₁ e₂) = Permᴰ.swap (ap f e₁) (ap f e₂)
  map_perm f (Permᴰ.trans π₁ π₂) = Permᴰ.trans (map_perm f π₁) (map_perm f π₂)

-- ---- putting in

module _ {A : Type 0} (key : A → ℕ) where
  -- the list with one more element holds just that one more
  pub insert_perm : (a : A) (xs : List A) → Permᴰ (insert_by key a xs) (a ∷ xs)
  unfolding insert_by
  insert_perm a [] = Permᴰ.refl (a ∷ [])
  insert_perm a (x ∷ xs) =
      pick_either (λ (l : List A). Permᴰ l (a ∷ x ∷ xs)) (leb (key a) (key x)) (a ∷ x ∷ xs) (x ∷ insert_by key a xs)
      (Permᴰ.refl (a ∷ x ∷ xs)) (Permᴰ.trans (Permᴰ.cons refl (insert_perm a xs)) (Permᴰ.swap refl refl))

  -- with all of a list put in it holds those and its own
  pub insert_all_append : (as' xs : List A) → Permᴰ (insert_all key as' xs) (as' ++ xs)
  unfolding insert_all
  insert_all_append [] xs = Permᴰ.refl xs
  insert_all_append (a ∷ as') xs =
      Permᴰ.trans (insert_all_append as' (insert_by key a xs))
      (Permᴰ.trans (Permᴰ.append_left as' (insert_perm a xs)) (Permᴰ.middle a as' xs))

  -- how many it then holds
  pub insert_all_length : (as' xs : List A) → length (insert_all key as' xs) ≡ length as' + length xs
  insert_all_length as' xs = perm_length (insert_all_append as' xs) ∙ length-append as' xs

  -- elements with keys of their own keep the order
  pub insert_all_ascending : (as' xs : List A) → T (all_pairs (other_key key) as') → T (all (λ a. all (other_key key a) xs) as') → T (ascending (map key xs))
      → T (ascending (map key (insert_all key as' xs)))
  unfolding insert_all
  insert_all_ascending [] xs h g up = up
  insert_all_ascending (a ∷ as') xs h g up =
      insert_all_ascending as' (insert_by key a xs) (pairs_tail (other_key key) a as' h)
      (all_join (other_key key a) (λ b. all (other_key key b) xs) (λ b. all (other_key key b) (insert_by key a xs))
      (λ b hb gb. insert_all_lem key (other_key key b) a xs (differ_turn (key a) (key b) hb) gb) as' (pairs_head (other_key key) a as' h) (all_tail (λ c. all (other_key key c) xs) a as' g))
      (insert_ascending key a xs (all_head (λ c. all (other_key key c) xs) a as' g) up)

-- ---- taking out

module _ {A : Type 0} where
  -- one test after the other
  pub keep_keep : (p q r : A → Bool) → ((a : A) → r a ≡ (q a && p a)) → (xs : List A) → keep r xs ≡ keep p (keep q xs)
  unfolding keep
  keep_keep p q r e [] = refl
  keep_keep p q r e (x ∷ xs) = one (q x) (e x) (keep_keep p q r e xs)
    where
      one : (b : Bool) → r x ≡ (b && p x) → keep r xs ≡ keep p (keep q xs) → pick (r x) (x ∷ keep r xs) (keep r xs) ≡ keep p (pick b (x ∷ keep q xs) (keep q xs))
      one true d ih = ap₂ (λ (c : Bool) (l : List A). pick c (x ∷ l) l) d ih
      one false d ih = ap (λ (c : Bool). pick c (x ∷ keep r xs) (keep r xs)) d ∙ ih

  -- where every one passes, all stay
  pub keep_everything : (q : A → Bool) (xs : List A) → T (all q xs) → keep q xs ≡ xs
  unfolding keep
  keep_everything q [] h = refl
  keep_everything q (x ∷ xs) h = pick_yes (q x) (x ∷ keep q xs) (keep q xs) (all_head q x xs h) ∙ ap (λ (l : List A). x ∷ l) (keep_everything q xs (all_tail q x xs h))

module _ {A : Type 0} (key : A → ℕ) where
  -- a key that is there is that of an element
  key_any : (k : ℕ) (xs : List A) → T (member k (map key xs)) → T (any (λ a. not (not (eqb (key a) k))) xs)
  unfolding member any
  key_any k [] h = absurd h
  key_any k (x ∷ xs) h =
      by_test (eqb (key x) k) (λ e. or_by_left (not (not (eqb (key x) k))) (any (λ a. not (not (eqb (key a) k))) xs) (not_T (not (eqb (key x) k)) (λ g. T_not (eqb (key x) k) g e)))
      (λ e. or_by_right (not (not (eqb (key x) k))) (any (λ a. not (not (eqb (key a) k))) xs) (key_any k xs (or_right (eqb k (key x)) (member k (map key xs)) h (differ_turn (key x) k e))))

  -- not among more keys: not among them and not the first
  gone_tests : (n : ℕ) (gone : List ℕ) (a : A) → kept_key key (n ∷ gone) a ≡ (kept_key key gone a && not (eqb (key a) n))
  unfolding member
  gone_tests n gone a = one (eqb (key a) n) (member (key a) gone)
    where
      one : (b c : Bool) → not (b || c) ≡ (not c && not b)
      one true true = refl
      one true false = refl
      one false true = refl
      one false false = refl

  -- different keys that are there: each takes one element out
  pub removed_length : (gone : List ℕ) (xs : List A) → T (not (has_repeat gone)) → T (all (λ n. member n (map key xs)) gone) → length (keep (kept_key key gone) xs) + length gone ≤ length xs
  unfolding has_repeat
  removed_length [] xs h g = let k = keep_length (kept_key key []) xs in omega arith
  removed_length (n ∷ gone) xs h g =
      let once = not_or (member n gone) (has_repeat gone) h in
      let ih = removed_length gone xs once.1 (all_tail (λ k. member k (map key xs)) n gone g) in
      let kept = keep (kept_key key gone) xs in
      let there : T (member n (map key kept)) = subst (λ (l : List ℕ). T (member n l)) (without_keys key gone xs) (member_without n (map key xs) gone (all_head (λ k. member k (map key xs)) n gone g) once.0) in
      let less = keep_less (λ a. not (eqb (key a) n)) kept (key_any n kept there) in
      let same = ap length (keep_keep (λ a. not (eqb (key a) n)) (kept_key key gone) (kept_key key (n ∷ gone)) (gone_tests n gone) xs) in
      omega arith

  -- one key takes at most one of different keys out
  one_removed : (n : ℕ) (xs : List A) → T (all_pairs (other_key key) xs) → length xs ≤ suc (length (keep (λ a. not (eqb (key a) n)) xs))
  unfolding keep
  one_removed n [] h = zero-le
  one_removed n (x ∷ xs) h = one (eqb (key x) n) refl (one_removed n xs (pairs_tail (other_key key) x xs h))
    where
      q : A → Bool
      q a = not (eqb (key a) n)

      one : (b : Bool) → eqb (key x) n ≡ b → length xs ≤ suc (length (keep q xs)) → suc (length xs) ≤ suc (length (pick (not b) (x ∷ keep q xs) (keep q xs)))
      one true e ih =
          let same : key x ≡ n = eqb→eq (key x) n (subst T (sym e) tt) in
          let others : T (all q xs) = all_imply (other_key key x) q (λ a g. differ_turn n (key a) (subst (λ (k : ℕ). T (not (eqb k (key a)))) same g)) xs (pairs_head (other_key key) x xs h) in
          let whole = ap length (keep_everything q xs others) in
          omega arith
      one false e ih = omega arith

  -- different keys: those that go take out just as many
  pub removed_exact : (gone : List ℕ) (xs : List A) → T (all_pairs (other_key key) xs) → length xs ≤ length (keep (kept_key key gone) xs) + length gone
  removed_exact [] xs h = let e = ap length (keep_everything (kept_key key []) xs (all_always (kept_key key []) (λ a. unfold member in tt) xs)) in omega arith
  removed_exact (n ∷ gone) xs h =
      let ih = removed_exact gone xs h in
      let kept = keep (kept_key key gone) xs in
      let less = one_removed n kept (keep_pairs (kept_key key gone) (other_key key) xs h) in
      let same = ap length (keep_keep (λ a. not (eqb (key a) n)) (kept_key key gone) (kept_key key (n ∷ gone)) (gone_tests n gone) xs) in
      omega arith

-- ---- how many there can be

-- ascending numbers from one on and below another
ascending_between : (xs : List ℕ) (low n : ℕ) → T (ascending xs) → T (all (λ k. leb low k) xs) → T (all (λ k. ltb k n) xs) → low ≤ n → low + length xs ≤ n
ascending_between [] low n h g l o = omega arith
ascending_between (x ∷ xs) low n h g l o =
    let a = leb→le low x (all_head (λ k. leb low k) x xs g) in
    let b = ltb→lt x n (all_head (λ k. ltb k n) x xs l) in
    let c = ascending_between xs (suc x) n (ascending_tail x xs h) (ascending_above x xs h) (all_tail (λ k. ltb k n) x xs l) b in
    omega arith

-- ascending numbers below n are at most n
pub ascending_short : (xs : List ℕ) (n : ℕ) → T (ascending xs) → T (all (λ k. ltb k n) xs) → length xs ≤ n
ascending_short xs n h l = let k = ascending_between xs 0 n h (all_always (λ k. leb 0 k) (λ k. yes_leb {b = k} zero-le) xs) l zero-le in omega arith
