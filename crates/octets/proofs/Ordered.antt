-- Lists in ascending order of a key: putting elements in, in any order.
-- Assumes nothing.
use mathlib.Core.Path.{◌≡◌, refl, sym, ap, ◌∙◌, subst}
use mathlib.Core.Logic.{◌≢◌}
use Prim.Native.Nat.{ℕ, suc, ◌≤◌, ◌<◌, zero-le, suc-le-suc}
use native.Mathlib.Nat.{le_trans, le_of_lt, lt_of_not-le}
use native.Mathlib.Decide.{dec_le}
use native.Mathlib.Omega.{arith}
use mathlib.Core.Bool.{Bool, true, false, not, ◌||◌}
use mathlib.Core.List.{List, [], ◌∷◌, map, Permᴰ}
use lib.ListN.{length}
use lib.Dec.{T, leb, ltb, eqb, ltb→lt, lt→ltb, T_not}
use mir.Facts.{yes_leb, no_leb, yes_eqb}
use Rattle.octets.specs.Choice.{pick}
use Rattle.octets.specs.Lists.{keep, any, all, all_pairs, ascending, insert_by, insert_all}
use Rattle.octets.proofs.Tests.{pick_yes, pick_no, pick_either, both, and_left, and_right, all_head, all_tail, all_cons, no_eqb, ascending_head, ascending_tail}

-- one order or the other
pub orders {ℓ} : {X : Type ℓ} (a b : ℕ) → (a ≤ b → X) → (b < a → X) → X
orders a b f g = elim (dec_le a b) [ yes h ↦ f h | no h ↦ g (lt_of_not-le h) ]

-- ---- tests on every element, and on every two

module _ {A : Type 0} where
  pub all_perm : (p : A → Bool) {xs ys : List A} → Permᴰ xs ys → T (all p xs) → T (all p ys)
  unfolding all
  all_perm p Permᴰ.nil h = tt
  all_perm p (Permᴰ.cons {a = a} {b = b} {l₁ = l₁} {l₂ = l₂} e π) h =
      all_cons p b l₂ (subst (λ (z : A). T (p z)) e (all_head p a l₁ h)) (all_perm p π (all_tail p a l₁ h))
  all_perm p (Permᴰ.swap {a = a} {b = b} {a' = a'} {b' = b'} {l = l} e₁ e₂) h =
      all_cons p a' (b' ∷ l) (subst (λ (z : A). T (p z)) e₂ (all_head p b l (all_tail p a (b ∷ l) h)))
      (all_cons p b' l (subst (λ (z : A). T (p z)) e₁ (all_head p a (b ∷ l) h)) (all_tail p b l (all_tail p a (b ∷ l) h)))
  all_perm p (Permᴰ.trans π₁ π₂) h = all_perm p π₂ (all_perm p π₁ h)

  pub pairs_head : (r : A → A → Bool) (a : A) (xs : List A) → T (all_pairs r (a ∷ xs)) → T (all (r a) xs)
  unfolding all_pairs
  pairs_head r a xs h = and_left (all (r a) xs) (all_pairs r xs) h

  pub pairs_tail : (r : A → A → Bool) (a : A) (xs : List A) → T (all_pairs r (a ∷ xs)) → T (all_pairs r xs)
  unfolding all_pairs
  pairs_tail r a xs h = and_right (all (r a) xs) (all_pairs r xs) h

  pub pairs_cons : (r : A → A → Bool) (a : A) (xs : List A) → T (all (r a) xs) → T (all_pairs r xs) → T (all_pairs r (a ∷ xs))
  unfolding all_pairs
  pairs_cons r a xs h g = both (all (r a) xs) (all_pairs r xs) h g

  -- a relation that is symmetric holds of every two in any order
  pub pairs_perm : (r : A → A → Bool) → ((a b : A) → T (r a b) → T (r b a)) → {xs ys : List A} → Permᴰ xs ys → T (all_pairs r xs) → T (all_pairs r ys)
  unfolding all_pairs
  pairs_perm r turn Permᴰ.nil h = tt
  pairs_perm r turn (Permᴰ.cons {a = a} {b = b} {l₁ = l₁} {l₂ = l₂} e π) h =
      pairs_cons r b l₂ (all_perm (r b) π (subst (λ (z : A). T (all (r z) l₁)) e (pairs_head r a l₁ h))) (pairs_perm r turn π (pairs_tail r a l₁ h))
  pairs_perm r turn (Permᴰ.swap {a = a} {b = b} {a' = a'} {b' = b'} {l = l} e₁ e₂) h =
      let ha = pairs_head r a (b ∷ l) h in
      let ht = pairs_tail r a (b ∷ l) h in
      let ab : T (r a b) = all_head (r a) b l ha in
      let ba : T (r a' b') = subst (λ (z : A). T (r a' z)) e₁ (subst (λ (z : A). T (r z a)) e₂ (turn a b ab)) in
      pairs_cons r a' (b' ∷ l) (all_cons (r a') b' l ba (subst (λ (z : A). T (all (r z) l)) e₂ (pairs_head r b l ht)))
      (pairs_cons r b' l (subst (λ (z : A). T (all (r z) l)) e₁ (all_tail (r a) b l ha)) (pairs_tail r b l ht))
  pairs_perm r turn (Permᴰ.trans π₁ π₂) h = pairs_perm r turn π₂ (pairs_perm r turn π₁ h)

  pub perm_length : {xs ys : List A} → Permᴰ xs ys → length xs ≡ length ys
  perm_length Permᴰ.nil = refl
  perm_length (Permᴰ.cons e π) = ap suc (perm_length π)
  perm_length (Permᴰ.swap e₁ e₂) = refl
  perm_length (Permᴰ.trans π₁ π₂) = perm_length π₁ ∙ perm_length π₂

-- ---- putting in

pub ne_of : (m n : ℕ) → T (not (eqb m n)) → m ≢ n
ne_of m n h e = T_not (eqb m n) h (yes_eqb e)

module _ {A : Type 0} (key : A → ℕ) where
  ins_front : (a x : A) (xs : List A) → key a ≤ key x → insert_by key a (x ∷ xs) ≡ a ∷ x ∷ xs
  unfolding insert_by
  ins_front a x xs h = pick_yes (leb (key a) (key x)) _ _ (yes_leb h)

  ins_later : (a x : A) (xs : List A) → key x < key a → insert_by key a (x ∷ xs) ≡ x ∷ insert_by key a xs
  unfolding insert_by
  ins_later a x xs h = pick_no (leb (key a) (key x)) _ _ (no_leb h)

  ins_nil : (a : A) → insert_by key a [] ≡ a ∷ []
  unfolding insert_by
  ins_nil a = refl

  -- two elements, the lower first
  two : (a b : A) (xs : List A) → key a < key b → insert_by key b xs ≡ b ∷ xs → insert_by key a xs ≡ a ∷ xs
      → insert_by key a (insert_by key b xs) ≡ insert_by key b (insert_by key a xs)
  two a b xs h eb ea =
      ap (insert_by key a) eb ∙ ins_front a b xs (le_of_lt h) ∙ ap (λ (ys : List A). a ∷ ys) (sym eb)
      ∙ sym (ap (insert_by key b) ea ∙ ins_later b a xs h)

  insert_comm : (a b : A) → key a ≢ key b → (xs : List A) → insert_by key a (insert_by key b xs) ≡ insert_by key b (insert_by key a xs)
  insert_comm a b ne [] =
      orders (key a) (key b)
      (λ h. two a b [] (omega arith) (ins_nil b) (ins_nil a))
      (λ h. sym (two b a [] h (ins_nil a) (ins_nil b)))
  insert_comm a b ne (x ∷ xs) =
      orders (key a) (key x)
      (λ ha. orders (key b) (key x)
      (λ hb. orders (key a) (key b)
      (λ h. two a b (x ∷ xs) (omega arith) (ins_front b x xs hb) (ins_front a x xs ha))
      (λ h. sym (two b a (x ∷ xs) h (ins_front a x xs ha) (ins_front b x xs hb))))
      (λ hb. ap (insert_by key a) (ins_later b x xs hb) ∙ ins_front a x (insert_by key b xs) ha
      ∙ ap (λ (ys : List A). a ∷ ys) (sym (ins_later b x xs hb))
      ∙ sym (ap (insert_by key b) (ins_front a x xs ha) ∙ ins_later b a (x ∷ xs) (omega arith))))
      (λ ha. orders (key b) (key x)
      (λ hb. ap (insert_by key a) (ins_front b x xs hb) ∙ ins_later a b (x ∷ xs) (omega arith)
      ∙ ap (λ (ys : List A). b ∷ ys) (ins_later a x xs ha)
      ∙ sym (ap (insert_by key b) (ins_later a x xs ha) ∙ ins_front b x (insert_by key a xs) hb))
      (λ hb. ap (insert_by key a) (ins_later b x xs hb) ∙ ins_later a x (insert_by key b xs) ha
      ∙ ap (λ (ys : List A). x ∷ ys) (insert_comm a b ne xs)
      ∙ sym (ap (insert_by key b) (ins_later a x xs ha) ∙ ins_later b x (insert_by key a xs) hb)))

  abbrev pub other_key : A → A → Bool
  other_key a b = not (eqb (key a) (key b))

  other_turn : (a b : A) → T (other_key a b) → T (other_key b a)
  other_turn a b h = no_eqb (key b) (key a) (λ e. ne_of (key a) (key b) h (sym e))

  -- elements with different keys, put in in any order, make one list
  pub insert_all_perm : {xs ys : List A} → Permᴰ xs ys → T (all_pairs other_key xs) → (acc : List A) → insert_all key xs acc ≡ insert_all key ys acc
  unfolding insert_all
  insert_all_perm Permᴰ.nil h acc = refl
  insert_all_perm (Permᴰ.cons {a = a} {b = b} {l₁ = l₁} {l₂ = l₂} e π) h acc =
      insert_all_perm π (pairs_tail other_key a l₁ h) (insert_by key a acc) ∙ ap (λ (z : A). insert_all key l₂ (insert_by key z acc)) e
  insert_all_perm (Permᴰ.swap {a = a} {b = b} {a' = a'} {b' = b'} {l = l} e₁ e₂) h acc =
      ap (insert_all key l) (insert_comm b a (λ e. ne_of (key a) (key b) (all_head (other_key a) b l (pairs_head other_key a (b ∷ l) h)) (sym e)) acc)
      ∙ (λ i. insert_all key l (insert_by key (e₁ i) (insert_by key (e₂ i) acc)))
  insert_all_perm (Permᴰ.trans π₁ π₂) h acc = insert_all_perm π₁ h acc ∙ insert_all_perm π₂ (pairs_perm other_key other_turn π₁ h) acc

  -- ---- what putting in keeps

  pub insert_length : (a : A) (xs : List A) → length (insert_by key a xs) ≡ suc (length xs)
  insert_length a [] = ap length (ins_nil a)
  insert_length a (x ∷ xs) =
      orders (key a) (key x)
      (λ h. ap length (ins_front a x xs h))
      (λ h. ap length (ins_later a x xs h) ∙ ap suc (insert_length a xs))

  pub insert_all_lem : (p : A → Bool) (a : A) (xs : List A) → T (p a) → T (all p xs) → T (all p (insert_by key a xs))
  insert_all_lem p a [] h g = subst (λ (l : List A). T (all p l)) (sym (ins_nil a)) (all_cons p a [] h g)
  insert_all_lem p a (x ∷ xs) h g =
      orders (key a) (key x)
      (λ o. subst (λ (l : List A). T (all p l)) (sym (ins_front a x xs o)) (all_cons p a (x ∷ xs) h g))
      (λ o. subst (λ (l : List A). T (all p l)) (sym (ins_later a x xs o)) (all_cons p x (insert_by key a xs) (all_head p x xs g) (insert_all_lem p a xs h (all_tail p x xs g))))

  pub insert_pairs : (r : A → A → Bool) (a : A) (xs : List A) → T (all (r a) xs) → T (all (λ y. r y a) xs) → T (all_pairs r xs) → T (all_pairs r (insert_by key a xs))
  insert_pairs r a [] h g k = subst (λ (l : List A). T (all_pairs r l)) (sym (ins_nil a)) (pairs_cons r a [] h k)
  insert_pairs r a (x ∷ xs) h g k =
      orders (key a) (key x)
      (λ o. subst (λ (l : List A). T (all_pairs r l)) (sym (ins_front a x xs o)) (pairs_cons r a (x ∷ xs) h k))
      (λ o. subst (λ (l : List A). T (all_pairs r l)) (sym (ins_later a x xs o))
      (pairs_cons r x (insert_by key a xs) (insert_all_lem (r x) a xs (all_head (λ y. r y a) x xs g) (pairs_head r x xs k))
      (insert_pairs r a xs (all_tail (r a) x xs h) (all_tail (λ y. r y a) x xs g) (pairs_tail r x xs k))))

  -- ascending: every key is below the next, so below all that follow
  abbrev pub below_key : A → A → Bool
  below_key a b = ltb (key a) (key b)

  lower : (u v : A) → key u < key v → (zs : List A) → T (all (below_key v) zs) → T (all (below_key u) zs)
  unfolding all
  lower u v l [] g = tt
  lower u v l (z ∷ zs) g =
      let o = ltb→lt (key v) (key z) (all_head (below_key v) z zs g) in
      all_cons (below_key u) z zs (lt→ltb (key u) (key z) (omega arith)) (lower u v l zs (all_tail (below_key v) z zs g))

  pub up_pairs : (xs : List A) → T (ascending (map key xs)) → T (all_pairs below_key xs)
  unfolding all_pairs all
  up_pairs [] h = tt
  up_pairs (x ∷ []) h = tt
  up_pairs (x ∷ y ∷ xs) h =
      let lt = ascending_head (key x) (key y) (map key xs) h in
      let k = up_pairs (y ∷ xs) (ascending_tail (key x) (key y ∷ map key xs) h) in
      pairs_cons below_key x (y ∷ xs) (all_cons (below_key x) y xs (lt→ltb (key x) (key y) lt) (lower x y lt xs (pairs_head below_key y xs k))) k

  pub pairs_up : (xs : List A) → T (all_pairs below_key xs) → T (ascending (map key xs))
  unfolding ascending
  pairs_up [] h = tt
  pairs_up (x ∷ []) h = tt
  pairs_up (x ∷ y ∷ xs) h =
      both (ltb (key x) (key y)) (ascending (map key (y ∷ xs))) (all_head (below_key x) y xs (pairs_head below_key x (y ∷ xs) h)) (pairs_up (y ∷ xs) (pairs_tail below_key x (y ∷ xs) h))

  insert_below : (a : A) (xs : List A) → T (all (other_key a) xs) → T (all_pairs below_key xs) → T (all_pairs below_key (insert_by key a xs))
  unfolding all
  insert_below a [] h k = subst (λ (l : List A). T (all_pairs below_key l)) (sym (ins_nil a)) (pairs_cons below_key a [] h k)
  insert_below a (x ∷ xs) h k =
      let ne = ne_of (key a) (key x) (all_head (other_key a) x xs h) in
      orders (key a) (key x)
      (λ o. subst (λ (l : List A). T (all_pairs below_key l)) (sym (ins_front a x xs o))
      (pairs_cons below_key a (x ∷ xs) (all_cons (below_key a) x xs (lt→ltb (key a) (key x) (omega arith)) (lower a x (omega arith) xs (pairs_head below_key x xs k))) k))
      (λ o. subst (λ (l : List A). T (all_pairs below_key l)) (sym (ins_later a x xs o))
      (pairs_cons below_key x (insert_by key a xs) (insert_all_lem (below_key x) a xs (lt→ltb (key x) (key a) o) (pairs_head below_key x xs k))
      (insert_below a xs (all_tail (other_key a) x xs h) (pairs_tail below_key x xs k))))

  pub insert_ascending : (a : A) (xs : List A) → T (all (other_key a) xs) → T (ascending (map key xs)) → T (ascending (map key (insert_by key a xs)))
  insert_ascending a xs h up = pairs_up (insert_by key a xs) (insert_below a xs h (up_pairs xs up))

  -- ascending keys differ
  pub ascending_other : (xs : List A) → T (ascending (map key xs)) → T (all_pairs other_key xs)
  ascending_other xs h = weaken xs (up_pairs xs h)
    where
      one : (x : A) (zs : List A) → T (all (below_key x) zs) → T (all (other_key x) zs)
      one x [] g = unfold all in tt
      one x (z ∷ zs) g =
          let o = ltb→lt (key x) (key z) (all_head (below_key x) z zs g) in
          all_cons (other_key x) z zs (no_eqb (key x) (key z) (omega arith)) (one x zs (all_tail (below_key x) z zs g))

      weaken : (zs : List A) → T (all_pairs below_key zs) → T (all_pairs other_key zs)
      weaken [] g = unfold all_pairs in tt
      weaken (z ∷ zs) g = pairs_cons other_key z zs (one z zs (pairs_head below_key z zs g)) (weaken zs (pairs_tail below_key z zs g))

-- ---- what taking out keeps

module _ {A : Type 0} (q : A → Bool) where
  pub keep_all : (p : A → Bool) (xs : List A) → T (all p xs) → T (all p (keep q xs))
  unfolding keep all
  keep_all p [] h = tt
  keep_all p (x ∷ xs) h =
      let k = keep_all p xs (all_tail p x xs h) in
      pick_either (λ (l : List A). T (all p l)) (q x) (x ∷ keep q xs) (keep q xs) (all_cons p x (keep q xs) (all_head p x xs h) k) k

  pub keep_pairs : (r : A → A → Bool) (xs : List A) → T (all_pairs r xs) → T (all_pairs r (keep q xs))
  unfolding keep all_pairs
  keep_pairs r [] h = tt
  keep_pairs r (x ∷ xs) h =
      let k = keep_pairs r xs (pairs_tail r x xs h) in
      pick_either (λ (l : List A). T (all_pairs r l)) (q x) (x ∷ keep q xs) (keep q xs) (pairs_cons r x (keep q xs) (keep_all (r x) xs (pairs_head r x xs h)) k) k

  pub keep_length : (xs : List A) → length (keep q xs) ≤ length xs
  unfolding keep
  keep_length [] = zero-le
  keep_length (x ∷ xs) =
      let h = keep_length xs in
      pick_either (λ (l : List A). length l ≤ suc (length xs)) (q x) (x ∷ keep q xs) (keep q xs) (suc-le-suc h) (le_trans h (omega arith))

  -- what is kept passes the test
  pub keep_passes : (xs : List A) → T (all q (keep q xs))
  unfolding keep all
  keep_passes [] = tt
  keep_passes (x ∷ xs) = one (q x) refl (keep_passes xs)
    where
      one : (b : Bool) → q x ≡ b → T (all q (keep q xs)) → T (all q (pick b (x ∷ keep q xs) (keep q xs)))
      one true e k = all_cons q x (keep q xs) (subst T (sym e) tt) k
      one false e k = k

  -- one that fails the test is taken out
  pub keep_less : (xs : List A) → T (any (λ x. not (q x)) xs) → length (keep q xs) < length xs
  unfolding keep any
  keep_less [] h = absurd h
  keep_less (x ∷ xs) h = one (q x) h (λ g. keep_less xs g)
    where
      one : (b : Bool) → T (not b || any (λ y. not (q y)) xs) → (T (any (λ y. not (q y)) xs) → length (keep q xs) < length xs) → length (pick b (x ∷ keep q xs) (keep q xs)) < suc (length xs)
      one true g f = suc-le-suc (f g)
      one false g f = suc-le-suc (keep_length xs)

  pub keep_ascending : (key : A → ℕ) (xs : List A) → T (ascending (map key xs)) → T (ascending (map key (keep q xs)))
  keep_ascending key xs h = pairs_up key (keep q xs) (keep_pairs (below_key key) xs (up_pairs key xs h))
