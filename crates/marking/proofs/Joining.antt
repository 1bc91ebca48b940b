-- One hold and the earlier ones of its session: one of them that it may share its TEID with speaks for all of them.
-- Assumes nothing.
use Rattle.std.proofs.Common.{◌≡◌, ℕ, Bool, true, false, not, ◌&&◌, ◌||◌, T, eqb, List, [], ◌∷◌, ◌++◌, map, sym, refl, ap, ◌∙◌, subst, eqb→eq, T_not}
use mathlib.Core.Bool.{or_assoc}
use mir.Facts.{yes_eqb}
use Rattle.octets.specs.Choice.{all_of, same_bool}
use Rattle.octets.specs.Lists.{member, any, all, all_pairs}
use Rattle.octets.proofs.Tests.{both, and_right, all_head, all_tail, all_cons}
use Rattle.octets.proofs.Ordered.{pairs_head, pairs_tail}
use Rattle.rules.specs.Model.{Holding, teid_of}
use Rattle.rules.specs.Sound.{share_tests, agree}
use Rattle.laws.proofs.KeptRules.{shares, share_tests_lem}
use Rattle.marking.specs.Walk.{on_same, shared_with, joins}
use Rattle.octets.proofs.Bools.{not_or}

abbrev Share : Holding → Holding → Type 0
Share h k = T (all_of (share_tests h k))

-- ---- two holds

no_share : (h k : Holding) → T (not (eqb h.teid k.teid)) → T (agree h k)
unfolding agree
no_share h k g = one (eqb h.teid k.teid) (all_of (share_tests h k)) g
  where
    one : (a b : Bool) → T (not a) → T (not a || b)
    one true b x = absurd x
    one false b x = tt

share_agree : (h k : Holding) → Share h k → T (agree h k)
unfolding agree
share_agree h k g = one (eqb h.teid k.teid) (all_of (share_tests h k)) g
  where
    one : (a b : Bool) → T b → T (not a || b)
    one true b x = x
    one false b x = tt

agree_share : (h k : Holding) → T (agree h k) → h.teid ≡ k.teid → Share h k
unfolding agree
agree_share h k g e = one (eqb h.teid k.teid) (all_of (share_tests h k)) (yes_eqb e) g
  where
    one : (a b : Bool) → T a → T (not a || b) → T b
    one true b x y = y
    one false b x y = absurd x

-- either the TEIDs differ, or they are one
by_teid : (h k : Holding) → (h.teid ≡ k.teid → Share h k) → T (agree h k)
by_teid h k f = one (eqb h.teid k.teid) refl
  where
    one : (b : Bool) → eqb h.teid k.teid ≡ b → T (agree h k)
    one true e = share_agree h k (f (eqb→eq h.teid k.teid (subst T (sym e) tt)))
    one false e = no_share h k (subst (λ (c : Bool). T (not c)) (sym e) tt)

same_third : (a b c : Bool) → T (same_bool a b) → T (same_bool a c) → T (same_bool b c)
same_third true true c g h = h
same_third true false c g h = absurd g
same_third false true c g h = absurd g
same_third false false c g h = h

eqb_third : (a b c : ℕ) → T (eqb a b) → T (eqb a c) → T (eqb b c)
eqb_third a b c g h = yes_eqb (sym (eqb→eq a b g) ∙ eqb→eq a c h)

-- two that share with a third share with each other
share_third : (x k h : Holding) → Share x k → Share x h → Share k h
share_third x k h f g =
    let a = shares x k f in
    let b = shares x h g in
    share_tests_lem (record {
      first = a.second;
      second = b.second;
      v4 = same_third x.v4 k.v4 h.v4 a.v4 b.v4;
      v6 = same_third x.v6 k.v6 h.v6 a.v6 b.v6;
      source = eqb_third x.source k.source h.source a.source b.source;
    })

-- one that shares with another shares with what that shares with
share_on : (x k h : Holding) → Share x k → Share k h → Share x h
share_on x k h f g =
    let a = shares x k f in
    let b = shares k h g in
    share_tests_lem (record {
      first = a.first;
      second = b.second;
      v4 = same_third k.v4 x.v4 h.v4 (same_turn x.v4 k.v4 a.v4) b.v4;
      v6 = same_third k.v6 x.v6 h.v6 (same_turn x.v6 k.v6 a.v6) b.v6;
      source = yes_eqb (eqb→eq x.source k.source a.source ∙ eqb→eq k.source h.source b.source);
    })
  where
    same_turn : (a b : Bool) → T (same_bool a b) → T (same_bool b a)
    same_turn true true g = tt
    same_turn true false g = absurd g
    same_turn false true g = absurd g
    same_turn false false g = tt

share_left : (h k : Holding) → Share h k → T h.shared
share_left h k g = (shares h k g).first

-- ---- a hold and the earlier ones

module _ (h : Holding) where
  pub joins_nil : joins [] h ≡ false
  unfolding joins any
  joins_nil = refl

  pub joins_cons : (x : Holding) (xs : List Holding) → joins (x ∷ xs) h ≡ ((on_same h x && shared_with h x) || joins xs h)
  unfolding joins any
  joins_cons x xs = refl

  pub joins_append : (xs ys : List Holding) → joins (xs ++ ys) h ≡ (joins xs h || joins ys h)
  unfolding joins any
  joins_append [] ys = refl
  joins_append (x ∷ xs) ys = ap (λ (b : Bool). (on_same h x && shared_with h x) || b) (joins_append xs ys) ∙ sym (or_assoc (on_same h x && shared_with h x) (joins xs h) (joins ys h))

  on_same_lem : (x : Holding) → T (on_same h x) → x.teid ≡ h.teid
  unfolding on_same
  on_same_lem x g = eqb→eq x.teid h.teid (and_right x.shared (eqb x.teid h.teid) g)

  same_on : (x : Holding) → T x.shared → x.teid ≡ h.teid → T (on_same h x)
  unfolding on_same
  same_on x g e = both x.shared (eqb x.teid h.teid) g (yes_eqb e)

  -- it is the first of them, or one of the others
  by_first {ℓ} : {X : Type ℓ} (x : Holding) (xs : List Holding) → T (joins (x ∷ xs) h) → (T (on_same h x) → Share x h → X) → (T (joins xs h) → X) → X
  unfolding shared_with
  by_first {X = X} x xs g f k = one (on_same h x) (shared_with h x) (subst T (joins_cons x xs) g) f k
    where
      one : (b c : Bool) → T ((b && c) || joins xs h) → (T b → T c → X) → (T (joins xs h) → X) → X
      one true true g' f' k' = f' tt tt
      one true false g' f' k' = k' g'
      one false c g' f' k' = k' g'

  -- one that agrees with all of them, and is on the same TEID, may share it
  shares_on : (x : Holding) (xs : List Holding) → T (joins xs h) → T (all (agree x) xs) → x.teid ≡ h.teid → Share x h
  shares_on x [] g a e = absurd (subst T joins_nil g)
  shares_on x (y ∷ ys) g a e =
      by_first y ys g
      (λ o s. share_on x y h (agree_share x y (all_head (agree x) y ys a) (e ∙ sym (on_same_lem y o))) s)
      (λ k. shares_on x ys k (all_tail (agree x) y ys a) e)

  with_first : (x : Holding) (xs : List Holding) → T (all (agree x) xs) → Share x h → x.teid ≡ h.teid → T (all (λ k. agree k h) xs)
  with_first x [] a s e = unfold all in tt
  with_first x (k ∷ ks) a s e =
      all_cons (λ y. agree y h) k ks
      (by_teid k h (λ f. share_third x k h (agree_share x k (all_head (agree x) k ks a) (e ∙ sym f)) s))
      (with_first x ks (all_tail (agree x) k ks a) s e)

  -- where it joins, it agrees with all of them
  pub joins_agree : (xs : List Holding) → T (all_pairs agree xs) → T (joins xs h) → T (all (λ k. agree k h) xs)
  joins_agree [] a g = unfold all in tt
  joins_agree (x ∷ xs) a g =
      by_first x xs g
      (λ o s. all_cons (λ k. agree k h) x xs (share_agree x h s) (with_first x xs (pairs_head agree x xs a) s (on_same_lem x o)))
      (λ k. all_cons (λ k. agree k h) x xs (by_teid x h (λ e. shares_on x xs k (pairs_head agree x xs a) e)) (joins_agree xs (pairs_tail agree x xs a) k))

  -- and its TEID is where theirs are
  pub joins_test : (p : ℕ → Bool) (xs : List Holding) → T (joins xs h) → T (all (λ k. p k.teid) xs) → T (p h.teid)
  joins_test p [] g a = absurd (subst T joins_nil g)
  joins_test p (x ∷ xs) g a =
      by_first x xs g
      (λ o s. subst (λ (t : ℕ). T (p t)) (on_same_lem x o) (all_head (λ k. p k.teid) x xs a))
      (λ k. joins_test p xs k (all_tail (λ k. p k.teid) x xs a))

  -- one on a TEID of its own agrees with all of them
  pub alone_agrees : (xs : List Holding) → T (not (member h.teid (map teid_of xs))) → T (all (λ k. agree k h) xs)
  unfolding member
  alone_agrees [] g = unfold all in tt
  alone_agrees (x ∷ xs) g =
      let k = not_or (eqb h.teid x.teid) (member h.teid (map teid_of xs)) g in
      all_cons (λ y. agree y h) x xs (by_teid x h (λ e. absurd (T_not (eqb h.teid x.teid) k.0 (yes_eqb (sym e))))) (alone_agrees xs k.1)

  -- one that agrees with all of them, on a TEID that one of them is on, joins
  pub agree_joins : (xs : List Holding) → T (member h.teid (map teid_of xs)) → T (all (λ k. agree k h) xs) → T (joins xs h)
  unfolding member shared_with
  agree_joins [] g a = absurd g
  agree_joins (x ∷ xs) g a = subst T (sym (joins_cons x xs)) (one (eqb h.teid x.teid) refl g (λ m. agree_joins xs m (all_tail (λ k. agree k h) x xs a)))
    where
      share : x.teid ≡ h.teid → Share x h
      share e = agree_share x h (all_head (λ k. agree k h) x xs a) e

      left : (b c : Bool) → T b → T (b || c)
      left true c t = tt
      left false c t = absurd t

      right : (b c : Bool) → T c → T (b || c)
      right true c t = tt
      right false c t = t

      one : (b : Bool) → eqb h.teid x.teid ≡ b → T (b || member h.teid (map teid_of xs)) → (T (member h.teid (map teid_of xs)) → T (joins xs h)) → T ((on_same h x && shared_with h x) || joins xs h)
      one true e m ih =
          let same : x.teid ≡ h.teid = sym (eqb→eq h.teid x.teid (subst T (sym e) tt)) in
          left (on_same h x && shared_with h x) (joins xs h) (both (on_same h x) (shared_with h x) (same_on x (share_left x h (share same)) same) (share same))
      one false e m ih = right (on_same h x && shared_with h x) (joins xs h) (ih m)
