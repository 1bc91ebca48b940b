-- Tests on every element of a list, and on every two, of use to every crate: one more at the front, one more at the end, lists joined, lists mapped.
-- Assumes nothing.
use mathlib.Core.Path.{◌≡◌, refl, ap}
use mathlib.Core.Bool.{Bool, ◌&&◌}
use mathlib.Core.List.{List, [], ◌∷◌, ◌++◌, map}
use lib.Dec.{T}
use Rattle.octets.specs.Lists.{all, all_pairs}
use Rattle.octets.proofs.Tests.{all_head, all_tail, all_cons}
use Rattle.octets.proofs.Ordered.{pairs_head, pairs_tail, pairs_cons}

module _ {A : Type 0} where
  pub all_step : (p : A → Bool) (x : A) (xs : List A) → all p (x ∷ xs) ≡ (p x && all p xs)
  unfolding all
  all_step p x xs = refl

  pub pairs_step : (r : A → A → Bool) (x : A) (xs : List A) → all_pairs r (x ∷ xs) ≡ (all (r x) xs && all_pairs r xs)
  unfolding all_pairs
  pairs_step r x xs = refl

  pub all_append : (p : A → Bool) (xs ys : List A) → T (all p xs) → T (all p ys) → T (all p (xs ++ ys))
  all_append p [] ys h g = g
  all_append p (x ∷ xs) ys h g = all_cons p x (xs ++ ys) (all_head p x xs h) (all_append p xs ys (all_tail p x xs h) g)

  -- one more at the end
  pub all_last : (p : A → Bool) (xs : List A) (a : A) → T (all p xs) → T (p a) → T (all p (xs ++ a ∷ []))
  all_last p xs a h g = all_append p xs (a ∷ []) h (all_cons p a [] g (unfold all in tt))

  pub pairs_last : (r : A → A → Bool) (xs : List A) (a : A) → T (all_pairs r xs) → T (all (λ x. r x a) xs) → T (all_pairs r (xs ++ a ∷ []))
  pairs_last r [] a h g = pairs_cons r a [] (unfold all in tt) h
  pairs_last r (x ∷ xs) a h g =
      pairs_cons r x (xs ++ a ∷ []) (all_last (r x) xs a (pairs_head r x xs h) (all_head (λ y. r y a) x xs g))
      (pairs_last r xs a (pairs_tail r x xs h) (all_tail (λ y. r y a) x xs g))

  all_middle : (p : A → Bool) (xs : List A) (a : A) (ys : List A) → T (all p (xs ++ a ∷ ys)) → T (p a)
  all_middle p [] a ys h = all_head p a ys h
  all_middle p (x ∷ xs) a ys h = all_middle p xs a ys (all_tail p x (xs ++ a ∷ ys) h)

  -- each before one in the middle is related to it
  pub pairs_middle : (r : A → A → Bool) (xs : List A) (a : A) (ys : List A) → T (all_pairs r (xs ++ a ∷ ys)) → T (all (λ x. r x a) xs)
  pairs_middle r [] a ys h = unfold all in tt
  pairs_middle r (x ∷ xs) a ys h =
      all_cons (λ y. r y a) x xs (all_middle (r x) xs a ys (pairs_head r x (xs ++ a ∷ ys) h)) (pairs_middle r xs a ys (pairs_tail r x (xs ++ a ∷ ys) h))

module _ {A B : Type 0} (f : A → B) where
  pub all_map : (p : B → Bool) (xs : List A) → all p (map f xs) ≡ all (λ x. p (f x)) xs
  unfolding all
  all_map p [] = refl
  all_map p (x ∷ xs) = ap (λ (b : Bool). p (f x) && b) (all_map p xs)

  pub pairs_map : (r : B → B → Bool) (xs : List A) → all_pairs r (map f xs) ≡ all_pairs (λ x y. r (f x) (f y)) xs
  unfolding all_pairs
  pairs_map r [] = refl
  pairs_map r (x ∷ xs) = λ i. all_map (r (f x)) xs i && pairs_map r xs i
