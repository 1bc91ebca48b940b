-- Laws of tests on lists, each once for any list, test, relation and key.
-- Assumes nothing.
use mathlib.Core.Path.{◌≡◌, refl, sym, ap, ap₂, ◌∙◌, subst}
use mathlib.Core.Bool.{Bool, true, false, not, ◌&&◌, ◌||◌}
use mathlib.Core.Option.{Option, none, some}
use mathlib.Core.List.{List, [], ◌∷◌, ◌++◌, map}
use lib.Dec.{T}
use Rattle.octets.specs.Choice.{pick, is_some, map_option, bind_option, cons_option}
use Rattle.octets.specs.Lists.{all, any, all_pairs, keep, find_by, collect}
use Rattle.octets.proofs.Tests.{all_head, all_tail, all_cons}
use Rattle.octets.proofs.Ordered.{pairs_head, pairs_tail, pairs_cons, keep_all}
use Rattle.octets.proofs.Bools.{not_or}

-- ---- tests

-- one of two, with what the test says
pub pick_cases {ℓ} : {X : Type ℓ} (P : X → Type 0) (b : Bool) (x y : X) → (T b → P x) → (T (not b) → P y) → P (pick b x y)
pick_cases P true x y f g = f tt
pick_cases P false x y f g = g tt

-- a test that does not fail holds
pub not_not : (b : Bool) → T (not (not b)) → T b
not_not true h = tt
not_not false h = h

-- a disjunction whose left side fails holds on the right
pub or_right : (a b : Bool) → T (a || b) → T (not a) → T b
or_right true b h g = absurd g
or_right false b h g = h

-- a disjunction holds by its right side
pub or_by_right : (a b : Bool) → T b → T (a || b)
or_by_right true b h = tt
or_by_right false b h = h

-- a disjunction holds by its left side
pub or_by_left : (a b : Bool) → T a → T (a || b)
or_by_left true b h = tt
or_by_left false b h = absurd h

-- either the test or its negation
pub by_test {ℓ} : {X : Type ℓ} (b : Bool) → (T b → X) → (T (not b) → X) → X
by_test true f g = f tt
by_test false f g = g tt

-- ---- facts about every element

-- a fact about every element of a list
abbrev pub Every : {A : Type 0} → (A → Type 0) → List A → Type 0
Every P [] = Unit {0}
Every P (x ∷ xs) = P x × Every P xs

-- a fact about the value, if there is one
abbrev pub OnSome : {A : Type 0} → (A → Type 0) → Option A → Type 0
OnSome P none = Unit {0}
OnSome P (some a) = P a

-- a test of the value, if there is one
abbrev pub on_some : {A : Type 0} → (A → Bool) → Option A → Bool
on_some p none = true
on_some p (some a) = p a

-- a relation of two values, if both are there
abbrev pub on_both : {A : Type 0} → (A → A → Bool) → Option A → Option A → Bool
on_both r none b = true
on_both r (some a) none = true
on_both r (some a) (some b) = r a b

module _ {A : Type 0} where
  -- a weaker fact
  pub every_imply : (P Q : A → Type 0) → ((a : A) → P a → Q a) → (xs : List A) → Every P xs → Every Q xs
  every_imply P Q f [] h = tt
  every_imply P Q f (x ∷ xs) h = (f x h.0, every_imply P Q f xs h.1)

  -- two facts
  pub every_both : (P Q : A → Type 0) (xs : List A) → Every P xs → Every Q xs → Every (λ a. P a × Q a) xs
  every_both P Q [] h g = tt
  every_both P Q (x ∷ xs) h g = ((h.0, g.0), every_both P Q xs h.1 g.1)

  -- a test as facts
  pub all_every : (p : A → Bool) (xs : List A) → T (all p xs) → Every (λ a. T (p a)) xs
  all_every p [] h = tt
  all_every p (x ∷ xs) h = (all_head p x xs h, all_every p xs (all_tail p x xs h))

  -- a weaker test
  pub all_imply : (p q : A → Bool) → ((a : A) → T (p a) → T (q a)) → (xs : List A) → T (all p xs) → T (all q xs)
  unfolding all
  all_imply p q f [] h = tt
  all_imply p q f (x ∷ xs) h = all_cons q x xs (f x (all_head p x xs h)) (all_imply p q f xs (all_tail p x xs h))

  -- a test that follows from two
  pub all_join : (p q r : A → Bool) → ((a : A) → T (p a) → T (q a) → T (r a)) → (xs : List A) → T (all p xs) → T (all q xs) → T (all r xs)
  unfolding all
  all_join p q r f [] h g = tt
  all_join p q r f (x ∷ xs) h g = all_cons r x xs (f x (all_head p x xs h) (all_head q x xs g)) (all_join p q r f xs (all_tail p x xs h) (all_tail q x xs g))

  -- a test that holds of anything
  pub all_always : (p : A → Bool) → ((a : A) → T (p a)) → (xs : List A) → T (all p xs)
  unfolding all
  all_always p f [] = tt
  all_always p f (x ∷ xs) = all_cons p x xs (f x) (all_always p f xs)

  -- facts of two lists one after the other
  pub every_append : (P : A → Type 0) (xs ys : List A) → Every P xs → Every P ys → Every P (xs ++ ys)
  every_append P [] ys h g = g
  every_append P (x ∷ xs) ys h g = (h.0, every_append P xs ys h.1 g)

  -- a test of two lists one after the other
  pub all_append : (p : A → Bool) (xs ys : List A) → T (all p xs) → T (all p ys) → T (all p (xs ++ ys))
  all_append p [] ys h g = g
  all_append p (x ∷ xs) ys h g = all_cons p x (xs ++ ys) (all_head p x xs h) (all_append p xs ys (all_tail p x xs h) g)

  -- a test of both lists is one of the first
  pub all_front : (p : A → Bool) (xs ys : List A) → T (all p (xs ++ ys)) → T (all p xs)
  unfolding all
  all_front p [] ys h = tt
  all_front p (x ∷ xs) ys h = all_cons p x xs (all_head p x (xs ++ ys) h) (all_front p xs ys (all_tail p x (xs ++ ys) h))

  -- and of the second
  pub all_behind : (p : A → Bool) (xs ys : List A) → T (all p (xs ++ ys)) → T (all p ys)
  all_behind p [] ys h = h
  all_behind p (x ∷ xs) ys h = all_behind p xs ys (all_tail p x (xs ++ ys) h)

  -- none passes: each fails
  pub none_any : (p : A → Bool) (xs : List A) → T (not (any p xs)) → T (all (λ a. not (p a)) xs)
  unfolding any all
  none_any p [] h = tt
  none_any p (x ∷ xs) h = let k = not_or (p x) (any p xs) h in all_cons (λ a. not (p a)) x xs k.0 (none_any p xs k.1)

  -- ---- every two

  -- a test that follows from another, where a fact is known of every element
  pub all_know : (P : A → Type 0) (p q : A → Bool) → ((a : A) → P a → T (p a) → T (q a)) → (xs : List A) → Every P xs → T (all p xs) → T (all q xs)
  unfolding all
  all_know P p q f [] h g = tt
  all_know P p q f (x ∷ xs) h g = all_cons q x xs (f x h.0 (all_head p x xs g)) (all_know P p q f xs h.1 (all_tail p x xs g))

  -- a relation that follows from another, where a fact is known of every element
  pub pairs_know : (P : A → Type 0) (r u : A → A → Bool) → ((a b : A) → P a → P b → T (r a b) → T (u a b)) → (xs : List A) → Every P xs → T (all_pairs r xs) → T (all_pairs u xs)
  unfolding all_pairs
  pairs_know P r u f [] h g = tt
  pairs_know P r u f (x ∷ xs) h g =
      pairs_cons u x xs (all_know P (r x) (u x) (λ b kb hr. f x b h.0 kb hr) xs h.1 (pairs_head r x xs g)) (pairs_know P r u f xs h.1 (pairs_tail r x xs g))

  -- a weaker relation
  pub pairs_imply : (r u : A → A → Bool) → ((a b : A) → T (r a b) → T (u a b)) → (xs : List A) → T (all_pairs r xs) → T (all_pairs u xs)
  unfolding all_pairs
  pairs_imply r u f [] g = tt
  pairs_imply r u f (x ∷ xs) g = pairs_cons u x xs (all_imply (r x) (u x) (f x) xs (pairs_head r x xs g)) (pairs_imply r u f xs (pairs_tail r x xs g))

  -- a relation that holds of any two
  pub pairs_always : (r : A → A → Bool) → ((a b : A) → T (r a b)) → (xs : List A) → T (all_pairs r xs)
  unfolding all_pairs
  pairs_always r f [] = tt
  pairs_always r f (x ∷ xs) = pairs_cons r x xs (all_always (r x) (f x) xs) (pairs_always r f xs)

  -- a relation that follows from two
  pub pairs_join : (r u v : A → A → Bool) → ((a b : A) → T (r a b) → T (u a b) → T (v a b)) → (xs : List A) → T (all_pairs r xs) → T (all_pairs u xs) → T (all_pairs v xs)
  unfolding all_pairs
  pairs_join r u v f [] h g = tt
  pairs_join r u v f (x ∷ xs) h g =
      pairs_cons v x xs (all_join (r x) (u x) (v x) (f x) xs (pairs_head r x xs h) (pairs_head u x xs g)) (pairs_join r u v f xs (pairs_tail r x xs h) (pairs_tail u x xs g))

  -- two lists one after the other
  pub pairs_append : (r : A → A → Bool) (xs ys : List A) → T (all_pairs r xs) → T (all_pairs r ys) → T (all (λ x. all (r x) ys) xs) → T (all_pairs r (xs ++ ys))
  pairs_append r [] ys h g k = g
  pairs_append r (x ∷ xs) ys h g k =
      pairs_cons r x (xs ++ ys) (all_append (r x) xs ys (pairs_head r x xs h) (all_head (λ z. all (r z) ys) x xs k))
      (pairs_append r xs ys (pairs_tail r x xs h) g (all_tail (λ z. all (r z) ys) x xs k))

  -- a relation of two lists one after the other is one of the first
  pub pairs_front : (r : A → A → Bool) (xs ys : List A) → T (all_pairs r (xs ++ ys)) → T (all_pairs r xs)
  unfolding all_pairs
  pairs_front r [] ys h = tt
  pairs_front r (x ∷ xs) ys h = pairs_cons r x xs (all_front (r x) xs ys (pairs_head r x (xs ++ ys) h)) (pairs_front r xs ys (pairs_tail r x (xs ++ ys) h))

  -- and of the second
  pub pairs_behind : (r : A → A → Bool) (xs ys : List A) → T (all_pairs r (xs ++ ys)) → T (all_pairs r ys)
  pairs_behind r [] ys h = h
  pairs_behind r (x ∷ xs) ys h = pairs_behind r xs ys (pairs_tail r x (xs ++ ys) h)

  -- and of each of the first with each of the second
  pub pairs_across : (r : A → A → Bool) (xs ys : List A) → T (all_pairs r (xs ++ ys)) → T (all (λ x. all (r x) ys) xs)
  unfolding all
  pairs_across r [] ys h = tt
  pairs_across r (x ∷ xs) ys h = all_cons (λ z. all (r z) ys) x xs (all_behind (r x) xs ys (pairs_head r x (xs ++ ys) h)) (pairs_across r xs ys (pairs_tail r x (xs ++ ys) h))

  -- ---- the first that passes

  -- the one that is found passes the test
  pub found_passes : (p : A → Bool) (xs : List A) (a : A) → find_by p xs ≡ some a → T (p a)
  unfolding find_by
  found_passes p [] a e = absurd (subst (λ (o : Option A). T (not (is_some o))) e tt)
  found_passes p (x ∷ xs) a e = one (p x) refl (λ g. found_passes p xs a g) e
    where
      one : (b : Bool) → p x ≡ b → (find_by p xs ≡ some a → T (p a)) → pick b (some x) (find_by p xs) ≡ some a → T (p a)
      one true c f g = subst (λ (o : Option A). T (on_some p o)) g (subst T (sym c) tt)
      one false c f g = f g

  -- where none is found, each fails
  pub none_found : (p : A → Bool) (xs : List A) → T (not (is_some (find_by p xs))) → T (all (λ a. not (p a)) xs)
  unfolding find_by all
  none_found p [] h = tt
  none_found p (x ∷ xs) h = one (p x) (λ g. none_found p xs g) h
    where
      one : (b : Bool) → (T (not (is_some (find_by p xs))) → T (all (λ a. not (p a)) xs)) → T (not (is_some (pick b (some x) (find_by p xs)))) → T (not b && all (λ a. not (p a)) xs)
      one true f g = absurd g
      one false f g = f g

  -- what holds of every element holds of the one that is found
  pub found_knows : (P : A → Type 0) (p : A → Bool) (xs : List A) (a : A) → Every P xs → find_by p xs ≡ some a → P a
  unfolding find_by
  found_knows P p [] a h e = absurd (subst (λ (o : Option A). T (not (is_some o))) e tt)
  found_knows P p (x ∷ xs) a h e = one (p x) (λ g. found_knows P p xs a h.1 g) e
    where
      one : (b : Bool) → (find_by p xs ≡ some a → P a) → pick b (some x) (find_by p xs) ≡ some a → P a
      one true f g = subst (λ (o : Option A). OnSome P o) g h.0
      one false f g = f g

  -- a relation of every two, symmetric, relates the one that is found with every one
  pub found_related : (r : A → A → Bool) → ((a : A) → T (r a a)) → ((a b : A) → T (r a b) → T (r b a)) → (p : A → Bool) (xs : List A) (a : A) → T (all_pairs r xs) → find_by p xs ≡ some a → T (all (r a) xs)
  unfolding find_by
  found_related r own turn p [] a h e = absurd (subst (λ (o : Option A). T (not (is_some o))) e tt)
  found_related r own turn p (x ∷ xs) a h e = one (p x) (λ g. found_related r own turn p xs a (pairs_tail r x xs h) g) e
    where
      one : (b : Bool) → (find_by p xs ≡ some a → T (all (r a) xs)) → pick b (some x) (find_by p xs) ≡ some a → T (all (r a) (x ∷ xs))
      one true f g = subst (λ (o : Option A). OnSome (λ z. T (all (r z) (x ∷ xs))) o) g (all_cons (r x) x xs (own x) (pairs_head r x xs h))
      one false f g = all_cons (r a) x xs (turn x a (found_knows (λ z. T (r x z)) p xs a (all_every (r x) xs (pairs_head r x xs h)) g)) (f g)

  -- and with those that fail the test
  pub found_others : (r : A → A → Bool) → ((a b : A) → T (r a b) → T (r b a)) → (p : A → Bool) (xs : List A) (a : A) → T (all_pairs r xs) → find_by p xs ≡ some a → T (all (r a) (keep (λ z. not (p z)) xs))
  unfolding find_by keep
  found_others r turn p [] a h e = absurd (subst (λ (o : Option A). T (not (is_some o))) e tt)
  found_others r turn p (x ∷ xs) a h e = one (p x) (λ g. found_others r turn p xs a (pairs_tail r x xs h) g) e
    where
      q : A → Bool
      q z = not (p z)

      one : (b : Bool) → (find_by p xs ≡ some a → T (all (r a) (keep q xs))) → pick b (some x) (find_by p xs) ≡ some a → T (all (r a) (pick (not b) (x ∷ keep q xs) (keep q xs)))
      one true f g = subst (λ (o : Option A). OnSome (λ z. T (all (r z) (keep q xs))) o) g (keep_all q (r x) xs (pairs_head r x xs h))
      one false f g = all_cons (r a) x (keep q xs) (turn x a (found_knows (λ z. T (r x z)) p xs a (all_every (r x) xs (pairs_head r x xs h)) g)) (f g)

-- ---- lists of values made from others

module _ {A B : Type 0} where
  -- a test of the values
  pub all_map : (f : A → B) (p : B → Bool) (xs : List A) → all p (map f xs) ≡ all (λ a. p (f a)) xs
  unfolding all
  all_map f p [] = refl
  all_map f p (x ∷ xs) = ap (λ (b : Bool). p (f x) && b) (all_map f p xs)

  -- a relation of the values
  pub pairs_map : (f : A → B) (r : B → B → Bool) (xs : List A) → all_pairs r (map f xs) ≡ all_pairs (λ a b. r (f a) (f b)) xs
  unfolding all_pairs
  pairs_map f r [] = refl
  pairs_map f r (x ∷ xs) = ap₂ ◌&&◌ (all_map f (r (f x)) xs) (pairs_map f r xs)

  -- a test of the values that are there
  pub all_collect : (f : A → Option B) (p : B → Bool) (xs : List A) → all p (collect f xs) ≡ all (λ a. on_some p (f a)) xs
  unfolding all collect
  all_collect f p [] = refl
  all_collect f p (x ∷ xs) = one (f x) (all_collect f p xs)
    where
      one : (o : Option B) → all p (collect f xs) ≡ all (λ a. on_some p (f a)) xs → all p (cons_option o (collect f xs)) ≡ (on_some p o && all (λ a. on_some p (f a)) xs)
      one none e = e
      one (some b) e = ap (λ (c : Bool). p b && c) e

  -- a relation of the values that are there
  pub pairs_collect : (f : A → Option B) (r : B → B → Bool) (xs : List A) → all_pairs r (collect f xs) ≡ all_pairs (λ a b. on_both r (f a) (f b)) xs
  unfolding all all_pairs collect
  pairs_collect f r [] = refl
  pairs_collect f r (x ∷ xs) = one (f x) (pairs_collect f r xs)
    where
      nothing : (ys : List A) → true ≡ all (λ a. true) ys
      nothing [] = refl
      nothing (y ∷ ys) = nothing ys

      same : (b : B) (o : Option B) → on_some (r b) o ≡ on_both r (some b) o
      same b none = refl
      same b (some c) = refl

      each_same : (b : B) (ys : List A) → all (λ a. on_some (r b) (f a)) ys ≡ all (λ a. on_both r (some b) (f a)) ys
      each_same b [] = refl
      each_same b (y ∷ ys) = ap₂ ◌&&◌ (same b (f y)) (each_same b ys)

      one : (o : Option B) → all_pairs r (collect f xs) ≡ all_pairs (λ a b. on_both r (f a) (f b)) xs
          → all_pairs r (cons_option o (collect f xs)) ≡ (all (λ b. on_both r o (f b)) xs && all_pairs (λ a b. on_both r (f a) (f b)) xs)
      one none e = ap₂ ◌&&◌ (nothing xs) e
      one (some b) e = ap₂ ◌&&◌ (all_collect f (r b) xs ∙ each_same b xs) e

  -- facts about the values
  pub every_map : (f : A → B) (P : A → Type 0) (Q : B → Type 0) → ((a : A) → P a → Q (f a)) → (xs : List A) → Every P xs → Every Q (map f xs)
  every_map f P Q g [] h = tt
  every_map f P Q g (x ∷ xs) h = (g x h.0, every_map f P Q g xs h.1)

  -- facts about the values that are there
  pub every_collect : (f : A → Option B) (P : A → Type 0) (Q : B → Type 0) → ((a : A) → P a → OnSome Q (f a)) → (xs : List A) → Every P xs → Every Q (collect f xs)
  unfolding collect
  every_collect f P Q g [] h = tt
  every_collect f P Q g (x ∷ xs) h = one (f x) (g x h.0) (every_collect f P Q g xs h.1)
    where
      one : (o : Option B) → OnSome Q o → Every Q (collect f xs) → Every Q (cons_option o (collect f xs))
      one none k e = e
      one (some b) k e = (k, e)

  -- the values of two lists one after the other
  pub collect_append : (f : A → Option B) (xs ys : List A) → collect f (xs ++ ys) ≡ collect f xs ++ collect f ys
  unfolding collect
  collect_append f [] ys = refl
  collect_append f (x ∷ xs) ys = one (f x) (collect_append f xs ys)
    where
      one : (o : Option B) → collect f (xs ++ ys) ≡ collect f xs ++ collect f ys → cons_option o (collect f (xs ++ ys)) ≡ cons_option o (collect f xs) ++ collect f ys
      one none e = e
      one (some b) e = ap (λ (l : List B). b ∷ l) e

  -- the same for a map
  pub map-append : (f : A → B) (xs ys : List A) → map f (xs ++ ys) ≡ map f xs ++ map f ys
  map-append f [] ys = refl
  map-append f (x ∷ xs) ys = ap (λ (l : List B). f x ∷ l) (map-append f xs ys)

  -- functions with equal values
  pub map_same : (f g : A → B) → ((a : A) → f a ≡ g a) → (xs : List A) → map f xs ≡ map g xs
  map_same f g e [] = refl
  map_same f g e (x ∷ xs) = ap₂ ◌∷◌ (e x) (map_same f g e xs)

  -- functions with equal values, where there are some
  pub collect_same : (f g : A → Option B) → ((a : A) → f a ≡ g a) → (xs : List A) → collect f xs ≡ collect g xs
  unfolding collect
  collect_same f g e [] = refl
  collect_same f g e (x ∷ xs) = ap₂ cons_option (e x) (collect_same f g e xs)

module _ {A B C : Type 0} where
  -- one map after the other
  pub map-map : (f : A → B) (g : B → C) (xs : List A) → map g (map f xs) ≡ map (λ a. g (f a)) xs
  map-map f g [] = refl
  map-map f g (x ∷ xs) = ap (λ (l : List C). g (f x) ∷ l) (map-map f g xs)

  -- the values of a map
  pub collect_map : (f : A → B) (g : B → Option C) (xs : List A) → collect g (map f xs) ≡ collect (λ a. g (f a)) xs
  unfolding collect
  collect_map f g [] = refl
  collect_map f g (x ∷ xs) = ap (cons_option (g (f x))) (collect_map f g xs)

  -- a map of the values that are there
  pub map_collect : (f : A → Option B) (g : B → C) (xs : List A) → map g (collect f xs) ≡ collect (λ a. map_option g (f a)) xs
  unfolding collect
  map_collect f g [] = refl
  map_collect f g (x ∷ xs) = one (f x) (map_collect f g xs)
    where
      one : (o : Option B) → map g (collect f xs) ≡ collect (λ a. map_option g (f a)) xs → map g (cons_option o (collect f xs)) ≡ cons_option (map_option g o) (collect (λ a. map_option g (f a)) xs)
      one none e = e
      one (some b) e = ap (λ (l : List C). g b ∷ l) e

  -- the values of the values that are there
  pub collect_collect : (f : A → Option B) (g : B → Option C) (xs : List A) → collect g (collect f xs) ≡ collect (λ a. bind_option (f a) g) xs
  unfolding collect
  collect_collect f g [] = refl
  collect_collect f g (x ∷ xs) = one (f x) (collect_collect f g xs)
    where
      one : (o : Option B) → collect g (collect f xs) ≡ collect (λ a. bind_option (f a) g) xs → collect g (cons_option o (collect f xs)) ≡ cons_option (bind_option o g) (collect (λ a. bind_option (f a) g) xs)
      one none e = e
      one (some b) e = ap (cons_option (g b)) e
