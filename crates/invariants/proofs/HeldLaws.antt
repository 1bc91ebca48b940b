-- Numbers that sessions hold, TEIDs or addresses: each session's are among those of all, and who has none in common with any session has none
-- in common with all.
-- Assumes nothing.
use mathlib.Core.Path.{◌≡◌, refl, sym, subst}
use Prim.Native.Nat.{ℕ}
use mathlib.Core.Bool.{Bool, true, false, not, ◌||◌}
use mathlib.Core.List.{List, [], ◌∷◌, ◌++◌}
use lib.Dec.{T, eqb}
use Rattle.octets.specs.Lists.{member, any_in, all}
use Rattle.octets.proofs.Tests.{all_head, all_tail, all_cons, neither_one, no_eqb}
use Rattle.octets.proofs.Ordered.{ne_of}
use Rattle.octets.proofs.ListLaws.{all_imply}
use Rattle.octets.proofs.MemberLaws.{member_front, member_behind, all_members}
use Rattle.rules.specs.Model.{Settings, Session, Sessions, session_teids, held_teids, session_addresses, held_addresses}

-- ---- nothing in common

not_or_left : (a b : Bool) → T (not (a || b)) → T (not a)
not_or_left true b h = absurd h
not_or_left false b h = tt

not_or_right : (a b : Bool) → T (not (a || b)) → T (not b)
not_or_right true b h = absurd h
not_or_right false b h = h

pub turn_eqb : (a b : ℕ) → T (not (eqb a b)) → T (not (eqb b a))
turn_eqb a b h = no_eqb b a (λ e. ne_of a b h (sym e))

disjoint_member : (xs : List ℕ) (y : ℕ) (ys : List ℕ) → T (not (any_in xs (y ∷ ys))) → T (not (member y xs))
unfolding any_in member
disjoint_member [] y ys h = tt
disjoint_member (x ∷ xs) y ys h =
    neither_one (eqb y x) (member y xs)
    (turn_eqb x y (not_or_left (eqb x y) (member x ys) (not_or_left (eqb x y || member x ys) (any_in xs (y ∷ ys)) h)))
    (disjoint_member xs y ys (not_or_right (eqb x y || member x ys) (any_in xs (y ∷ ys)) h))

disjoint_rest : (xs : List ℕ) (y : ℕ) (ys : List ℕ) → T (not (any_in xs (y ∷ ys))) → T (not (any_in xs ys))
unfolding any_in member
disjoint_rest [] y ys h = tt
disjoint_rest (x ∷ xs) y ys h =
    neither_one (member x ys) (any_in xs ys)
    (not_or_right (eqb x y) (member x ys) (not_or_left (eqb x y || member x ys) (any_in xs (y ∷ ys)) h))
    (disjoint_rest xs y ys (not_or_right (eqb x y || member x ys) (any_in xs (y ∷ ys)) h))

pub disjoint_turn : (xs ys : List ℕ) → T (not (any_in xs ys)) → T (not (any_in ys xs))
unfolding any_in
disjoint_turn xs [] h = tt
disjoint_turn xs (y ∷ ys) h = neither_one (member y xs) (any_in ys xs) (disjoint_member xs y ys h) (disjoint_turn xs ys (disjoint_rest xs y ys h))

pub member_append : (x : ℕ) (ys zs : List ℕ) → T (not (member x ys)) → T (not (member x zs)) → T (not (member x (ys ++ zs)))
unfolding member
member_append x [] zs h k = k
member_append x (y ∷ ys) zs h k =
    neither_one (eqb x y) (member x (ys ++ zs)) (not_or_left (eqb x y) (member x ys) h) (member_append x ys zs (not_or_right (eqb x y) (member x ys) h) k)

pub disjoint_append : (xs ys zs : List ℕ) → T (not (any_in xs ys)) → T (not (any_in xs zs)) → T (not (any_in xs (ys ++ zs)))
unfolding any_in
disjoint_append [] ys zs h k = tt
disjoint_append (x ∷ xs) ys zs h k =
    neither_one (member x (ys ++ zs)) (any_in xs (ys ++ zs))
    (member_append x ys zs (not_or_left (member x ys) (any_in xs ys) h) (not_or_left (member x zs) (any_in xs zs) k))
    (disjoint_append xs ys zs (not_or_right (member x ys) (any_in xs ys) h) (not_or_right (member x zs) (any_in xs zs) k))

disjoint_nil : (xs : List ℕ) → T (not (any_in xs []))
unfolding any_in member
disjoint_nil [] = tt
disjoint_nil (x ∷ xs) = disjoint_nil xs

-- ---- what sessions hold

module _ (of : Session → List ℕ) (held : Sessions → List ℕ) (none_held : held [] ≡ []) (more-held : (x : Session) (m : Sessions) → held (x ∷ m) ≡ of x ++ held m) where
  -- what a session holds is held
  each_held : (m : Sessions) → T (all (λ z. all (λ n. member n (held m)) (of z)) m)
  unfolding all
  each_held [] = tt
  each_held (z ∷ m) =
      subst (λ (l : List ℕ). T (all (λ w. all (λ n. member n l) (of w)) (z ∷ m))) (sym (more-held z m))
      (all_cons (λ w. all (λ n. member n (of z ++ held m)) (of w)) z m
      (all_imply (λ n. member n (of z)) (λ n. member n (of z ++ held m)) (λ n h. member_front n (of z) (held m) h) (of z) (all_members (of z)))
      (all_imply (λ w. all (λ n. member n (held m)) (of w)) (λ w. all (λ n. member n (of z ++ held m)) (of w))
      (λ w h. all_imply (λ n. member n (held m)) (λ n. member n (of z ++ held m)) (λ n g. member_behind n (of z) (held m) g) (of w) h) m (each_held m)))

  -- a number that no session holds is not held
  none_holds : (n : ℕ) (m : Sessions) → T (all (λ z. not (member n (of z))) m) → T (not (member n (held m)))
  unfolding member
  none_holds n [] h = subst (λ (l : List ℕ). T (not (member n l))) (sym none_held) tt
  none_holds n (z ∷ m) h =
      subst (λ (l : List ℕ). T (not (member n l))) (sym (more-held z m))
      (member_append n (of z) (held m) (all_head (λ w. not (member n (of w))) z m h) (none_holds n m (all_tail (λ w. not (member n (of w))) z m h)))

  -- nothing in common with any session
  none_common : (xs : List ℕ) (m : Sessions) → T (all (λ z. not (any_in xs (of z))) m) → T (not (any_in xs (held m)))
  none_common xs [] h = subst (λ (l : List ℕ). T (not (any_in xs l))) (sym none_held) (disjoint_nil xs)
  none_common xs (z ∷ m) h =
      subst (λ (l : List ℕ). T (not (any_in xs l))) (sym (more-held z m))
      (disjoint_append xs (of z) (held m) (all_head (λ w. not (any_in xs (of w))) z m h) (none_common xs m (all_tail (λ w. not (any_in xs (of w))) z m h)))

-- ---- TEIDs

pub all_held : (m : Sessions) → T (all (λ z. all (λ n. member n (held_teids m)) (session_teids z)) m)
unfolding held_teids
all_held m = each_held session_teids held_teids refl (λ x l. refl) m

pub absent_held : (n : ℕ) (m : Sessions) → T (all (λ z. not (member n (session_teids z))) m) → T (not (member n (held_teids m)))
unfolding held_teids
absent_held n m h = none_holds session_teids held_teids refl (λ x l. refl) n m h

pub apart_held : (xs : List ℕ) (m : Sessions) → T (all (λ z. not (any_in xs (session_teids z))) m) → T (not (any_in xs (held_teids m)))
unfolding held_teids
apart_held xs m h = none_common session_teids held_teids refl (λ x l. refl) xs m h

-- ---- addresses

module _ (s : Settings) where
  pub all_addresses_held : (m : Sessions) → T (all (λ z. all (λ n. member n (held_addresses s m)) (session_addresses s z)) m)
  unfolding held_addresses
  all_addresses_held m = each_held (session_addresses s) (held_addresses s) refl (λ x l. refl) m

  pub absent_address_held : (n : ℕ) (m : Sessions) → T (all (λ z. not (member n (session_addresses s z))) m) → T (not (member n (held_addresses s m)))
  unfolding held_addresses
  absent_address_held n m h = none_holds (session_addresses s) (held_addresses s) refl (λ x l. refl) n m h

  pub apart_addresses_held : (xs : List ℕ) (m : Sessions) → T (all (λ z. not (any_in xs (session_addresses s z))) m) → T (not (any_in xs (held_addresses s m)))
  unfolding held_addresses
  apart_addresses_held xs m h = none_common (session_addresses s) (held_addresses s) refl (λ x l. refl) xs m h
