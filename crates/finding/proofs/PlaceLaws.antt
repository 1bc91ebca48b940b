-- The place of the first session for which a test holds: found by a walk, found by the order of peers and SEIDs, and what it says.
-- Assumes nothing.
use Rattle.std.specs.Prelude.{Ok, Err}
use mathlib.Core.Path.{◌≡◌, refl, ap, subst, ◌∙◌}
use Prim.Native.Nat.{ℕ, zero, suc, ◌+◌, ◌-◌, ◌≤◌, ◌<◌}
use native.Mathlib.Omega.{arith}
use mathlib.Core.Bool.{Bool, true, false}
use mathlib.Core.Option.{none, some}
use mathlib.Core.List.{[], ◌∷◌, map}
use borrow.Author.Tests.{le-leb, lt-leb, ne_eqb}
use lib.Dec.{T, eqb}
use lib.ListN.{length, drop, get_or, drop_of_length-le}
use lib.Seq.{drop-cons}
use Rattle.octets.specs.Choice.{pick}
use Rattle.octets.specs.Lists.{find_by, all_pairs}
use Rattle.octets.proofs.Tests.{of_true, all_at}
use Rattle.octets.proofs.Ordered.{orders, pairs_head, pairs_tail}
use Rattle.rules.specs.Model.{Session, Sessions, session_key}
use Rattle.rules.specs.Stages.{has_key, new_session}
use Rattle.rules.specs.Restoring.{session_at}
use Rattle.rules.specs.Finding.{place_from}
use Rattle.areas.specs.Records.{lookup_from}

-- ---- the walk: what is left gives the same answer

module _ (p : Session → Bool) (m : Sessions) (i : ℕ) where
  turn : i < length m → place_from i p (drop i m) ≡ pick (p (session_at m i)) (some i) (place_from (i + 1) p (drop (i + 1) m))
  unfolding place_from session_at
  turn h =
      let e : suc i ≡ i + 1 = omega arith in
      ap (place_from i p) (drop-cons m i (new_session 0 0) h ∙ ap (λ (j : ℕ). get_or m i (new_session 0 0) ∷ drop j m) e)

  pub place_here : i < length m → p (session_at m i) ≡ true → place_from i p (drop i m) ≡ some i
  place_here h e = turn h ∙ rw e

  pub place_later : i < length m → p (session_at m i) ≡ false → place_from i p (drop i m) ≡ place_from (i + 1) p (drop (i + 1) m)
  place_later h e = turn h ∙ rw e

  pub place_end : length m ≤ i → place_from i p (drop i m) ≡ none
  unfolding place_from
  place_end h = rw (drop_of_length-le m {i = i} h)

-- ---- by the order of keys

-- a key that was found is that of no session before
pub key_found : (i n p : ℕ) (m : Sessions) → lookup_from i n (map session_key m) ≡ Ok p → place_from i (has_key n) m ≡ some p
unfolding lookup_from place_from has_key
key_found i n p [] e = absurd (let z : ◌≡◌ {A = ℕ} 0 1 = cc in omega arith)
key_found i n p (x ∷ m) e =
    orders n (session_key x)
    (λ l. here (eqb (session_key x) n) (subst (λ (b : Bool). pick b (pick (eqb (session_key x) n) (Ok i) (Err i)) (lookup_from (suc i) n (map session_key m)) ≡ Ok p) (le-leb n (session_key x) l) e))
    (λ l.
    let next : suc i ≡ i + 1 = omega arith in
    rw (ne_eqb (session_key x) n (λ s. omega arith))
    (subst (λ (j : ℕ). place_from j (has_key n) m ≡ some p) next
    (key_found (suc i) n p m (subst (λ (b : Bool). pick b (pick (eqb (session_key x) n) (Ok i) (Err i)) (lookup_from (suc i) n (map session_key m)) ≡ Ok p) (lt-leb n (session_key x) l) e))))
  where
    here : (b : Bool) → pick b (Ok i) (Err i) ≡ Ok p → pick b (some i) (place_from (i + 1) (has_key n) m) ≡ some p
    here true e' = let q : i ≡ p = cc in ap some q
    here false e' = absurd (let z : ◌≡◌ {A = ℕ} 0 1 = cc in omega arith)

-- no session passes the test, so none has a place
pub place_none : (i : ℕ) (p : Session → Bool) (m : Sessions) → find_by p m ≡ none → place_from i p m ≡ none
unfolding place_from find_by
place_none i p [] e = refl
place_none i p (x ∷ m) e = go (p x) (λ h. place_none (i + 1) p m h) e
  where
    go : (b : Bool) → (find_by p m ≡ none → place_from (i + 1) p m ≡ none) → pick b (some x) (find_by p m) ≡ none → pick b (some i) (place_from (i + 1) p m) ≡ none
    go true f e' = absurd (let z : ◌≡◌ {A = ℕ} 0 1 = cc in omega arith)
    go false f e' = f e'

-- ---- what a place says

pub place_says : (i q : ℕ) (p : Session → Bool) (m : Sessions) → place_from i p m ≡ some q → (i ≤ q) × (q - i < length m) × T (p (session_at m (q - i)))
unfolding place_from session_at
place_says i q p [] e = absurd (let z : ◌≡◌ {A = ℕ} 0 1 = cc in omega arith)
place_says i q p (x ∷ m) e = go (p x) refl (λ h. place_says (i + 1) q p m h) e
  where
    go : (b : Bool) → p x ≡ b → (place_from (i + 1) p m ≡ some q → (i + 1 ≤ q) × (q - (i + 1) < length m) × T (p (session_at m (q - (i + 1)))))
        → pick b (some i) (place_from (i + 1) p m) ≡ some q → (i ≤ q) × (q - i < length (x ∷ m)) × T (p (get_or (x ∷ m) (q - i) (new_session 0 0)))
    go true t f e' =
        let same : i ≡ q = cc in
        let first : q - i ≡ 0 = omega arith in
        (omega arith, omega arith, rw first (of_true t))
    go false t f e' =
        let k = f e' in
        let next : q - i ≡ suc (q - (i + 1)) = omega (arith, k.0) in
        (omega (arith, k.0), omega (arith, k.1), rw next k.2)

pub none_says : (i : ℕ) (p : Session → Bool) (m : Sessions) → place_from i p m ≡ none → (j : ℕ) → j < length m → T (p (session_at m j)) → ⊥
unfolding place_from session_at
none_says i p [] e j l h = omega arith
none_says i p (x ∷ m) e j l h = go (p x) refl j l h e (λ k. none_says (i + 1) p m k)
  where
    go : (b : Bool) → p x ≡ b → (j' : ℕ) → j' < length (x ∷ m) → T (p (get_or (x ∷ m) j' (new_session 0 0))) → pick b (some i) (place_from (i + 1) p m) ≡ none
        → (place_from (i + 1) p m ≡ none → (n : ℕ) → n < length m → T (p (session_at m n)) → ⊥) → ⊥
    go true t j' l' h' e' f = let z : ◌≡◌ {A = ℕ} 0 1 = cc in omega arith
    go false t zero l' h' e' f = subst T t h'
    go false t (suc n) l' h' e' f = f e' n (omega arith) h'

-- ---- one place

-- of sessions every two of which are so that not both pass the test, one does at most
module _ (p : Session → Bool) (r : Session → Session → Bool) (clash : (x y : Session) → T (r x y) → T (p x) → T (p y) → ⊥) where
  pub place_only : (m : Sessions) → T (all_pairs r m) → (i j : ℕ) → i < length m → j < length m → T (p (session_at m i)) → T (p (session_at m j)) → i ≡ j
  unfolding session_at
  place_only [] h i j a b g k = absurd (omega arith)
  place_only (x ∷ m) h zero zero a b g k = refl
  place_only (x ∷ m) h zero (suc j) a b g k = absurd (clash x (get_or m j (new_session 0 0)) (all_at (r x) (new_session 0 0) m j (omega arith) (pairs_head r x m h)) g k)
  place_only (x ∷ m) h (suc i) zero a b g k = absurd (clash x (get_or m i (new_session 0 0)) (all_at (r x) (new_session 0 0) m i (omega arith) (pairs_head r x m h)) k g)
  place_only (x ∷ m) h (suc i) (suc j) a b g k = ap suc (place_only m (pairs_tail r x m h) i j (omega arith) (omega arith) g k)
