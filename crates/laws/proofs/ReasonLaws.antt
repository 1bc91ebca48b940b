-- The first of a list of reasons that holds, split once: what a cause says of the reasons before it, and what they say of the cause.
-- Assumes nothing.
use mathlib.Core.Path.{◌≡◌, refl, sym}
use mathlib.Core.Logic.{◌≢◌}
use Prim.Native.Nat.{ℕ}
use mathlib.Core.Bool.{Bool, true, false, not}
use mathlib.Core.List.{List, [], ◌∷◌, ◌++◌, map}
use lib.Dec.{T, eqb}
use Rattle.octets.specs.Choice.{pick}
use Rattle.octets.specs.Lists.{member, all}
use Rattle.octets.proofs.Tests.{all_head, all_tail}
use Rattle.octets.proofs.Ordered.{ne_of}
use Rattle.octets.proofs.Bools.{not_or}
use Rattle.rules.specs.Stages.{Reason, first_of}
use Rattle.rules.specs.Causes as why

-- none of them holds
abbrev pub NoneHolds : List Reason → Type 0
NoneHolds [] = Unit {0}
NoneHolds (r ∷ rs) = T (not r.holds) × NoneHolds rs

abbrev pub cause_in : Reason → ℕ
cause_in r = r.cause

-- a cause that the first ones don't give: none of them holds, and it is that of the rest
pub first_past : (n : ℕ) (rs rest : List Reason) → T (not (member n (map cause_in rs))) → first_of (rs ++ rest) ≡ n → NoneHolds rs × (first_of rest ≡ n)
unfolding member
first_past n [] rest h e = (tt, e)
first_past n (r ∷ rs) rest h e =
    let k = not_or (eqb n r.cause) (member n (map cause_in rs)) h in
    one r.holds (ne_of n r.cause k.0) (first_past n rs rest k.1) e
  where
    one : (b : Bool) → n ≢ r.cause → (first_of (rs ++ rest) ≡ n → NoneHolds rs × (first_of rest ≡ n)) → pick b r.cause (first_of (rs ++ rest)) ≡ n
        → (T (not b) × NoneHolds rs) × (first_of rest ≡ n)
    one true ne ih e = absurd (ne (sym e))
    one false ne ih e = let k = ih e in ((tt, k.0), k.1)

-- reasons that don't hold are passed over
pub first_rest : (rs rest : List Reason) → NoneHolds rs → first_of (rs ++ rest) ≡ first_of rest
first_rest [] rest h = refl
first_rest (r ∷ rs) rest h = one r.holds h.0 (first_rest rs rest h.1)
  where
    one : (b : Bool) → T (not b) → first_of (rs ++ rest) ≡ first_of rest → pick b r.cause (first_of (rs ++ rest)) ≡ first_of rest
    one true g ih = absurd g
    one false g ih = ih

-- what holds of every cause holds of the first's
pub first_passes : (p : ℕ → Bool) (rs : List Reason) → T (p why.accepted) → T (all (λ r. p r.cause) rs) → T (p (first_of rs))
first_passes p [] h g = h
first_passes p (r ∷ rs) h g = one r.holds (all_head (λ q. p q.cause) r rs g) (first_passes p rs h (all_tail (λ q. p q.cause) r rs g))
  where
    one : (b : Bool) → T (p r.cause) → T (p (first_of rs)) → T (p (pick b r.cause (first_of rs)))
    one true k ih = k
    one false k ih = ih

-- a cause that the first alone gives: it holds
pub first_holds_lem : (r : Reason) (rs : List Reason) → T (not (eqb r.cause why.accepted)) → T (all (λ q. not (eqb r.cause q.cause)) rs) → first_of (r ∷ rs) ≡ r.cause → T r.holds
first_holds_lem r rs h g e = one r.holds e
  where
    one : (b : Bool) → pick b r.cause (first_of rs) ≡ r.cause → T b
    one true e = tt
    one false e = absurd (ne_of r.cause (first_of rs) (first_passes (λ n. not (eqb r.cause n)) rs h g) (sym e))
