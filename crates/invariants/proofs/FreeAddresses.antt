-- The free addresses are just those of the pool that no record holds, as many as the free count says; the one that a request's CHOOSEs get is the lowest (02 (v)).
-- Assumes nothing.
use mathlib.Core.Path.{◌≡◌, refl, ap, sym, ◌∙◌}
use Prim.Native.Nat.{ℕ, suc, ◌≤◌}
use native.Mathlib.Nat.{le_of_eq, le_of_lt}
use native.Mathlib.Omega.{arith}
use mathlib.Core.Bool.{Bool, true, false, not, ◌&&◌}
use mathlib.Core.List.{List, [], ◌∷◌, ◌++◌}
use lib.ListN.{length}
use lib.Dec.{T, ltb, eqb, eqb→eq, ltb→lt}
use Rattle.octets.specs.Choice.{head_or, is_nil}
use Rattle.octets.specs.Lists.{member, all, all_pairs, any, collect}
use Rattle.octets.proofs.Tests.{all_head, is_false, no_eqb}
use Rattle.octets.proofs.Ordered.{pairs_head, keep_passes}
use Rattle.octets.proofs.ListLaws.{by_test, or_right, all_append}
use Rattle.octets.proofs.MemberLaws.{member_passes}
use Rattle.laws.proofs.RangeLaws.{unheld_there, unheld_ascends, unheld_count}
use Rattle.rules.specs.Model.{Settings, Session, Sessions, in_address_pool, endpoint_address, pdr_address, session_addresses, held_addresses, free_address_count, free_addresses}
use Rattle.rules.specs.Elements.{ue_chooses}
use Rattle.rules.specs.Request.{Request}
use Rattle.rules.specs.Grants.{chosen_address}
use Rattle.rules.specs.Stages.{addresses_of, address_lacks}
use Rattle.invariants.proofs.PoolLaws.{addresses_in_pool, addresses_not_held}

-- ---- what is held is in the pool

session_addresses_pool : (s : Settings) (x : Session) → T (all (in_address_pool s) (session_addresses s x))
unfolding session_addresses
session_addresses_pool s x = keep_passes (in_address_pool s) (collect endpoint_address x.endpoints ++ collect pdr_address x.pdrs)

pub held_addresses_pool : (s : Settings) (m : Sessions) → T (all (in_address_pool s) (held_addresses s m))
unfolding held_addresses all
held_addresses_pool s [] = tt
held_addresses_pool s (x ∷ m) = all_append (in_address_pool s) (session_addresses s x) (held_addresses s m) (session_addresses_pool s x) (held_addresses_pool s m)

-- ---- what is free

module _ (s : Settings) (m : Sessions) where
  -- an address of the pool that no record holds is free
  pub address_free_there : (a : ℕ) → T (in_address_pool s a) → T (not (member a (held_addresses s m))) → T (member a (free_addresses s m))
  unfolding free_addresses in_address_pool
  address_free_there a h g = unheld_there s.first_address s.address_count (held_addresses s m) a h g

  -- there are as many as the free count says
  pub free_address_count_lem : length (free_addresses s m) ≡ free_address_count s m
  unfolding free_addresses free_address_count in_address_pool
  free_address_count_lem = unheld_count s.first_address s.address_count (held_addresses s m) (held_addresses_pool s m)

  -- none is free exactly when the count is 0
  pub none_free : is_nil (free_addresses s m) ≡ eqb (free_address_count s m) 0
  none_free = one (free_addresses s m) ∙ ap (λ (n : ℕ). eqb n 0) free_address_count_lem
    where
      one : (l : List ℕ) → is_nil l ≡ eqb (length l) 0
      one [] = refl
      one (a ∷ l) = sym (is_false (eqb (suc (length l)) 0) (no_eqb (suc (length l)) 0 (λ e. absurd (omega arith))))

  -- the address that is chosen: of the pool, held by no session, and the lowest such
  pub record ChosenFree (a : ℕ) : Type 0 where
    pub pool : T (in_address_pool s a)
    pub unheld : T (not (member a (held_addresses s m)))
    pub least : (b : ℕ) → T (in_address_pool s b) → T (not (member b (held_addresses s m))) → a ≤ b

  ascends : T (all_pairs (λ a b. ltb a b) (free_addresses s m))
  unfolding free_addresses
  ascends = unheld_ascends s.first_address s.address_count (held_addresses s m)

  pub chosen_free : T (not (is_nil (free_addresses s m))) → ChosenFree (chosen_address s m)
  unfolding chosen_address
  chosen_free h = one (free_addresses s m) h (addresses_in_pool s m) (addresses_not_held s m) ascends address_free_there
    where
      one : (l : List ℕ) → T (not (is_nil l)) → T (all (in_address_pool s) l) → T (all (λ a. not (member a (held_addresses s m))) l) → T (all_pairs (λ a b. ltb a b) l)
          → ((a : ℕ) → T (in_address_pool s a) → T (not (member a (held_addresses s m))) → T (member a l)) → ChosenFree (head_or 0 l)
      one [] h p f up there = absurd h
      one (a ∷ l) h p f up there =
          record {
            pool = all_head (in_address_pool s) a l p;
            unheld = all_head (λ b. not (member b (held_addresses s m))) a l f;
            least = λ b q g. least b (there b q g);
          }
        where
          least : (b : ℕ) → T (member b (a ∷ l)) → a ≤ b
          least b g =
              by_test (eqb b a) (λ e. le_of_eq (sym (eqb→eq b a e)))
              (λ e. le_of_lt (ltb→lt a b (member_passes (λ k. ltb a k) b l (or_right (eqb b a) (member b l) (unfold member in g) e) (pairs_head (λ c d. ltb c d) a l up))))

  -- where cause 79 does not stand, a request that chooses an address has one
  pub chosen_there : (r : Request) → T (not (address_lacks s m r)) → T (any ue_chooses (addresses_of r)) → ChosenFree (chosen_address s m)
  unfolding address_lacks
  chosen_there r h g = chosen_free (one (any ue_chooses (addresses_of r)) (is_nil (free_addresses s m)) h g)
    where
      one : (a b : Bool) → T (not (a && b)) → T a → T (not b)
      one true b k t = k
      one false b k t = absurd t
