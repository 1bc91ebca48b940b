-- Of sessions that are apart no two hold one number: a TEID, or an address of the pool (02 (v)).
-- Assumes nothing.
use mathlib.Core.Path.{sym, ◌∙◌}
use Prim.Native.Nat.{ℕ}
use mathlib.Core.Bool.{Bool, not, ◌&&◌}
use mathlib.Core.List.{List, [], ◌∷◌}
use lib.Dec.{T, T_not, eqb, eqb→eq}
use Rattle.octets.specs.Lists.{member, any_in, all, any, all_pairs}
use Rattle.octets.proofs.Tests.{and_left, and_right, all_head, all_tail}
use Rattle.octets.proofs.Ordered.{pairs_head, pairs_tail, ne_of}
use Rattle.octets.proofs.ListLaws.{by_test, or_right}
use Rattle.octets.proofs.MemberLaws.{member_passes, none_in}
use Rattle.rules.specs.Model.{Settings, Session, Sessions, session_teids, session_addresses, session_key}
use Rattle.rules.specs.Sound.{apart}
use Rattle.rules.specs.Stages.{has_key}
use Rattle.invariants.proofs.Beside.{apart_teids_lem, apart_addresses_lem}

-- what a session holds, of which two that are apart have nothing in common
module _ (s : Settings) (of : Session → List ℕ) (common : (x y : Session) → T (apart s x y) → T (not (any_in (of x) (of y)))) where
  -- the session with this SEID holds the number
  abbrev holder : Sessions → ℕ → ℕ → Bool
  holder m seid n = any (λ x. has_key seid x && member n (of x)) m

  -- a number of a session is held by none of those that are apart from it
  none_beside : (x : Session) (m : Sessions) (i n : ℕ) → T (all (apart s x) m) → T (member n (of x)) → T (holder m i n) → ⊥
  unfolding any
  none_beside x [] i n far h g = g
  none_beside x (y ∷ m) i n far h g =
      by_test (has_key i y && member n (of y))
      (λ e. T_not (member n (of y)) (member_passes (λ k. not (member k (of y))) n (of x) h (none_in (of x) (of y) (common x y (all_head (apart s x) y m far)))) (and_right (has_key i y) (member n (of y)) e))
      (λ e. none_beside x m i n (all_tail (apart s x) y m far) h (or_right (has_key i y && member n (of y)) (holder m i n) g e))

  -- so two do not hold one
  none_both : (m : Sessions) (i j n : ℕ) → T (all_pairs (apart s) m) → T (not (eqb i j)) → T (holder m i n) → T (holder m j n) → ⊥
  unfolding any has_key
  none_both [] i j n far d h g = h
  none_both (x ∷ m) i j n far d h g =
      let here = member n (of x) in
      by_test (has_key i x && here)
      (λ e. by_test (has_key j x && here)
      (λ f. ne_of i j d (sym (eqb→eq (session_key x) i (and_left (has_key i x) here e)) ∙ eqb→eq (session_key x) j (and_left (has_key j x) here f)))
      (λ f. none_beside x m j n (pairs_head (apart s) x m far) (and_right (has_key i x) here e) (or_right (has_key j x && here) (holder m j n) g f)))
      (λ e. by_test (has_key j x && here)
      (λ f. none_beside x m i n (pairs_head (apart s) x m far) (and_right (has_key j x) here f) (or_right (has_key i x && here) (holder m i n) h e))
      (λ f. none_both m i j n (pairs_tail (apart s) x m far) d (or_right (has_key i x && here) (holder m i n) h e) (or_right (has_key j x && here) (holder m j n) g f)))

module _ (s : Settings) (m : Sessions) (i j n : ℕ) (far : T (all_pairs (apart s) m)) (other : T (not (eqb i j))) where
  pub one_teid_holder : T (any (λ x. has_key i x && member n (session_teids x)) m) → T (any (λ x. has_key j x && member n (session_teids x)) m) → ⊥
  one_teid_holder = none_both s session_teids (apart_teids_lem s) m i j n far other

  pub one_address_holder : T (any (λ x. has_key i x && member n (session_addresses s x)) m) → T (any (λ x. has_key j x && member n (session_addresses s x)) m) → ⊥
  one_address_holder = none_both s (session_addresses s) (apart_addresses_lem s) m i j n far other
