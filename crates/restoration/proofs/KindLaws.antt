-- A record's width, element and needs, by its kind; and which addresses the control plane may have. Assumes nothing.
use mathlib.Core.Path.{◌≡◌, refl, sym}
use Prim.Native.Nat.{ℕ, suc, ◌+◌, ◌<◌}
use native.Mathlib.Nat.{suc-ne-zero}
use native.Mathlib.Omega.{arith}
use mathlib.Core.Bool.{Bool, true, false, not, ◌&&◌, ◌||◌}
use mathlib.Core.List.{List, [], ◌∷◌}
use borrow.Author.Tests.{ne_eqb, lt-ltb}
use lib.Dec.{T, eqb, ltb, eqb→eq, ltb→lt}
use lib.ListN.{length, get_or}
use Rattle.octets.specs.Choice.{is_nil}
use Rattle.octets.specs.Octets.{octets, octet_at}
use Rattle.octets.proofs.Tests.{and_left, and_right, is_true}
use Rattle.rules.specs.Elements.{address_of}
use Rattle.rules.specs.Layout.{pdr_width, csid_width, endpoint_width, csid_id_type_at}
use Rattle.rules.specs.Restoring.{address_tests, sender_addressed}
use Rattle.restoration.specs.declared.Kind.{Kind}
use Rattle.restoration.specs.declared.Kind.TheVariants as kind
use Rattle.restoration.specs.Records.{record_width, record_fits}

-- ---- the kinds

pub fits_csid : (xs : List ℕ) → T (record_fits kind.Csid xs) → (length xs ≡ csid_width) × (get_or xs csid_id_type_at 0 < 16)
unfolding octet_at
fits_csid xs h =
    let a = eqb (length xs) csid_width in
    let b = ltb (get_or xs csid_id_type_at 0) 16 in
    (eqb→eq (length xs) csid_width (and_left a b h), ltb→lt (get_or xs csid_id_type_at 0) 16 (and_right a b h))

-- a slot that fits is as wide as its kind
pub fits_wide : (k : Kind) (xs : List ℕ) → T (record_fits k xs) → length xs ≡ record_width k
fits_wide kind.Pdr xs h = eqb→eq (length xs) pdr_width h
fits_wide kind.Endpoint xs h = eqb→eq (length xs) endpoint_width h
fits_wide kind.Csid xs h = (fits_csid xs h).0

-- ---- addresses

nil_length : (xs : List ℕ) → is_nil xs ≡ eqb (length xs) 0
nil_length [] = refl
nil_length (x ∷ xs) = sym (ne_eqb (suc (length xs)) 0 (suc-ne-zero (length xs)))

-- the test on octets: whether there is none, or a whole one
address_is : (n : ℕ) (a : List ℕ) → T (octets a) → address_of n a ≡ (eqb (length a) 0 || eqb (length a) n)
unfolding address_of
address_is n a o = rw (is_true (octets a) o, nil_length a) (and-true (eqb (length a) 0 || eqb (length a) n))
  where
    and-true : (b : Bool) → (b && true) ≡ b
    and-true true = refl
    and-true false = refl

module _ (a b : List ℕ) (oa : T (octets a)) (ob : T (octets b)) where
  module _ (f : Bool) (e : f ≡ (eqb (length a) 0 || eqb (length a) 4)) where
    pub address_v4 : f ≡ false → false ≡ sender_addressed a b
    unfolding sender_addressed address_tests
    address_v4 z = rw (address_is 4 a oa, ← e, z)

    module _ (z : f ≡ true) (g : Bool) (d : g ≡ (eqb (length b) 0 || eqb (length b) 16)) where
      pub address_v6 : g ≡ false → false ≡ sender_addressed a b
      unfolding sender_addressed address_tests
      address_v6 y = rw (address_is 4 a oa, ← e, z, address_is 16 b ob, ← d, y)

      pub address_one : g ≡ true → ltb 0 (length a + length b) ≡ sender_addressed a b
      unfolding sender_addressed address_tests
      address_one y = rw (address_is 4 a oa, ← e, z, address_is 16 b ob, ← d, y) (some a b)
        where
          some : (p q : List ℕ) → ltb 0 (length p + length q) ≡ (not (is_nil p && is_nil q) && true)
          some [] [] = refl
          some [] (y ∷ q) = lt-ltb 0 (0 + suc (length q)) (omega arith)
          some (x ∷ p) q = lt-ltb 0 (suc (length p) + length q) (omega arith)
