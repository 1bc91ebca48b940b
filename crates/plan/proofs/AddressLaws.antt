-- Octets of two numbers compared, as their numbers are; and the addresses of a row against the unit's. Assumes nothing.
use mathlib.Core.Path.{◌≡◌, sym, ap, ap₂, ◌∙◌}
use mathlib.Core.Bool.{true, false, not}
use mathlib.Core.List.{List}
use Prim.Native.Nat.{ℕ, ◌%◌, ◌^◌}
use lib.Dec.{T, eqb, eqb→eq, eqb_refl}
use Rattle.octets.specs.Choice.{is_nil}
use Rattle.octets.specs.Octets.{be, number, same_octets}
use Rattle.octets.proofs.Tests.{of_true}
use Rattle.octets.proofs.Numbers.{length_be, number_be_mod, bytes_be, same_refl, same_eq}
use Rattle.octets.proofs.Digits.{be_number}
use Rattle.rules.specs.Stages.{other_address}
use Rattle.octets.proofs.Bools.{both_ways}

-- only the low octets count
be_mod : (n a : ℕ) → be n (a % (256 ^ n)) ≡ be n a
be_mod n a =
    ap₂ be (sym (length_be n a)) (sym (number_be_mod n a)) ∙ be_number (be n a) (bytes_be n a)

pub same_be : (n a b : ℕ) → same_octets (be n a) (be n b) ≡ eqb (a % (256 ^ n)) (b % (256 ^ n))
same_be n a b = both_ways (same_octets (be n a) (be n b)) (eqb (a % (256 ^ n)) (b % (256 ^ n))) there back
  where
    there : T (same_octets (be n a) (be n b)) → T (eqb (a % (256 ^ n)) (b % (256 ^ n)))
    there h =
        let e : a % (256 ^ n) ≡ b % (256 ^ n) = sym (number_be_mod n a) ∙ ap number (same_eq (be n a) (be n b) h) ∙ number_be_mod n b in
        rw e (eqb_refl (b % (256 ^ n)))

    back : T (eqb (a % (256 ^ n)) (b % (256 ^ n))) → T (same_octets (be n a) (be n b))
    back h =
        let e : be n a ≡ be n b = sym (be_mod n a) ∙ ap (be n) (eqb→eq (a % (256 ^ n)) (b % (256 ^ n)) h) ∙ be_mod n b in
        rw e (of_true (same_refl (be n b)))

-- ---- addresses

pub other_none : (unit a : List ℕ) → is_nil a ≡ true → other_address unit a ≡ false
unfolding other_address
other_none unit a h = rw h

-- four octets
pub other_four : (u a : ℕ) → other_address (be 4 u) (be 4 a) ≡ not (eqb (a % 4294967296) (u % 4294967296))
unfolding other_address be
other_four u a = ap not (unfold be in (same_be 4 a u))
