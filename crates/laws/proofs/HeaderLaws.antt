-- A header that is allowed is whole, and has a SEID unless it is a set deletion's.
-- Assumes nothing.
use mathlib.Core.Path.{◌≡◌, refl, ap, ◌∙◌, subst}
use Prim.Native.Nat.{ℕ, ◌+◌, ◌/◌, ◌≤◌}
use mathlib.Core.Bool.{Bool, true, false, not, ◌&&◌, ◌||◌, or-false}
use mathlib.Core.List.{List}
use lib.ListN.{length}
use lib.Dec.{T, leb, eqb, leb→le}
use borrow.Author.Tests.{eq-eqb}
use Rattle.octets.specs.Choice.{pick, same_bool}
use Rattle.octets.specs.Octets.{number_at, octet_at, bit}
use Rattle.octets.proofs.Tests.{and_left, and_right, is_false}
use Rattle.rules.specs.Message.{establishment, set_deletion, kind_of, seid_there, header_length, first_octet_allowed, header_allowed, body_place, list_place, counted_place}
use Rattle.rules.specs.Stages.{unnamed}

module _ (msg : List ℕ) (h : T (header_allowed msg)) where
  front : T (leb (header_length msg) (length msg) && first_octet_allowed (kind_of msg) (octet_at msg 0))
  unfolding header_allowed
  front = and_left (leb (header_length msg) (length msg) && first_octet_allowed (kind_of msg) (octet_at msg 0)) (eqb (counted_place + number_at 2 2 msg) (length msg)) h

  pub header_long : header_length msg ≤ length msg
  header_long = leb→le (header_length msg) (length msg) (and_left (leb (header_length msg) (length msg)) (first_octet_allowed (kind_of msg) (octet_at msg 0)) front)

  -- S is 1 exactly where the type is another
  seid_is : seid_there msg ≡ not (eqb (kind_of msg) set_deletion)
  unfolding first_octet_allowed seid_there
  seid_is =
      same (bit 0 (octet_at msg 0)) (not (eqb (kind_of msg) set_deletion))
      (and_right (eqb (octet_at msg 0 / 32) 1 && not (bit 2 (octet_at msg 0))) (same_bool (bit 0 (octet_at msg 0)) (not (eqb (kind_of msg) set_deletion)))
      (and_right (leb (header_length msg) (length msg)) (first_octet_allowed (kind_of msg) (octet_at msg 0)) front))
    where
      same : (a b : Bool) → T (same_bool a b) → a ≡ b
      same true true e = refl
      same true false e = absurd e
      same false true e = absurd e
      same false false e = refl

  pub seid_there_lem : T (not (eqb (kind_of msg) set_deletion)) → seid_there msg ≡ true
  seid_there_lem n = seid_is ∙ ap not (is_false (eqb (kind_of msg) set_deletion) n)

  pub seid_absent : kind_of msg ≡ set_deletion → seid_there msg ≡ false
  seid_absent e = seid_is ∙ ap not (eq-eqb (kind_of msg) set_deletion e)

  -- so each has its octets
  pub long_there : T (not (eqb (kind_of msg) set_deletion)) → body_place ≤ length msg
  unfolding header_length
  long_there n = subst (λ (b : Bool). pick b body_place list_place ≤ length msg) (seid_there_lem n) header_long

  pub long_absent : kind_of msg ≡ set_deletion → list_place ≤ length msg
  unfolding header_length
  long_absent e = subst (λ (b : Bool). pick b body_place list_place ≤ length msg) (seid_absent e) header_long

-- what names no session in its header and is no set deletion is an establishment
pub unnamed_new : (kind : ℕ) → T (not (eqb kind set_deletion)) → unnamed kind ≡ eqb kind establishment
unfolding unnamed
unnamed_new kind n = ap (λ (b : Bool). eqb kind establishment || b) (is_false (eqb kind set_deletion) n) ∙ or-false (eqb kind establishment)

pub unnamed_sets : (kind : ℕ) → kind ≡ set_deletion → unnamed kind ≡ true
unfolding unnamed
unnamed_sets kind e = ap (λ (k : ℕ). eqb k establishment || eqb k set_deletion) e
