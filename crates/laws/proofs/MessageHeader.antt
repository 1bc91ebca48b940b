-- A message as it is written, header and elements: its length, and that it is read back. Assumes nothing.
use mathlib.Core.Path.{◌≡◌, refl, sym, subst}
use mathlib.Core.Bool.{Bool, true, false, not, ◌&&◌}
use mathlib.Core.List.{List, ◌∷◌}
use Prim.Native.Nat.{ℕ, ◌+◌, ◌^◌, ◌≤◌, ◌<◌, ◌-◌}
use native.Mathlib.Omega.{arith}
use lib.ListN.{length, length-append}
use lib.Dec.{T, leb, eqb}
use mir.Facts.{yes_eqb, yes_leb}
use Rattle.octets.specs.Choice.{pick}
use Rattle.octets.specs.Octets.{be, number_at, octet_at, bit}
use Rattle.octets.proofs.Tests.{both}
use Rattle.octets.proofs.Numbers.{number_be, length_be}
use Rattle.rules.specs.Message.{set_deletion, body, kind_of, seid_there, header_length, header_allowed, first_octet_allowed, body_place, list_place, counted_place}
use Rattle.rules.specs.Reply.{message}

-- the header's 16 octets
pub length_header : (kind seid : ℕ) (q xs : List ℕ) → length q ≡ 3 → length (message kind seid q xs) ≡ body_place + length xs
unfolding message be
length_header kind seid q xs three = let e = length-append q (0 ∷ xs) in omega arith

-- with the SEID h and the sequence number q
module _ (kind h q : ℕ) (xs : List ℕ) where
  pub message_body : body (message kind h (be 3 q) xs) ≡ xs
  unfolding body header_length seid_there octet_at bit message be
  message_body = refl

  pub message_kind : kind_of (message kind h (be 3 q) xs) ≡ kind
  unfolding kind_of message octet_at
  message_kind = refl

  pub message_length_lem : length (message kind h (be 3 q) xs) ≡ body_place + length xs
  message_length_lem = length_header kind h (be 3 q) xs (length_be 3 q)

  message_number : body_place - counted_place + length xs < 256 ^ 2 → number_at 2 2 (message kind h (be 3 q) xs) ≡ body_place - counted_place + length xs
  unfolding number_at message be
  message_number small = number_be 2 (body_place - counted_place + length xs) small

  pub message_seid : seid_there (message kind h (be 3 q) xs) ≡ true
  unfolding seid_there octet_at bit message
  message_seid = refl

  pub message_allowed : eqb kind set_deletion ≡ false → length xs ≤ 2000 → T (header_allowed (message kind h (be 3 q) xs))
  unfolding header_allowed header_length
  message_allowed other short =
      let m = message kind h (be 3 q) xs in
      let e = message_length_lem in
      let n = message_number (omega arith) in
      let long : body_place ≤ length m = omega arith in
      let exact : counted_place + number_at 2 2 m ≡ length m = omega arith in
      both (leb (header_length m) (length m) && first_octet_allowed (kind_of m) (octet_at m 0)) (eqb (counted_place + number_at 2 2 m) (length m))
      (both (leb (header_length m) (length m)) (first_octet_allowed (kind_of m) (octet_at m 0)) (subst (λ (b : Bool). T (leb (pick b body_place list_place) (length m))) (sym message_seid) (yes_leb long)) first)
      (yes_eqb exact)
    where
      first : T (first_octet_allowed (kind_of (message kind h (be 3 q) xs)) (octet_at (message kind h (be 3 q) xs) 0))
      first = unfold first_octet_allowed kind_of octet_at message bit in (subst (λ (b : Bool). T (not b)) (sym other) tt)
