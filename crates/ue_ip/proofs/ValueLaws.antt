-- UE IP Address: what the code tests, reads and writes, in the rules' terms; s the octets. Assumes nothing.
use mathlib.Core.Bool.{Bool, true, false, ◌||◌}
use mathlib.Core.List.{List, [], ◌∷◌}
use mathlib.Core.Option.{none, some}
use mathlib.Core.Path.{◌≡◌, refl, sym, ap, ◌∙◌}
use Prim.Native.Nat.{ℕ, suc, ◌+◌, ◌/◌, ◌%◌, ◌^◌, ◌≤◌, ◌<◌}
use native.Mathlib.Nat.{not-suc-le-zero}
use native.Mathlib.Omega.{arith}
use borrow.Author.Tests.{lt-ltb, le-ltb, le-leb, lt-leb}
use lib.ListN.{length, get_or, drop, length-drop}
use Rattle.octets.specs.Choice.{flag, same_bool}
use Rattle.octets.specs.Octets.{put, be, bit, number, number_at, part}
use Rattle.octets.proofs.Put.{next_put}
use Rattle.octets.proofs.Numbers.{length_be}
use Rattle.rules.specs.Elements.{ue_given, ue_choose, ue_other, ue_unsupported, ue_fields, read_ue_ip, ue_allowed, ue_octets, write_ue_ip, write_if, refuse, value, too_short, incorrect}
use Rattle.element.proofs.OctetLaws.{part_after}
use Rattle.element.proofs.FlagLaws.{bit_number, bit_first, bit_set, bit_clear}

-- ---- the flags

none_of_four : (a b c d : Bool) → flag a + flag b + flag c + flag d ≡ 0 → (a || b || c || d) ≡ false
none_of_four true b c d h = absurd (omega arith)
none_of_four false true c d h = absurd (omega arith)
none_of_four false false true d h = absurd (omega arith)
none_of_four false false false true h = absurd (omega arith)
none_of_four false false false false h = refl

one_of_four : (a b c d : Bool) → (flag a + flag b + flag c + flag d ≡ 0 → ⊥) → (a || b || c || d) ≡ true
one_of_four true b c d h = refl
one_of_four false true c d h = refl
one_of_four false false true d h = refl
one_of_four false false false true h = refl
one_of_four false false false false h = absurd (h refl)

-- the numbers of the four bits, as the code adds them
four : (f : ℕ) → flag (bit 0 f) + flag (bit 3 f) + flag (bit 5 f) + flag (bit 6 f) ≡ f % 2 + f / 8 % 2 + f / 32 % 2 + f / 64 % 2
four f = rw (bit_first f, bit_number 3 f, bit_number 5 f, bit_number 6 f)

pub supported : (f : ℕ) → f % 2 + f / 8 % 2 + f / 32 % 2 + f / 64 % 2 ≡ 0 → ue_unsupported f ≡ false
unfolding ue_unsupported
supported f h = none_of_four (bit 0 f) (bit 3 f) (bit 5 f) (bit 6 f) (four f ∙ h)

pub unsupported : (f : ℕ) → (f % 2 + f / 8 % 2 + f / 32 % 2 + f / 64 % 2 ≡ 0 → ⊥) → ue_unsupported f ≡ true
unfolding ue_unsupported
unsupported f h = one_of_four (bit 0 f) (bit 3 f) (bit 5 f) (bit 6 f) (λ q. h (sym (four f) ∙ q))

same_flags : (a b : Bool) → flag a ≡ flag b → same_bool a b ≡ true
same_flags true true h = refl
same_flags true false h = absurd (omega arith)
same_flags false true h = absurd (omega arith)
same_flags false false h = refl

other_flags : (a b : Bool) → (flag a ≡ flag b → ⊥) → same_bool a b ≡ false
other_flags true true h = absurd (h refl)
other_flags true false h = refl
other_flags false true h = refl
other_flags false false h = absurd (h refl)

-- ---- the reader

pub read_empty : (s : List ℕ) → length s ≡ 0 → read_ue_ip s ≡ refuse too_short
unfolding read_ue_ip
read_empty [] h = refl
read_empty (x ∷ s) h = absurd (omega arith)

pub read_other : (s : List ℕ) → 0 < length s → ue_unsupported (get_or s 0 0) ≡ true → read_ue_ip s ≡ value ue_other
unfolding read_ue_ip
read_other [] h u = absurd (not-suc-le-zero h)
read_other (f ∷ s) h u = rw u

pub read_both : (s : List ℕ) → 0 < length s → ue_unsupported (get_or s 0 0) ≡ false → get_or s 0 0 / 2 % 2 ≡ get_or s 0 0 / 16 % 2 → read_ue_ip s ≡ refuse incorrect
unfolding read_ue_ip
read_both [] h u e = absurd (not-suc-le-zero h)
read_both (f ∷ s) h u e = rw (u, same_flags (bit 1 f) (bit 4 f) (bit_number 1 f ∙ e ∙ sym (bit_number 4 f)))

-- just one of V4 and CHV4
read_fields_lem : (s : List ℕ) → 0 < length s → ue_unsupported (get_or s 0 0) ≡ false → (get_or s 0 0 / 2 % 2 ≡ get_or s 0 0 / 16 % 2 → ⊥)
    → read_ue_ip s ≡ ue_fields (get_or s 0 0) (drop 1 s)
unfolding read_ue_ip
read_fields_lem [] h u one = absurd (not-suc-le-zero h)
read_fields_lem (f ∷ s) h u one = rw (u, other_flags (bit 1 f) (bit 4 f) (λ q. one (sym (bit_number 1 f) ∙ q ∙ bit_number 4 f)))

module _ (s : List ℕ) (h : 0 < length s) (u : ue_unsupported (get_or s 0 0) ≡ false) (one : get_or s 0 0 / 2 % 2 ≡ get_or s 0 0 / 16 % 2 → ⊥) where
  pub read_choose : get_or s 0 0 / 16 % 2 ≡ 1 → read_ue_ip s ≡ value ue_choose
  unfolding ue_fields
  read_choose c = read_fields_lem s h u one ∙ rw (bit_set 4 (get_or s 0 0) c)

  pub read_short : (get_or s 0 0 / 16 % 2 ≡ 1 → ⊥) → length s < 5 → read_ue_ip s ≡ refuse too_short
  unfolding ue_fields
  read_short c l =
      let n = length-drop 1 s in
      read_fields_lem s h u one ∙ rw (bit_clear 4 (get_or s 0 0) c, lt-ltb (length (drop 1 s)) 4 (omega arith))

  pub read_given : (n : ℕ) → (get_or s 0 0 / 16 % 2 ≡ 1 → ⊥) → 5 ≤ length s → n ≡ number (part 1 4 s) → read_ue_ip s ≡ value (ue_given n)
  unfolding ue_fields number_at
  read_given n c l e =
      let k = length-drop 1 s in
      read_fields_lem s h u one ∙ rw (bit_clear 4 (get_or s 0 0) c, le-ltb (length (drop 1 s)) 4 (omega arith)) (ap (λ (xs : List ℕ). value (ue_given (number xs))) (part_after 0 4 s))
      ∙ ap (λ (m : ℕ). value (ue_given m)) (sym e)

-- ---- the writer

-- the flags and the address, one after the other
pub written_at : (a at : ℕ) (s : List ℕ) {s₁ s₂ : List ℕ} → at + 5 ≤ length s → s₁ ≡ put at (be 1 2) s → s₂ ≡ put (at + 1) (be 4 a) s₁ → s₂ ≡ put at (ue_octets (ue_given a)) s
unfolding ue_octets
written_at a at s h p q = next_put at (at + 1) (be 1 2) (be 4 a) s p q (let l = length_be 1 2 in omega arith) (omega arith) ∙ unfold be in refl

pub length_given : (a : ℕ) → length (ue_octets (ue_given a)) ≡ 5
unfolding ue_octets
length_given a = ap suc (length_be 4 a)

module _ (a : ℕ) (s : List ℕ) where
  pub write_wide : 4294967295 < a → record { count = none; space = s } ≡ write_ue_ip (ue_given a) s
  unfolding write_ue_ip write_if ue_allowed
  write_wide h = rw (le-ltb a (2 ^ 32) h)

  module _ (b : a ≤ 4294967295) where
    narrow : ue_allowed (ue_given a) ≡ true
    unfolding ue_allowed
    narrow = lt-ltb a (2 ^ 32) (omega arith)

    pub write_no_room : length s < 5 → record { count = none; space = s } ≡ write_ue_ip (ue_given a) s
    unfolding write_ue_ip write_if
    write_no_room l = rw (narrow, length_given a, lt-leb 5 (length s) l)

    pub write_done : (e : ℕ) (t : List ℕ) → 5 ≤ length s → (e ≡ 0 + 5) × (t ≡ put 0 (ue_octets (ue_given a)) s) → record { count = some e; space = t } ≡ write_ue_ip (ue_given a) s
    unfolding write_ue_ip write_if
    write_done e t l w =
        let c : e ≡ 5 = w.0 in
        rw (narrow, length_given a, le-leb 5 (length s) l, c, w.1)

pub write_empty : (s : List ℕ) → length s < 1 → record { count = none; space = s } ≡ write_ue_ip ue_choose s
unfolding write_ue_ip write_if ue_allowed ue_octets
write_empty s l = rw (lt-leb 1 (length s) l)

pub write_chosen : (s t : List ℕ) → 1 ≤ length s → t ≡ put 0 (be 1 16) s → record { count = some 1; space = t } ≡ write_ue_ip ue_choose s
unfolding write_ue_ip write_if ue_allowed ue_octets be
write_chosen s t l e = rw (le-leb 1 (length s) l, e)

pub write_other : (s : List ℕ) → record { count = none; space = s } ≡ write_ue_ip ue_other s
unfolding write_ue_ip write_if ue_allowed
write_other s = refl
