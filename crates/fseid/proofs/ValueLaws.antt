-- F-SEID: what the code tests, reads and writes, in the rules' terms; s the octets. Assumes nothing.
use mathlib.Core.Bool.{true, false, not, ◌||◌}
use mathlib.Core.List.{List, [], ◌∷◌, ◌++◌, append_assoc}
use mathlib.Core.Option.{none, some}
use mathlib.Core.Path.{◌≡◌, refl, sym, ap, ◌∙◌}
use Prim.Native.Nat.{ℕ, suc, ◌+◌, ◌*◌, ◌/◌, ◌%◌, ◌≤◌, ◌<◌}
use native.Mathlib.Nat.{not-suc-le-zero}
use native.Mathlib.Omega.{arith}
use borrow.Author.Tests.{lt-ltb, le-ltb, le-leb, lt-leb, eq-eqb, ne_eqb}
use lib.Dec.{eqb}
use lib.ListN.{length, set, get_or, length-append}
use Rattle.octets.specs.Choice.{flag, is_nil}
use Rattle.octets.specs.Octets.{put, be, bit, number, number_at, part}
use Rattle.octets.proofs.Put.{set_put, next_put, put_whole}
use Rattle.octets.proofs.Numbers.{length_be}
use Rattle.rules.specs.Elements.{fseid_length, seid_answer, read_fseid, fseid_octets, write_if, refuse, value, too_short, incorrect}
use Rattle.fseid.specs.Meaning.{fseid_flags}
use Rattle.element.proofs.FlagLaws.{bit_number, bit_first, one_set, none_set}

pub read_empty : (s : List ℕ) → length s ≡ 0 → read_fseid s ≡ refuse too_short
unfolding read_fseid
read_empty [] h = refl
read_empty (x ∷ s) h = absurd (omega arith)

-- the numbers of the bits, as the code adds them
families : (x : ℕ) → flag (bit 0 x) + flag (bit 1 x) ≡ x / 2 % 2 + x % 2
families x = rw (bit_first x, bit_number 1 x) (omega arith)

pub read_no_family : (s : List ℕ) → 0 < length s → get_or s 0 0 / 2 % 2 + get_or s 0 0 % 2 ≡ 0 → read_fseid s ≡ refuse incorrect
unfolding read_fseid
read_no_family [] h e = absurd (not-suc-le-zero h)
read_no_family (x ∷ s) h e = rw (none_set (bit 0 x) (bit 1 x) (families x ∙ e))

module _ (x : ℕ) (s : List ℕ) (family : x / 2 % 2 + x % 2 ≡ 0 → ⊥) where
  some_family : (bit 0 x || bit 1 x) ≡ true
  some_family = one_set (bit 0 x) (bit 1 x) (λ q. family (sym (families x) ∙ q))

  length_is : fseid_length x ≡ 8 + 4 * (x / 2 % 2) + 16 * (x % 2)
  unfolding fseid_length
  length_is = rw (bit_first x, bit_number 1 x)

  first_short : length s < 8 + 4 * (x / 2 % 2) + 16 * (x % 2) → read_fseid (x ∷ s) ≡ refuse too_short
  unfolding read_fseid
  first_short l = rw (some_family, length_is, lt-ltb (length s) _ l)

  first_seid : 8 + 4 * (x / 2 % 2) + 16 * (x % 2) ≤ length s → read_fseid (x ∷ s) ≡ seid_answer (number (part 1 8 (x ∷ s)))
  unfolding read_fseid number_at
  first_seid l = rw (some_family, length_is, le-ltb (length s) _ l)

pub read_short : (s : List ℕ) → 0 < length s → (get_or s 0 0 / 2 % 2 + get_or s 0 0 % 2 ≡ 0 → ⊥) → length s < 9 + 4 * (get_or s 0 0 / 2 % 2) + 16 * (get_or s 0 0 % 2)
    → read_fseid s ≡ refuse too_short
read_short [] h f l = absurd (not-suc-le-zero h)
read_short (x ∷ s) h f l = first_short x s f (omega arith)

pub read_seid_lem : (s : List ℕ) (n : ℕ) → 0 < length s → (get_or s 0 0 / 2 % 2 + get_or s 0 0 % 2 ≡ 0 → ⊥)
    → 9 + 4 * (get_or s 0 0 / 2 % 2) + 16 * (get_or s 0 0 % 2) ≤ length s → n ≡ number (part 1 8 s) → read_fseid s ≡ seid_answer n
read_seid_lem [] n h f l e = absurd (not-suc-le-zero h)
read_seid_lem (x ∷ s) n h f l e = first_seid x s f (omega arith) ∙ ap seid_answer (sym e)

pub seid_none : (n : ℕ) → n ≡ 0 → seid_answer n ≡ refuse incorrect
unfolding seid_answer
seid_none n e = rw (eq-eqb n 0 e)

pub seid_some : (n : ℕ) → (n ≡ 0 → ⊥) → seid_answer n ≡ value n
unfolding seid_answer
seid_some n e = rw (ne_eqb n 0 e)

-- ---- the writer

is_nil_lem : (xs : List ℕ) → length xs ≡ 0 → is_nil xs ≡ true
is_nil_lem [] e = refl
is_nil_lem (x ∷ xs) e = absurd (omega arith)

non_nil : (xs : List ℕ) → (length xs ≡ 0 → ⊥) → is_nil xs ≡ false
non_nil [] e = absurd (e refl)
non_nil (x ∷ xs) e = refl

module _ (a b : List ℕ) where
  pub flags_none : length a ≡ 0 → length b ≡ 0 → 0 ≡ fseid_flags a b
  flags_none e f = rw (is_nil_lem a e, is_nil_lem b f)

  pub flags_v6 : length a ≡ 0 → (length b ≡ 0 → ⊥) → 1 ≡ fseid_flags a b
  flags_v6 e f = rw (is_nil_lem a e, non_nil b f)

  pub flags_v4 : (length a ≡ 0 → ⊥) → length b ≡ 0 → 2 ≡ fseid_flags a b
  flags_v4 e f = rw (non_nil a e, is_nil_lem b f)

  pub flags_both : (length a ≡ 0 → ⊥) → (length b ≡ 0 → ⊥) → 3 ≡ fseid_flags a b
  flags_both e f = rw (non_nil a e, non_nil b f)

pub length_fseid : (seid : ℕ) (a b : List ℕ) → length (fseid_octets seid a b) ≡ 9 + length a + length b
unfolding fseid_octets
length_fseid seid a b = omega (arith, length-append (be 8 seid) (a ++ b), length-append a b, length_be 8 seid)

-- the flags, the SEID and the addresses, one after the other
pub written_at : (seid at f : ℕ) (a b s : List ℕ) {s₂ s₃ s₄ : List ℕ} → at + 9 + length a + length b ≤ length s → f ≡ fseid_flags a b
    → s₂ ≡ put (at + 1) (be 8 seid) (set s at f) → s₃ ≡ put (at + 9) a s₂ → s₄ ≡ put (at + 9 + length a) b s₃
    → s₄ ≡ put at (fseid_octets seid a b) s
unfolding fseid_octets
written_at seid at f a b s h flags p q r =
    let e = length_be 8 seid in
    let one = next_put at (at + 1) (f ∷ []) (be 8 seid) s (set_put at f s (omega arith)) p refl (omega arith) in
    let two = next_put at (at + 9) (f ∷ be 8 seid) a s one q (omega arith) (omega arith) in
    let l : length ((f ∷ be 8 seid) ++ a) ≡ 9 + length a = ap suc (length-append (be 8 seid) a) ∙ omega arith in
    let three = next_put at (at + 9 + length a) ((f ∷ be 8 seid) ++ a) b s two r (omega arith) (omega arith) in
    three ∙ rw (← flags, ← append_assoc (be 8 seid) a b)

module _ (seid a : ℕ) (s : List ℕ) where
  pub write_no_seid : seid ≡ 0 → record { count = none; space = s } ≡ write_if (not (eqb seid 0)) (fseid_octets seid (be 4 a) []) s
  unfolding write_if
  write_no_seid e = rw (eq-eqb seid 0 e)

  module _ (h : seid ≡ 0 → ⊥) where
    pub write_no_room : length s < 13 → record { count = none; space = s } ≡ write_if (not (eqb seid 0)) (fseid_octets seid (be 4 a) []) s
    unfolding write_if
    write_no_room l =
        let n : length (fseid_octets seid (be 4 a) []) ≡ 13 = omega (arith, length_fseid seid (be 4 a) [], length_be 4 a) in
        rw (ne_eqb seid 0 h, n, lt-leb 13 (length s) l)

    -- x the address's octets as the code has them, over those of x₀
    pub write_done : (x₀ x : List ℕ) (e : ℕ) (t : List ℕ) → length x₀ ≡ 4 → x ≡ put 0 (be 4 a) x₀ → 13 ≤ length s
        → (e ≡ 0 + 9 + length x + 0) × (t ≡ put 0 (fseid_octets seid x []) s)
        → record { count = some e; space = t } ≡ write_if (not (eqb seid 0)) (fseid_octets seid (be 4 a) []) s
    unfolding write_if
    write_done x₀ x e t four q l w =
        let k : length (be 4 a) ≡ 4 = length_be 4 a in
        let p : x ≡ be 4 a = q ∙ put_whole (be 4 a) x₀ (omega arith) in
        let m : length x ≡ 4 = ap length p ∙ k in
        let n : length (fseid_octets seid (be 4 a) []) ≡ 13 = omega (arith, length_fseid seid (be 4 a) [], k) in
        let c : e ≡ 13 = omega (arith, w.0) in
        rw (ne_eqb seid 0 h, n, le-leb 13 (length s) l, c, w.1, p)
