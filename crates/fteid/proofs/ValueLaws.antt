-- F-TEID: what the code tests and reads, in the rules' terms; s the octets, f the flags. Assumes nothing.
use Rattle.std.specs.Prelude.{Result, Ok, Err}
use mathlib.Core.Bool.{Bool, true, false, not, ◌&&◌, ◌||◌, false≢true}
use mathlib.Core.List.{List, [], ◌∷◌, ◌++◌}
use mathlib.Core.Option.{none, some}
use mathlib.Core.Path.{◌≡◌, refl, sym, ap, ap₂, ◌∙◌}
use Prim.Native.Nat.{ℕ, ◌+◌, ◌*◌, ◌/◌, ◌%◌, ◌^◌, ◌≤◌, ◌<◌}
use native.Mathlib.Nat.{not-suc-le-zero, le_of_suc-le-suc}
use native.Mathlib.Omega.{arith}
use borrow.Author.Tests.{lt-ltb, le-ltb, not-true}
use lib.Dec.{T, ltb, ltb→lt, lit<}
use lib.ListN.{length, get_or, drop}
use lib.Seq.{get_or-drop}
use Rattle.octets.specs.Choice.{pick, flag, all_of, is_nil}
use Rattle.octets.specs.Octets.{be, number, number_at, part, octet_at, octets}
use Rattle.octets.specs.Fields.{narrow, fit, field_octets}
use Rattle.octets.proofs.Tests.{each, is_true}
use Rattle.octets.proofs.Numbers.{bytes_be}
use Rattle.octets.proofs.Put.{part_two}
use Rattle.octets.proofs.Digits.{be_part, octets_append}
use Rattle.octets.proofs.FieldLaws.{octet_read}
use Rattle.octets.proofs.Bools.{and-true, or-true, or-false}
use Rattle.rules.specs.Elements as rules
use Rattle.rules.specs.Elements.{Fteid, given, choose, v4_flag, v6_flag, ch_flag, chid_flag, wrong_flags, fteid_length, chosen_fields, given_fields, fteid_fields, address_of, given_tests, fteid_allowed, fteid_octets, read_fteid, write_fteid, write_if, refuse, value, too_short, incorrect}
use Rattle.element.specs.declared.Refusal.{Refusal}
use Rattle.fteid.specs.declared.FTeid.{FTeid}
use Rattle.element.specs.Answers.{refusal_of, allowed_in, write_meant}
use Rattle.fteid.specs.Meaning.{fteid_answer, fteid_widths, fteid_numbers, fteid_tests, fteid_meant, fteid_of}
use Rattle.element.proofs.OctetLaws.{part_after, one_octet, fit_at}
use Rattle.element.proofs.FlagLaws.{low_bit_0, low_bit_1, low_bit_2, low_bit_3, flag_low, bit_number, bit_first, bit_set, bit_clear, four_bits, one_set, none_set}
use Rattle.element.proofs.AnswerLaws.{ReadAs, read_as, some_same, picked, not_allowed, allowed_fields}

-- ---- the tests on the flags

module _ (e : Bool) (f : ℕ) where
  pub no_family : f % 2 + f / 2 % 2 ≡ 0 → wrong_flags e f ≡ true
  unfolding wrong_flags
  no_family h = rw (none_set (v4_flag f) (v6_flag f) (rw (bit_first f, bit_number 1 f) h))

  module _ (family : f % 2 + f / 2 % 2 ≡ 0 → ⊥) where
    some_family : (v4_flag f || v6_flag f) ≡ true
    some_family = one_set (v4_flag f) (v6_flag f) (rw (bit_first f, bit_number 1 f) family)

    pub no_chid : f / 8 % 2 ≡ 0 → wrong_flags e f ≡ false
    unfolding wrong_flags
    no_chid h = rw (some_family, bit_clear 3 f (λ q. omega arith))

    module _ (chid : f / 8 % 2 ≡ 0 → ⊥) where
      pub chid_alone : f / 4 % 2 ≡ 0 → wrong_flags e f ≡ true
      unfolding wrong_flags
      chid_alone h = rw (some_family, bit_set 3 f (omega arith), bit_clear 2 f (λ q. omega arith)) (or-true e)

      pub chid_with : (f / 4 % 2 ≡ 0 → ⊥) → wrong_flags e f ≡ e
      unfolding wrong_flags
      chid_with h = rw (some_family, bit_set 3 f (omega arith), bit_set 2 f (omega arith)) (or-false e)

-- ---- how many octets the flags ask for

pub length_chosen : (f : ℕ) → f / 4 % 2 ≡ 1 → f / 8 % 2 ≡ fteid_length f
unfolding fteid_length
length_chosen f h = rw (bit_set 2 f h) (sym (bit_number 3 f))

pub length_given : (f : ℕ) → (f / 4 % 2 ≡ 1 → ⊥) → 4 + 4 * (f % 2) + 16 * (f / 2 % 2) ≡ fteid_length f
unfolding fteid_length
length_given f h = rw (bit_clear 2 f h, bit_first f, bit_number 1 f)

pub widths_chosen : (f : ℕ) → f / 4 % 2 ≡ 1 → 1 ∷ 0 ∷ 0 ∷ 0 ∷ 0 ∷ f / 8 % 2 ∷ [] ≡ fteid_widths f
unfolding fteid_widths
widths_chosen f h = rw (bit_set 2 f h, bit_number 3 f)

pub widths_given : (f : ℕ) → (f / 4 % 2 ≡ 1 → ⊥) → 1 ∷ 4 ∷ 4 * (f % 2) ∷ 8 * (f / 2 % 2) ∷ 8 * (f / 2 % 2) ∷ 0 ∷ [] ≡ fteid_widths f
unfolding fteid_widths
widths_given f h = rw (bit_clear 2 f h, bit_first f, bit_number 1 f)

-- ---- the fields that are read

-- the fields after the flags: a TEID, a IPv4 addresses and b IPv6 addresses, of which there is one or none each
given_parts : (s : List ℕ) (a b : ℕ) → T (octets s) → 5 + 4 * a + 16 * b ≤ length s
    → given (number (part 1 4 s)) (be (4 * a) (number (part 5 (4 * a) s))) (be (8 * b) (number (part (5 + 4 * a) (8 * b) s)) ++ be (8 * b) (number (part (5 + 4 * a + 8 * b) (8 * b) s)))
    ≡ given (number_at 0 4 (drop 1 s)) (part 4 (4 * a) (drop 1 s)) (part (4 + 4 * a) (16 * b) (drop 1 s))
unfolding number_at
given_parts s a b o h =
    let at : 5 + 4 * a ≡ 1 + (4 + 4 * a) = omega arith in
    let n : 8 * b + 8 * b ≡ 16 * b = omega arith in
    let front = ap₂ (λ (at n : ℕ). part at n s) at n ∙ sym (part_after (4 + 4 * a) (16 * b) s) in
    let six = ap₂ ◌++◌ (be_part (5 + 4 * a) (8 * b) s o (omega arith)) (be_part (5 + 4 * a + 8 * b) (8 * b) s o (omega arith)) ∙ part_two (5 + 4 * a) (8 * b) (8 * b) s ∙ front in
    let four = be_part 5 (4 * a) s o (omega arith) ∙ sym (part_after 4 (4 * a) s) in
    let teid = ap number (sym (part_after 0 4 s)) in
    λ i. given (teid i) (four i) (six i)

-- the CHOOSE ID
chosen_id : (b : Bool) (s : List ℕ) (id : ℕ) → flag b < length s → id ≡ number (part 1 (flag b) s) → pick b (some id) none ≡ pick b (some (octet_at (drop 1 s) 0)) none
unfolding octet_at
chosen_id true s id h e = ap some (e ∙ octet_read 1 s h ∙ sym (get_or-drop 1 s 0 0))
chosen_id false s id h e = refl

-- flags that are right have CHID only with CH
with_ch : (a c d e : Bool) → (not a || (d && (e || not c))) ≡ false → (c || not d) ≡ true
with_ch a true d e h = refl
with_ch a false false e h = refl
with_ch true false true true h = sym h
with_ch true false true false h = sym h
with_ch false false true e h = sym h

pub right_chid : (e : Bool) (f : ℕ) → wrong_flags e f ≡ false → (ch_flag f || not (chid_flag f)) ≡ true
unfolding wrong_flags
right_chid e f h = with_ch (v4_flag f || v6_flag f) (ch_flag f) (chid_flag f) e h

pub meant : (v : FTeid) → v.flags < 16 → (ch_flag v.flags || not (chid_flag v.flags)) ≡ true → fit (fteid_widths v.flags) (fteid_numbers v) ≡ true
    → fteid_of v ≡ some (fteid_meant v)
unfolding fteid_of fteid_tests
meant v l c g = rw (lt-ltb v.flags 16 l, c, g)

-- the struct means the value of the octets s: right flags, and octets enough
module _ (s : List ℕ) (f : ℕ) (small : f < 16) (right : wrong_flags false f ≡ false) (enough : fteid_length f < length s) where
  pub fields_chosen : (id : ℕ) → f / 4 % 2 ≡ 1 → id ≡ number (part 1 (f / 8 % 2) s) → id < 256 ^ (f / 8 % 2)
      → fteid_of (record { flags = f; teid = 0; ipv4 = 0; ipv6_high = 0; ipv6_low = 0; choose_id = id }) ≡ some (fteid_fields f (drop 1 s))
  unfolding fteid_widths fit fteid_fields chosen_fields fteid_length
  fields_chosen id ch e l =
      let c : ch_flag f ≡ true = bit_set 2 f ch in
      let w : f / 8 % 2 ≡ flag (chid_flag f) = sym (bit_number 3 f) in
      let long : flag (chid_flag f) < length s = rw c at enough in
      meant (record { flags = f; teid = 0; ipv4 = 0; ipv6_high = 0; ipv6_low = 0; choose_id = id }) small (right_chid false f right)
      (rw (c, lt-ltb f 256 (omega arith), lt-ltb id (256 ^ flag (chid_flag f)) (rw w at l)))
      ∙ ap some (rw c (ap (choose (v4_flag f) (v6_flag f)) (chosen_id (chid_flag f) s id long (rw w at e))))

  pub fields_given : (teid ipv4 high low : ℕ) → T (octets s) → (f / 4 % 2 ≡ 1 → ⊥)
      → teid ≡ number (part 1 4 s) → teid < 256 ^ 4
      → ipv4 ≡ number (part 5 (4 * (f % 2)) s) → ipv4 < 256 ^ (4 * (f % 2))
      → high ≡ number (part (5 + 4 * (f % 2)) (8 * (f / 2 % 2)) s) → high < 256 ^ (8 * (f / 2 % 2))
      → low ≡ number (part (5 + 4 * (f % 2) + 8 * (f / 2 % 2)) (8 * (f / 2 % 2)) s) → low < 256 ^ (8 * (f / 2 % 2))
      → fteid_of (record { flags = f; teid = teid; ipv4 = ipv4; ipv6_high = high; ipv6_low = low; choose_id = 0 }) ≡ some (fteid_fields f (drop 1 s))
  unfolding fteid_widths fit fteid_fields given_fields fteid_length
  fields_given teid ipv4 high low o ch e1 l1 e2 l2 e3 l3 e4 l4 =
      let c : ch_flag f ≡ false = bit_clear 2 f ch in
      let a : f % 2 ≡ flag (v4_flag f) = sym (bit_first f) in
      let b : f / 2 % 2 ≡ flag (v6_flag f) = sym (bit_number 1 f) in
      let long : 4 + 4 * flag (v4_flag f) + 16 * flag (v6_flag f) < length s = rw c at enough in
      meant (record { flags = f; teid = teid; ipv4 = ipv4; ipv6_high = high; ipv6_low = low; choose_id = 0 }) small (right_chid false f right)
      (rw (c, lt-ltb f 256 (omega arith), lt-ltb teid (256 ^ 4) l1, ← a, ← b, lt-ltb ipv4 _ l2, lt-ltb high _ l3, lt-ltb low _ l4))
      ∙ ap some
      (rw (c, ← a, ← b, e1, e2, e3, e4)
      (given_parts s (f % 2) (f / 2 % 2) o (omega arith)))

-- ---- the values that are written

-- an address of a struct is whole, or not there
address_whole : (b : Bool) (n : ℕ) → (address_of 4 (be (4 * flag b) n) ≡ true) × (is_nil (be (4 * flag b) n) ≡ not b)
unfolding address_of be
address_whole true n = (is_true _ (bytes_be 4 n), refl)
address_whole false n = (refl, refl)

halves_whole : (b : Bool) (n m : ℕ) → (address_of 16 (be (8 * flag b) n ++ be (8 * flag b) m) ≡ true) × (is_nil (be (8 * flag b) n ++ be (8 * flag b) m) ≡ not b)
unfolding address_of be
halves_whole true n m = (is_true _ (octets_append (be 8 n) (be 8 m) (bytes_be 8 n) (bytes_be 8 m)), refl)
halves_whole false n m = (refl, refl)

-- what a struct with a CHOOSE means, and one without: allowed where the flags are right, and their octets
allowed_chosen : (e a b d : Bool) (id : ℕ) → id < 256 ^ flag d → fteid_allowed e (choose a b (pick d (some id) none)) ≡ not (not (a || b) || (d && (e || false)))
unfolding fteid_allowed
allowed_chosen e true b false id h = refl
allowed_chosen e false true false id h = refl
allowed_chosen e false false false id h = refl
allowed_chosen e true b true id h = rw (lt-ltb id 256 h, or-false e)
allowed_chosen e false true true id h = rw (lt-ltb id 256 h, or-false e)
allowed_chosen e false false true id h = refl

not_either : (a b : Bool) → not (not a && not b) ≡ not (not (a || b) || false)
not_either true b = refl
not_either false true = refl
not_either false false = refl

allowed_given : (e a b : Bool) (t x y z : ℕ) → t < 256 ^ 4
    → fteid_allowed e (given t (be (4 * flag a) x) (be (8 * flag b) y ++ be (8 * flag b) z)) ≡ not (not (a || b) || false)
unfolding fteid_allowed given_tests
allowed_given e a b t x y z h =
    let v4 = address_whole a x in
    let v6 = halves_whole b y z in
    rw (lt-ltb t (256 ^ 4) h, v4.0, v6.0, v4.1, v6.1) (and-true (not (not a && not b)) ∙ not_either a b)

octets_chosen : (a b d : Bool) (f t x y z id : ℕ) → f ≡ flag a + 2 * flag b + 4 + 8 * flag d → id < 256 ^ flag d
    → fteid_octets (choose a b (pick d (some id) none)) ≡ field_octets (1 ∷ 0 ∷ 0 ∷ 0 ∷ 0 ∷ flag d ∷ []) (f ∷ t ∷ x ∷ y ∷ z ∷ id ∷ [])
unfolding fteid_octets field_octets be
octets_chosen a b false f t x y z id e h =
    let i = flag_low a in
    let j = flag_low b in
    let n : flag a + 2 * flag b + 4 ≡ f = omega arith in
    rw (one_octet f (omega arith), n)
octets_chosen a b true f t x y z id e h =
    let i = flag_low a in
    let j = flag_low b in
    let n : flag a + 2 * flag b + 12 ≡ f = omega arith in
    rw (one_octet f (omega arith), one_octet id h, n)

pub octets_given : (a b : Bool) (f t x y z id : ℕ) → f ≡ flag a + 2 * flag b
    → fteid_octets (given t (be (4 * flag a) x) (be (8 * flag b) y ++ be (8 * flag b) z))
    ≡ field_octets (1 ∷ 4 ∷ 4 * flag a ∷ 8 * flag b ∷ 8 * flag b ∷ 0 ∷ []) (f ∷ t ∷ x ∷ y ∷ z ∷ id ∷ [])
unfolding fteid_octets field_octets be
octets_given true true f t x y z id e = rw e
octets_given true false f t x y z id e = rw e
octets_given false true f t x y z id e = rw e
octets_given false false f t x y z id e = rw e

-- what the tests of a struct that means a value say
pub record Means (v : FTeid) : Type 0 where
  pub small : v.flags < 16
  pub goes : (ch_flag v.flags || not (chid_flag v.flags)) ≡ true
  pub fitting : fit (fteid_widths v.flags) (fteid_numbers v) ≡ true

pub means : (v : FTeid) → T (all_of (fteid_tests v)) → Means v
unfolding fteid_tests
means v h =
    let t = each (fteid_tests v) h in
    record { small = ltb→lt v.flags 16 t.0; goes = is_true _ t.1.0; fitting = is_true _ t.1.1.0 }

module _ (v : FTeid) (m : Means v) where
  -- with CH, and without
  id_fits_lem : ch_flag v.flags ≡ true → v.choose_id < 256 ^ flag (chid_flag v.flags)
  unfolding fteid_widths
  id_fits_lem c = fit_at 5 (1 ∷ 0 ∷ 0 ∷ 0 ∷ 0 ∷ flag (chid_flag v.flags) ∷ []) (fteid_numbers v) (lit< tt) (rw c at m.fitting)

  teid_fits : ch_flag v.flags ≡ false → v.teid < 256 ^ 4
  unfolding fteid_widths
  teid_fits c =
      let a = 4 * flag (v4_flag v.flags) in
      let b = 8 * flag (v6_flag v.flags) in
      fit_at 1 (1 ∷ 4 ∷ a ∷ b ∷ b ∷ 0 ∷ []) (fteid_numbers v) (lit< tt) (rw c at m.fitting)

  no_chid_alone : ch_flag v.flags ≡ false → chid_flag v.flags ≡ false
  no_chid_alone c = not-true (chid_flag v.flags) (rw c at m.goes)

  bits_chosen : ch_flag v.flags ≡ true → v.flags ≡ flag (v4_flag v.flags) + 2 * flag (v6_flag v.flags) + 4 + 8 * flag (chid_flag v.flags)
  bits_chosen c = four_bits v.flags m.small ∙ rw c

  bits_given : ch_flag v.flags ≡ false → v.flags ≡ flag (v4_flag v.flags) + 2 * flag (v6_flag v.flags)
  bits_given c = four_bits v.flags m.small ∙ rw (c, no_chid_alone c) (omega arith)

  meant_allowed : (e : Bool) → fteid_allowed e (fteid_meant v) ≡ not (wrong_flags e v.flags)
  unfolding wrong_flags
  meant_allowed e = by (ch_flag v.flags) refl
    where
      by : (c : Bool) → ch_flag v.flags ≡ c → fteid_allowed e (fteid_meant v) ≡ not (wrong_flags e v.flags)
      by true c = rw c (allowed_chosen e (v4_flag v.flags) (v6_flag v.flags) (chid_flag v.flags) v.choose_id (id_fits_lem c))
      by false c =
          rw (c, no_chid_alone c)
          (allowed_given e (v4_flag v.flags) (v6_flag v.flags) v.teid v.ipv4 v.ipv6_high v.ipv6_low (teid_fits c))

  meant_octets : fteid_octets (fteid_meant v) ≡ field_octets (fteid_widths v.flags) (fteid_numbers v)
  unfolding fteid_widths
  meant_octets = by (ch_flag v.flags) refl
    where
      by : (c : Bool) → ch_flag v.flags ≡ c → fteid_octets (fteid_meant v) ≡ field_octets (fteid_widths v.flags) (fteid_numbers v)
      by true c =
          rw c
          (octets_chosen (v4_flag v.flags) (v6_flag v.flags) (chid_flag v.flags) v.flags v.teid v.ipv4 v.ipv6_high v.ipv6_low v.choose_id (bits_chosen c) (id_fits_lem c))
      by false c =
          rw c
          (octets_given (v4_flag v.flags) (v6_flag v.flags) v.flags v.teid v.ipv4 v.ipv6_high v.ipv6_low v.choose_id (bits_given c))

-- the octets of the value that a struct means
pub fteid_octets_lem : (v : FTeid) (x : Fteid) → fteid_of v ≡ some x → fteid_octets x ≡ field_octets (fteid_widths v.flags) (fteid_numbers v)
unfolding fteid_of
fteid_octets_lem v x e =
    let p = picked (all_of (fteid_tests v)) (fteid_meant v) x e in
    ap fteid_octets p.1 ∙ meant_octets v (means v p.0)

-- whether a struct means a value that is allowed, by the tests of the code
allowed_by : {A : Type 0} (allowed : A → Bool) (x : A) (w ok g : Bool) → (T (all_of (true ∷ ok ∷ g ∷ [])) → allowed x ≡ not w) → (w ≡ false → ok ≡ true)
    → allowed_in allowed (pick (all_of (true ∷ ok ∷ g ∷ [])) (some x) none) ≡ (not w && g)
allowed_by allowed x true true true f h = f tt
allowed_by allowed x true true false f h = refl
allowed_by allowed x true false g f h = refl
allowed_by allowed x false true true f h = f tt
allowed_by allowed x false true false f h = refl
allowed_by allowed x false false g f h = absurd (false≢true (h refl))

pub fteid_allowed_lem : (e : Bool) (v : FTeid) → v.flags < 16
    → allowed_in (fteid_allowed e) (fteid_of v) ≡ (not (wrong_flags e v.flags) && fit (fteid_widths v.flags) (fteid_numbers v))
unfolding fteid_of fteid_tests
fteid_allowed_lem e v l =
    let s : ltb v.flags 16 ≡ true = lt-ltb v.flags 16 l in
    rw s
    (allowed_by (fteid_allowed e) (fteid_meant v) (wrong_flags e v.flags) (ch_flag v.flags || not (chid_flag v.flags)) (fit (fteid_widths v.flags) (fteid_numbers v))
    (λ t. meant_allowed v (means v (rw s t)) e) (right_chid e v.flags))

-- b what the code answers, w its test of the flags, us and xs the widths and the numbers as it has them
pub fteid_fits : (e : Bool) (v : FTeid) (us xs : List ℕ) {b w : Bool} → v.flags ≤ 15 → w ≡ wrong_flags e v.flags → w ≡ false → us ≡ fteid_widths v.flags
    → xs ≡ fteid_numbers v → b ≡ fit us xs → b ≡ allowed_in (fteid_allowed e) (fteid_of v)
fteid_fits e v us xs h p q i j k = k ∙ (λ n. fit (i n) (j n)) ∙ sym (fteid_allowed_lem e v (omega arith) ∙ rw (sym p ∙ q))

pub fteid_too_large : (e : Bool) (v : FTeid) → 16 ≤ v.flags → allowed_in (fteid_allowed e) (fteid_of v) ≡ false
unfolding fteid_of fteid_tests
fteid_too_large e v l = rw (le-ltb v.flags 16 l)

-- ---- the answers of the reader: the high four bits of the flags are ignored

low_wrong : (e : Bool) (f : ℕ) → wrong_flags e (f % 16) ≡ wrong_flags e f
unfolding wrong_flags
low_wrong e f = rw (low_bit_0 f, low_bit_1 f, low_bit_2 f, low_bit_3 f)

low_length : (f : ℕ) → fteid_length (f % 16) ≡ fteid_length f
unfolding fteid_length
low_length f = rw (low_bit_0 f, low_bit_1 f, low_bit_2 f, low_bit_3 f)

low_fields : (f : ℕ) (xs : List ℕ) → fteid_fields (f % 16) xs ≡ fteid_fields f xs
unfolding fteid_fields chosen_fields given_fields
low_fields f xs = rw (low_bit_0 f, low_bit_1 f, low_bit_2 f, low_bit_3 f)

-- flags that are right in an endpoint are right everywhere
right_false : (a c d e : Bool) → (not a || (d && (e || not c))) ≡ false → (not a || (d && (false || not c))) ≡ false
right_false false c d e h = h
right_false true c false e h = refl
right_false true c true true h = absurd (false≢true (sym h))
right_false true c true false h = h

pub right_anywhere : (e : Bool) (f : ℕ) → wrong_flags e f ≡ false → wrong_flags false f ≡ false
unfolding wrong_flags
right_anywhere e f h = right_false (v4_flag f || v6_flag f) (ch_flag f) (chid_flag f) e h

pub read_empty : (e : Bool) (s : List ℕ) → length s ≡ 0 → read_fteid e s ≡ refuse too_short
unfolding read_fteid
read_empty e [] h = refl
read_empty e (x ∷ s) h = absurd (omega arith)

pub read_wrong : (e : Bool) (s : List ℕ) → 0 < length s → wrong_flags e (get_or s 0 0 % 16) ≡ true → read_fteid e s ≡ refuse incorrect
unfolding read_fteid
read_wrong e [] h w = absurd (not-suc-le-zero h)
read_wrong e (x ∷ s) h w = rw (sym (low_wrong e x) ∙ w)

pub read_short : (e : Bool) (s : List ℕ) → 0 < length s → wrong_flags e (get_or s 0 0 % 16) ≡ false → length s ≤ fteid_length (get_or s 0 0 % 16)
    → read_fteid e s ≡ refuse too_short
unfolding read_fteid
read_short e [] h w l = absurd (not-suc-le-zero h)
read_short e (x ∷ s) h w l = rw (sym (low_wrong e x) ∙ w, lt-ltb (length s) (fteid_length x) (rw low_length at l))

pub read_value_lem : (e : Bool) (s : List ℕ) → wrong_flags e (get_or s 0 0 % 16) ≡ false → fteid_length (get_or s 0 0 % 16) < length s
    → read_fteid e s ≡ value (fteid_fields (get_or s 0 0 % 16) (drop 1 s))
unfolding read_fteid
read_value_lem e [] w l = absurd (not-suc-le-zero l)
read_value_lem e (x ∷ s) w l =
    let k : fteid_length x ≤ length s = le_of_suc-le-suc (rw low_length at l) in
    rw (sym (low_wrong e x) ∙ w, le-ltb (length s) (fteid_length x) k, low_fields x s)

-- ---- what the writer leaves: us and xs the widths and the numbers as the code has them

narrow_either : (t : Bool) (a b d : Bool) → narrow (1 ∷ pick t (0 ∷ 0 ∷ 0 ∷ 0 ∷ flag d ∷ []) (4 ∷ 4 * flag a ∷ 8 * flag b ∷ 8 * flag b ∷ 0 ∷ [])) ≡ true
unfolding narrow
narrow_either true a b true = refl
narrow_either true a b false = refl
narrow_either false true true d = refl
narrow_either false true false d = refl
narrow_either false false true d = refl
narrow_either false false false d = refl

pub narrow_widths : (f : ℕ) → narrow (fteid_widths f) ≡ true
unfolding fteid_widths
narrow_widths f = narrow_either (ch_flag f) (v4_flag f) (v6_flag f) (chid_flag f)

six_widths : (t : Bool) (a b d : ℕ) → length (1 ∷ pick t (0 ∷ 0 ∷ 0 ∷ 0 ∷ d ∷ []) (4 ∷ a ∷ b ∷ b ∷ 0 ∷ [])) ≡ 6
six_widths true a b d = refl
six_widths false a b d = refl

pub six : (f : ℕ) → length (fteid_widths f) ≡ 6
unfolding fteid_widths
six f = six_widths (ch_flag f) (4 * flag (v4_flag f)) (8 * flag (v6_flag f)) (flag (chid_flag f))

module _ (e : Bool) (v : FTeid) (s : List ℕ) where
  pub write_refused : allowed_in (fteid_allowed e) (fteid_of v) ≡ false → record { count = none; space = s } ≡ write_meant (write_fteid e) (fteid_of v) s
  unfolding write_fteid
  write_refused h = not_allowed (fteid_allowed e) fteid_octets s (fteid_of v) h

  pub write_allowed : (us xs : List ℕ) {w : rules.Written} → allowed_in (fteid_allowed e) (fteid_of v) ≡ true → us ≡ fteid_widths v.flags → xs ≡ fteid_numbers v
      → w ≡ write_if true (field_octets us xs) s → w ≡ write_meant (write_fteid e) (fteid_of v) s
  unfolding write_fteid
  write_allowed us xs ok p q k = allowed_fields (fteid_allowed e) fteid_octets s (fteid_of v) (fteid_widths v.flags) (fteid_numbers v) us xs (fteid_octets_lem v) ok p q k

-- ---- what callers ask of an answer

-- the reader's answer, where its case is known: a struct means the value that the rules answer, and a refusal is theirs
pub answer_value : {a : Result FTeid Refusal} {v : FTeid} {y : rules.Answer Fteid} → a ≡ Ok v → fteid_answer a ≡ some y → ReadAs (fteid_of v) y
answer_value {a} {v} {y} p q = read_as (fteid_of v) y (sym (ap fteid_answer p) ∙ q)

pub answer_refused : {a : Result FTeid Refusal} {r : Refusal} {y : rules.Answer Fteid} → a ≡ Err r → fteid_answer a ≡ some y → y ≡ refuse (refusal_of r)
answer_refused p q = sym (some_same (sym (ap fteid_answer p) ∙ q))
