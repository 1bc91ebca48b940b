-- The rules on two rows, by the tests that code makes. Assumes nothing.
use mathlib.Core.Path.{◌≡◌, refl, sym, ap, ap₂, ◌∙◌}
use mathlib.Core.Bool.{Bool, true, false, not, ◌&&◌, ◌||◌, false≢true}
use mathlib.Core.Option.{Option, none, some}
use mathlib.Core.List.{List}
use Prim.Native.Nat.{ℕ, ◌+◌, ◌*◌, ◌/◌, ◌%◌, ◌^◌}
use native.Mathlib.Omega.{arith}
use native.Mathlib.Nat.{mod-lt, zero-lt-suc}
use lib.Dec.{T, eqb, eqb→eq, eqb_refl}
use borrow.Author.Tests.{eqb-true}
use Rattle.octets.specs.Choice.{pick, is_some, bind_option, same_bool}
use Rattle.octets.specs.Octets.{bit}
use Rattle.octets.specs.Rows.{has_tag}
use Rattle.octets.proofs.Tests.{and_left, and_right, both}
use Rattle.rules.specs.Model.{Holding}
use Rattle.rules.specs.Elements.{Fteid, given, choose, choose_id_of}
use Rattle.rules.specs.Sound.{agree, share_tests}
use Rattle.rules.specs.Stages.{same_choice, alike_fteids, fteids_may_share, locals_may_share, choices_agree}
use Rattle.rules.specs.Grants.{of_pdr, choice_of, pdr_choice, choice_id}
use Rattle.plan.specs.Rows.{word, row_fteid, row_local, row_pdr}
use Rattle.rules.specs.Types as ie
use Rattle.plan.specs.Words as its
use Rattle.plan.specs.RowRules.{has_fteid, row_holding, row_choice, row_choose_id, alike_rows, other_choice, holds_apart, other_hold, shares_choice, restores, same_teid}
use Rattle.plan.proofs.FteidLaws.{v4_row, v6_row, chooses_some, choose_id_row, holding_row, hold_of}
use Rattle.plan.proofs.RowTests.{tag_no}
use Rattle.plan.proofs.TunnelLaws.{held_row}
use Rattle.octets.proofs.Bools.{both_ways, same_bit}

-- ---- families and source interface

same_bits : (k m n : ℕ) → same_bool (bit k m) (bit k n) ≡ eqb (m / (2 ^ k) % 2) (n / (2 ^ k) % 2)
unfolding bit
same_bits k m n = same_bit (m / (2 ^ k) % 2) (n / (2 ^ k) % 2) (mod-lt (m / (2 ^ k)) (zero-lt-suc 1)) (mod-lt (n / (2 ^ k)) (zero-lt-suc 1))

quarter : (m : ℕ) → m % 4 ≡ m % 2 + 2 * (m / 2 % 2)
quarter m = omega arith

families : (m n : ℕ) → (same_bool (bit 0 m) (bit 0 n) && same_bool (bit 1 m) (bit 1 n)) ≡ eqb (m % 4) (n % 4)
families m n = ap₂ ◌&&◌ (same_bits 0 m n) (same_bits 1 m n) ∙ both_ways _ _ there back
  where
    there : T (eqb (m / (2 ^ 0) % 2) (n / (2 ^ 0) % 2) && eqb (m / (2 ^ 1) % 2) (n / (2 ^ 1) % 2)) → T (eqb (m % 4) (n % 4))
    there h =
        let low = eqb→eq (m / (2 ^ 0) % 2) (n / (2 ^ 0) % 2) (and_left (eqb (m / (2 ^ 0) % 2) (n / (2 ^ 0) % 2)) _ h) in
        let high = eqb→eq (m / (2 ^ 1) % 2) (n / (2 ^ 1) % 2) (and_right (eqb (m / (2 ^ 0) % 2) (n / (2 ^ 0) % 2)) _ h) in
        let first : m % 2 ≡ n % 2 = omega (arith, low) in
        let second : m / 2 % 2 ≡ n / 2 % 2 = high in
        let e : m % 4 ≡ n % 4 = quarter m ∙ ap₂ (λ (x y : ℕ). x + 2 * y) first second ∙ sym (quarter n) in
        rw e (eqb_refl (n % 4))

    back : T (eqb (m % 4) (n % 4)) → T (eqb (m / (2 ^ 0) % 2) (n / (2 ^ 0) % 2) && eqb (m / (2 ^ 1) % 2) (n / (2 ^ 1) % 2))
    back h =
        let e = eqb→eq (m % 4) (n % 4) h in
        let low : m / (2 ^ 0) % 2 ≡ n / (2 ^ 0) % 2 = omega arith in
        let high : m / (2 ^ 1) % 2 ≡ n / (2 ^ 1) % 2 = omega arith in
        rw (low, high) (both (eqb (n / (2 ^ 0) % 2) (n / (2 ^ 0) % 2)) _ (eqb_refl (n / (2 ^ 0) % 2)) (eqb_refl (n / (2 ^ 1) % 2)))

pub alike_row : (a b : List ℕ) → alike_rows a b ≡ (eqb (word its.flags a % 4) (word its.flags b % 4) && eqb (word its.source a) (word its.source b))
unfolding alike_rows alike_fteids
alike_row a b = rw (v4_row a, v4_row b, v6_row a, v6_row b, families (word its.flags a) (word its.flags b))

-- ---- CHOOSE IDs

tag_is : (t : ℕ) (row : List ℕ) → has_tag t row ≡ true → word its.tag row ≡ t
unfolding has_tag
tag_is t row h = eqb-true (word its.tag row) t h

no_id : (o : Option ℕ) → is_some o ≡ false → o ≡ none
no_id none h = refl
no_id (some i) h = absurd (false≢true (sym h))

pub same_none : (o : Option ℕ) → same_choice o none ≡ false
unfolding same_choice
same_none none = refl
same_none (some i) = refl

id_known : (row : List ℕ) → is_some (row_choose_id row) ≡ true → row_choose_id row ≡ some (word its.choose_id row)
id_known row h = choose_id_row row ∙ one ((has_fteid row && bit 2 (word its.flags row)) && bit 3 (word its.flags row)) (sym (ap is_some (choose_id_row row)) ∙ h)
  where
    one : (b : Bool) → is_some (pick b (some (word its.choose_id row)) none) ≡ true → pick b (some (word its.choose_id row)) none ≡ some (word its.choose_id row)
    one true e = refl
    one false e = absurd (false≢true e)

pub shares_row : (a b : List ℕ) → shares_choice a b ≡ (is_some (row_choose_id a) && (is_some (row_choose_id b) && eqb (word its.choose_id a) (word its.choose_id b)))
unfolding shares_choice same_choice
shares_row a b = one (is_some (row_choose_id a)) (is_some (row_choose_id b)) refl refl
  where
    one : (x y : Bool) → is_some (row_choose_id a) ≡ x → is_some (row_choose_id b) ≡ y → same_choice (row_choose_id a) (row_choose_id b) ≡ (x && (y && eqb (word its.choose_id a) (word its.choose_id b)))
    one true true h g = rw (id_known a h, id_known b g)
    one true false h g = rw (no_id (row_choose_id b) g) (same_none (row_choose_id a))
    one false y h g = rw (no_id (row_choose_id a) h)

-- a Create PDR's CHOOSE ID is its F-TEID's
local_id : (i : ℕ) (o : Option Fteid) → bind_option (bind_option o (choice_of of_pdr i)) choice_id ≡ bind_option o choose_id_of
unfolding choice_of choose_id_of
local_id i none = refl
local_id i (some (given t a b)) = refl
local_id i (some (choose v4 v6 c)) = refl

pdr_id_lem : (row : List ℕ) → word its.tag row ≡ ie.create_pdr → row_choose_id row ≡ bind_option (row_local row) choose_id_of
unfolding row_choose_id row_choice pdr_choice row_pdr has_tag
pdr_id_lem row h = rw h (local_id (word its.pdr_id row) (row_local row))

may_share : (x y : Bool) (v w : Fteid) (i j : ℕ)
    → not (locals_may_share (pick x none (some v)) i (pick y none (some w)) j)
    ≡ (same_choice (bind_option (pick x none (some v)) choose_id_of) (bind_option (pick y none (some w)) choose_id_of) && not (alike_fteids v w && eqb i j))
unfolding locals_may_share fteids_may_share same_choice
may_share true y v w i j = refl
may_share false true v w i j = rw (same_none (choose_id_of v))
may_share false false v w i j = one (same_choice (choose_id_of v) (choose_id_of w)) (alike_fteids v w && eqb i j)
  where
    one : (s t : Bool) → not (not s || t) ≡ (s && not t)
    one true t = refl
    one false t = refl

pub choice_rows : (a b : List ℕ) → other_choice a b ≡ (has_tag ie.create_pdr a && (has_tag ie.create_pdr b && (shares_choice a b && not (alike_rows a b))))
unfolding other_choice choices_agree row_pdr shares_choice alike_rows row_local
choice_rows a b = one (has_tag ie.create_pdr a) (has_tag ie.create_pdr b) refl refl
  where
    one : (x y : Bool) → has_tag ie.create_pdr a ≡ x → has_tag ie.create_pdr b ≡ y → (x && (y && not (choices_agree (row_pdr a) (row_pdr b)))) ≡ (x && (y && (shares_choice a b && not (alike_rows a b))))
    one true true h g =
        rw (pdr_id_lem a (tag_is ie.create_pdr a h), pdr_id_lem b (tag_is ie.create_pdr b g))
        (may_share (eqb (word its.flags a) 0) (eqb (word its.flags b) 0) (row_fteid a) (row_fteid b) (word its.source a) (word its.source b))
    one true false h g = refl
    one false y h g = refl

-- ---- holds

hold_known : (row : List ℕ) → is_some (row_holding row) ≡ true → row_holding row ≡ some (hold_of row)
hold_known row h = holding_row row ∙ one (has_fteid row && not (bit 2 (word its.flags row))) (sym (ap is_some (holding_row row)) ∙ h)
  where
    one : (b : Bool) → is_some (pick b (some (hold_of row)) none) ≡ true → pick b (some (hold_of row)) none ≡ some (hold_of row)
    one true e = refl
    one false e = absurd (false≢true e)

-- two restored F-TEIDs with one TEID
pub same_row : (a b : List ℕ) → same_teid a b ≡ (eqb (word its.teid a) (word its.teid b) && (is_some (row_holding a) && is_some (row_holding b)))
unfolding same_teid
same_row a b =
    rw (held_row (λ t. restores (λ u. eqb t u) (row_holding b)) a, held_row (λ u. eqb (word its.teid a) u) b)
    (one (is_some (row_holding a)) (is_some (row_holding b)) (eqb (word its.teid a) (word its.teid b)))
  where
    one : (x y z : Bool) → (x && (y && z)) ≡ (z && (x && y))
    one true true true = refl
    one true true false = refl
    one true false true = refl
    one true false false = refl
    one false y true = refl
    one false y false = refl

pub hold_rows : (a b : List ℕ) → other_hold a b ≡ (same_teid a b && (has_tag ie.create_endpoint a || (has_tag ie.create_endpoint b || not (alike_rows a b))))
unfolding other_hold holds_apart agree share_tests alike_rows alike_fteids
hold_rows a b = rw (same_row a b) (one (is_some (row_holding a)) (is_some (row_holding b)) refl refl)
  where
    tail : (b : Bool) → not (b && true) ≡ not b
    tail true = refl
    tail false = refl

    last : (e p q x y : Bool) (m n : ℕ) → not (not e || (not p && (not q && (x && (y && (eqb (pick p 0 m) (pick q 0 n) && true)))))) ≡ ((e && true) && (p || (q || not ((x && y) && eqb m n))))
    last true true q x y m n = refl
    last true false true x y m n = refl
    last true false false true true m n = tail (eqb m n)
    last true false false true false m n = refl
    last true false false false y m n = refl
    last false p q x y m n = refl

    and_none : (e t : Bool) → false ≡ ((e && false) && t)
    and_none true t = refl
    and_none false t = refl

    no_hold : (o : Option Holding) → is_some o ≡ false → o ≡ none
    no_hold none h = refl
    no_hold (some k) h = absurd (false≢true (sym h))

    one : (x y : Bool) → is_some (row_holding a) ≡ x → is_some (row_holding b) ≡ y
        → holds_apart (row_holding a) (row_holding b) ≡ ((eqb (word its.teid a) (word its.teid b) && (x && y)) && (has_tag ie.create_endpoint a || (has_tag ie.create_endpoint b || not (alike_rows a b))))
    one true true h g =
        rw (hold_known a h, hold_known b g, v4_row a, v4_row b, v6_row a, v6_row b)
        (last (eqb (word its.teid a) (word its.teid b)) (has_tag ie.create_endpoint a) (has_tag ie.create_endpoint b) (same_bool (bit 0 (word its.flags a)) (bit 0 (word its.flags b))) (same_bool (bit 1 (word its.flags a)) (bit 1 (word its.flags b))) (word its.source a) (word its.source b))
    one true false h g = rw (no_hold (row_holding b) g, hold_known a h) (and_none (eqb (word its.teid a) (word its.teid b)) _)
    one false y h g = rw (no_hold (row_holding a) h) (and_none (eqb (word its.teid a) (word its.teid b)) _)

-- ---- IDs

-- a row has one type
pub tags_apart : (t u : ℕ) (row : List ℕ) → (t ≡ u → ⊥) → has_tag t row ≡ true → has_tag u row ≡ false
tags_apart t u row h e = tag_no row u (λ f. h (sym (tag_is t row e) ∙ f))

-- ---- a CHOOSE ID is there where a CHOOSE has the bit

pub id_row : (row : List ℕ) → is_some (row_choose_id row) ≡ (is_some (row_choice row) && bit 3 (word its.flags row))
id_row row = rw (choose_id_row row, chooses_some row) (one ((has_fteid row && bit 2 (word its.flags row)) && bit 3 (word its.flags row)))
  where
    one : (b : Bool) → is_some (pick b (some (word its.choose_id row)) none) ≡ b
    one true = refl
    one false = refl

-- each rule, as code asks it
pub ruleset pair_rules = (alike_row, shares_row, id_row, choice_rows, same_row, hold_rows)
