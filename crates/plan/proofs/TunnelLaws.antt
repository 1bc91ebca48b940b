-- The rules on one row's F-TEID, by the tests that code makes. Assumes nothing.
use Rattle.std.specs.Prelude.{Option, Some, None}
use Rattle.std.specs.Option.{is_none}
use mathlib.Core.Path.{◌≡◌, refl, sym, ap, ap₂, ◌∙◌}
use mathlib.Core.Bool.{Bool, true, false, not, ◌&&◌, ◌||◌, false≢true}
use mathlib.Core.Option.{none, some}
use mathlib.Core.List.{List, [], ◌++◌}
use Prim.Native.Nat.{ℕ, ◌%◌, ◌^◌, ◌<◌}
use native.Mathlib.Nat.{mod-eq_of_lt}
use lib.Dec.{eqb}
use Rattle.octets.specs.Choice.{pick, is_some, is_nil, same_bool}
use Rattle.octets.specs.Octets.{be, bit, same_octets}
use Rattle.octets.proofs.Numbers.{length_be, same_append}
use Rattle.rules.specs.Model.{Settings}
use Rattle.rules.specs.Sound.{in_pool, unit_families}
use Rattle.rules.specs.Stages.{allocation_wrong, lacks_family, strange, other_address}
use Rattle.plan.specs.Rows.{word, row_fteid}
use Rattle.plan.specs.Words as its
use Rattle.unit.specs.declared.Settings.{Settings as Unit}
use Rattle.unit.specs.declared.Ipv6.{Ipv6}
use Rattle.unit.specs.Meaning.{ipv6_octets, settings_of}
use Rattle.plan.specs.RowRules.{has_fteid, of_fteid, row_holding, row_ipv4, row_ipv6, restores}
use Rattle.plan.proofs.AddressLaws.{other_none, other_four, same_be}
use Rattle.plan.proofs.FteidLaws.{chooses_row, v6_row, given_row, row_is, fteid_by, hold_of, holding_row, restores_row, chooses_some}
use Rattle.plan.proofs.RowTests.{of_none, of_some, bit_zero}

-- cause 71
pub wrong_row : (restoring : Bool) (row : List ℕ) → of_fteid (allocation_wrong restoring) row ≡ (has_fteid row && same_bool (bit 2 (word its.flags row)) restoring)
unfolding of_fteid allocation_wrong
wrong_row restoring row = rw (chooses_row row)

-- a family that the unit lacks
no_six : (u : Unit) → is_nil (settings_of u).ipv6 ≡ is_none u.ipv6
unfolding settings_of be
no_six u = one u.ipv6
  where
    one : (a : Option Ipv6) → is_nil (ipv6_octets a) ≡ is_none a
    one None = refl
    one (Some a) = refl

pub lacks_row : (u : Unit) (row : List ℕ) → of_fteid (lacks_family (settings_of u)) row ≡ (is_none u.ipv6 && (has_fteid row && bit 1 (word its.flags row)))
unfolding of_fteid lacks_family unit_families
lacks_row u row = rw (v6_row row, no_six u) (one (is_none u.ipv6) (has_fteid row) (bit 1 (word its.flags row)))
  where
    one : (a b c : Bool) → (b && not (not c || not a)) ≡ (a && (b && c))
    one true true true = refl
    one true true false = refl
    one true false c = refl
    one false true true = refl
    one false true false = refl
    one false false c = refl

-- addresses
four_none : (u : Unit) (row : List ℕ) → bit 0 (word its.flags row) ≡ false → other_address (settings_of u).ipv4 (row_ipv4 row) ≡ false
four_none u row h = other_none (settings_of u).ipv4 (row_ipv4 row) (unfold row_ipv4 in (rw h))

four_some : (u : Unit) (row : List ℕ) → bit 0 (word its.flags row) ≡ true → other_address (settings_of u).ipv4 (row_ipv4 row) ≡ not (eqb (word its.ipv4 row % 4294967296) (u.ipv4 % 4294967296))
unfolding row_ipv4 settings_of
four_some u row h = rw h (other_four u.ipv4 (word its.ipv4 row))

six_none : (u : Unit) (row : List ℕ) → bit 1 (word its.flags row) ≡ false → other_address (settings_of u).ipv6 (row_ipv6 row) ≡ false
six_none u row h = other_none (settings_of u).ipv6 (row_ipv6 row) (unfold row_ipv6 in (rw h))

same_six : (h l a b : ℕ) → h < 2 ^ 64 → l < 2 ^ 64 → a < 2 ^ 64 → b < 2 ^ 64 → same_octets (be 8 h ++ be 8 l) (be 8 a ++ be 8 b) ≡ (eqb h a && eqb l b)
same_six h l a b p q r s =
    same_append (be 8 h) (be 8 l) (be 8 a) (be 8 b) (length_be 8 h ∙ sym (length_be 8 a))
    ∙ ap₂ ◌&&◌
    (same_be 8 h a ∙ ap₂ eqb (mod-eq_of_lt p) (mod-eq_of_lt r))
    (same_be 8 l b ∙ ap₂ eqb (mod-eq_of_lt q) (mod-eq_of_lt s))

filled : (x y : ℕ) → is_nil (be 8 x ++ be 8 y) ≡ false
unfolding be
filled x y = refl

six_lacking : (row : List ℕ) → bit 1 (word its.flags row) ≡ true → other_address [] (row_ipv6 row) ≡ true
unfolding row_ipv6 other_address be same_octets
six_lacking row h = rw h

-- whether the unit's address is this one
abbrev pub is_ipv6 : ℕ → ℕ → Option Ipv6 → Bool
is_ipv6 h l None = false
is_ipv6 h l (Some a) = eqb h a.high && eqb l a.low

abbrev pub Wide : Option Ipv6 → Type 0
Wide None = Prim.Unit {0}
Wide (Some a) = (a.high < 2 ^ 64) × (a.low < 2 ^ 64)

six_some : (a : Option Ipv6) (row : List ℕ) → bit 1 (word its.flags row) ≡ true
    → word its.ipv6_high row < 2 ^ 64 → word its.ipv6_low row < 2 ^ 64 → Wide a
    → other_address (ipv6_octets a) (row_ipv6 row) ≡ not (is_ipv6 (word its.ipv6_high row) (word its.ipv6_low row) a)
unfolding row_ipv6 other_address
six_some None row h p q w = six_lacking row h
six_some (Some a) row h p q w =
    rw (h, same_six (word its.ipv6_high row) (word its.ipv6_low row) a.high a.low p q w.0 w.1, filled (word its.ipv6_high row) (word its.ipv6_low row))

pub four_row : (u : Unit) (row : List ℕ) → other_address (settings_of u).ipv4 (row_ipv4 row) ≡ (eqb (word its.flags row % 2) 1 && not (eqb (word its.ipv4 row % 4294967296) (u.ipv4 % 4294967296)))
four_row u row = rw (← bit_zero (word its.flags row)) (one (bit 0 (word its.flags row)) refl)
  where
    one : (b : Bool) → bit 0 (word its.flags row) ≡ b → other_address (settings_of u).ipv4 (row_ipv4 row) ≡ (b && not (eqb (word its.ipv4 row % 4294967296) (u.ipv4 % 4294967296)))
    one true e = four_some u row e
    one false e = four_none u row e

pub six_row : (u : Unit) (row : List ℕ) → word its.ipv6_high row < 2 ^ 64 → word its.ipv6_low row < 2 ^ 64 → Wide u.ipv6
    → other_address (settings_of u).ipv6 (row_ipv6 row) ≡ (bit 1 (word its.flags row) && not (is_ipv6 (word its.ipv6_high row) (word its.ipv6_low row) u.ipv6))
unfolding settings_of
six_row u row p q w = one (bit 1 (word its.flags row)) refl
  where
    one : (b : Bool) → bit 1 (word its.flags row) ≡ b
        → other_address (ipv6_octets u.ipv6) (row_ipv6 row) ≡ (b && not (is_ipv6 (word its.ipv6_high row) (word its.ipv6_low row) u.ipv6))
    one true e = six_some u.ipv6 row e p q w
    one false e = six_none u row e

-- restored F-TEIDs
restored_parts : (row : List ℕ) → is_some (row_holding row) ≡ true → (has_fteid row ≡ true) × (bit 2 (word its.flags row) ≡ false)
restored_parts row h = one (has_fteid row) (bit 2 (word its.flags row)) (sym (restores_row row) ∙ h)
  where
    one : (a b : Bool) → (a && not b) ≡ true → (a ≡ true) × (b ≡ false)
    one true true e = (refl, sym e)
    one true false e = (refl, refl)
    one false b e = (e, absurd (false≢true e))

pub strange_some : (s : Settings) (row : List ℕ) → is_some (row_holding row) ≡ true
    → of_fteid (strange s) row ≡ ((not (in_pool s (word its.teid row)) || other_address s.ipv4 (row_ipv4 row)) || other_address s.ipv6 (row_ipv6 row))
unfolding strange
strange_some s row h =
    let k = restored_parts row h in
    of_some (strange s) row k.0 ∙ ap (strange s) (given_row row k.1)

strange_chosen : (s : Settings) (row : List ℕ) → bit 2 (word its.flags row) ≡ true → strange s (row_fteid row) ≡ false
unfolding strange fteid_by
strange_chosen s row h = rw (row_is row, h)

strange_none : (s : Settings) (row : List ℕ) → is_some (row_holding row) ≡ false → of_fteid (strange s) row ≡ false
strange_none s row h = one (has_fteid row) (bit 2 (word its.flags row)) refl refl (sym (restores_row row) ∙ h)
  where
    one : (a b : Bool) → has_fteid row ≡ a → bit 2 (word its.flags row) ≡ b → (a && not b) ≡ false → of_fteid (strange s) row ≡ false
    one true true e g k = of_some (strange s) row e ∙ strange_chosen s row g
    one true false e g k = absurd (false≢true (sym k))
    one false b e g k = of_none (strange s) row e

pub strange_row : (s : Settings) (row : List ℕ)
    → of_fteid (strange s) row ≡ (is_some (row_holding row) && ((not (in_pool s (word its.teid row)) || other_address s.ipv4 (row_ipv4 row)) || other_address s.ipv6 (row_ipv6 row)))
strange_row s row = one (is_some (row_holding row)) refl
  where
    one : (b : Bool) → is_some (row_holding row) ≡ b → of_fteid (strange s) row ≡ (b && ((not (in_pool s (word its.teid row)) || other_address s.ipv4 (row_ipv4 row)) || other_address s.ipv6 (row_ipv6 row)))
    one true e = strange_some s row e
    one false e = strange_none s row e

pub held_row : (held : ℕ → Bool) (row : List ℕ) → restores held (row_holding row) ≡ (is_some (row_holding row) && held (word its.teid row))
unfolding restores
held_row held row = rw (holding_row row) (one (has_fteid row && not (bit 2 (word its.flags row))))
  where
    one : (b : Bool) → restores held (pick b (some (hold_of row)) none) ≡ (is_some (pick b (some (hold_of row)) none) && held (word its.teid row))
    one true = refl
    one false = refl

-- each rule, as code asks it
pub ruleset fteid_rules = (chooses_some, restores_row, wrong_row, lacks_row, four_row, six_row, strange_row, held_row)
