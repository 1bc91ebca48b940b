-- The tests that code makes on a row's words, as the definitions have them. Assumes nothing.
use mathlib.Core.Path.{◌≡◌, ap, ◌∙◌}
use mathlib.Core.Bool.{Bool, true, false, ◌&&◌, ◌||◌}
use mathlib.Core.List.{List, [], ◌∷◌}
use Prim.Native.Nat.{ℕ, ◌/◌, ◌%◌, ◌^◌}
use native.Mathlib.Omega.{arith}
use lib.Dec.{eqb}
use borrow.Author.Tests.{ne_eqb}
use Rattle.octets.specs.Choice.{pick}
use Rattle.octets.specs.Lists.{member, any}
use Rattle.octets.proofs.RowLaws.{column_nil, column_cons}
use Rattle.octets.proofs.Questions.{member_nil, member_cons}
use Rattle.octets.specs.Octets.{bit}
use Rattle.octets.specs.Rows.{has_tag, column}
use Rattle.rules.specs.Elements.{Fteid}
use Rattle.plan.specs.Rows.{word, row_fteid}
use Rattle.plan.specs.Words as its
use Rattle.plan.specs.RowRules.{has_fteid, of_fteid}

-- ---- tags

pub tag_no : (row : List ℕ) (t : ℕ) → (word its.tag row ≡ t → ⊥) → has_tag t row ≡ false
unfolding has_tag
tag_no row t h = ne_eqb (word its.tag row) t h

-- ---- F-TEIDs

pub of_none : (p : Fteid → Bool) (row : List ℕ) → has_fteid row ≡ false → of_fteid p row ≡ false
unfolding of_fteid
of_none p row h = rw h

pub of_some : (p : Fteid → Bool) (row : List ℕ) → has_fteid row ≡ true → of_fteid p row ≡ p (row_fteid row)
unfolding of_fteid
of_some p row h = rw h

-- ---- bits

pub bit_zero : (n : ℕ) → bit 0 n ≡ eqb (n % 2) 1
unfolding bit
bit_zero n = let e : n / (2 ^ 0) % 2 ≡ n % 2 = omega arith in ap (λ (k : ℕ). eqb k 1) e

-- ---- words gathered

-- the row has the tag, and the number at the place
abbrev pub is_named : ℕ → ℕ → ℕ → List ℕ → Bool
is_named tag field x row = has_tag tag row && eqb x (word field row)

pub member_column : (tag field x : ℕ) (rows : List (List ℕ)) → member x (column tag field rows) ≡ any (is_named tag field x) rows
unfolding any has_tag
member_column tag field x [] = rw (column_nil tag field) (member_nil x)
member_column tag field x (row ∷ rows) = rw (column_cons tag field row rows) (one (eqb (word its.tag row) tag) (member_column tag field x rows))
  where
    one : (b : Bool) → member x (column tag field rows) ≡ any (is_named tag field x) rows
        → member x (pick b (word field row ∷ column tag field rows) (column tag field rows)) ≡ (b && eqb x (word field row) || any (is_named tag field x) rows)
    one true e = member_cons x (word field row) (column tag field rows) ∙ ap (λ (t : Bool). eqb x (word field row) || t) e
    one false e = e
