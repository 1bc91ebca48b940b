-- The rules on one row's IDs, by the tests that code makes. Assumes nothing.
use mathlib.Core.Path.{◌≡◌, refl, ap, ◌∙◌}
use mathlib.Core.Bool.{Bool, true, false, not, ◌&&◌, ◌||◌, and-false}
use mathlib.Core.Option.{none, some}
use mathlib.Core.List.{List, [], ◌∷◌, ◌++◌}
use Prim.Native.Nat.{ℕ}
use lib.Dec.{eqb}
use borrow.Author.Tests.{eqb-true}
use Rattle.octets.specs.Choice.{pick, is_some}
use Rattle.octets.specs.Lists.{member, without}
use Rattle.octets.specs.Rows.{has_tag, column}
use Rattle.rules.specs.Stages.{names_both}
use Rattle.plan.specs.Rows.{word, present, row_fteid, row_local, row_pdr}
use Rattle.stages.specs.RowRules.{pdi_names_both, absent_from, pdi_names_absent}
use Rattle.rules.specs.Types as ie
use Rattle.plan.specs.Words as its
use Rattle.octets.proofs.Questions.{member_append}

-- ---- F-TEID and endpoint ID

pub both_row : (row : List ℕ) → pdi_names_both row ≡ (has_tag ie.create_pdr row && (eqb (word its.has_endpoint_id row) 1 && not (eqb (word its.flags row) 0)))
unfolding pdi_names_both names_both row_pdr present row_local
both_row row = ap (λ (b : Bool). has_tag ie.create_pdr row && b) (one (eqb (word its.has_endpoint_id row) 1) (eqb (word its.flags row) 0))
  where
    one : (h z : Bool) → (is_some (pick z none (some (row_fteid row))) && is_some (pick h (some (word its.endpoint_id row)) none)) ≡ (h && not z)
    one true true = refl
    one true false = refl
    one false true = refl
    one false false = refl

-- ---- endpoints there afterwards

member_without : (e : ℕ) (xs ys : List ℕ) → member e (without xs ys) ≡ (member e xs && not (member e ys))
unfolding member without
member_without e [] ys = refl
member_without e (x ∷ xs) ys = one (member x ys) (eqb e x) refl refl (member_without e xs ys)
  where
    one : (b t : Bool) → member x ys ≡ b → eqb e x ≡ t → member e (without xs ys) ≡ (member e xs && not (member e ys))
        → member e (pick b (without xs ys) (x ∷ without xs ys)) ≡ ((t || member e xs) && not (member e ys))
    one true true p q h =
        let there : member e ys ≡ true = ap (λ (k : ℕ). member k ys) (eqb-true e x q) ∙ p in
        h ∙ rw there (and-false (member e xs))
    one true false p q h = h
    one false true p q h =
        let there : member e ys ≡ false = ap (λ (k : ℕ). member k ys) (eqb-true e x q) ∙ p in
        rw (q, there)
    one false false p q h = rw q h

pub absent_row : (endpoints : List ℕ) (rows : List (List ℕ)) (row : List ℕ)
    → pdi_names_absent endpoints rows row
    ≡ (has_tag ie.create_pdr row
    && (eqb (word its.has_endpoint_id row) 1
    && (not (member (word its.endpoint_id row) (column ie.create_endpoint its.endpoint_id rows)) && (member (word its.endpoint_id row) (column ie.remove_endpoint its.endpoint_id rows) || not (member (word its.endpoint_id row) endpoints)))))
unfolding pdi_names_absent absent_from row_pdr present
absent_row endpoints rows row = ap (λ (b : Bool). has_tag ie.create_pdr row && b) (one (eqb (word its.has_endpoint_id row) 1))
  where
    last : (a b c : Bool) → not ((a && not b) || c) ≡ (not c && (b || not a))
    last true true true = refl
    last true true false = refl
    last true false true = refl
    last true false false = refl
    last false true true = refl
    last false true false = refl
    last false false true = refl
    last false false false = refl

    one : (h : Bool)
        → absent_from (without endpoints (column ie.remove_endpoint its.endpoint_id rows) ++ column ie.create_endpoint its.endpoint_id rows) (pick h (some (word its.endpoint_id row)) none)
        ≡ (h && (not (member (word its.endpoint_id row) (column ie.create_endpoint its.endpoint_id rows)) && (member (word its.endpoint_id row) (column ie.remove_endpoint its.endpoint_id rows) || not (member (word its.endpoint_id row) endpoints))))
    one true =
        rw (member_append (word its.endpoint_id row) (without endpoints (column ie.remove_endpoint its.endpoint_id rows)) (column ie.create_endpoint its.endpoint_id rows), member_without (word its.endpoint_id row) endpoints (column ie.remove_endpoint its.endpoint_id rows))
        (last (member (word its.endpoint_id row) endpoints) (member (word its.endpoint_id row) (column ie.remove_endpoint its.endpoint_id rows)) (member (word its.endpoint_id row) (column ie.create_endpoint its.endpoint_id rows)))
    one false = refl
