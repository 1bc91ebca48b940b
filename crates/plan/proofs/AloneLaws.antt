-- A row that shares nothing with others: only its ID can disagree with theirs, and no other row has its CHOOSE ID.
-- Assumes nothing.
use mathlib.Core.Path.{◌≡◌, refl, sym}
use mathlib.Core.Bool.{Bool, true, false, not, ◌&&◌, ◌||◌, false≢true, or-false, and-false}
use mathlib.Core.List.{List, [], ◌∷◌}
use Prim.Native.Nat.{ℕ}
use Rattle.octets.specs.Choice.{is_some}
use Rattle.octets.specs.Lists.{any}
use Rattle.plan.specs.RowRules.{row_choose_id, row_holding, same_id, disagree, shares_choice}
use Rattle.plan.proofs.PairLaws.{shares_row, choice_rows, same_row, hold_rows}

any_as : (p q : List ℕ → Bool) → ((b : List ℕ) → p b ≡ q b) → (rows : List (List ℕ)) → any p rows ≡ any q rows
unfolding any
any_as p q e [] = refl
any_as p q e (b ∷ rows) = λ i. e b i || any_as p q e rows i

any_no : (p : List ℕ → Bool) → ((b : List ℕ) → p b ≡ false) → (rows : List (List ℕ)) → any p rows ≡ false
unfolding any
any_no p e [] = refl
any_no p e (b ∷ rows) = λ i. e b i || any_no p e rows i

pub unshared : (a : List ℕ) (rows : List (List ℕ)) → is_some (row_choose_id a) ≡ false → any (shares_choice a) rows ≡ false
unshared a rows h = any_no (shares_choice a) (λ b. rw (shares_row a b, h)) rows

pub alone : (a : List ℕ) (rows : List (List ℕ)) → (not (is_some (row_choose_id a)) && not (is_some (row_holding a))) ≡ true → any (same_id a) rows ≡ any (disagree a) rows
unfolding disagree
alone a rows h = any_as (same_id a) (disagree a) (λ b. one b (is_some (row_choose_id a)) (is_some (row_holding a)) refl refl h) rows
  where
    one : (b : List ℕ) (c d : Bool) → is_some (row_choose_id a) ≡ c → is_some (row_holding a) ≡ d → (not c && not d) ≡ true → same_id a b ≡ disagree a b
    one b true d ec ed g = absurd (false≢true g)
    one b false true ec ed g = absurd (false≢true g)
    one b false false ec ed g =
        sym (rw (choice_rows a b, shares_row a b, hold_rows a b, same_row a b, ec, ed, and-false, and-false, and-false) (or-false (same_id a b)))
