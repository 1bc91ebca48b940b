-- How many TEIDs the rows need, those that they name with those that they choose: counted at the last row of each, whatever the rows' order (02 (xiv)).
-- Assumes nothing.
use mathlib.Core.Path.{◌≡◌, refl, sym, ap, ap₂, ◌∙◌}
use mathlib.Core.Bool.{Bool, true, false, not, ◌&&◌, ◌||◌}
use mathlib.Core.Option.{Option, none, some}
use mathlib.Core.List.{List, [], ◌∷◌, ◌++◌, map}
use Prim.Native.Nat.{ℕ, ◌+◌}
use native.Mathlib.Nat.{zero-add}
use native.Mathlib.Omega.{arith}
use lib.Dec.{eqb}
use borrow.Author.Tests.{eqb-true}
use lib.ListN.{length}
use Rattle.octets.specs.Choice.{pick, flag, is_some, cons_option}
use Rattle.octets.specs.Octets.{bit}
use Rattle.octets.specs.Lists.{member, any, keep, collect, distinct}
use Rattle.octets.specs.Rows.{has_tag}
use Rattle.octets.proofs.ListLaws.{collect_map}
use Rattle.octets.proofs.Bools.{eqb_turn}
use Rattle.rules.specs.Model.{Holding, teid_of}
use Rattle.rules.specs.Stages.{endpoint_restored, pdr_restored, restored_holdings, needed}
use Rattle.rules.specs.Types as ie
use Rattle.plan.specs.Rows.{word, tagged, row_pdr, row_endpoint, request_in}
use Rattle.plan.specs.Words as its
use Rattle.plan.specs.RowRules.{on_some, has_fteid, row_holding, row_choice, shares_choice, restores, same_teid, counted}
use Rattle.plan.proofs.ListLaws.{any_ext, any_collect}
use Rattle.plan.proofs.FteidLaws.{restores_row, chooses_some}
use Rattle.plan.proofs.MergeLaws.{Merge, empty, left, right, any_middle, any_merge, merged}
use Rattle.plan.proofs.PairLaws.{tags_apart}
use Rattle.plan.proofs.NeedLaws.{need_rows, need_rows_lem}

-- ---- holds

abbrev again : ℕ → List Holding → Bool
again t hs = any (λ k. eqb t (teid_of k)) hs

-- counted at the last hold on each TEID
unfoldable last_holds : List Holding → ℕ
last_holds [] = 0
last_holds (h ∷ hs) = flag (not (again (teid_of h) hs)) + last_holds hs

member_holds : (t : ℕ) (hs : List Holding) → member t (map teid_of hs) ≡ again t hs
unfolding member any
member_holds t [] = refl
member_holds t (h ∷ hs) = ap (λ (b : Bool). eqb t (teid_of h) || b) (member_holds t hs)

holds_last : (hs : List Holding) → distinct (map teid_of hs) ≡ last_holds hs
unfolding distinct last_holds
holds_last [] = refl
holds_last (h ∷ hs) = ap₂ (λ (b : Bool) (n : ℕ). flag (not b) + n) (member_holds (teid_of h) hs) (holds_last hs)

swapped : (s a b : Bool) (n : ℕ) → (s ≡ true → a ≡ b) → flag (not (s || a)) + (flag (not b) + n) ≡ flag (not (s || b)) + (flag (not a) + n)
swapped true a b n h = rw (h refl)
swapped false a b n h = omega arith

holds_middle : (xs : List Holding) (y : Holding) (ys : List Holding) → last_holds (xs ++ (y ∷ ys)) ≡ flag (not (again (teid_of y) (xs ++ ys))) + last_holds (xs ++ ys)
unfolding last_holds any
holds_middle [] y ys = refl
holds_middle (x ∷ xs) y ys =
    rw (any_middle (λ d. eqb (teid_of x) (teid_of d)) xs y ys, holds_middle xs y ys, eqb_turn (teid_of x) (teid_of y))
    (swapped (eqb (teid_of y) (teid_of x)) (again (teid_of x) (xs ++ ys)) (again (teid_of y) (xs ++ ys)) (last_holds (xs ++ ys))
    (λ e. ap (λ (k : ℕ). again k (xs ++ ys)) (sym (eqb-true (teid_of y) (teid_of x) e))))

holds_merge : {xs ys zs : List Holding} → Merge xs ys zs → last_holds (xs ++ ys) ≡ last_holds zs
unfolding last_holds
holds_merge empty = refl
holds_merge (left {x} m) = ap₂ (λ (b : Bool) (n : ℕ). flag (not b) + n) (any_merge (λ d. eqb (teid_of x) (teid_of d)) m) (holds_merge m)
holds_merge {xs} (right {y} {ys = ys} m) = holds_middle xs y ys ∙ ap₂ (λ (b : Bool) (n : ℕ). flag (not b) + n) (any_merge (λ d. eqb (teid_of y) (teid_of d)) m) (holds_merge m)

-- ---- rows

unfoldable named_rows : List (List ℕ) → ℕ
named_rows [] = 0
named_rows (row ∷ rows) = flag (is_some (row_holding row) && not (any (same_teid row) rows)) + named_rows rows

hold_rows : (rows : List (List ℕ)) → last_holds (collect row_holding rows) ≡ named_rows rows
unfolding last_holds named_rows collect on_some restores
hold_rows [] = refl
hold_rows (row ∷ rows) = one (row_holding row) refl (hold_rows rows)
  where
    here : (h : Holding) → row_holding row ≡ some h → (b : List ℕ) → on_some (λ k. eqb (teid_of h) (teid_of k)) (row_holding b) ≡ same_teid row b
    here h e b = unfold same_teid in (rw e (two (row_holding b)))
      where
        two : (o : Option Holding) → on_some (λ k. eqb (teid_of h) (teid_of k)) o ≡ restores (λ u. eqb h.teid u) o
        two none = refl
        two (some k) = refl

    one : (o : Option Holding) → row_holding row ≡ o → last_holds (collect row_holding rows) ≡ named_rows rows
        → last_holds (cons_option o (collect row_holding rows)) ≡ flag (is_some o && not (any (same_teid row) rows)) + named_rows rows
    one none e ih = ih ∙ sym (zero-add (named_rows rows))
    one (some h) e ih =
        ap₂ (λ (b : Bool) (n : ℕ). flag (not b) + n)
        (any_collect (λ k. eqb (teid_of h) (teid_of k)) row_holding rows ∙ any_ext (λ b. on_some (λ k. eqb (teid_of h) (teid_of k)) (row_holding b)) (same_teid row) (here h e) rows)
        ih

named_rows_lem : (seid : ℕ) (restoring noted : Bool) (rows : List (List ℕ)) → distinct (map teid_of (restored_holdings (request_in seid restoring noted rows))) ≡ named_rows rows
unfolding restored_holdings request_in tagged row_holding
named_rows_lem seid restoring noted rows =
    holds_last (collect endpoint_restored (map row_endpoint (keep (has_tag ie.create_endpoint) rows)) ++ collect pdr_restored (map row_pdr (keep (has_tag ie.create_pdr) rows)))
    ∙ ap₂ (λ (a b : List Holding). last_holds (a ++ b)) (collect_map row_endpoint endpoint_restored (keep (has_tag ie.create_endpoint) rows)) (collect_map row_pdr pdr_restored (keep (has_tag ie.create_pdr) rows))
    ∙ holds_merge (merged (has_tag ie.create_endpoint) (has_tag ie.create_pdr) (λ row. tags_apart ie.create_endpoint 1 row (λ e. omega arith)) (λ row. endpoint_restored (row_endpoint row)) (λ row. pdr_restored (row_pdr row)) rows)
    ∙ hold_rows rows

-- a row that chooses names no TEID
chooses_or_names : (row : List ℕ) → is_some (row_choice row) ≡ true → is_some (row_holding row) ≡ false
chooses_or_names row e = restores_row row ∙ one (has_fteid row) (bit 2 (word its.flags row)) (sym (chooses_some row) ∙ e)
  where
    one : (a b : Bool) → (a && b) ≡ true → (a && not b) ≡ false
    one true true h = refl
    one true false h = absurd (let z : ◌≡◌ {A = ℕ} 0 1 = cc in omega arith)
    one false b h = refl

unfoldable pub needed_rows : List (List ℕ) → ℕ
needed_rows [] = 0
needed_rows (row ∷ rows) = flag (counted row rows) + needed_rows rows

together : (rows : List (List ℕ)) → need_rows rows + named_rows rows ≡ needed_rows rows
unfolding need_rows named_rows needed_rows counted
together [] = refl
together (row ∷ rows) =
    one (is_some (row_choice row)) (is_some (row_holding row)) (any (shares_choice row) rows) (any (same_teid row) rows) (need_rows rows) (named_rows rows) (needed_rows rows) (chooses_or_names row) (together rows)
  where
    one : (c h a b : Bool) (x y z : ℕ) → (c ≡ true → h ≡ false) → x + y ≡ z → flag (c && not a) + x + (flag (h && not b) + y) ≡ flag (pick c (not a) (h && not b)) + z
    one true h a b x y z g e = rw (g refl) (omega arith)
    one false h a b x y z g e = omega arith

pub needed_rows_lem : (seid : ℕ) (restoring noted : Bool) (rows : List (List ℕ)) → needed (request_in seid restoring noted rows) ≡ needed_rows rows
unfolding needed
needed_rows_lem seid restoring noted rows = ap₂ ◌+◌ (need_rows_lem seid restoring noted rows) (named_rows_lem seid restoring noted rows) ∙ together rows

pub needed_none : (rows : List (List ℕ)) → length rows ≡ 0 → needed_rows rows ≡ 0
unfolding needed_rows
needed_none [] h = refl
needed_none (row ∷ rows) h = absurd (omega arith)
