-- How many TEIDs the rows need: counted at the last CHOOSE of each CHOOSE ID, whatever the rows' order. Assumes nothing.
use mathlib.Core.Path.{◌≡◌, refl, sym, ap, ap₂, ◌∙◌}
use mathlib.Core.Bool.{Bool, true, false, not, ◌&&◌, ◌||◌, false≢true}
use mathlib.Core.Option.{Option, none, some}
use mathlib.Core.List.{List, [], ◌∷◌, ◌++◌, map}
use Prim.Native.Nat.{ℕ, ◌+◌}
use native.Mathlib.Nat.{zero-add}
use native.Mathlib.Omega.{arith}
use lib.ListN.{length}
use lib.Dec.{eqb}
use borrow.Author.Tests.{eqb-true}
use Rattle.octets.specs.Choice.{pick, flag, is_some, bind_option, cons_option}
use Rattle.octets.specs.Lists.{member, distinct, any, keep, collect}
use Rattle.octets.specs.Rows.{has_tag}
use Rattle.octets.proofs.ListLaws.{collect_map}
use Rattle.rules.specs.Stages.{same_choice}
use Rattle.rules.specs.Grants.{Choice, choices, choice_id, is_alone, need_of, need, endpoint_choice, pdr_choice}
use Rattle.plan.specs.Rows.{tagged, row_pdr, row_endpoint, request_in}
use Rattle.rules.specs.Types as ie
use Rattle.plan.specs.RowRules.{on_some, row_choice, row_choose_id, shares_choice}
use Rattle.plan.proofs.ListLaws.{any_ext, any_collect}
use Rattle.plan.proofs.MergeLaws.{Merge, empty, left, right, any_middle, any_merge, merged}
use Rattle.plan.proofs.PairLaws.{same_none, tags_apart}
use Rattle.octets.proofs.Bools.{eqb_turn}

-- a later CHOOSE has the CHOOSE ID
abbrev shared : Option ℕ → List Choice → Bool
shared o cs = any (λ d. same_choice o (choice_id d)) cs

-- counted at the last CHOOSE of each ID
unfoldable need_last : List Choice → ℕ
need_last [] = 0
need_last (c ∷ cs) = flag (not (shared (choice_id c) cs)) + need_last cs

never : (cs : List Choice) → shared none cs ≡ false
unfolding any same_choice
never [] = refl
never (c ∷ cs) = never cs

-- a later CHOOSE has the ID where it is among the later IDs
later_shared : (i : ℕ) (cs : List Choice) → member i (collect choice_id cs) ≡ shared (some i) cs
unfolding member collect any same_choice
later_shared i [] = refl
later_shared i (c ∷ cs) = one c.choose_id (later_shared i cs)
  where
    one : (o : Option ℕ) → member i (collect choice_id cs) ≡ shared (some i) cs → member i (cons_option o (collect choice_id cs)) ≡ (same_choice (some i) o || shared (some i) cs)
    one none ih = ih
    one (some j) ih = ap (λ (b : Bool). eqb i j || b) ih

need_last_lem : (cs : List Choice) → need_of cs ≡ need_last cs
unfolding need_of need_last keep is_alone distinct collect
need_last_lem [] = refl
need_last_lem (c ∷ cs) = one c.choose_id (need_last_lem cs)
  where
    one : (o : Option ℕ) → length (keep is_alone cs) + distinct (collect choice_id cs) ≡ need_last cs
        → length (pick (not (is_some o)) (c ∷ keep is_alone cs) (keep is_alone cs)) + distinct (cons_option o (collect choice_id cs)) ≡ flag (not (shared o cs)) + need_last cs
    one none ih = rw (never cs) (omega (arith, ih))
    one (some i) ih = rw (← later_shared i cs) (omega (arith, ih))

-- ---- any order

same_sym : (o p : Option ℕ) → same_choice o p ≡ same_choice p o
unfolding same_choice
same_sym none none = refl
same_sym none (some j) = refl
same_sym (some i) none = refl
same_sym (some i) (some j) = eqb_turn i j

-- equal IDs are shared alike
same_shared : (o p : Option ℕ) (cs : List Choice) → same_choice o p ≡ true → shared o cs ≡ shared p cs
unfolding same_choice
same_shared none p cs h = absurd (false≢true h)
same_shared (some i) none cs h = absurd (false≢true h)
same_shared (some i) (some j) cs h = ap (λ (k : ℕ). shared (some k) cs) (eqb-true i j h)

middle : (xs : List Choice) (y : Choice) (ys : List Choice) → need_last (xs ++ (y ∷ ys)) ≡ flag (not (shared (choice_id y) (xs ++ ys))) + need_last (xs ++ ys)
unfolding need_last any
middle [] y ys = refl
middle (x ∷ xs) y ys =
    rw (any_middle (λ d. same_choice (choice_id x) (choice_id d)) xs y ys, middle xs y ys, same_sym (choice_id x) (choice_id y))
    (one (same_choice (choice_id y) (choice_id x)) (shared (choice_id x) (xs ++ ys)) (shared (choice_id y) (xs ++ ys)) (need_last (xs ++ ys)) (λ e. sym (same_shared (choice_id y) (choice_id x) (xs ++ ys) e)))
  where
    one : (s a b : Bool) (n : ℕ) → (s ≡ true → a ≡ b) → flag (not (s || a)) + (flag (not b) + n) ≡ flag (not (s || b)) + (flag (not a) + n)
    one true a b n h = rw (h refl)
    one false a b n h = omega arith

need_merge : {xs ys zs : List Choice} → Merge xs ys zs → need_last (xs ++ ys) ≡ need_last zs
unfolding need_last
need_merge empty = refl
need_merge (left {x} m) = ap₂ (λ (b : Bool) (n : ℕ). flag (not b) + n) (any_merge (λ d. same_choice (choice_id x) (choice_id d)) m) (need_merge m)
need_merge {xs} (right {y} {ys = ys} m) = middle xs y ys ∙ ap₂ (λ (b : Bool) (n : ℕ). flag (not b) + n) (any_merge (λ d. same_choice (choice_id y) (choice_id d)) m) (need_merge m)

-- ---- rows

unfoldable pub need_rows : List (List ℕ) → ℕ
need_rows [] = 0
need_rows (row ∷ rows) = flag (is_some (row_choice row) && not (any (shares_choice row) rows)) + need_rows rows

last_rows : (rows : List (List ℕ)) → need_last (collect row_choice rows) ≡ need_rows rows
unfolding need_last need_rows collect on_some
last_rows [] = refl
last_rows (row ∷ rows) = one (row_choice row) refl (last_rows rows)
  where
    here : (c : Choice) → row_choice row ≡ some c → (b : List ℕ) → on_some (λ d. same_choice (choice_id c) (choice_id d)) (row_choice b) ≡ shares_choice row b
    here c e b = unfold shares_choice row_choose_id on_some in (rw e (two (row_choice b)))
      where
        two : (o : Option Choice) → on_some (λ d. same_choice (choice_id c) (choice_id d)) o ≡ same_choice (choice_id c) (bind_option o choice_id)
        two none = sym (same_none (choice_id c))
        two (some d) = refl

    one : (o : Option Choice) → row_choice row ≡ o → need_last (collect row_choice rows) ≡ need_rows rows
        → need_last (cons_option o (collect row_choice rows)) ≡ flag (is_some o && not (any (shares_choice row) rows)) + need_rows rows
    one none e ih = ih ∙ sym (zero-add (need_rows rows))
    one (some c) e ih =
        ap₂ (λ (b : Bool) (n : ℕ). flag (not b) + n)
        (any_collect (λ d. same_choice (choice_id c) (choice_id d)) row_choice rows ∙ any_ext (λ b. on_some (λ d. same_choice (choice_id c) (choice_id d)) (row_choice b)) (shares_choice row) (here c e) rows)
        ih

pub need_rows_lem : (seid : ℕ) (restoring noted' : Bool) (rows : List (List ℕ)) → need (request_in seid restoring noted' rows) ≡ need_rows rows
unfolding need choices request_in tagged row_choice
need_rows_lem seid restoring noted' rows =
    need_last_lem (collect endpoint_choice (map row_endpoint (keep (has_tag ie.create_endpoint) rows)) ++ collect pdr_choice (map row_pdr (keep (has_tag ie.create_pdr) rows)))
    ∙ ap₂ (λ (a b : List Choice). need_last (a ++ b)) (collect_map row_endpoint endpoint_choice (keep (has_tag ie.create_endpoint) rows)) (collect_map row_pdr pdr_choice (keep (has_tag ie.create_pdr) rows))
    ∙ need_merge (merged (has_tag ie.create_endpoint) (has_tag ie.create_pdr) (λ row. tags_apart ie.create_endpoint 1 row (λ e. omega arith)) (λ row. endpoint_choice (row_endpoint row)) (λ row. pdr_choice (row_pdr row)) rows)
    ∙ last_rows rows
