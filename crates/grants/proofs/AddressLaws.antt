-- An address written into every row of a plan that chooses one, row after row. Assumes nothing.
use Rattle.std.specs.Prelude.{Some, None}
use mathlib.Core.Path.{◌≡◌, refl, sym, ap, ap₂, ◌∙◌}
use mathlib.Core.Bool.{Bool, true, false}
use mathlib.Core.List.{List, ◌∷◌, ◌++◌, map, append_assoc}
use Prim.Native.Nat.{ℕ, zero, suc, ◌+◌, ◌-◌, ◌*◌, ◌≤◌, ◌<◌}
use native.Mathlib.Omega.{arith}
use lib.ListN.{length, take, drop, set, length-set, length-append, length-drop, take-append-drop}
use lib.Seq.{length-take-le, take_at, drop_at, drop-drop, drop-append-add}
use Rattle.octets.specs.Choice.{pick}
use Rattle.octets.specs.Octets.{slices}
use Rattle.plan.specs.Rows.{row_width, rows_of}
use Rattle.grants.specs.Choosing.{chooses_address, row_with_address, addressed, lowest_address}
use Rattle.pool.specs.Answer.{lowest}
use Rattle.pool.specs.Map.{free_from}
use Rattle.pool.proofs.TakenLaws.{next_teid, no_teid}
use Rattle.grants.proofs.PassLaws.{set_row}

module _ (a : ℕ) where
  length_with : (row : List ℕ) → length (row_with_address a row) ≡ length row
  unfolding row_with_address
  length_with row = one (chooses_address row)
    where
      one : (b : Bool) → length (pick b (set row 19 a) row) ≡ length row
      one true = length-set row 19 a
      one false = refl

  -- ---- one row after the other

  -- Where the writing stands: what is written and what is to come are the plan with all of it.
  pub record Writing (n : ℕ) (plan₀ plan : List ℕ) (at left : ℕ) : Type 0 where
    pub inside : at + left * row_width ≤ length plan
    pub long : length plan ≡ length plan₀
    pub same : take at plan ++ addressed a left (drop at plan) ≡ addressed a n plan₀

  pub writing_all : {n : ℕ} {plan₀ plan : List ℕ} {at left : ℕ} → Writing n plan₀ plan at left → left ≤ 0 → plan ≡ addressed a n plan₀
  unfolding addressed
  writing_all {plan = plan} {at = at} {left = left} w h = let z : left ≡ 0 = omega arith in sym (take-append-drop at plan) ∙ rw z at w.same

  module _ {n : ℕ} {plan₀ plan : List ℕ} {at left : ℕ} (w : Writing n plan₀ plan at left) (h : 0 < left) where
    abbrev pre : List ℕ
    pre = take at plan

    abbrev row : List ℕ
    row = take row_width (drop at plan)

    abbrev after : List ℕ
    after = drop row_width (drop at plan)

    row_long : length row ≡ row_width
    row_long = length-take-le row_width (drop at plan) (omega (arith, w.inside, length-drop at plan))

    pre_long : length pre ≡ at
    pre_long = length-take-le at plan (omega (arith, w.inside))

    split : plan ≡ pre ++ (row ++ after)
    split = sym (take-append-drop at plan) ∙ ap (λ (l : List ℕ). pre ++ l) (sym (take-append-drop row_width (drop at plan)))

    next_is : (b : Bool) → b ≡ chooses_address row → pick b (set plan (at + 19) a) plan ≡ (pre ++ row_with_address a row) ++ after
    unfolding row_with_address
    next_is true e =
        ap₂ (λ (l : List ℕ) (k : ℕ). set l (k + 19) a) split (sym pre_long) ∙ set_row 19 pre row after a (omega (arith, row_long)) ∙ ap (λ (b : Bool). (pre ++ pick b (set row 19 a) row) ++ after) e
    next_is false e = split ∙ sym (append_assoc pre row after) ∙ ap (λ (b : Bool). (pre ++ pick b (set row 19 a) row) ++ after) e

    first_is : addressed a left (drop at plan) ≡ row_with_address a row ++ addressed a (left - 1) after
    first_is = one left h
      where
        one : (m : ℕ) → 0 < m → addressed a m (drop at plan) ≡ row_with_address a row ++ addressed a (m - 1) after
        one zero g = absurd (omega arith)
        one (suc m) g = let e : suc m - 1 ≡ m = omega arith in rw e (unfold addressed in refl)

    step : (b : Bool) → b ≡ chooses_address row → Writing n plan₀ (pick b (set plan (at + 19) a) plan) (at + row_width) (left - 1)
    step b e =
        let is = next_is b e in
        let lw = length_with row in
        let lr = row_long in
        let lp = pre_long in
        let l : length (pre ++ row_with_address a row) ≡ at + row_width = length-append pre (row_with_address a row) ∙ omega arith in
        let size : length (pick b (set plan (at + 19) a) plan) ≡ length plan = pick_length b in
        let i = w.inside in
        record {
          inside = omega arith;
          long = size ∙ w.long;
          same =
              ap (λ (p : List ℕ). take (at + row_width) p ++ addressed a (left - 1) (drop (at + row_width) p)) is
              ∙ ap₂ (λ (x y : List ℕ). x ++ addressed a (left - 1) y) (take_at (pre ++ row_with_address a row) after (at + row_width) l) (drop_at (pre ++ row_with_address a row) after (at + row_width) l)
              ∙ append_assoc pre (row_with_address a row) (addressed a (left - 1) after)
              ∙ ap (λ (x : List ℕ). pre ++ x) (sym first_is)
              ∙ w.same;
        }
      where
        pick_length : (c : Bool) → length (pick c (set plan (at + 19) a) plan) ≡ length plan
        pick_length true = length-set plan (at + 19) a
        pick_length false = refl

    pub writing_skip : false ≡ chooses_address row → Writing n plan₀ plan (at + row_width) (left - 1)
    writing_skip e = step false e

    pub writing_more : true ≡ chooses_address row → Writing n plan₀ (set plan (at + 19) a) (at + row_width) (left - 1)
    writing_more e = step true e

  -- ---- what stands in the plan then

  pub rows_addressed : (n : ℕ) (plan : List ℕ) → n * row_width ≤ length plan → rows_of n (addressed a n plan) ≡ map (row_with_address a) (rows_of n plan)
  unfolding slices addressed
  rows_addressed zero plan h = refl
  rows_addressed (suc n) plan h =
      let w : length (row_with_address a (take row_width plan)) ≡ row_width = length_with (take row_width plan) ∙ length-take-le row_width plan (omega arith) in
      let d = length-drop row_width plan in
      let here = take_at (row_with_address a (take row_width plan)) (addressed a n (drop row_width plan)) row_width w in
      let more = ap (slices row_width n) (drop_at (row_with_address a (take row_width plan)) (addressed a n (drop row_width plan)) row_width w) ∙ rows_addressed n (drop row_width plan) (omega arith) in
      λ j. here j ∷ more j

  pub length_addressed : (n : ℕ) (plan : List ℕ) → n * row_width ≤ length plan → length (addressed a n plan) ≡ length plan
  unfolding addressed
  length_addressed zero plan h = refl
  length_addressed (suc n) plan h =
      let w : length (row_with_address a (take row_width plan)) ≡ row_width = length_with (take row_width plan) ∙ length-take-le row_width plan (omega arith) in
      let d = length-drop row_width plan in
      let more = length_addressed n (drop row_width plan) (omega arith) in
      length-append (row_with_address a (take row_width plan)) (addressed a n (drop row_width plan)) ∙ omega arith

  pub rest_addressed : (n : ℕ) (plan : List ℕ) → n * row_width ≤ length plan → drop (n * row_width) (addressed a n plan) ≡ drop (n * row_width) plan
  unfolding addressed
  rest_addressed zero plan h = refl
  rest_addressed (suc n) plan h =
      let w : length (row_with_address a (take row_width plan)) ≡ row_width = length_with (take row_width plan) ∙ length-take-le row_width plan (omega arith) in
      let d = length-drop row_width plan in
      let e : suc n * row_width ≡ length (row_with_address a (take row_width plan)) + n * row_width = omega arith in
      let e' : suc n * row_width ≡ row_width + n * row_width = omega arith in
      ap (λ (k : ℕ). drop k (row_with_address a (take row_width plan) ++ addressed a n (drop row_width plan))) e
      ∙ drop-append-add (row_with_address a (take row_width plan)) (addressed a n (drop row_width plan)) (n * row_width)
      ∙ rest_addressed n (drop row_width plan) (omega arith) ∙ drop-drop (n * row_width) row_width plan ∙ ap (λ (k : ℕ). drop k plan) (sym e')

-- ---- the lowest free address

module _ (first : ℕ) (words : List ℕ) (size n : ℕ) (plan : List ℕ) {plan' : List ℕ} where
  pub address_none : None ≡ lowest (free_from words 0 size) → plan' ≡ addressed 0 n plan → plan' ≡ addressed (lowest_address first words size) n plan
  address_none f e = rw (no_teid first words 0 size f) e

  pub address_next : (i : ℕ) → Some i ≡ lowest (free_from words 0 size) → plan' ≡ addressed (first + i) n plan → plan' ≡ addressed (lowest_address first words size) n plan
  address_next i f e = rw (next_teid first words 0 size i f).head e
