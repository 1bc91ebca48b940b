-- TEIDs written at the places of a type's rows are TEIDs written into those rows, and nothing else changes. Assumes nothing.
use mathlib.Core.Path.{◌≡◌, refl, sym, ap, ◌∙◌}
use mathlib.Core.Bool.{Bool, true, false}
use mathlib.Core.List.{List, [], ◌∷◌, ◌++◌, map, append_assoc}
use Prim.Native.Nat.{ℕ, zero, suc, ◌+◌, ◌*◌, ◌≤◌, ◌<◌}
use native.Mathlib.Nat.{zero-add}
use native.Mathlib.Omega.{arith}
use lib.ListN.{length, take, drop, set, length-set, length-append, length-drop, take-append-drop}
use lib.Seq.{length-take-le, set-append_left, take_at, drop_at, drop-drop, drop-append-add}
use Rattle.octets.specs.Choice.{pick}
use Rattle.octets.specs.Octets.{slices}
use Rattle.octets.specs.Lists.{keep}
use Rattle.plan.specs.Rows.{row_width}
use Rattle.grants.specs.Choosing.{choosing, places_by, places_from, stores}

pub stores_append : (plan ps qs ts us : List ℕ) → length ps ≡ length ts → stores plan (ps ++ qs) (ts ++ us) ≡ stores (stores plan ps ts) qs us
unfolding stores
stores_append plan [] qs [] us e = refl
stores_append plan [] qs (t ∷ ts) us e = absurd (omega arith)
stores_append plan (p ∷ ps) qs [] us e = absurd (omega arith)
stores_append plan (p ∷ ps) qs (t ∷ ts) us e = stores_append (set plan (p + 13) t) ps qs ts us (omega arith)

pub set_row : (k : ℕ) (pre row after : List ℕ) (t : ℕ) → k < length row → set (pre ++ (row ++ after)) (length pre + k) t ≡ (pre ++ set row k t) ++ after
set_row k [] row after t h = ap (λ (i : ℕ). set (row ++ after) i t) (zero-add k) ∙ set-append_left row after k t h
set_row k (x ∷ pre) row after t h =
    let e : suc (length pre) + k ≡ suc (length pre + k) = omega arith in
    rw e (ap (λ (l : List ℕ). x ∷ l) (set_row k pre row after t h))

module _ (tag : ℕ) (f : List ℕ → ℕ) where
  -- a row of the type that chooses gets its TEID
  unfoldable pub with_teid : List ℕ → List ℕ
  with_teid row = pick (choosing tag row) (set row 13 (f row)) row

  -- the plan with each of its first n rows so
  unfoldable pub passed : ℕ → List ℕ → List ℕ
  passed zero plan = plan
  passed (suc n) plan = with_teid (take row_width plan) ++ passed n (drop row_width plan)

  length_with : (row : List ℕ) → length (with_teid row) ≡ length row
  unfolding with_teid
  length_with row = one (choosing tag row)
    where
      one : (b : Bool) → length (pick b (set row 13 (f row)) row) ≡ length row
      one true = length-set row 13 (f row)
      one false = refl

  length_first : (n : ℕ) (plan : List ℕ) → suc n * row_width ≤ length plan → length (with_teid (take row_width plan)) ≡ row_width
  length_first n plan h = length_with (take row_width plan) ∙ length-take-le row_width plan (omega arith)

  -- as many places as rows
  pub length_places : (at : ℕ) (rows : List (List ℕ)) → length (places_from tag at rows) ≡ length (map f (keep (choosing tag) rows))
  unfolding places_by keep
  length_places at [] = refl
  length_places at (row ∷ rows) = one (choosing tag row) (length_places (at + row_width) rows)
    where
      one : (b : Bool) → length (places_from tag (at + row_width) rows) ≡ length (map f (keep (choosing tag) rows))
          → length (pick b (at ∷ places_from tag (at + row_width) rows) (places_from tag (at + row_width) rows)) ≡ length (map f (pick b (row ∷ keep (choosing tag) rows) (keep (choosing tag) rows)))
      one true ih = ap suc ih
      one false ih = ih

  pass_row : (row after pre : List ℕ) (rows : List (List ℕ)) → 13 < length row
      → stores (pre ++ (row ++ after)) (places_from tag (length pre) (row ∷ rows)) (map f (keep (choosing tag) (row ∷ rows)))
      ≡ stores ((pre ++ with_teid row) ++ after) (places_from tag (length pre + row_width) rows) (map f (keep (choosing tag) rows))
  unfolding places_by keep with_teid
  pass_row row after pre rows w = two (choosing tag row)
    where
      two : (b : Bool)
          → stores (pre ++ (row ++ after)) (pick b (length pre ∷ places_from tag (length pre + row_width) rows) (places_from tag (length pre + row_width) rows)) (map f (pick b (row ∷ keep (choosing tag) rows) (keep (choosing tag) rows)))
          ≡ stores ((pre ++ pick b (set row 13 (f row)) row) ++ after) (places_from tag (length pre + row_width) rows) (map f (keep (choosing tag) rows))
      two true = unfold stores in ap (λ (x : List ℕ). stores x (places_from tag (length pre + row_width) rows) (map f (keep (choosing tag) rows))) (set_row 13 pre row after (f row) w)
      two false = ap (λ (x : List ℕ). stores x (places_from tag (length pre + row_width) rows) (map f (keep (choosing tag) rows))) (sym (append_assoc pre row after))

  pub stores_pass : (n : ℕ) (pre plan : List ℕ) → n * row_width ≤ length plan
      → stores (pre ++ plan) (places_from tag (length pre) (slices row_width n plan)) (map f (keep (choosing tag) (slices row_width n plan))) ≡ pre ++ passed n plan
  unfolding places_by keep slices passed
  stores_pass zero pre plan h = unfold stores in refl
  stores_pass (suc n) pre plan h =
      let row : List ℕ = take row_width plan in
      let after : List ℕ = drop row_width plan in
      let l : length row ≡ row_width = length-take-le row_width plan (omega arith) in
      let d = length-drop row_width plan in
      let wide = length_first n plan h in
      let next : length (pre ++ with_teid row) ≡ length pre + row_width = length-append pre (with_teid row) ∙ omega arith in
      let ih = stores_pass n (pre ++ with_teid row) after (omega arith) in
      let split : pre ++ plan ≡ pre ++ (row ++ after) = ap (λ (x : List ℕ). pre ++ x) (sym (take-append-drop row_width plan)) in
      ap (λ (x : List ℕ). stores x (places_from tag (length pre) (row ∷ slices row_width n after)) (map f (keep (choosing tag) (row ∷ slices row_width n after)))) split
      ∙ pass_row row after pre (slices row_width n after) (omega arith)
      ∙ ap (λ (k : ℕ). stores ((pre ++ with_teid row) ++ after) (places_from tag k (slices row_width n after)) (map f (keep (choosing tag) (slices row_width n after)))) (sym next)
      ∙ ih ∙ append_assoc pre (with_teid row) (passed n after)

  -- what stands in the plan then
  pub rows_passed : (n : ℕ) (plan : List ℕ) → n * row_width ≤ length plan → slices row_width n (passed n plan) ≡ map with_teid (slices row_width n plan)
  unfolding slices passed
  rows_passed zero plan h = refl
  rows_passed (suc n) plan h =
      let w = length_first n plan h in
      let d = length-drop row_width plan in
      let here = take_at (with_teid (take row_width plan)) (passed n (drop row_width plan)) row_width w in
      let more = ap (slices row_width n) (drop_at (with_teid (take row_width plan)) (passed n (drop row_width plan)) row_width w) ∙ rows_passed n (drop row_width plan) (omega arith) in
      λ j. here j ∷ more j

  pub length_passed : (n : ℕ) (plan : List ℕ) → n * row_width ≤ length plan → length (passed n plan) ≡ length plan
  unfolding passed
  length_passed zero plan h = refl
  length_passed (suc n) plan h =
      let w = length_first n plan h in
      let d = length-drop row_width plan in
      let more = length_passed n (drop row_width plan) (omega arith) in
      length-append (with_teid (take row_width plan)) (passed n (drop row_width plan)) ∙ omega arith

  pub rest_passed : (n : ℕ) (plan : List ℕ) → n * row_width ≤ length plan → drop (n * row_width) (passed n plan) ≡ drop (n * row_width) plan
  unfolding passed
  rest_passed zero plan h = refl
  rest_passed (suc n) plan h =
      let w = length_first n plan h in
      let d = length-drop row_width plan in
      let e : suc n * row_width ≡ length (with_teid (take row_width plan)) + n * row_width = omega arith in
      let e' : suc n * row_width ≡ row_width + n * row_width = omega arith in
      ap (λ (k : ℕ). drop k (with_teid (take row_width plan) ++ passed n (drop row_width plan))) e
      ∙ drop-append-add (with_teid (take row_width plan)) (passed n (drop row_width plan)) (n * row_width)
      ∙ rest_passed n (drop row_width plan) (omega arith) ∙ drop-drop (n * row_width) row_width plan ∙ ap (λ (k : ℕ). drop k plan) (sym e')
