-- The places of the rows that choose: found one row after the other, each row within the plan. Assumes nothing.
use mathlib.Core.Path.{◌≡◌, refl, sym, ap, ◌∙◌}
use mathlib.Core.Bool.{Bool, true, false}
use mathlib.Core.List.{List, [], ◌∷◌, ◌++◌, map, append_assoc, append-nil}
use Prim.Native.Nat.{ℕ, zero, suc, ◌+◌, ◌-◌, ◌*◌, ◌≤◌, ◌<◌}
use native.Mathlib.Numerals.{add-one}
use native.Mathlib.Omega.{arith}
use lib.Dec.{T, leb, le→leb}
use lib.ListN.{length, take, drop, get_or, set, length-set}
use Rattle.std.proofs.lemmas.List.{drop_all}
use lib.Seq.{length-take-le, take_all, take-suc-set, drop-drop, drop-cons}
use Rattle.octets.specs.Choice.{pick}
use Rattle.octets.specs.Octets.{part, slices}
use Rattle.octets.specs.Lists.{all}
use Rattle.octets.proofs.Tests.{all_head, all_tail, all_cons}
use Rattle.octets.proofs.ListLaws.{all_append}
use Rattle.octets.proofs.Numbers.{slices_next}
use Rattle.rules.specs.Types as ie
use Rattle.plan.specs.Rows.{row_width, rows_of}
use Rattle.created.specs.Entries.{max_grants, within}
use Rattle.grants.specs.Choosing.{choosing, chosen_by, places_by, places, report_places}

all_take : (p : ℕ → Bool) (n : ℕ) (xs : List ℕ) → T (all p xs) → T (all p (take n xs))
unfolding all
all_take p zero xs h = tt
all_take p (suc n) [] h = tt
all_take p (suc n) (x ∷ xs) h = all_cons p x (take n xs) (all_head p x xs h) (all_take p n xs (all_tail p x xs h))

-- the front of a list after a front was taken
take_front : (n : ℕ) (xs ys : List ℕ) → take n (take n xs ++ ys) ≡ take n (xs ++ ys)
take_front zero xs ys = refl
take_front (suc n) [] ys = refl
take_front (suc n) (x ∷ xs) ys = ap (λ (l : List ℕ). x ∷ l) (take_front n xs ys)

-- ---- places

pub places_more : (p : List ℕ → Bool) (at left : ℕ) (plan : List ℕ) → 0 < left
    → places_by p at (slices row_width left (drop at plan))
    ≡ pick (p (part at row_width plan)) (at ∷ places_by p (at + row_width) (slices row_width (left - 1) (drop (at + row_width) plan)))
    (places_by p (at + row_width) (slices row_width (left - 1) (drop (at + row_width) plan)))
unfolding places_by
places_more p at left plan h = rw (slices_next row_width left (drop at plan) h, drop-drop)

pub places_none : (p : List ℕ → Bool) (at : ℕ) (plan : List ℕ) → places_by p at (slices row_width 0 (drop at plan)) ≡ []
unfolding places_by slices
places_none p at plan = refl

-- rows that choose as others do have their places
pub places_same : (p : List ℕ → Bool) (h : List ℕ → List ℕ) → ((row : List ℕ) → p (h row) ≡ p row) → (at : ℕ) (rows : List (List ℕ))
    → places_by p at (map h rows) ≡ places_by p at rows
unfolding places_by
places_same p h e at [] = refl
places_same p h e at (row ∷ rows) =
    let b = e row in
    let more = places_same p h e (at + row_width) rows in
    λ j. pick (b j) (at ∷ more j) (more j)

-- the row at a place lies within the plan
abbrev row_within : List ℕ → ℕ → Bool
row_within plan p = leb (p + row_width) (length plan)

within_from : (p : List ℕ → Bool) (plan : List ℕ) (left at : ℕ) → at + left * row_width ≤ length plan → T (all (row_within plan) (places_by p at (slices row_width left (drop at plan))))
within_from p plan zero at h = rw (places_none p at plan) (unfold all in tt)
within_from p plan (suc n) at h =
    let e : suc n - 1 ≡ n = omega arith in
    rw (places_more p at (suc n) plan (omega arith), e) (one (p (part at row_width plan)) (within_from p plan n (at + row_width) (omega arith)))
  where
    one : (b : Bool) → T (all (row_within plan) (places_by p (at + row_width) (slices row_width n (drop (at + row_width) plan))))
        → T (all (row_within plan) (pick b (at ∷ places_by p (at + row_width) (slices row_width n (drop (at + row_width) plan))) (places_by p (at + row_width) (slices row_width n (drop (at + row_width) plan)))))
    one true g = all_cons (row_within plan) at _ (le→leb (at + row_width) (length plan) (omega arith)) g
    one false g = g

pub places_within : (n : ℕ) (plan : List ℕ) → n * row_width ≤ length plan → T (within plan (places n plan))
unfolding places
places_within n plan h =
    all_take (row_within plan) max_grants _ (all_append (row_within plan) _ _ (within_from (choosing ie.create_endpoint) plan n 0 (omega arith)) (within_from (choosing 1) plan n 0 (omega arith)))

pub reports_within : (n : ℕ) (plan : List ℕ) → n * row_width ≤ length plan → T (within plan (report_places n plan))
unfolding report_places
reports_within n plan h =
    all_take (row_within plan) max_grants _ (all_append (row_within plan) _ _ (within_from (chosen_by true ie.create_endpoint) plan n 0 (omega arith)) (within_from (chosen_by true ie.create_pdr) plan n 0 (omega arith)))

-- ---- finding them

-- Where the search for places stands: those found and those of the rows that are left are, as far as there is room, those found at first and those of all rows.
pub record Finding (rows : List (List ℕ)) (p : List ℕ → Bool) (places₀ : List ℕ) (k : ℕ) (found-places : List ℕ) (i found : ℕ) : Type 0 where
  pub long : length found-places ≡ length places₀
  pub few : found ≤ length places₀
  pub same :
      take (length places₀) (take found found-places ++ places_by p (i * row_width) (drop i rows))
      ≡ take (length places₀) (take k places₀ ++ places_by p 0 rows)

-- what the search leaves
abbrev pub Found : List (List ℕ) → (List ℕ → Bool) → List ℕ → ℕ → List ℕ → ℕ → Type 0
Found rows p places₀ k places' r = (r ≤ length places₀) × (take r places' ≡ take (length places₀) (take k places₀ ++ places_by p 0 rows))

module _ {rows : List (List ℕ)} {p : List ℕ → Bool} {places₀ : List ℕ} {k : ℕ} where
  module _ {ps : List ℕ} {i found : ℕ} (f : Finding rows p places₀ k ps i found) where
    abbrev rest : List ℕ
    rest = places_by p ((i + 1) * row_width) (drop (i + 1) rows)

    next : i < length rows → places_by p (i * row_width) (drop i rows) ≡ pick (p (get_or rows i [])) (i * row_width ∷ rest) rest
    unfolding places_by
    next h =
        let e : i * row_width + row_width ≡ (i + 1) * row_width = omega arith in
        rw (drop-cons rows i [] h, e, add-one i)

    pub finding_skip : i < length rows → p (get_or rows i []) ≡ false → Finding rows p places₀ k ps (i + 1) found
    finding_skip h z = record { long = f.long; few = f.few; same = rw (next h, z) at f.same }

    pub finding_more : i < length rows → p (get_or rows i []) ≡ true → (found ≡ length ps → ⊥) → Finding rows p places₀ k (set ps found (i * row_width)) (i + 1) (found + 1)
    finding_more h z u =
        let g = f.few in
        let l = f.long in
        let less : found < length ps = omega (arith, u) in
        let old = rw (next h, z) at f.same in
        let front : take (found + 1) (set ps found (i * row_width)) ++ rest ≡ take found ps ++ i * row_width ∷ rest = rw (add-one, take-suc-set) (append_assoc (take found ps) (i * row_width ∷ []) rest) in
        record { long = length-set ps found (i * row_width) ∙ l; few = omega arith; same = ap (λ (l' : List ℕ). take (length places₀) l') front ∙ old }

    pub finding_all : length rows ≤ i → Found rows p places₀ k ps found
    unfolding places_by
    finding_all h =
        let l = f.long in
        let g = f.few in
        let short : length (take found ps) ≤ length places₀ = omega (arith, length-take-le found ps (omega arith)) in
        let nil : take found ps ++ places_by p (i * row_width) (drop i rows) ≡ take found ps = rw (drop_all i rows h) (append-nil (take found ps)) in
        (f.few, sym (take_all (length places₀) (take found ps) short) ∙ ap (λ (l' : List ℕ). take (length places₀) l') (sym nil) ∙ f.same)

-- the two searches: endpoints' rows, then PDRs'
found_two : (e q : List ℕ → Bool) (rows : List (List ℕ)) (p₀ p₁ p₂ : List ℕ) (k m : ℕ) → length p₀ ≡ max_grants → length p₁ ≡ max_grants
    → Found rows e p₀ 0 p₁ k → Found rows q p₁ k p₂ m → take m p₂ ≡ take max_grants (places_by e 0 rows ++ places_by q 0 rows)
found_two e q rows p₀ p₁ p₂ k m l l' f g = g.1 ∙ rw (l', f.1, l) (take_front max_grants (places_by e 0 rows) (places_by q 0 rows))

module _ (plan : List ℕ) (n : ℕ) (rows : List (List ℕ)) (same : rows ≡ rows_of n plan) (p₀ p₁ p₂ : List ℕ) (k m : ℕ) (l : length p₀ ≡ max_grants) (l' : length p₁ ≡ max_grants) where
  pub found_both : Found rows (chosen_by false ie.create_endpoint) p₀ 0 p₁ k → Found rows (chosen_by false ie.create_pdr) p₁ k p₂ m → take m p₂ ≡ places n plan
  unfolding places chosen_by choosing
  found_both f g = rw (← same) (found_two (chosen_by false ie.create_endpoint) (chosen_by false ie.create_pdr) rows p₀ p₁ p₂ k m l l' f g)

  pub found_reports : Found rows (chosen_by true ie.create_endpoint) p₀ 0 p₁ k → Found rows (chosen_by true ie.create_pdr) p₁ k p₂ m → take m p₂ ≡ report_places n plan
  unfolding report_places
  found_reports f g = rw (← same) (found_two (chosen_by true ie.create_endpoint) (chosen_by true ie.create_pdr) rows p₀ p₁ p₂ k m l l' f g)
