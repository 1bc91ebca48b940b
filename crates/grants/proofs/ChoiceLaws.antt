-- The CHOOSEs of a plan's rows are those of the request that the rows mean, in the order in which TEIDs are given. Assumes nothing.
use mathlib.Core.Path.{◌≡◌, refl, sym, ap, ◌∙◌}
use mathlib.Core.Bool.{Bool, true, false, ◌&&◌, ◌||◌}
use mathlib.Core.Option.{Option, none, some}
use mathlib.Core.List.{List, [], ◌∷◌, ◌++◌, map}
use Prim.Native.Nat.{ℕ, zero, suc, ◌+◌, ◌≤◌}
use native.Mathlib.Decide.{ℕ_discrete}
use native.Mathlib.Omega.{arith}
use borrow.Author.Tests.{eq-eqb, ne_eqb, eqb-true}
use lib.Dec.{T, eqb, ltb}
use lib.ListN.{length, drop, length-map}
use lib.Seq.{take_all, drop-drop}
use Rattle.octets.specs.Choice.{pick, bind_option}
use Rattle.octets.specs.Octets.{bit, part, slices}
use Rattle.octets.specs.Lists.{all, keep, collect}
use Rattle.octets.specs.Rows.{has_tag}
use Rattle.octets.proofs.Tests.{pick_yes, and_left, all_head, all_tail}
use Rattle.octets.proofs.ListLaws.{on_some, all_front, all_behind, map-append}
use Rattle.rules.specs.Elements.{given, choose}
use Rattle.rules.specs.Request.{Request}
use Rattle.rules.specs.Grants.{Kind, of_pdr, of_endpoint, Choice, same_kind, choice_of, endpoint_choice, pdr_choice, choices}
use Rattle.plan.specs.Rows.{row_width, word, rows_of, tagged, fteid_from, row_fteid, row_local, row_pdr, row_endpoint, request_in}
use Rattle.rules.specs.Types as ie
use Rattle.plan.specs.Words as its
use Rattle.created.specs.Groups.{kind_in}
use Rattle.created.specs.Entries.{max_grants, row_id}
use Rattle.grants.specs.Choosing.{choosing, places_by, places_from, places, octet, choose_id_in, choice_in, choice_at}

-- ---- bounds

-- an ID that is there is one octet
abbrev pub id_is_octet : Option ℕ → Bool
id_is_octet = on_some (λ i. ltb i 256)

-- a CHOOSE ID is one octet, and so is an endpoint's ID
abbrev pub choice_fits : Choice → Bool
choice_fits c = id_is_octet c.choose_id && (same_kind of_pdr c.kind || ltb c.id 256)

-- ---- one row

-- the rules' CHOOSE of a row's F-TEID
abbrev row_choice : Kind → ℕ → List ℕ → Choice
row_choice k i row = record { kind = k; id = i; v4 = bit 0 (word its.flags row); v6 = bit 1 (word its.flags row); choose_id = pick (bit 3 (word its.flags row)) (some (word its.choose_id row)) none }

fteid_choice : (k : Kind) (i : ℕ) (row : List ℕ) → choice_of k i (row_fteid row) ≡ pick (bit 2 (word its.flags row)) (some (row_choice k i row)) none
unfolding row_fteid fteid_from
fteid_choice k i row = one (bit 2 (word its.flags row)) _ _ _ _ _ _
  where
    one : (b v4 v6 : Bool) (c : Option ℕ) (t : ℕ) (a h : List ℕ)
        → choice_of k i (pick b (choose v4 v6 c) (given t a h)) ≡ pick b (some (record { kind = k; id = i; v4 = v4; v6 = v6; choose_id = c })) none
    one true v4 v6 c t a h = unfold choice_of in refl
    one false v4 v6 c t a h = unfold choice_of in refl

endpoint_choice_lem : (row : List ℕ) → endpoint_choice (row_endpoint row) ≡ pick (bit 2 (word its.flags row)) (some (row_choice of_endpoint (word its.endpoint_id row) row)) none
unfolding endpoint_choice row_endpoint
endpoint_choice_lem row = fteid_choice of_endpoint (word its.endpoint_id row) row

no_choice : bit 2 0 ≡ false
unfolding bit
no_choice = refl

pdr_choice_lem : (row : List ℕ) → pdr_choice (row_pdr row) ≡ pick (bit 2 (word its.flags row)) (some (row_choice of_pdr (word its.pdr_id row) row)) none
unfolding pdr_choice row_pdr row_local
pdr_choice_lem row = one (ℕ_discrete (word its.flags row) 0)
  where
    one : Dec (word its.flags row ≡ 0)
        → bind_option (pick (eqb (word its.flags row) 0) none (some (row_fteid row))) (choice_of of_pdr (word its.pdr_id row)) ≡ pick (bit 2 (word its.flags row)) (some (row_choice of_pdr (word its.pdr_id row) row)) none
    one (yes e) = rw (eq-eqb (word its.flags row) 0 e) (sym (ap (λ (b : Bool). pick b (some (row_choice of_pdr (word its.pdr_id row) row)) none) (ap (bit 2) e ∙ no_choice)))
    one (no n) = rw (ne_eqb (word its.flags row) 0 n) (fteid_choice of_pdr (word its.pdr_id row) row)

octet_id : (b : Bool) (c : ℕ) → T (id_is_octet (pick b (some c) none)) → pick b (some c) none ≡ pick b (octet c) none
octet_id true c h = sym (pick_yes (ltb c 256) (some c) none h)
octet_id false c h = refl

-- ---- the rows of one type

module _ {A : Type 0} (g : A → Option Choice) (h : List ℕ → A) (tag : ℕ) (k : Kind) (id_of : List ℕ → ℕ)
    (kinds : kind_in tag ≡ k) (ids : (row : List ℕ) → word its.tag row ≡ tag → row_id row ≡ id_of row)
    (values : (row : List ℕ) → g (h row) ≡ pick (bit 2 (word its.flags row)) (some (row_choice k (id_of row) row)) none) where
  same_choice_lem : (row : List ℕ) → word its.tag row ≡ tag → T (choice_fits (row_choice k (id_of row) row)) → row_choice k (id_of row) row ≡ choice_in row
  unfolding choice_in choose_id_in
  same_choice_lem row e f =
      let o = octet_id (bit 3 (word its.flags row)) (word its.choose_id row) (and_left (id_is_octet (pick (bit 3 (word its.flags row)) (some (word its.choose_id row)) none)) _ f) in
      let kind = sym kinds ∙ ap kind_in (sym e) in
      let id = sym (ids row e) in
      λ j. record { kind = kind j; id = id j; v4 = bit 0 (word its.flags row); v6 = bit 1 (word its.flags row); choose_id = o j }

  pub tagged_choices : (rows : List (List ℕ)) → T (all choice_fits (collect g (map h (tagged tag rows)))) → collect g (map h (tagged tag rows)) ≡ map choice_in (keep (choosing tag) rows)
  unfolding tagged keep collect choosing
  tagged_choices [] f = refl
  tagged_choices (row ∷ rows) f = one (has_tag tag row) (bit 2 (word its.flags row)) refl (values row) (λ f'. tagged_choices rows f') f
    where
      one : (b d : Bool) → has_tag tag row ≡ b → g (h row) ≡ pick d (some (row_choice k (id_of row) row)) none
          → (T (all choice_fits (collect g (map h (tagged tag rows)))) → collect g (map h (tagged tag rows)) ≡ map choice_in (keep (choosing tag) rows))
          → T (all choice_fits (collect g (map h (pick b (row ∷ tagged tag rows) (tagged tag rows)))))
          → collect g (map h (pick b (row ∷ tagged tag rows) (tagged tag rows))) ≡ map choice_in (pick (b && d) (row ∷ keep (choosing tag) rows) (keep (choosing tag) rows))
      one false d t v ih f' = ih f'
      one true true t v ih f' =
          let p = rw v at f' in
          let here = same_choice_lem row (eqb-true (word its.tag row) tag (unfold has_tag in t)) (all_head choice_fits _ _ p) in
          let more = ih (all_tail choice_fits _ _ p) in
          rw v (λ j. here j ∷ more j)
      one true false t v ih f' = rw v (ih (rw v at f'))

-- ---- places and rows

-- the rows that choose: endpoints', then PDRs'
unfoldable pub chosen_rows : List (List ℕ) → List (List ℕ)
chosen_rows rows = keep (choosing ie.create_endpoint) rows ++ keep (choosing 1) rows

-- what is read of the rows at the places is what is read of the rows that choose
module _ {A : Type 0} (f : List ℕ → A) (plan : List ℕ) where
  abbrev read_at : ℕ → A
  read_at at = f (part at row_width plan)

  test_rows : (p : List ℕ → Bool) (left at : ℕ) → map read_at (places_by p at (slices row_width left (drop at plan))) ≡ map f (keep (p) (slices row_width left (drop at plan)))
  unfolding places_by keep slices
  test_rows p zero at = refl
  test_rows p (suc n) at =
      one (p (part at row_width plan)) (slices row_width n (drop row_width (drop at plan)))
      (ap (λ (l : List ℕ). map read_at (places_by p (at + row_width) (slices row_width n l))) (drop-drop row_width at plan) ∙ test_rows p n (at + row_width)
      ∙ ap (λ (l : List ℕ). map f (keep (p) (slices row_width n l))) (sym (drop-drop row_width at plan)))
    where
      one : (b : Bool) (rows : List (List ℕ)) → map read_at (places_by p (at + row_width) rows) ≡ map f (keep (p) rows)
          → map read_at (pick b (at ∷ places_by p (at + row_width) rows) (places_by p (at + row_width) rows))
          ≡ map f (pick b (part at row_width plan ∷ keep (p) rows) (keep (p) rows))
      one true rows ih = ap (λ (l : List A). f (part at row_width plan) ∷ l) ih
      one false rows ih = ih

  pub rows_at : (p q : List ℕ → Bool) (n : ℕ) → map read_at (places_by p 0 (rows_of n plan) ++ places_by q 0 (rows_of n plan)) ≡ map f (keep p (rows_of n plan)) ++ map f (keep q (rows_of n plan))
  rows_at p q n = map-append read_at (places_by p 0 (rows_of n plan)) (places_by q 0 (rows_of n plan)) ∙ (λ j. test_rows p n 0 j ++ test_rows q n 0 j)

  pub place_rows : (n : ℕ) → map read_at (places_from ie.create_endpoint 0 (rows_of n plan) ++ places_from 1 0 (rows_of n plan)) ≡ map f (chosen_rows (rows_of n plan))
  unfolding chosen_rows
  place_rows n = rows_at (choosing ie.create_endpoint) (choosing 1) n ∙ sym (map-append f (keep (choosing ie.create_endpoint) (rows_of n plan)) (keep (choosing 1) (rows_of n plan)))

module _ (seid : ℕ) (restoring noted : Bool) (rows : List (List ℕ)) where
  abbrev r : Request
  r = request_in seid restoring noted rows

  pub request_choices : T (all choice_fits (choices r)) → choices r ≡ map choice_in (chosen_rows rows)
  unfolding choices request_in chosen_rows
  request_choices f =
      let e = all_front choice_fits (collect endpoint_choice (map row_endpoint (tagged ie.create_endpoint rows))) (collect pdr_choice (map row_pdr (tagged ie.create_pdr rows))) f in
      let p = all_behind choice_fits (collect endpoint_choice (map row_endpoint (tagged ie.create_endpoint rows))) (collect pdr_choice (map row_pdr (tagged ie.create_pdr rows))) f in
      let a = tagged_choices endpoint_choice row_endpoint ie.create_endpoint of_endpoint (word its.endpoint_id) (unfold kind_in in refl) (λ row t. unfold row_id in rw t) endpoint_choice_lem rows e in
      let b = tagged_choices pdr_choice row_pdr 1 of_pdr (word its.pdr_id) (unfold kind_in in refl) (λ row t. unfold row_id in rw t) pdr_choice_lem rows p in
      (λ j. a j ++ b j) ∙ sym (map-append choice_in (keep (choosing ie.create_endpoint) rows) (keep (choosing 1) rows))

-- the CHOOSEs at a plan's places are the request's
module _ (seid : ℕ) (restoring noted : Bool) (n : ℕ) (plan : List ℕ) (fits : T (all choice_fits (choices (request_in seid restoring noted (rows_of n plan)))))
    (few : length (choices (request_in seid restoring noted (rows_of n plan))) ≤ max_grants) where
  all_places : List ℕ
  all_places = places_from ie.create_endpoint 0 (rows_of n plan) ++ places_from 1 0 (rows_of n plan)

  all_choices : map (choice_at plan) all_places ≡ choices (request_in seid restoring noted (rows_of n plan))
  unfolding all_places choice_at
  all_choices = place_rows choice_in plan n ∙ sym (request_choices seid restoring noted (rows_of n plan) fits)

  pub places_are : places n plan ≡ places_from ie.create_endpoint 0 (rows_of n plan) ++ places_from 1 0 (rows_of n plan)
  unfolding places all_places
  places_are =
      let l = ap length all_choices in
      let k = length-map all_places (choice_at plan) in
      take_all max_grants all_places (omega arith)

  pub places_choices : map (choice_at plan) (places n plan) ≡ choices (request_in seid restoring noted (rows_of n plan))
  unfolding all_places
  places_choices = ap (map (choice_at plan)) places_are ∙ all_choices
