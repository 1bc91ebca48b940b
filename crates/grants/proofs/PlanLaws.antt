-- The plan at exit: each row that chooses has the TEID that its kind and ID got, and nothing else has changed. Assumes nothing.
use mathlib.Core.Path.{◌≡◌, refl, sym, ap, ◌∙◌}
use mathlib.Core.Bool.{Bool, true, false, ◌&&◌, ◌||◌}
use mathlib.Core.List.{List, [], ◌∷◌, ◌++◌, map, map-map}
use Prim.Native.Nat.{ℕ, ◌*◌, ◌≤◌}
use native.Mathlib.Omega.{arith}
use borrow.Author.Tests.{eqb-true}
use lib.Dec.{eqb}
use lib.ListN.{length, drop, set}
use lib.Seq.{get_or-set_other}
use Rattle.octets.specs.Choice.{pick}
use Rattle.octets.specs.Octets.{bit, slices}
use Rattle.octets.specs.Lists.{has_repeat, keep}
use Rattle.octets.specs.Rows.{has_tag}
use Rattle.octets.proofs.ListLaws.{map-append}
use Rattle.octets.proofs.FieldLaws.{both}
use Rattle.rules.specs.Grants.{Kind, of_pdr, of_endpoint, Choice, Chosen, Grant, grant_teid, grant_from, granted_teid}
use Rattle.plan.specs.Rows.{row_width, word, rows_of, tagged}
use Rattle.rules.specs.Types as ie
use Rattle.plan.specs.Words as its
use Rattle.created.specs.Groups.{kind_in}
use Rattle.created.specs.Entries.{row_id}
use Rattle.grants.specs.Choosing.{choosing, places_from, choice_in, stores, row_with}
use Rattle.grants.proofs.PlaceLaws.{places_same}
use Rattle.grants.proofs.ChoiceLaws.{chosen_rows}
use Rattle.grants.proofs.OwnLaws.{Apart, Of, id_of, repeat_keep, apart_kind, apart_both, grants_map, own_teids}
use Rattle.grants.proofs.PassLaws.{stores_append, with_teid, passed, length_places, stores_pass, rows_passed, length_passed, rest_passed}

-- ---- one row with another TEID

pub word_set : (row : List ℕ) (t k : ℕ) → (k ≡ 13 → ⊥) → word k (set row 13 t) ≡ word k row
word_set row t k n = get_or-set_other row 13 k t 0 n

choosing_set : (tag : ℕ) (row : List ℕ) (t : ℕ) → choosing tag (set row 13 t) ≡ choosing tag row
unfolding choosing has_tag
choosing_set tag row t =
    let a = word_set row t 0 (λ e. omega arith) in
    let b = word_set row t 12 (λ e. omega arith) in
    λ j. eqb (a j) tag && bit 2 (b j)

pub choosing_tag : (tag : ℕ) (row : List ℕ) → choosing tag row ≡ true → word its.tag row ≡ tag
unfolding choosing has_tag
choosing_tag tag row e = eqb-true (word its.tag row) tag (both (eqb (word its.tag row) tag) (bit 2 (word its.flags row)) e).0

pub choosing_bit : (tag : ℕ) (row : List ℕ) → choosing tag row ≡ true → bit 2 (word its.flags row) ≡ true
unfolding choosing
choosing_bit tag row e = (both (has_tag tag row) (bit 2 (word its.flags row)) e).1

-- a row that one type's pass changes is not of the other type
not_both : (row : List ℕ) → choosing ie.create_endpoint row ≡ true → choosing 1 row ≡ false
not_both row e = let t = choosing_tag ie.create_endpoint row e in unfold choosing has_tag in rw t

module _ (f : List ℕ → ℕ) where
  with_choosing : (tag other : ℕ) (row : List ℕ) → choosing tag (with_teid other f row) ≡ choosing tag row
  unfolding with_teid
  with_choosing tag other row = one (choosing other row)
    where
      one : (b : Bool) → choosing tag (pick b (set row 13 (f row)) row) ≡ choosing tag row
      one true = choosing_set tag row (f row)
      one false = refl

  with_pdr : (row : List ℕ) → choosing 1 row ≡ true → with_teid ie.create_endpoint f row ≡ row
  unfolding with_teid
  with_pdr row e = one (choosing ie.create_endpoint row) refl
    where
      one : (b : Bool) → choosing ie.create_endpoint row ≡ b → pick b (set row 13 (f row)) row ≡ row
      one true t = let z : ◌≡◌ {A = ℕ} 0 1 = cc (not_both row t) in absurd (omega arith)
      one false t = refl

  -- the second pass meets the rows that it would have met first
  keep_with : (rows : List (List ℕ)) → keep (choosing 1) (map (with_teid ie.create_endpoint f) rows) ≡ keep (choosing 1) rows
  unfolding keep
  keep_with [] = refl
  keep_with (row ∷ rows) =
      ap (λ (b : Bool). pick b (with_teid ie.create_endpoint f row ∷ keep (choosing 1) (map (with_teid ie.create_endpoint f) rows)) (keep (choosing 1) (map (with_teid ie.create_endpoint f) rows))) (with_choosing 1 ie.create_endpoint row)
      ∙ one (choosing 1 row) refl (keep_with rows)
    where
      one : (b : Bool) → choosing 1 row ≡ b → keep (choosing 1) (map (with_teid ie.create_endpoint f) rows) ≡ keep (choosing 1) rows
          → pick b (with_teid ie.create_endpoint f row ∷ keep (choosing 1) (map (with_teid ie.create_endpoint f) rows)) (keep (choosing 1) (map (with_teid ie.create_endpoint f) rows))
          ≡ pick b (row ∷ keep (choosing 1) rows) (keep (choosing 1) rows)
      one true t ih = let w = with_pdr row t in λ j. w j ∷ ih j
      one false t ih = ih

  with_both : (row : List ℕ) → with_teid 1 f (with_teid ie.create_endpoint f row) ≡ pick (choosing ie.create_endpoint row || choosing 1 row) (set row 13 (f row)) row
  unfolding with_teid
  with_both row = one (choosing ie.create_endpoint row) refl
    where
      one : (b : Bool) → choosing ie.create_endpoint row ≡ b
          → pick (choosing 1 (pick b (set row 13 (f row)) row)) (set (pick b (set row 13 (f row)) row) 13 (f (pick b (set row 13 (f row)) row))) (pick b (set row 13 (f row)) row)
          ≡ pick (b || choosing 1 row) (set row 13 (f row)) row
      one true t = rw (choosing_set 1 row (f row) ∙ not_both row t)
      one false t = refl

  module _ (n : ℕ) (plan : List ℕ) (h : n * row_width ≤ length plan) where
    rows_first : slices row_width n (passed ie.create_endpoint f n plan) ≡ map (with_teid ie.create_endpoint f) (slices row_width n plan)
    rows_first = rows_passed ie.create_endpoint f n plan h

    -- both passes
    pub stores_both : stores plan (places_from ie.create_endpoint 0 (rows_of n plan) ++ places_from 1 0 (rows_of n plan)) (map f (chosen_rows (rows_of n plan))) ≡ passed ie.create_pdr f n (passed ie.create_endpoint f n plan)
    unfolding chosen_rows
    stores_both =
        let rows : List (List ℕ) = rows_of n plan in
        let l = length_passed ie.create_endpoint f n plan h in
        let ps : places_from 1 0 (slices row_width n (passed ie.create_endpoint f n plan)) ≡ places_from 1 0 rows = ap (places_from 1 0) rows_first ∙ places_same (choosing 1) (with_teid ie.create_endpoint f) (with_choosing 1 ie.create_endpoint) 0 rows in
        let ks : keep (choosing 1) (slices row_width n (passed ie.create_endpoint f n plan)) ≡ keep (choosing 1) rows = ap (keep (choosing 1)) rows_first ∙ keep_with rows in
        ap (stores plan (places_from ie.create_endpoint 0 rows ++ places_from 1 0 rows)) (map-append f (keep (choosing ie.create_endpoint) rows) (keep (choosing 1) rows))
        ∙ stores_append plan (places_from ie.create_endpoint 0 rows) (places_from 1 0 rows) (map f (keep (choosing ie.create_endpoint) rows)) (map f (keep (choosing 1) rows)) (length_places ie.create_endpoint f 0 rows)
        ∙ ap (λ (x : List ℕ). stores x (places_from 1 0 rows) (map f (keep (choosing 1) rows))) (stores_pass ie.create_endpoint f n [] plan h)
        ∙ sym (λ j. stores (passed ie.create_endpoint f n plan) (ps j) (map f (ks j)))
        ∙ stores_pass 1 f n [] (passed ie.create_endpoint f n plan) (omega arith)

    pub rows_both : rows_of n (passed ie.create_pdr f n (passed ie.create_endpoint f n plan)) ≡ map (λ (row : List ℕ). pick (choosing ie.create_endpoint row || choosing 1 row) (set row 13 (f row)) row) (rows_of n plan)
    rows_both =
        let l = length_passed ie.create_endpoint f n plan h in
        rows_passed 1 f n (passed ie.create_endpoint f n plan) (omega arith) ∙ ap (map (with_teid 1 f)) rows_first ∙ each (rows_of n plan)
      where
        each : (rows : List (List ℕ)) → map (with_teid 1 f) (map (with_teid ie.create_endpoint f) rows) ≡ map (λ (row : List ℕ). pick (choosing ie.create_endpoint row || choosing 1 row) (set row 13 (f row)) row) rows
        each [] = refl
        each (row ∷ rows) = let here = with_both row in let more = each rows in λ j. here j ∷ more j

    pub rest_both : drop (n * row_width) (passed ie.create_pdr f n (passed ie.create_endpoint f n plan)) ≡ drop (n * row_width) plan
    rest_both = let l = length_passed ie.create_endpoint f n plan h in rest_passed 1 f n (passed ie.create_endpoint f n plan) (omega arith) ∙ rest_passed ie.create_endpoint f n plan h

-- ---- the choices of one type's rows

module _ (tag : ℕ) (k : Kind) (field : ℕ) (kinds : kind_in tag ≡ k) (ids : (row : List ℕ) → word its.tag row ≡ tag → row_id row ≡ word field row) where
  kinds_of : (rows : List (List ℕ)) → Of k (map choice_in (keep (choosing tag) rows))
  unfolding keep
  kinds_of [] = tt
  kinds_of (row ∷ rows) = one (choosing tag row) refl (kinds_of rows)
    where
      one : (b : Bool) → choosing tag row ≡ b → Of k (map choice_in (keep (choosing tag) rows)) → Of k (map choice_in (pick b (row ∷ keep (choosing tag) rows) (keep (choosing tag) rows)))
      one true t ih = (unfold choice_in in ap kind_in (choosing_tag tag row t) ∙ kinds, ih)
      one false t ih = ih

  chooses : List ℕ → Bool
  chooses row = bit 2 (word its.flags row)

  ids_of : (rows : List (List ℕ)) → map id_of (map choice_in (keep (choosing tag) rows)) ≡ map (word field) (keep chooses (tagged tag rows))
  unfolding keep tagged choosing has_tag chooses
  ids_of [] = refl
  ids_of (row ∷ rows) = one (eqb (word its.tag row) tag) refl (ids_of rows)
    where
      one : (b : Bool) → eqb (word its.tag row) tag ≡ b → map id_of (map choice_in (keep (choosing tag) rows)) ≡ map (word field) (keep chooses (tagged tag rows))
          → map id_of (map choice_in (pick (b && bit 2 (word its.flags row)) (row ∷ keep (choosing tag) rows) (keep (choosing tag) rows)))
          ≡ map (word field) (keep chooses (pick b (row ∷ tagged tag rows) (tagged tag rows)))
      one false t ih = ih
      one true t ih = two (bit 2 (word its.flags row)) (unfold choice_in in ids row (eqb-true (word its.tag row) tag t)) ih
        where
          two : (e : Bool) → (choice_in row).id ≡ word field row → map id_of (map choice_in (keep (choosing tag) rows)) ≡ map (word field) (keep chooses (tagged tag rows))
              → map id_of (map choice_in (pick e (row ∷ keep (choosing tag) rows) (keep (choosing tag) rows))) ≡ map (word field) (pick e (row ∷ keep chooses (tagged tag rows)) (keep chooses (tagged tag rows)))
          two true i ih' = λ j. i j ∷ ih' j
          two false i ih' = ih'

  pub apart_tag : (rows : List (List ℕ)) → has_repeat (map (word field) (tagged tag rows)) ≡ false → Apart (map choice_in (keep (choosing tag) rows)) × Of k (map choice_in (keep (choosing tag) rows))
  apart_tag rows e =
      (apart_kind k (map choice_in (keep (choosing tag) rows)) (kinds_of rows) (ap has_repeat (ids_of rows) ∙ repeat_keep (word field) chooses (tagged tag rows) e), kinds_of rows)

-- records of one kind with different IDs
pub apart_rows : (rows : List (List ℕ)) → has_repeat (map (word its.pdr_id) (tagged ie.create_pdr rows)) ≡ false → has_repeat (map (word its.endpoint_id) (tagged ie.create_endpoint rows)) ≡ false → Apart (map choice_in (chosen_rows rows))
unfolding chosen_rows
apart_rows rows p e =
    let a = apart_tag ie.create_endpoint of_endpoint 11 (unfold kind_in in refl) (λ row t. unfold row_id in rw t) rows e in
    let b = apart_tag 1 of_pdr 7 (unfold kind_in in refl) (λ row t. unfold row_id in rw t) rows p in
    rw (map-append choice_in (keep (choosing ie.create_endpoint) rows) (keep (choosing 1) rows))
    (apart_both (map choice_in (keep (choosing ie.create_endpoint) rows)) (map choice_in (keep (choosing 1) rows)) a.1 b.1 a.0 b.0)

-- each grant's TEID is the one that its row's kind and ID have
pub row_teids : (cs : List Chosen) (free : List ℕ) (rows : List (List ℕ)) → Apart (map choice_in rows)
    → map grant_teid (grant_from cs free (map choice_in rows))
    ≡ map (λ (row : List ℕ). granted_teid (grant_from cs free (map choice_in rows)) (kind_in (word its.tag row)) (row_id row)) rows
unfolding choice_in
row_teids cs free rows a =
    own_teids cs free (map choice_in rows) a
    ∙ grants_map (granted_teid (grant_from cs free (map choice_in rows))) cs free (map choice_in rows)
    ∙ map-map (λ (c : Choice). granted_teid (grant_from cs free (map choice_in rows)) c.kind c.id) choice_in rows

-- ---- the plan

pub record After (gs : List Grant) (n : ℕ) (plan plan' : List ℕ) : Type 0 where
  pub rows : rows_of n plan' ≡ map (row_with gs) (rows_of n plan)
  pub rest : drop (n * row_width) plan' ≡ drop (n * row_width) plan

pub plan_after : (gs : List Grant) (n : ℕ) (plan : List ℕ) → n * row_width ≤ length plan
    → map grant_teid gs ≡ map (λ (row : List ℕ). granted_teid gs (kind_in (word its.tag row)) (row_id row)) (chosen_rows (rows_of n plan))
    → After gs n plan (stores plan (places_from ie.create_endpoint 0 (rows_of n plan) ++ places_from 1 0 (rows_of n plan)) (map grant_teid gs))
unfolding row_with
plan_after gs n plan h e =
    let f : List ℕ → ℕ = λ row. granted_teid gs (kind_in (word its.tag row)) (row_id row) in
    let ps : List ℕ = places_from ie.create_endpoint 0 (rows_of n plan) ++ places_from 1 0 (rows_of n plan) in
    let is : stores plan ps (map grant_teid gs) ≡ passed ie.create_pdr f n (passed ie.create_endpoint f n plan) = ap (stores plan ps) e ∙ stores_both f n plan h in
    record { rows = ap (rows_of n) is ∙ rows_both f n plan h; rest = ap (drop (n * row_width)) is ∙ rest_both f n plan h }
