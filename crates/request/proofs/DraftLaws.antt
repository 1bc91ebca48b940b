-- What was read so far, with one thing more. Assumes nothing.
use mathlib.Core.Path.{◌≡◌, refl, sym, ap, ap₂, subst, ◌∙◌}
use Prim.Native.Nat.{ℕ, zero, suc, ◌+◌, ◌-◌, ◌*◌, ◌≤◌, ◌<◌}
use native.Mathlib.Numerals.{add-one}
use native.Mathlib.Omega.{arith}
use mathlib.Core.Bool.{Bool, true, false, not, ◌||◌}
use mathlib.Core.Option.{Option, none, some}
use mathlib.Core.List.{List, [], ◌∷◌, ◌++◌, append-nil, map}
use lib.ListN.{length, set, take, drop, length-drop}
use lib.Seq.{get_or-set_same, get_or-set_other, take_at, take-append-le, drop-append-le, take-take, drop-drop, length-take-le}
use lib.Dec.{eqb}
use borrow.Author.Tests.{eq-eqb, eqb-true, eqb-false}
use Rattle.octets.specs.Choice.{pick, cons_option, is_some, is_nil}
use Rattle.octets.specs.Octets.{put, slices}
use Rattle.octets.specs.Lists.{member, any, keep, collect}
use Rattle.octets.proofs.ListLaws.{collect_append, map-append}
use Rattle.octets.proofs.Put.{drop_take}
use Rattle.rules.specs.Request as rules
use Rattle.rules.specs.Reading.{Reading, done}
use Rattle.rules.specs.Request.{Item, updates_endpoint, NewPdr, with_item, with_node, pdr_in, creates_any}
use Rattle.plan.specs.Rows.{row_width}
use Rattle.reading.specs.Verdicts.{Outcome, stopped, numbered, fault}
use Rattle.request.specs.Items.{row_item, is_update, has_row, met, Means, DraftRead, Steps, with_note, with_row}
use Rattle.request.specs.declared.items.Draft.{Draft}
use Rattle.std.specs.Prelude.{Result, Ok, Err}
use Rattle.reading.specs.declared.Fault.{Fault}

-- ---- steps

pub same_Err : {A : Type 0} (f g : Fault) → ◌≡◌ {A = Result A Fault} (Err f) (Err g) → f ≡ g
same_Err f g e = cc

pub step_fault : {x : Reading rules.Draft} {c t p : ℕ} {nodes words : List ℕ} → numbered x ≡ stopped c t p → Steps x (fault c t p) nodes words
step_fault {x} {c} {t} {p} e = record { fault = λ f q. e ∙ same q; next = λ d q. other q }
  where
    same : {f : Fault} → ◌≡◌ {A = Result Draft Fault} (fault c t p) (Err f) → ◌≡◌ {A = Outcome rules.Draft} (stopped c t p) (stopped f.cause f.kind f.place)
    same q = ap (λ (x : Fault). stopped x.cause x.kind x.place) (same_Err _ _ q)

    other : {d : Draft} {X : Type 0} → ◌≡◌ {A = Result Draft Fault} (fault c t p) (Ok d) → X
    other q = let z : ◌≡◌ {A = ℕ} 0 1 = cc in absurd (omega arith)

pub step_next : {x : Reading rules.Draft} {c : Draft} {nodes words : List ℕ} → DraftRead x c nodes words → Steps x (Ok c) nodes words
step_next {x} {c} {nodes} {words} h = record { fault = λ f q. other q; next = λ k q. subst (λ (j : Draft). DraftRead x j nodes words) (same q) h }
  where
    same : {k : Draft} → ◌≡◌ {A = Result Draft Fault} (Ok c) (Ok k) → c ≡ k
    same q = cc

    other : {f : Fault} {X : Type 0} → ◌≡◌ {A = Result Draft Fault} (Ok c) (Err f) → X
    other q = let z : ◌≡◌ {A = ℕ} 0 1 = cc in absurd (omega arith)

-- a step that went well
pub went : {x : Reading rules.Draft} {c : Draft} {nodes words : List ℕ} (d : rules.Draft) → x ≡ done d → Means d c nodes words → Steps x (Ok c) nodes words
went d e m = step_next (record { draft = d; is = e; means = m })

-- ---- lists with one more

module _ {A : Type 0} (p : A → Bool) where
  pub keep_more : (xs : List A) (x : A) → keep p (xs ++ (x ∷ [])) ≡ keep p xs ++ keep p (x ∷ [])
  unfolding keep
  keep_more [] x = refl
  keep_more (y ∷ xs) x = by_test (p y) (keep_more xs x)
    where
      by_test : (b : Bool) → keep p (xs ++ (x ∷ [])) ≡ keep p xs ++ keep p (x ∷ []) → pick b (y ∷ keep p (xs ++ (x ∷ []))) (keep p (xs ++ (x ∷ []))) ≡ pick b (y ∷ keep p xs) (keep p xs) ++ keep p (x ∷ [])
      by_test true h = ap (λ (l : List A). y ∷ l) h
      by_test false h = h

  pub any_more : (xs : List A) (x : A) → any p (xs ++ (x ∷ [])) ≡ (any p xs || p x)
  unfolding any
  any_more [] x = or-false (p x)
    where
      or-false : (b : Bool) → (b || false) ≡ b
      or-false true = refl
      or-false false = refl
  any_more (y ∷ xs) x = by_test (p y) (any_more xs x)
    where
      by_test : (b : Bool) → any p (xs ++ (x ∷ [])) ≡ (any p xs || p x) → (b || any p (xs ++ (x ∷ []))) ≡ (b || any p xs || p x)
      by_test true h = refl
      by_test false h = h

creates_more : (is : List Item) (i : Item) → creates_any (is ++ (i ∷ [])) ≡ (creates_any is || is_some (pdr_in i))
unfolding creates_any collect
creates_more is i = ap (λ (l : List NewPdr). not (is_nil l)) (collect_append pdr_in is (i ∷ [])) ∙ go (collect pdr_in is) (pdr_in i)
  where
    go : (l : List NewPdr) (o : Option NewPdr) → not (is_nil (l ++ cons_option o [])) ≡ (not (is_nil l) || is_some o)
    go [] none = refl
    go [] (some p) = refl
    go (x ∷ l) o = refl

-- ---- a row written behind n others

-- what stands before and behind a place one row further on
module _ (k : ℕ) (row words : List ℕ) (fits : row_width + k ≤ length words) where
  take_put : take row_width (put (row_width + k) row words) ≡ take row_width words
  unfolding put
  take_put =
      let long : length (take (row_width + k) words) ≡ row_width + k = length-take-le (row_width + k) words fits in
      take-append-le row_width (take (row_width + k) words) (row ++ drop (row_width + k + length row) words) (omega arith) ∙ take-take row_width (row_width + k) words (omega arith)

  drop_put : drop row_width (put (row_width + k) row words) ≡ put k row (drop row_width words)
  unfolding put
  drop_put =
      let long : length (take (row_width + k) words) ≡ row_width + k = length-take-le (row_width + k) words fits in
      let n : row_width + (k + length row) ≡ row_width + k + length row = omega arith in
      drop-append-le row_width (take (row_width + k) words) (row ++ drop (row_width + k + length row) words) (omega arith)
      ∙ ap₂ (λ (a b : List ℕ). a ++ (row ++ b)) (drop_take row_width k words) (ap (λ (i : ℕ). drop i words) (sym n) ∙ sym (drop-drop (k + length row) row_width words))

slices_more : (n : ℕ) (row words : List ℕ) → length row ≡ row_width → row_width * n + row_width ≤ length words → slices row_width (suc n) (put (row_width * n) row words) ≡ slices row_width n words ++ (row ∷ [])
unfolding slices put
slices_more zero row words w h = ap (λ (l : List ℕ). l ∷ []) (take_at row (drop (0 + length row) words) row_width w)
slices_more (suc n) row words w h =
    let far : length (drop row_width words) ≡ length words - row_width = length-drop row_width words in
    let k : row_width * suc n ≡ row_width + row_width * n = omega arith in
    let front : take row_width (put (row_width * suc n) row words) ≡ take row_width words = ap (λ (i : ℕ). take row_width (put i row words)) k ∙ take_put (row_width * n) row words (omega arith) in
    let back : drop row_width (put (row_width * suc n) row words) ≡ put (row_width * n) row (drop row_width words) = ap (λ (i : ℕ). drop row_width (put i row words)) k ∙ drop_put (row_width * n) row words (omega arith) in
    ap₂ (λ (l : List ℕ) (ls : List (List ℕ)). l ∷ ls) front (ap (slices row_width (suc n)) back ∙ slices_more n row (drop row_width words) w (omega arith))

-- ---- drafts with one thing more

module _ {d : rules.Draft} {c : Draft} {nodes words : List ℕ} (m : Means d c nodes words) where
  -- an item and its row
  pub row_added : (i : Item) (row : List ℕ) (b : Bool) → row_item row ≡ i → has_row i ≡ true → is_some (pdr_in i) ≡ b → length row ≡ row_width → row_width * c.rows + row_width ≤ length words
      → Means (with_item i d) (with_row b c) nodes (put (row_width * c.rows) row words)
  row_added i row b is has makes wide fits =
      record {
        seid = m.seid;
        seid_there = m.seid_there;
        flags = m.flags;
        noted = m.noted ∙ sym (any_more is_update d.items i ∙ no_update);
        creates = ap (λ (x : Bool). pick b true x) m.creates ∙ turned b (creates_any d.items) ∙ ap (λ (x : Bool). creates_any d.items || x) (sym makes) ∙ sym (creates_more d.items i);
        seen = m.seen;
        rows =
            ap (λ (k : ℕ). map row_item (slices row_width k (put (row_width * c.rows) row words))) (add-one c.rows)
            ∙ ap (map row_item) (slices_more c.rows row words wide fits)
            ∙ map-append row_item (slices row_width c.rows words) (row ∷ [])
            ∙ ap₂ (λ (a e : List Item). a ++ e) m.rows (ap (λ (x : Item). x ∷ []) is ∙ sym own)
            ∙ sym (keep_more has_row d.items i);
      }
    where
      own : keep has_row (i ∷ []) ≡ i ∷ []
      own = unfold keep in (rw has)

      no_update : (any is_update d.items || is_update i) ≡ any is_update d.items
      no_update = go (any is_update d.items) (is_update i) (unfold has_row in has)
        where
          go : (x y : Bool) → not y ≡ true → (x || y) ≡ x
          go true y h = refl
          go false true h = let z : ◌≡◌ {A = ℕ} 0 1 = cc in absurd (omega arith)
          go false false h = refl

      turned : (x y : Bool) → pick x true y ≡ (y || x)
      turned true true = refl
      turned true false = refl
      turned false true = refl
      turned false false = refl

  -- element 129
  pub note_added : Means (with_item updates_endpoint d) (with_note c) nodes words
  note_added =
      record {
        seid = m.seid;
        seid_there = m.seid_there;
        flags = m.flags;
        noted = sym (any_more is_update d.items updates_endpoint ∙ unfold is_update in (or-true (any is_update d.items)));
        creates = m.creates ∙ sym (creates_more d.items updates_endpoint ∙ unfold pdr_in in (or_none (creates_any d.items)));
        seen = m.seen;
        rows = m.rows ∙ sym (keep_more has_row d.items updates_endpoint ∙ unfold keep has_row is_update in (append-nil (keep has_row d.items)));
      }
    where
      or-true : (b : Bool) → (b || true) ≡ true
      or-true true = refl
      or-true false = refl

      or_none : (b : Bool) → (b || false) ≡ b
      or_none true = refl
      or_none false = refl

  -- a node type
  pub node_added : (k : ℕ) → k < length nodes → Means (with_node k d) c (set nodes k 1) words
  node_added k l =
      record {
        seid = m.seid;
        seid_there = m.seid_there;
        flags = m.flags;
        noted = m.noted;
        creates = m.creates;
        seen = λ j. at j (eqb j k) refl;
        rows = m.rows;
      }
    where
      at : (j : ℕ) (b : Bool) → eqb j k ≡ b → met j (set nodes k 1) ≡ member j (k ∷ d.nodes)
      at j true h = unfold member in (rw (eqb-true j k h, get_or-set_same nodes k 1 0 l, eq-eqb k k refl))
      at j false h = unfold member in (rw (h, get_or-set_other nodes k j 1 0 (eqb-false j k h)) (m.seen j))
