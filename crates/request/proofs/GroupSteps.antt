-- A group of a message, read into its row: what the code does with it is the rules' step. Assumes nothing.
use mathlib.Core.Path.{◌≡◌, refl, sym, ap, subst, ◌∙◌}
use mathlib.Core.Logic.{inl, inr}
use Prim.Native.Nat.{ℕ, zero, suc, ◌+◌, ◌*◌, ◌≤◌, zero-le}
use native.Mathlib.Omega.{arith}
use mathlib.Core.Bool.{Bool, true, false}
use mathlib.Core.Option.{Option, none, some}
use mathlib.Core.List.{List, [], ◌∷◌}
use lib.ListN.{length, set, replicate, length-set}
use lib.Dec.{eqb}
use borrow.Author.Tests.{ne_eqb}
use Rattle.octets.specs.Choice.{pick, bind_option, is_some}
use Rattle.octets.specs.Octets.{put}
use Rattle.octets.specs.Lists.{member}
use Rattle.octets.proofs.Tests.{of_true}
use Rattle.rules.specs.Elements.{missing, conditional}
use Rattle.rules.specs.Message.{inside, elements}
use Rattle.rules.specs.Reading as rules
use Rattle.rules.specs.Reading.{Reading, faulty, done, refusal_at, and_then, requiring, Members, no_members, members_read, pdi_read, pdr_item, endpoint_item, change_from, item_from, group_read}
use Rattle.rules.specs.Request.{Item, creates_pdr, creates_endpoint, updates_pdr, removes_pdr, removes_endpoint, with_item, pdr_in}
use Rattle.rules.specs.Types as ie
use Rattle.plan.specs.Rows.{word, row_pdr, row_endpoint, row_change, row_local, row_fteid, row_ue, ue_from, row_far, row_address, present, row_width}
use Rattle.plan.specs.Words as its
use Rattle.frame.proofs.Among.{OneOf}
use Rattle.reading.specs.Verdicts.{stopped, numbered, outcome, fine}
use Rattle.reading.specs.Rows.{row_members, Tidy, Reads, closing, closed_read}
use Rattle.reading.proofs.MemberLaws.{stops, is_done}
use Rattle.reading.proofs.Places.{one_of}
use Rattle.reading.proofs.RowLaws.{apart}
use Rattle.request.specs.Items.{csid_item, item_of, row_item, is_update, has_row, Puts, with_row, group_types, group_at}
use Rattle.request.specs.declared.items.Draft.{Draft}
use Rattle.request.proofs.DraftLaws.{step_fault, went, row_added}
use Rattle.std.specs.Prelude.{Result, Ok, Err}
use Rattle.reading.specs.declared.Fault.{Fault}

-- ---- groups

-- a group's end is that of its item
module _ (t : ℕ) (k : member t group_types ≡ true) where
  by_group : (P : ℕ → Type 0) → P 1 → P ie.create_endpoint → P 9 → P 15 → P ie.remove_endpoint → P t
  by_group P a b c d e = go (one_of t 1 (ie.create_endpoint ∷ ie.update_pdr ∷ ie.remove_pdr ∷ ie.remove_endpoint ∷ []) (of_true k))
    where
      go : OneOf t ie.create_pdr (ie.create_endpoint ∷ ie.update_pdr ∷ ie.remove_pdr ∷ ie.remove_endpoint ∷ []) → P t
      go (inl q) = subst P (sym q) a
      go (inr (inl q)) = subst P (sym q) b
      go (inr (inr (inl q))) = subst P (sym q) c
      go (inr (inr (inr (inl q)))) = subst P (sym q) d
      go (inr (inr (inr (inr q)))) = subst P (sym q) e

  closing_is : (p : ℕ) (m : Members) → closing t p m ≡ and_then (item_from t p m) (λ i. done m)
  unfolding closing
  closing_is p m = by_group (λ t. closing t p m ≡ and_then (item_from t p m) (λ i. done m)) refl refl refl refl refl

  then_fault : {A B : Type 0} (x : Reading A) (b : B) {c n q : ℕ} → numbered (and_then x (λ i. done b)) ≡ stopped c n q → numbered x ≡ stopped c n q
  then_fault (faulty f) b h = cc
  then_fault (done a) b h = let z : ◌≡◌ {A = ℕ} 0 1 = cc in absurd (omega arith)

  group_fault : (p : ℕ) (v : List ℕ) {c n q : ℕ} → numbered (closed_read t p v no_members) ≡ stopped c n q → numbered (group_read t p v) ≡ stopped c n q
  unfolding closed_read group_read
  group_fault p v {c} {n} {q} h = go (members_read pdi_read t (elements (inside p) v) no_members) h
    where
      go : (x : Reading Members) → numbered (and_then x (closing t p)) ≡ stopped c n q → numbered (and_then x (item_from t p)) ≡ stopped c n q
      go (faulty f) e = cc
      go (done m) e = then_fault (item_from t p m) m (ap (λ (y : Reading Members). numbered y) (sym (closing_is p m)) ∙ e)

-- the item that a row makes
module _ (row : List ℕ) where
  far_same : bind_option (row_far row) (λ f. f) ≡ present (word its.has_far_id row) (word its.far_id row)
  unfolding row_far present
  far_same = go (word its.has_far_id row)
    where
      go : (n : ℕ) → bind_option (pick (eqb n 2) (some none) (pick (eqb n 1) (some (some (word its.far_id row))) none)) (λ f. f) ≡ pick (eqb n 1) (some (word its.far_id row)) none
      go zero = refl
      go (suc zero) = refl
      go (suc (suc zero)) = refl
      go (suc (suc (suc n))) = rw (ne_eqb (suc (suc (suc n))) 2 (λ h. absurd (omega arith)), ne_eqb (suc (suc (suc n))) 1 (λ h. absurd (omega arith)))

  abbrev made : ℕ → ℕ → ℕ → Item
  made n k s = creates_pdr (record { id = k; precedence = n; far = bind_option (row_far row) (λ f. f); source = s; local = row_local row; endpoint = present (word its.has_endpoint_id row) (word its.endpoint_id row); address = row_ue row })

  pdr_is : (p : ℕ) (i : Item) → pdr_item p (row_members row) ≡ done i → i ≡ creates_pdr (row_pdr row)
  unfolding pdr_item row_members present row_pdr
  pdr_is p i h =
      go (eqb (word its.has_pdi row) 1) (eqb (word its.has_precedence row) 1) (eqb (word its.has_pdr_id row) 1) (eqb (word its.has_source row) 1) h
      ∙ ap (λ (f : Option ℕ). creates_pdr (record { id = word its.pdr_id row; precedence = word its.precedence row; far = f; source = word its.source row; local = row_local row; endpoint = present (word its.has_endpoint_id row) (word its.endpoint_id row); address = row_ue row })) far_same
    where
      never : {X : Type 0} {f : rules.Fault} → faulty f ≡ done i → X
      never q = let z : ◌≡◌ {A = ℕ} 0 1 = cc in absurd (omega arith)

      go : (a b c e : Bool)
          → pick a (requiring missing ie.precedence p (pick b (some (word its.precedence row)) none) (λ n. requiring missing ie.pdr_id p (pick c (some (word its.pdr_id row)) none) (λ k. requiring missing ie.source_interface p (pick e (some (word its.source row)) none) (λ s. done (made n k s))))) (refusal_at missing ie.pdi p) ≡ done i
          → i ≡ made (word its.precedence row) (word its.pdr_id row) (word its.source row)
      go true true true true q = cc
      go true true true false q = never q
      go true true false e q = never q
      go true false c e q = never q
      go false b c e q = never q

  endpoint_is : (p : ℕ) (i : Item) → endpoint_item p (row_members row) ≡ done i → i ≡ creates_endpoint (row_endpoint row)
  unfolding endpoint_item row_members present row_local row_endpoint
  endpoint_is p i h = go (eqb (word its.flags row) 0) (eqb (word its.has_endpoint_id row) 1) h
    where
      go : (a b : Bool) → requiring conditional ie.fteid p (pick a none (some (row_fteid row))) (λ v. requiring missing ie.endpoint_id p (pick b (some (word its.endpoint_id row)) none) (λ k. done (creates_endpoint (record { id = k; local = v; address = row_ue row })))) ≡ done i
          → i ≡ creates_endpoint (record { id = word its.endpoint_id row; local = row_fteid row; address = row_ue row })
      go true b q = let z : ◌≡◌ {A = ℕ} 0 1 = cc in absurd (omega arith)
      go false true q = cc
      go false false q = let z : ◌≡◌ {A = ℕ} 0 1 = cc in absurd (omega arith)

  -- one with a number alone
  one_is : (make : ℕ → Item) (t a n p : ℕ) (i : Item) → requiring missing t p (present a n) (λ k. done (make k)) ≡ done i → i ≡ make n
  unfolding present
  one_is make t a n p i h = go (eqb a 1) h
    where
      go : (b : Bool) → requiring missing t p (pick b (some n) none) (λ k. done (make k)) ≡ done i → i ≡ make n
      go true q = cc
      go false q = let z : ◌≡◌ {A = ℕ} 0 1 = cc in absurd (omega arith)

  pub item_is : (t : ℕ) → member t group_types ≡ true → (p : ℕ) (i : Item) → item_from t p (row_members row) ≡ done i → i ≡ item_of t row
  unfolding item_from item_of change_from row_members row_change
  item_is t k =
      by_group t k (λ t. (p : ℕ) (i : Item) → item_from t p (row_members row) ≡ done i → i ≡ item_of t row)
      pdr_is endpoint_is
      (one_is (λ n. updates_pdr (record { id = n; precedence = present (word its.has_precedence row) (word its.precedence row); far = row_far row; pdi = eqb (word its.has_pdi row) 1 })) ie.pdr_id (word its.has_pdr_id row) (word its.pdr_id row))
      (one_is removes_pdr ie.pdr_id (word its.has_pdr_id row) (word its.pdr_id row))
      (one_is removes_endpoint ie.endpoint_id (word its.has_endpoint_id row) (word its.endpoint_id row))

  -- it has a row, and creates a PDR where its type says so
  pub group_row : (t : ℕ) → member t group_types ≡ true → has_row (item_of t row) ≡ true
  unfolding item_of has_row is_update
  group_row t k = by_group t k (λ t. has_row (item_of t row) ≡ true) refl refl refl refl refl

  pub group_creates : (t : ℕ) → member t group_types ≡ true → is_some (pdr_in (item_of t row)) ≡ eqb t ie.create_pdr
  unfolding item_of pdr_in
  group_creates t k = by_group t k (λ t. is_some (pdr_in (item_of t row)) ≡ eqb t ie.create_pdr) refl refl refl refl refl

  -- the type stands in word 0
  pub tagged_row : (t : ℕ) → length row ≡ row_width → row_item (set row 0 t) ≡ item_of t row
  unfolding row_item item_of csid_item row_pdr row_endpoint row_change row_address present row_far row_local row_fteid row_ue
  tagged_row t = apart (λ x. row_item (set x 0 t) ≡ item_of t x) (λ a b c d e f g h i j k l m n o p q r s u. refl) row

  pub group_item : (t : ℕ) → member t group_types ≡ true → (p : ℕ) (v : List ℕ) → closed_read t p v no_members ≡ done (row_members row) → group_read t p v ≡ done (item_of t row)
  unfolding closed_read group_read
  group_item t k p v h = go (members_read pdi_read t (elements (inside p) v) no_members) h
    where
      end : (n : Members) (x : Reading Item) → item_from t p n ≡ x → and_then x (λ j. done n) ≡ done (row_members row) → item_from t p n ≡ done (item_of t row)
      end n (faulty f) e q = let z : ◌≡◌ {A = ℕ} 0 1 = cc in absurd (omega arith)
      end n (done j) e q =
          let same : n ≡ row_members row = cc in
          e ∙ ap done (item_is t k p j (ap (item_from t p) (sym same) ∙ e))

      go : (x : Reading Members) → and_then x (closing t p) ≡ done (row_members row) → and_then x (item_from t p) ≡ done (item_of t row)
      go (faulty f) q = let z : ◌≡◌ {A = ℕ} 0 1 = cc in absurd (omega arith)
      go (done n) q = end n (item_from t p n) refl (sym (closing_is t k p n) ∙ q)

-- a row of zeros has no members
pub no_members_lem : row_members (replicate row_width 0) ≡ no_members
unfolding row_members present row_far row_local row_ue ue_from
no_members_lem = refl

pub tidy_start : Tidy (replicate row_width 0)
tidy_start = record { wide = refl; pdr_id = zero-le; precedence = zero-le; far = zero-le; source = zero-le; endpoint_id = zero-le; pdi = zero-le }

module _ (t : ℕ) (k : member t group_types ≡ true) (p : ℕ) (v row : List ℕ) (r : Result (Unit {0}) Fault) (c : Draft) (words : List ℕ) (read : Reads (closed_read t p v (row_members (replicate row_width 0))) row r) where
  pub group_refused : {f : Fault} {s : Result Draft Fault} → r ≡ Err f → s ≡ Err f → Puts (group_at t p v) c words s words
  group_refused {f} q e =
      let h : numbered (closed_read t p v no_members) ≡ stopped f.cause f.kind f.place = ap (λ (m : Members). numbered (closed_read t p v m)) (sym no_members_lem) ∙ sym read.told ∙ ap (λ (z : Result (Unit {0}) Fault). outcome z (row_members row)) q in
      rw e (record { puts = λ nodes. record { follows = λ d m. step_fault (stops (group_read t p v) _ (group_fault t k p v h)) } })

  pub group_taken : r ≡ fine → row_width * c.rows + row_width ≤ length words → {b : Draft} {words' : List ℕ} → b ≡ with_row (eqb t ie.create_pdr) c → words' ≡ put (row_width * c.rows) (set row 0 t) words
      → Puts (group_at t p v) c words (Ok b) words'
  group_taken q room to stored =
      let h : closed_read t p v no_members ≡ done (row_members row) =
      is_done _ _ (ap (λ (m : Members). numbered (closed_read t p v m)) (sym no_members_lem) ∙ sym read.told ∙ ap (λ (y : Result (Unit {0}) Fault). outcome y (row_members row)) q) in
      let i = item_of t row in
      let g : group_read t p v ≡ done i = group_item row t k p v h in
      let wide = read.tidy.wide in
      rw (to, stored)
      record {
        puts = λ nodes. record {
          follows = λ d m. went (with_item i d) (rw g)
              (row_added m i (set row 0 t) (eqb t ie.create_pdr) (tagged_row row t wide) (group_row row t k) (group_creates row t k) (simp length-set wide) room);
        };
      }
