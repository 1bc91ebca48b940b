-- The rows of a plan as the items of a message, and the request that they mean. Assumes nothing.
use mathlib.Core.Path.{◌≡◌, refl, sym, ap, ap₂, subst, ◌∙◌}
use Prim.Native.Nat.{ℕ, zero, suc}
use native.Mathlib.Omega.{arith}
use mathlib.Core.Logic.{◌⊎◌, inl, inr}
use mathlib.Core.Bool.{Bool, true, false, ◌&&◌, ◌||◌}
use mathlib.Core.Option.{Option, none, some}
use mathlib.Core.List.{List, [], ◌∷◌, map}
use lib.Dec.{eqb, ltb}
use borrow.Author.Tests.{ne_eqb, eqb-true, eqb-false, lt-ltb}
use Rattle.octets.specs.Choice.{pick, value_or, map_option, cons_option}
use Rattle.octets.specs.Lists.{any, keep, collect}
use Rattle.octets.specs.Rows.{has_tag}
use Rattle.octets.proofs.Tests.{pick_either}
use Rattle.rules.specs.Request as rules
use Rattle.rules.specs.Request.{Item, creates_pdr, creates_endpoint, updates_pdr, removes_pdr, removes_endpoint, sets_csid, clears_csids, updates_endpoint, cleared, changed, pdr_in, endpoint_in, change_in, gone_pdr_in, gone_endpoint_in, csid_in, clears, strange_address, is_unsupported, restoring_in, request_from, NewPdr, NewEndpoint}
use Rattle.rules.specs.Elements.{Fqcsid, sets, removal, ue_strange}
use Rattle.plan.specs.Rows.{word, tagged, rows_of, row_pdr, row_endpoint, row_ue, ue_from, row_change, row_pdi, row_strange, row_pdr_id, row_endpoint_id, row_address, row_csid, is_null_row, request_in}
use Rattle.rules.specs.Types as ie
use Rattle.plan.specs.Words as its
use Rattle.request.specs.Items.{csid_item, item_of, row_item, is_update, has_row, flags_of, Means}
use Rattle.request.specs.declared.items.Draft.{Draft}

-- ---- a row by its type

by_tag : (P : ℕ → Type 0) → P 1 → P ie.create_endpoint → P 9 → P 15 → P ie.remove_endpoint → P 65
    → ((t : ℕ) → (t ≡ ie.create_pdr → ⊥) → (t ≡ ie.create_endpoint → ⊥) → (t ≡ ie.update_pdr → ⊥) → (t ≡ ie.remove_pdr → ⊥) → (t ≡ ie.remove_endpoint → ⊥) → (t ≡ ie.fqcsid → ⊥) → P t) → (t : ℕ) → P t
by_tag P a b c d e f o t =
    at 1 a (λ n1. at ie.create_endpoint b (λ n2. at 9 c (λ n3. at 15 d (λ n4. at ie.remove_endpoint e (λ n5. at 65 f (λ n6. o t n1 n2 n3 n4 n5 n6))))))
  where
    at : (k : ℕ) → P k → ((t ≡ k → ⊥) → P t) → P t
    at k p other = go (eqb t k) refl
      where
        go : (q : Bool) → eqb t k ≡ q → P t
        go true h = subst P (sym (eqb-true t k h)) p
        go false h = other (eqb-false t k h)

-- the item of an FQ-CSID's row
by_state : (row : List ℕ) (P : Item → Type 0) → P (sets_csid (sets (word its.id_type row) (row_address row) (word its.csid row ∷ []) (word its.node_type row))) → P (sets_csid (removal (word its.node_type row))) → P clears_csids → P updates_endpoint
    → P (csid_item row)
unfolding csid_item
by_state row P a b c d = pick_either P (eqb (word its.verb row) 1) _ _ a (pick_either P (eqb (word its.verb row) 2) _ _ b (pick_either P (eqb (word its.verb row) 3) _ _ c d))

-- the parts of an item, by the row's type
module _ (row : List ℕ) where
  pdr_part : (t : ℕ) → pdr_in (item_of t row) ≡ pick (eqb t ie.create_pdr) (some (row_pdr row)) none
  unfolding item_of pdr_in
  pdr_part =
      by_tag (λ t. pdr_in (item_of t row) ≡ pick (eqb t ie.create_pdr) (some (row_pdr row)) none) refl refl refl refl refl (by_state row (λ i. pdr_in i ≡ none) refl refl refl refl)
      (λ t a b c d e f. rw (ne_eqb t ie.create_pdr a, ne_eqb t ie.create_endpoint b, ne_eqb t ie.update_pdr c, ne_eqb t ie.remove_pdr d, ne_eqb t ie.remove_endpoint e, ne_eqb t ie.fqcsid f))

  endpoint_part : (t : ℕ) → endpoint_in (item_of t row) ≡ pick (eqb t ie.create_endpoint) (some (row_endpoint row)) none
  unfolding item_of endpoint_in
  endpoint_part =
      by_tag (λ t. endpoint_in (item_of t row) ≡ pick (eqb t ie.create_endpoint) (some (row_endpoint row)) none) refl refl refl refl refl (by_state row (λ i. endpoint_in i ≡ none) refl refl refl refl)
      (λ t a b c d e f. rw (ne_eqb t ie.create_pdr a, ne_eqb t ie.create_endpoint b, ne_eqb t ie.update_pdr c, ne_eqb t ie.remove_pdr d, ne_eqb t ie.remove_endpoint e, ne_eqb t ie.fqcsid f))

  change_part : (t : ℕ) → change_in (item_of t row) ≡ pick (eqb t ie.update_pdr) (some (row_change row)) none
  unfolding item_of change_in
  change_part =
      by_tag (λ t. change_in (item_of t row) ≡ pick (eqb t ie.update_pdr) (some (row_change row)) none) refl refl refl refl refl (by_state row (λ i. change_in i ≡ none) refl refl refl refl)
      (λ t a b c d e f. rw (ne_eqb t ie.create_pdr a, ne_eqb t ie.create_endpoint b, ne_eqb t ie.update_pdr c, ne_eqb t ie.remove_pdr d, ne_eqb t ie.remove_endpoint e, ne_eqb t ie.fqcsid f))

  gone_pdr_part : (t : ℕ) → gone_pdr_in (item_of t row) ≡ pick (eqb t ie.remove_pdr) (some (row_pdr_id row)) none
  unfolding item_of gone_pdr_in
  gone_pdr_part =
      by_tag (λ t. gone_pdr_in (item_of t row) ≡ pick (eqb t ie.remove_pdr) (some (row_pdr_id row)) none) refl refl refl refl refl (by_state row (λ i. gone_pdr_in i ≡ none) refl refl refl refl)
      (λ t a b c d e f. rw (ne_eqb t ie.create_pdr a, ne_eqb t ie.create_endpoint b, ne_eqb t ie.update_pdr c, ne_eqb t ie.remove_pdr d, ne_eqb t ie.remove_endpoint e, ne_eqb t ie.fqcsid f))

  gone_endpoint_part : (t : ℕ) → gone_endpoint_in (item_of t row) ≡ pick (eqb t ie.remove_endpoint) (some (row_endpoint_id row)) none
  unfolding item_of gone_endpoint_in
  gone_endpoint_part =
      by_tag (λ t. gone_endpoint_in (item_of t row) ≡ pick (eqb t ie.remove_endpoint) (some (row_endpoint_id row)) none) refl refl refl refl refl (by_state row (λ i. gone_endpoint_in i ≡ none) refl refl refl refl)
      (λ t a b c d e f. rw (ne_eqb t ie.create_pdr a, ne_eqb t ie.create_endpoint b, ne_eqb t ie.update_pdr c, ne_eqb t ie.remove_pdr d, ne_eqb t ie.remove_endpoint e, ne_eqb t ie.fqcsid f))

  csid_state : csid_in (csid_item row) ≡ row_csid row
  unfolding csid_item csid_in row_csid
  csid_state = go (eqb (word its.verb row) 1) (eqb (word its.verb row) 2) (eqb (word its.verb row) 3)
    where
      go : (a b c : Bool)
          → csid_in (pick a (sets_csid (sets (word its.id_type row) (row_address row) (word its.csid row ∷ []) (word its.node_type row))) (pick b (sets_csid (removal (word its.node_type row))) (pick c clears_csids updates_endpoint)))
          ≡ pick a (some (sets (word its.id_type row) (row_address row) (word its.csid row ∷ []) (word its.node_type row))) (pick b (some (removal (word its.node_type row))) none)
      go true b c = unfold csid_in in refl
      go false true c = unfold csid_in in refl
      go false false true = unfold csid_in in refl
      go false false false = unfold csid_in in refl

  csid_part : (t : ℕ) → csid_in (item_of t row) ≡ pick (eqb t ie.fqcsid) (row_csid row) none
  unfolding item_of csid_in
  csid_part =
      by_tag (λ t. csid_in (item_of t row) ≡ pick (eqb t ie.fqcsid) (row_csid row) none) refl refl refl refl refl csid_state
      (λ t a b c d e f. rw (ne_eqb t ie.create_pdr a, ne_eqb t ie.create_endpoint b, ne_eqb t ie.update_pdr c, ne_eqb t ie.remove_pdr d, ne_eqb t ie.remove_endpoint e, ne_eqb t ie.fqcsid f))

  clear_state : clears (csid_item row) ≡ is_null_row row
  unfolding csid_item clears is_null_row
  clear_state = go (word its.verb row)
    where
      go : (n : ℕ) → clears (pick (eqb n 1) (sets_csid (sets (word its.id_type row) (row_address row) (word its.csid row ∷ []) (word its.node_type row))) (pick (eqb n 2) (sets_csid (removal (word its.node_type row))) (pick (eqb n 3) clears_csids updates_endpoint))) ≡ eqb n 3
      go zero = unfold clears in refl
      go (suc zero) = unfold clears in refl
      go (suc (suc zero)) = unfold clears in refl
      go (suc (suc (suc zero))) = unfold clears in refl
      go (suc (suc (suc (suc n)))) =
          unfold clears in
          (rw (ne_eqb (suc (suc (suc (suc n)))) 1 (λ h. absurd (omega arith)), ne_eqb (suc (suc (suc (suc n)))) 2 (λ h. absurd (omega arith)), ne_eqb (suc (suc (suc (suc n)))) 3 (λ h. absurd (omega arith))))

  clear_part : (t : ℕ) → clears (item_of t row) ≡ (eqb t ie.fqcsid && is_null_row row)
  unfolding item_of clears
  clear_part =
      by_tag (λ t. clears (item_of t row) ≡ (eqb t ie.fqcsid && is_null_row row)) refl refl refl refl refl clear_state
      (λ t a b c d e f. rw (ne_eqb t ie.create_pdr a, ne_eqb t ie.create_endpoint b, ne_eqb t ie.update_pdr c, ne_eqb t ie.remove_pdr d, ne_eqb t ie.remove_endpoint e, ne_eqb t ie.fqcsid f))

-- an Update PDR with a PDI
unfoldable with_pdi : Item → Bool
with_pdi (creates_pdr x) = false
with_pdi (creates_endpoint x) = false
with_pdi (updates_pdr x) = x.pdi
with_pdi (removes_pdr x) = false
with_pdi (removes_endpoint x) = false
with_pdi (sets_csid x) = false
with_pdi clears_csids = false
with_pdi updates_endpoint = false

pdi_part : (row : List ℕ) (t : ℕ) → with_pdi (item_of t row) ≡ (eqb t ie.update_pdr && row_pdi row)
unfolding item_of with_pdi row_change
pdi_part row =
    by_tag (λ t. with_pdi (item_of t row) ≡ (eqb t ie.update_pdr && row_pdi row)) refl refl refl refl refl (by_state row (λ i. with_pdi i ≡ false) refl refl refl refl)
    (λ t a b c d e f. rw (ne_eqb t ie.create_pdr a, ne_eqb t ie.create_endpoint b, ne_eqb t ie.update_pdr c, ne_eqb t ie.remove_pdr d, ne_eqb t ie.remove_endpoint e, ne_eqb t ie.fqcsid f))

-- a Create PDR, and a Create Traffic Endpoint, with an address that is not supported
unfoldable strange_pdr : Item → Bool
strange_pdr i = value_or false (map_option (λ x. strange_address x.address) (pdr_in i))

unfoldable strange_endpoint : Item → Bool
strange_endpoint i = value_or false (map_option (λ x. strange_address x.address) (endpoint_in i))

strange_row : (row : List ℕ) → strange_address (row_ue row) ≡ row_strange row
unfolding strange_address ue_strange row_ue ue_from
strange_row row = go (word its.ue_kind row)
  where
    go : (k : ℕ) → strange_address (ue_from k (word its.ue_address row)) ≡ ltb 2 k
    go zero = refl
    go (suc zero) = refl
    go (suc (suc zero)) = refl
    go (suc (suc (suc n))) =
        rw (
          ne_eqb (suc (suc (suc n))) 0 (λ h. absurd (omega arith)),
          ne_eqb (suc (suc (suc n))) 1 (λ h. absurd (omega arith)),
          ne_eqb (suc (suc (suc n))) 2 (λ h. absurd (omega arith)),
          lt-ltb 2 (suc (suc (suc n))) (omega arith),
        )

-- of a value that is there by a test
if_there : {A : Type 0} (f : A → Bool) (b : Bool) (x : A) {c : Bool} → f x ≡ c → value_or false (map_option f (pick b (some x) none)) ≡ (b && c)
if_there f true x h = h
if_there f false x h = refl

strange_pdr_part : (row : List ℕ) (t : ℕ) → strange_pdr (item_of t row) ≡ (eqb t ie.create_pdr && row_strange row)
unfolding strange_pdr row_pdr
strange_pdr_part row t =
    ap (λ (o : Option NewPdr). value_or false (map_option (λ x. strange_address x.address) o)) (pdr_part row t)
    ∙ if_there (λ x. strange_address x.address) (eqb t ie.create_pdr) (row_pdr row) (strange_row row)

strange_endpoint_part : (row : List ℕ) (t : ℕ) → strange_endpoint (item_of t row) ≡ (eqb t ie.create_endpoint && row_strange row)
unfolding strange_endpoint row_endpoint
strange_endpoint_part row t =
    ap (λ (o : Option NewEndpoint). value_or false (map_option (λ x. strange_address x.address) o)) (endpoint_part row t)
    ∙ if_there (λ x. strange_address x.address) (eqb t ie.create_endpoint) (row_endpoint row) (strange_row row)

-- ---- all rows

collect_tagged : {A : Type 0} (f : Item → Option A) (h : List ℕ → Option A) (k : ℕ) → ((row : List ℕ) (t : ℕ) → f (item_of t row) ≡ pick (eqb t k) (h row) none)
    → (rows : List (List ℕ)) → collect f (map row_item rows) ≡ collect h (tagged k rows)
unfolding collect tagged keep has_tag row_item
collect_tagged f h k p [] = refl
collect_tagged {A} f h k p (row ∷ rows) = ap (λ (o : Option A). cons_option o (collect f (map row_item rows))) (p row (word its.tag row)) ∙ go (eqb (word its.tag row) k) (collect_tagged f h k p rows)
  where
    go : (b : Bool) → collect f (map row_item rows) ≡ collect h (tagged k rows) → cons_option (pick b (h row) none) (collect f (map row_item rows)) ≡ collect h (pick b (row ∷ tagged k rows) (tagged k rows))
    go true e = ap (λ (l : List A). cons_option (h row) l) e
    go false e = e

any_tagged : (f : Item → Bool) (h : List ℕ → Bool) (k : ℕ) → ((row : List ℕ) (t : ℕ) → f (item_of t row) ≡ (eqb t k && h row)) → (rows : List (List ℕ)) → any f (map row_item rows) ≡ any h (tagged k rows)
unfolding any tagged keep has_tag row_item
any_tagged f h k p [] = refl
any_tagged f h k p (row ∷ rows) = ap (λ (b : Bool). b || any f (map row_item rows)) (p row (word its.tag row)) ∙ go (eqb (word its.tag row) k) (any_tagged f h k p rows)
  where
    go : (b : Bool) → any f (map row_item rows) ≡ any h (tagged k rows) → (b && h row || any f (map row_item rows)) ≡ any h (pick b (row ∷ tagged k rows) (tagged k rows))
    go true e = ap (λ (b : Bool). h row || b) e
    go false e = e

collect_some : {A B : Type 0} (g : A → B) (xs : List A) → collect (λ x. some (g x)) xs ≡ map g xs
unfolding collect
collect_some g [] = refl
collect_some {A} {B} g (x ∷ xs) = ap (λ (l : List B). g x ∷ l) (collect_some g xs)

-- element 129 has no row
row_or_none : (i : Item) → (has_row i ≡ true) ⊎ (i ≡ updates_endpoint)
unfolding has_row is_update
row_or_none (creates_pdr x) = inl refl
row_or_none (creates_endpoint x) = inl refl
row_or_none (updates_pdr x) = inl refl
row_or_none (removes_pdr x) = inl refl
row_or_none (removes_endpoint x) = inl refl
row_or_none (sets_csid x) = inl refl
row_or_none clears_csids = inl refl
row_or_none updates_endpoint = inr refl

pub no_row : has_row updates_endpoint ≡ false
unfolding has_row is_update
no_row = refl

collect_kept : {A : Type 0} (f : Item → Option A) → f updates_endpoint ≡ none → (is : List Item) → collect f (keep has_row is) ≡ collect f is
unfolding collect keep
collect_kept f u [] = refl
collect_kept {A} f u (i ∷ is) = go (row_or_none i) (collect_kept f u is)
  where
    go : (has_row i ≡ true) ⊎ (i ≡ updates_endpoint) → collect f (keep has_row is) ≡ collect f is → collect f (pick (has_row i) (i ∷ keep has_row is) (keep has_row is)) ≡ cons_option (f i) (collect f is)
    go (inl h) e = rw h (ap (λ (l : List A). cons_option (f i) l) e)
    go (inr h) e = rw (h, no_row, u) e

any_kept : (f : Item → Bool) → f updates_endpoint ≡ false → (is : List Item) → any f (keep has_row is) ≡ any f is
unfolding any keep
any_kept f u [] = refl
any_kept f u (i ∷ is) = go (row_or_none i) (any_kept f u is)
  where
    go : (has_row i ≡ true) ⊎ (i ≡ updates_endpoint) → any f (keep has_row is) ≡ any f is → any f (pick (has_row i) (i ∷ keep has_row is) (keep has_row is)) ≡ (f i || any f is)
    go (inl h) e = rw h (ap (λ (b : Bool). f i || b) e)
    go (inr h) e = rw (h, no_row, u) e

-- what is not supported: element 129, a PDI in an Update PDR, or an address in a Create PDR or Create Traffic Endpoint
any_or : (f g h : Item → Bool) → ((i : Item) → f i ≡ (g i || h i)) → (is : List Item) → any f is ≡ (any g is || any h is)
unfolding any
any_or f g h p [] = refl
any_or f g h p (i ∷ is) = ap₂ ◌||◌ (p i) (any_or f g h p is) ∙ or_swap (g i) (h i) (any g is) (any h is)
  where
    or_swap : (a b x y : Bool) → ((a || b) || (x || y)) ≡ ((a || x) || (b || y))
    or_swap true b x y = refl
    or_swap false true true y = refl
    or_swap false true false y = refl
    or_swap false false x y = refl

or-false : (b : Bool) → b ≡ (b || false)
or-false true = refl
or-false false = refl

one_unsupported : (i : Item) → is_unsupported i ≡ (is_update i || with_pdi i || strange_pdr i || strange_endpoint i)
unfolding is_unsupported is_update with_pdi strange_pdr strange_endpoint pdr_in endpoint_in
one_unsupported (creates_pdr x) = or-false (strange_address x.address)
one_unsupported (creates_endpoint x) = refl
one_unsupported (updates_pdr x) = or-false x.pdi ∙ or-false (x.pdi || false)
one_unsupported (removes_pdr x) = refl
one_unsupported (removes_endpoint x) = refl
one_unsupported (sets_csid x) = refl
one_unsupported clears_csids = refl
one_unsupported updates_endpoint = refl

any_unsupported : (is : List Item) → any is_unsupported is ≡ (any is_update is || any with_pdi is || any strange_pdr is || any strange_endpoint is)
any_unsupported is =
    any_or is_unsupported (λ i. is_update i || with_pdi i || strange_pdr i) strange_endpoint one_unsupported is
    ∙ ap (λ (b : Bool). b || any strange_endpoint is)
    (any_or (λ i. is_update i || with_pdi i || strange_pdr i) (λ i. is_update i || with_pdi i) strange_pdr (λ i. refl) is
    ∙ ap (λ (b : Bool). b || any strange_pdr is) (any_or (λ i. is_update i || with_pdi i) is_update with_pdi (λ i. refl) is))

-- ---- the request

flags_restore : (o : Option Bool) → eqb (flags_of o) 2 ≡ value_or false o
flags_restore none = refl
flags_restore (some true) = refl
flags_restore (some false) = refl

module _ {d : rules.Draft} {c : Draft} {nodes words : List ℕ} (m : Means d c nodes words) where
  abbrev rows : List (List ℕ)
  rows = rows_of c.rows words

  part : {A : Type 0} (f : Item → Option A) (h : List ℕ → Option A) (k : ℕ) → ((row : List ℕ) (t : ℕ) → f (item_of t row) ≡ pick (eqb t k) (h row) none) → f updates_endpoint ≡ none
      → collect h (tagged k rows) ≡ collect f d.items
  part f h k p u = sym (collect_tagged f h k p rows) ∙ ap (collect f) m.rows ∙ collect_kept f u d.items

  fact : (f : Item → Bool) (h : List ℕ → Bool) (k : ℕ) → ((row : List ℕ) (t : ℕ) → f (item_of t row) ≡ (eqb t k && h row)) → f updates_endpoint ≡ false → any h (tagged k rows) ≡ any f d.items
  fact f h k p u = sym (any_tagged f h k p rows) ∙ ap (any f) m.rows ∙ any_kept f u d.items

  pub csids_same : collect row_csid (tagged ie.fqcsid rows) ≡ collect csid_in d.items
  unfolding csid_in
  csids_same = part csid_in row_csid 65 csid_part refl

  pub nulls_same : any is_null_row (tagged ie.fqcsid rows) ≡ any clears d.items
  unfolding clears
  nulls_same = fact clears is_null_row 65 clear_part refl

  pub restoring_same : eqb c.flags 2 ≡ restoring_in d
  unfolding restoring_in
  restoring_same = ap (λ (n : ℕ). eqb n 2) m.flags ∙ flags_restore d.restores

  pub request_same : (n : ℕ) → request_in n (eqb c.flags 2) c.noted rows ≡ request_from n d
  unfolding request_in request_from pdr_in endpoint_in change_in gone_pdr_in gone_endpoint_in with_pdi strange_pdr strange_endpoint
  request_same n =
      let pdrs = sym (collect_some row_pdr (tagged ie.create_pdr rows)) ∙ part pdr_in (λ row. some (row_pdr row)) 1 pdr_part refl in
      let endpoints = sym (collect_some row_endpoint (tagged ie.create_endpoint rows)) ∙ part endpoint_in (λ row. some (row_endpoint row)) ie.create_endpoint endpoint_part refl in
      let changes = sym (collect_some row_change (tagged ie.update_pdr rows)) ∙ part change_in (λ row. some (row_change row)) 9 change_part refl in
      let gone_pdrs_lem = sym (collect_some row_pdr_id (tagged ie.remove_pdr rows)) ∙ part gone_pdr_in (λ row. some (row_pdr_id row)) 15 gone_pdr_part refl in
      let gone_endpoints_lem = sym (collect_some row_endpoint_id (tagged ie.remove_endpoint rows)) ∙ part gone_endpoint_in (λ row. some (row_endpoint_id row)) ie.remove_endpoint gone_endpoint_part refl in
      let csids = ap₂ (λ (b : Bool) (cs : List Fqcsid). pick b cleared (changed cs)) nulls_same csids_same in
      let unsupported = ap₂ ◌||◌ (ap₂ ◌||◌ (ap₂ ◌||◌ m.noted (fact with_pdi row_pdi ie.update_pdr pdi_part refl)) (fact strange_pdr row_strange ie.create_pdr strange_pdr_part refl)) (fact strange_endpoint row_strange ie.create_endpoint strange_endpoint_part refl)
      ∙ sym (any_unsupported d.items) in
      λ j. record {
        seid = n;
        restoring = restoring_same j;
        pdrs = pdrs j;
        endpoints = endpoints j;
        changes = changes j;
        gone_pdrs = gone_pdrs_lem j;
        gone_endpoints = gone_endpoints_lem j;
        csids = csids j;
        unsupported = unsupported j;
        listed = [];
      }
