-- Each rule of cause 73, said of the request that rows mean, is a test of some row or of some two rows. Assumes nothing.
use mathlib.Core.Path.{◌≡◌, refl, sym, ap, ap₂, ◌∙◌}
use mathlib.Core.Bool.{Bool, true, false, not, ◌&&◌, ◌||◌}
use mathlib.Core.Option.{Option, none, some}
use mathlib.Core.List.{List, [], ◌∷◌, ◌++◌, map}
use Prim.Native.Nat.{ℕ}
use native.Mathlib.Omega.{arith}
use lib.Dec.{eqb}
use lib.ListN.{get_or}
use Rattle.octets.specs.Choice.{pick, one_of, same_bool, cons_option}
use Rattle.octets.specs.Lists.{member, any_in, all_in, has_repeat, any, all_pairs, keep, collect, without}
use Rattle.octets.proofs.ListLaws.{collect_map}
use Rattle.octets.specs.Rows.{has_tag, column, word_at}
use Rattle.rules.specs.Model.{Session, Holding}
use Rattle.rules.specs.Request.{NewPdr}
use Rattle.rules.specs.Sound.{agree, share_tests}
use Rattle.rules.specs.Stages.{id_twice, created_live, absent_id, removed_pdrs, updates_removed, names_both, named_endpoint, endpoint_ids_after, names_absent, choices_agree, endpoint_restored, pdr_restored, restored_holdings, live_pdrs, live_endpoints}
use Rattle.plan.specs.Rows.{word, tagged, row_pdr, row_endpoint, request_in}
use Rattle.rules.specs.Types as ie
use Rattle.plan.specs.Words as its
use Rattle.plan.specs.RowRules.{on_some, request_of, row_holding, repeats, same_id, other_choice, holds_apart, other_hold}
use Rattle.plan.proofs.ListLaws.{any_ext, any_or, any_keep, any_map, any_collect, any_in_lem, not_all_in, any_pair, pair_or, not_pairs, pair_keep, pair_map, repeat_pairs}
use Rattle.plan.proofs.MergeLaws.{merged, any_merge, pair_merge}
use Rattle.plan.proofs.RequestLaws.{created_pdrs_lem, created_endpoints_lem, updated_pdrs_lem, gone_pdrs_lem, gone_endpoints_lem}
use Rattle.plan.proofs.PairLaws.{tags_apart}
use Rattle.stages.proofs.SlotLaws.{removed_rows}
use Rattle.stages.specs.RowRules.{creates_live, names_dead, updates_gone, pdi_names_both, absent_from, pdi_names_absent}
use Rattle.octets.proofs.Bools.{eqb_turn, and_swap}

-- ---- lists of tests

module _ {A : Type 0} where
  any_never : (xs : List A) → any (λ x. false) xs ≡ false
  unfolding any
  any_never [] = refl
  any_never (x ∷ xs) = any_never xs

  pair_never : (xs : List A) → any_pair (λ x y. false) xs ≡ false
  unfolding any_pair
  pair_never [] = refl
  pair_never (x ∷ xs) = ap₂ ◌||◌ (any_never xs) (pair_never xs)

  -- one of several tests
  pub any_ones : (ps : List (A → Bool)) (xs : List A) → one_of (map (λ p. any p xs) ps) ≡ any (λ x. one_of (map (λ p. p x) ps)) xs
  any_ones [] xs = sym (any_never xs)
  any_ones (p ∷ ps) xs = ap (λ (b : Bool). any p xs || b) (any_ones ps xs) ∙ any_or p (λ x. one_of (map (λ q. q x) ps)) xs

  pub pair_ones : (ps : List (A → A → Bool)) (xs : List A) → one_of (map (λ p. any_pair p xs) ps) ≡ any_pair (λ x y. one_of (map (λ p. p x y) ps)) xs
  pair_ones [] xs = sym (pair_never xs)
  pair_ones (p ∷ ps) xs = ap (λ (b : Bool). any_pair p xs || b) (pair_ones ps xs) ∙ pair_or p (λ x y. one_of (map (λ q. q x y) ps)) xs

-- ---- columns

any_column : (q : ℕ → Bool) (tag field : ℕ) (rows : List (List ℕ)) → any q (column tag field rows) ≡ any (λ row. has_tag tag row && q (word field row)) rows
unfolding column has_tag
any_column q tag field rows =
    any_map q (word_at field) (keep (λ row. eqb (get_or row 0 0) tag) rows) ∙ any_keep (λ row. q (word_at field row)) (λ row. eqb (get_or row 0 0) tag) rows

column_in : (tag field : ℕ) (rows : List (List ℕ)) (ys : List ℕ) → any_in (column tag field rows) ys ≡ any (λ row. has_tag tag row && member (word field row) ys) rows
column_in tag field rows ys = any_in_lem (column tag field rows) ys ∙ any_column (λ n. member n ys) tag field rows

column_out : (tag field : ℕ) (rows : List (List ℕ)) (ys : List ℕ) → not (all_in (column tag field rows) ys) ≡ any (λ row. has_tag tag row && not (member (word field row) ys)) rows
column_out tag field rows ys = not_all_in (column tag field rows) ys ∙ any_column (λ n. not (member n ys)) tag field rows

column_repeat : (tag field : ℕ) (rows : List (List ℕ)) → has_repeat (column tag field rows) ≡ any_pair (repeats tag field) rows
unfolding column repeats has_tag
column_repeat tag field rows =
    repeat_pairs (map (word_at field) (keep (λ row. eqb (get_or row 0 0) tag) rows))
    ∙ pair_map eqb (word_at field) (keep (λ row. eqb (get_or row 0 0) tag) rows)
    ∙ pair_keep (λ a b. eqb (word_at field a) (word_at field b)) (λ row. eqb (get_or row 0 0) tag) rows

-- a test of some Create PDR
created_any : (q : NewPdr → Bool) (seid : ℕ) (restoring noted : Bool) (rows : List (List ℕ)) → any q (request_in seid restoring noted rows).pdrs ≡ any (λ row. has_tag ie.create_pdr row && q (row_pdr row)) rows
unfolding request_in tagged
created_any q seid restoring noted rows = any_map q row_pdr (keep (has_tag ie.create_pdr) rows) ∙ any_keep (λ row. q (row_pdr row)) (has_tag ie.create_pdr) rows

absent_some : (ids : List ℕ) (o : Option ℕ) → on_some (λ e. not (member e ids)) o ≡ absent_from ids o
unfolding on_some absent_from
absent_some ids none = refl
absent_some ids (some e) = refl

-- ---- the rules, one by one

module _ (x : Session) (seid : ℕ) (restoring noted : Bool) (rows : List (List ℕ)) where
  pub twice_rows : id_twice (request_in seid restoring noted rows) ≡ any_pair same_id rows
  unfolding id_twice same_id
  twice_rows =
      rw (created_pdrs_lem seid restoring noted rows, created_endpoints_lem seid restoring noted rows, updated_pdrs_lem seid restoring noted rows, gone_pdrs_lem seid restoring noted rows, gone_endpoints_lem seid restoring noted rows, column_repeat 15 7 rows, column_repeat ie.remove_endpoint 11 rows, column_repeat 1 7 rows, column_repeat ie.create_endpoint 11 rows, column_repeat 9 7 rows)
      (pair_ones (repeats ie.remove_pdr its.pdr_id ∷ repeats ie.remove_endpoint its.endpoint_id ∷ repeats ie.create_pdr its.pdr_id ∷ repeats ie.create_endpoint its.endpoint_id ∷ repeats ie.update_pdr its.pdr_id ∷ []) rows)

  pub created_rows : created_live x (request_in seid restoring noted rows) ≡ any (creates_live (live_pdrs x) (live_endpoints x)) rows
  unfolding created_live creates_live
  created_rows =
      rw (created_pdrs_lem seid restoring noted rows, created_endpoints_lem seid restoring noted rows, column_in 1 7 rows (live_pdrs x), column_in ie.create_endpoint 11 rows (live_endpoints x))
      (any_or (λ row. has_tag ie.create_pdr row && member (word its.pdr_id row) (live_pdrs x)) (λ row. has_tag ie.create_endpoint row && member (word its.endpoint_id row) (live_endpoints x)) rows)

  pub dead_rows : absent_id x (request_in seid restoring noted rows) ≡ any (names_dead (live_pdrs x) (live_endpoints x)) rows
  unfolding absent_id names_dead
  dead_rows =
      rw (updated_pdrs_lem seid restoring noted rows, gone_pdrs_lem seid restoring noted rows, gone_endpoints_lem seid restoring noted rows, column_out 15 7 rows (live_pdrs x), column_out ie.remove_endpoint 11 rows (live_endpoints x), column_out 9 7 rows (live_pdrs x))
      (any_ones
      ((λ row. has_tag ie.remove_pdr row && not (member (word its.pdr_id row) (live_pdrs x))) ∷ (λ row. has_tag ie.remove_endpoint row && not (member (word its.endpoint_id row) (live_endpoints x))) ∷ (λ row. has_tag ie.update_pdr row && not (member (word its.pdr_id row) (live_pdrs x))) ∷ [])
      rows)

  pub updates_rows : updates_removed x (request_in seid restoring noted rows) ≡ any (updates_gone (removed_pdrs (request_of false rows) x.pdrs)) rows
  unfolding updates_removed updates_gone
  updates_rows = rw (updated_pdrs_lem seid restoring noted rows, removed_rows seid restoring noted rows x.pdrs) (column_in 9 7 rows (removed_pdrs (request_of false rows) x.pdrs))

  pub both_rows : any names_both (request_in seid restoring noted rows).pdrs ≡ any pdi_names_both rows
  unfolding pdi_names_both
  both_rows = created_any names_both seid restoring noted rows

  after_rows : endpoint_ids_after x (request_in seid restoring noted rows) ≡ without (live_endpoints x) (column ie.remove_endpoint its.endpoint_id rows) ++ column ie.create_endpoint its.endpoint_id rows
  unfolding endpoint_ids_after
  after_rows = rw (created_endpoints_lem seid restoring noted rows, gone_endpoints_lem seid restoring noted rows)

  pub absent_rows : names_absent x (request_in seid restoring noted rows) ≡ any (pdi_names_absent (live_endpoints x) rows) rows
  unfolding names_absent pdi_names_absent
  absent_rows =
      let after : List ℕ = without (live_endpoints x) (column ie.remove_endpoint its.endpoint_id rows) ++ column ie.create_endpoint its.endpoint_id rows in
      ap (λ (l : List ℕ). not (all_in (collect named_endpoint (request_in seid restoring noted rows).pdrs) l)) after_rows
      ∙ not_all_in (collect named_endpoint (request_in seid restoring noted rows).pdrs) after
      ∙ any_collect (λ e. not (member e after)) named_endpoint (request_in seid restoring noted rows).pdrs
      ∙ created_any (λ p. on_some (λ e. not (member e after)) (named_endpoint p)) seid restoring noted rows
      ∙ any_ext (λ row. has_tag ie.create_pdr row && on_some (λ e. not (member e after)) (named_endpoint (row_pdr row))) (λ row. has_tag ie.create_pdr row && absent_from after (named_endpoint (row_pdr row))) (λ row. ap (λ (b : Bool). has_tag ie.create_pdr row && b) (absent_some after (named_endpoint (row_pdr row)))) rows

  pub choices_rows : not (all_pairs choices_agree (request_in seid restoring noted rows).pdrs) ≡ any_pair other_choice rows
  unfolding request_in tagged other_choice
  choices_rows =
      not_pairs choices_agree (map row_pdr (keep (has_tag ie.create_pdr) rows))
      ∙ pair_map (λ p q. not (choices_agree p q)) row_pdr (keep (has_tag ie.create_pdr) rows)
      ∙ pair_keep (λ a b. not (choices_agree (row_pdr a) (row_pdr b))) (has_tag ie.create_pdr) rows

-- ---- holds

-- a test of some restored hold
pub held_rows : (q : Holding → Bool) (seid : ℕ) (restoring noted : Bool) (rows : List (List ℕ))
    → any q (restored_holdings (request_in seid restoring noted rows)) ≡ any (λ row. on_some q (row_holding row)) rows
unfolding restored_holdings request_in tagged row_holding
held_rows q seid restoring noted rows =
    ap₂ (λ (a b : List Holding). any q (a ++ b)) (collect_map row_endpoint endpoint_restored (keep (has_tag ie.create_endpoint) rows)) (collect_map row_pdr pdr_restored (keep (has_tag ie.create_pdr) rows))
    ∙ any_merge q (merged (has_tag ie.create_endpoint) (has_tag ie.create_pdr) (λ row. tags_apart ie.create_endpoint 1 row (λ e. omega arith)) (λ row. endpoint_restored (row_endpoint row)) (λ row. pdr_restored (row_pdr row)) rows)
    ∙ any_collect q (λ row. pick (has_tag ie.create_endpoint row) (endpoint_restored (row_endpoint row)) (pick (has_tag ie.create_pdr row) (pdr_restored (row_pdr row)) none)) rows

same_even : (a b : Bool) → same_bool a b ≡ same_bool b a
same_even true true = refl
same_even true false = refl
same_even false true = refl
same_even false false = refl

agree_even : (h k : Holding) → agree h k ≡ agree k h
unfolding agree share_tests
agree_even h k =
    rw (eqb_turn h.teid k.teid, eqb_turn h.source k.source, same_even h.v4 k.v4, same_even h.v6 k.v6)
    (ap (λ (b : Bool). not (eqb k.teid h.teid) || b) (and_swap h.shared k.shared (same_bool k.v4 h.v4 && (same_bool k.v6 h.v6 && (eqb k.source h.source && true)))))

pair_collect : {A : Type 0} (f : A → Option Holding) (xs : List A) → any_pair (λ h k. not (agree h k)) (collect f xs) ≡ any_pair (λ a b. holds_apart (f a) (f b)) xs
unfolding any_pair collect on_some holds_apart
pair_collect f [] = refl
pair_collect f (a ∷ xs) = one (f a) (pair_collect f xs)
  where
    two : (h : Holding) (o : Option Holding) → on_some (λ k. not (agree h k)) o ≡ holds_apart (some h) o
    two h none = refl
    two h (some k) = refl

    one : (o : Option Holding) → any_pair (λ h k. not (agree h k)) (collect f xs) ≡ any_pair (λ b d. holds_apart (f b) (f d)) xs
        → any_pair (λ h k. not (agree h k)) (cons_option o (collect f xs)) ≡ (any (λ b. holds_apart o (f b)) xs || any_pair (λ b d. holds_apart (f b) (f d)) xs)
    one none e = e ∙ ap (λ (b : Bool). b || any_pair (λ b d. holds_apart (f b) (f d)) xs) (sym (any_never xs))
    one (some h) e =
        ap₂ ◌||◌ (any_collect (λ k. not (agree h k)) f xs ∙ any_ext (λ b. on_some (λ k. not (agree h k)) (f b)) (λ b. holds_apart (some h) (f b)) (λ b. two h (f b)) xs) e

pub shared_rows : (seid : ℕ) (restoring noted : Bool) (rows : List (List ℕ)) → not (all_pairs agree (restored_holdings (request_in seid restoring noted rows))) ≡ any_pair other_hold rows
unfolding restored_holdings request_in tagged row_holding other_hold
shared_rows seid restoring noted rows =
    not_pairs agree (collect endpoint_restored (map row_endpoint (keep (has_tag ie.create_endpoint) rows)) ++ collect pdr_restored (map row_pdr (keep (has_tag ie.create_pdr) rows)))
    ∙ ap₂ (λ (a b : List Holding). any_pair (λ h k. not (agree h k)) (a ++ b)) (collect_map row_endpoint endpoint_restored (keep (has_tag ie.create_endpoint) rows)) (collect_map row_pdr pdr_restored (keep (has_tag ie.create_pdr) rows))
    ∙ pair_merge (λ h k. not (agree h k)) (λ h k. ap not (agree_even h k)) (merged (has_tag ie.create_endpoint) (has_tag ie.create_pdr) (λ row. tags_apart ie.create_endpoint 1 row (λ e. omega arith)) (λ row. endpoint_restored (row_endpoint row)) (λ row. pdr_restored (row_pdr row)) rows)
    ∙ pair_collect (λ row. pick (has_tag ie.create_endpoint row) (endpoint_restored (row_endpoint row)) (pick (has_tag ie.create_pdr row) (pdr_restored (row_pdr row)) none)) rows
