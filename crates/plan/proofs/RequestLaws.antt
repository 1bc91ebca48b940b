-- What the rules say of the request that rows mean, by the rows: the F-TEIDs, the columns of IDs, causes 71 and 76. Assumes nothing.
use mathlib.Core.Path.{◌≡◌, refl, sym, ap, ap₂, ◌∙◌}
use mathlib.Core.Bool.{Bool, true, false, not, ◌&&◌, ◌||◌, or-false, or_self, or_assoc}
use mathlib.Core.Option.{none, some}
use mathlib.Core.List.{List, map, map-map}
use Prim.Native.Nat.{ℕ}
use lib.Dec.{eqb}
use Rattle.octets.specs.Choice.{pick}
use Rattle.octets.specs.Lists.{member, any, keep, collect}
use Rattle.octets.specs.Rows.{has_tag, column}
use Rattle.rules.specs.Elements.{Fteid}
use Rattle.rules.specs.Stages.{fteids_of, pdr_local, endpoint_local, new_pdr_id, new_endpoint_id, change_id, created_pdrs, created_endpoints, updated_pdrs, allocation_wrong, invalid_allocation}
use Rattle.plan.specs.Rows.{word, tagged, row_fteid, row_local, row_pdr, row_endpoint, row_change, row_pdi, row_strange, request_in}
use Rattle.rules.specs.Types as ie
use Rattle.plan.specs.Words as its
use Rattle.plan.specs.RowRules.{on_some, creates, has_fteid, of_fteid, of_ue_kind}
use Rattle.plan.proofs.ListLaws.{any_ext, any_or, any_append, any_keep, any_map, any_collect}
use Rattle.plan.proofs.UeLaws.{either}
use Rattle.plan.proofs.RowTests.{is_named, member_column}
use Rattle.octets.proofs.Bools.{eqb_turn}

-- ---- F-TEIDs

rows_endpoint : (p : Fteid → Bool) (rows : List (List ℕ)) → any p (map endpoint_local (map row_endpoint (tagged ie.create_endpoint rows))) ≡ any (λ row. has_tag ie.create_endpoint row && p (row_fteid row)) rows
unfolding row_endpoint tagged
rows_endpoint p rows =
    any_map p endpoint_local (map row_endpoint (keep (has_tag ie.create_endpoint) rows))
    ∙ any_map (λ e. p (endpoint_local e)) row_endpoint (keep (has_tag ie.create_endpoint) rows)
    ∙ any_keep (λ row. p (row_fteid row)) (has_tag ie.create_endpoint) rows

rows_pdr : (p : Fteid → Bool) (rows : List (List ℕ)) → any p (collect pdr_local (map row_pdr (tagged ie.create_pdr rows))) ≡ any (λ row. has_tag ie.create_pdr row && on_some p (row_local row)) rows
unfolding row_pdr tagged
rows_pdr p rows =
    any_collect p pdr_local (map row_pdr (keep (has_tag ie.create_pdr) rows))
    ∙ any_map (λ x. on_some p (pdr_local x)) row_pdr (keep (has_tag ie.create_pdr) rows)
    ∙ any_keep (λ row. on_some p (row_local row)) (has_tag ie.create_pdr) rows

-- a test of some F-TEID is a test of some row
pub any_fteids : (p : Fteid → Bool) (seid : ℕ) (restoring noted : Bool) (rows : List (List ℕ)) → any p (fteids_of (request_in seid restoring noted rows)) ≡ any (of_fteid p) rows
unfolding fteids_of request_in on_some
any_fteids p seid restoring noted rows =
    any_append p (map endpoint_local (map row_endpoint (tagged ie.create_endpoint rows))) (collect pdr_local (map row_pdr (tagged ie.create_pdr rows)))
    ∙ ap₂ ◌||◌ (rows_endpoint p rows) (rows_pdr p rows)
    ∙ any_or (λ row. has_tag ie.create_endpoint row && p (row_fteid row)) (λ row. has_tag ie.create_pdr row && on_some p (row_local row)) rows
    ∙ any_ext (λ row. (has_tag ie.create_endpoint row && p (row_fteid row)) || (has_tag ie.create_pdr row && on_some p (row_local row))) (of_fteid p) (λ row. here row) rows
  where
    one : (e t z : Bool) (v : Fteid) → ((e && p v) || (t && on_some p (pick z none (some v)))) ≡ ((e || (t && not z)) && p v)
    one true true true v = or-false (p v)
    one true true false v = or_self (p v)
    one true false z v = or-false (p v)
    one false true true v = refl
    one false true false v = refl
    one false false z v = refl

    here : (row : List ℕ) → ((has_tag ie.create_endpoint row && p (row_fteid row)) || (has_tag ie.create_pdr row && on_some p (row_local row))) ≡ of_fteid p row
    here row = unfold of_fteid has_fteid row_local in (one (has_tag ie.create_endpoint row) (has_tag ie.create_pdr row) (eqb (word its.flags row) 0) (row_fteid row))

pub invalid_rows : (seid : ℕ) (restoring noted : Bool) (rows : List (List ℕ)) → invalid_allocation (request_in seid restoring noted rows) ≡ any (of_fteid (allocation_wrong restoring)) rows
unfolding invalid_allocation request_in
invalid_rows seid restoring noted rows = any_fteids (allocation_wrong restoring) seid restoring noted rows

-- ---- columns

module _ (seid : ℕ) (restoring noted : Bool) (rows : List (List ℕ)) where
  pub created_pdrs_lem : created_pdrs (request_in seid restoring noted rows) ≡ column ie.create_pdr its.pdr_id rows
  unfolding created_pdrs request_in row_pdr tagged column has_tag
  created_pdrs_lem = map-map new_pdr_id row_pdr (keep (has_tag ie.create_pdr) rows)

  pub created_endpoints_lem : created_endpoints (request_in seid restoring noted rows) ≡ column ie.create_endpoint its.endpoint_id rows
  unfolding created_endpoints request_in row_endpoint tagged column has_tag
  created_endpoints_lem = map-map new_endpoint_id row_endpoint (keep (has_tag ie.create_endpoint) rows)

  pub updated_pdrs_lem : updated_pdrs (request_in seid restoring noted rows) ≡ column ie.update_pdr its.pdr_id rows
  unfolding updated_pdrs request_in row_change tagged column has_tag
  updated_pdrs_lem = map-map change_id row_change (keep (has_tag ie.update_pdr) rows)

  pub gone_pdrs_lem : (request_in seid restoring noted rows).gone_pdrs ≡ column ie.remove_pdr its.pdr_id rows
  unfolding request_in tagged column has_tag
  gone_pdrs_lem = refl

  pub gone_endpoints_lem : (request_in seid restoring noted rows).gone_endpoints ≡ column ie.remove_endpoint its.endpoint_id rows
  unfolding request_in tagged column has_tag
  gone_endpoints_lem = refl

  strange_tag : (tag : ℕ) → any row_strange (tagged tag rows) ≡ any (λ row. has_tag tag row && row_strange row) rows
  unfolding tagged
  strange_tag tag = any_keep row_strange (has_tag tag) rows

  strange_rows : (any row_strange (tagged ie.create_pdr rows) || any row_strange (tagged ie.create_endpoint rows)) ≡ any (of_ue_kind false) rows
  unfolding of_ue_kind creates
  strange_rows =
      ap₂ ◌||◌ (strange_tag ie.create_pdr) (strange_tag ie.create_endpoint)
      ∙ any_or (λ row. has_tag ie.create_pdr row && row_strange row) (λ row. has_tag ie.create_endpoint row && row_strange row) rows
      ∙ any_ext (λ row. (has_tag ie.create_pdr row && row_strange row) || (has_tag ie.create_endpoint row && row_strange row)) (λ row. (has_tag ie.create_endpoint row || has_tag ie.create_pdr row) && row_strange row)
      (λ row. either (has_tag ie.create_pdr row) (has_tag ie.create_endpoint row) (row_strange row) ∙ ap (λ (b : Bool). b && row_strange row) (or_turn (has_tag ie.create_pdr row) (has_tag ie.create_endpoint row))) rows
    where
      or_turn : (a b : Bool) → (a || b) ≡ (b || a)
      or_turn true true = refl
      or_turn true false = refl
      or_turn false true = refl
      or_turn false false = refl

  pdi_rows : any row_pdi (tagged ie.update_pdr rows) ≡ member 1 (column ie.update_pdr its.has_pdi rows)
  unfolding tagged
  pdi_rows =
      any_keep row_pdi (has_tag ie.update_pdr) rows
      ∙ any_ext (λ row. has_tag ie.update_pdr row && row_pdi row) (is_named ie.update_pdr its.has_pdi 1) (λ row. ap (λ (b : Bool). has_tag ie.update_pdr row && b) (eqb_turn (word its.has_pdi row) 1)) rows
      ∙ sym (member_column ie.update_pdr its.has_pdi 1 rows)

  pub unsupported_rows : (request_in seid restoring noted rows).unsupported ≡ ((noted || member 1 (column ie.update_pdr its.has_pdi rows)) || any (of_ue_kind false) rows)
  unfolding request_in
  unsupported_rows =
      or_assoc (noted || any row_pdi (tagged ie.update_pdr rows)) (any row_strange (tagged ie.create_pdr rows)) (any row_strange (tagged ie.create_endpoint rows))
      ∙ ap₂ ◌||◌ (ap (λ (b : Bool). noted || b) pdi_rows) strange_rows
