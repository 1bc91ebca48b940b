-- A row's UE IP Address (02 (v)) by its words: what the rules say of it, and of the addresses of the request that rows mean. Assumes nothing.
use mathlib.Core.Path.{◌≡◌, refl, ap, ap₂, ◌∙◌}
use mathlib.Core.Bool.{Bool, true, false, ◌&&◌, ◌||◌}
use mathlib.Core.Option.{none, some}
use mathlib.Core.List.{List, map}
use Prim.Native.Nat.{ℕ}
use native.Mathlib.Decide.{ℕ_discrete}
use lib.Dec.{eqb}
use borrow.Author.Tests.{ne_eqb}
use Rattle.octets.specs.Choice.{pick}
use Rattle.octets.specs.Lists.{any, keep, collect}
use Rattle.octets.specs.Rows.{has_tag}
use Rattle.rules.specs.Elements.{UeIp, ue_given, ue_choose, ue_other, ue_chooses}
use Rattle.rules.specs.Stages.{addresses_of, new_pdr_address, new_endpoint_address}
use Rattle.rules.specs.Types as ie
use Rattle.plan.specs.Rows.{word, tagged, ue_from, row_ue, row_pdr, row_endpoint, request_in}
use Rattle.plan.specs.Words as its
use Rattle.plan.specs.RowRules.{on_some, creates, of_address, of_ue_kind}
use Rattle.plan.proofs.ListLaws.{any_ext, any_or, any_append, any_keep, any_map, any_collect}

-- ---- the addresses of a request

pub either : (a b c : Bool) → ((a && c) || (b && c)) ≡ ((a || b) && c)
either true true true = refl
either true true false = refl
either true false true = refl
either true false false = refl
either false b c = refl

module _ (p : UeIp → Bool) (seid : ℕ) (restoring noted : Bool) (rows : List (List ℕ)) where
  endpoint_addresses_lem : any p (collect new_endpoint_address (map row_endpoint (tagged ie.create_endpoint rows))) ≡ any (λ row. has_tag ie.create_endpoint row && on_some p (row_ue row)) rows
  unfolding row_endpoint tagged
  endpoint_addresses_lem =
      any_collect p new_endpoint_address (map row_endpoint (keep (has_tag ie.create_endpoint) rows))
      ∙ any_map (λ e. on_some p (new_endpoint_address e)) row_endpoint (keep (has_tag ie.create_endpoint) rows)
      ∙ any_keep (λ row. on_some p (row_ue row)) (has_tag ie.create_endpoint) rows

  pdr_addresses_lem : any p (collect new_pdr_address (map row_pdr (tagged ie.create_pdr rows))) ≡ any (λ row. has_tag ie.create_pdr row && on_some p (row_ue row)) rows
  unfolding row_pdr tagged
  pdr_addresses_lem =
      any_collect p new_pdr_address (map row_pdr (keep (has_tag ie.create_pdr) rows))
      ∙ any_map (λ x. on_some p (new_pdr_address x)) row_pdr (keep (has_tag ie.create_pdr) rows)
      ∙ any_keep (λ row. on_some p (row_ue row)) (has_tag ie.create_pdr) rows

  -- a test of some address is a test of some row
  pub any_addresses : any p (addresses_of (request_in seid restoring noted rows)) ≡ any (of_address p) rows
  unfolding addresses_of request_in of_address creates
  any_addresses =
      any_append p (collect new_endpoint_address (map row_endpoint (tagged ie.create_endpoint rows))) (collect new_pdr_address (map row_pdr (tagged ie.create_pdr rows)))
      ∙ ap₂ ◌||◌ endpoint_addresses_lem pdr_addresses_lem
      ∙ any_or (λ row. has_tag ie.create_endpoint row && on_some p (row_ue row)) (λ row. has_tag ie.create_pdr row && on_some p (row_ue row)) rows
      ∙ any_ext (λ row. (has_tag ie.create_endpoint row && on_some p (row_ue row)) || (has_tag ie.create_pdr row && on_some p (row_ue row))) (λ row. (has_tag ie.create_endpoint row || has_tag ie.create_pdr row) && on_some p (row_ue row)) (λ row. either (has_tag ie.create_endpoint row) (has_tag ie.create_pdr row) (on_some p (row_ue row))) rows

-- some address is a CHOOSE
chooses_kind : (k a : ℕ) → on_some ue_chooses (ue_from k a) ≡ eqb k 2
unfolding on_some ue_chooses ue_from
chooses_kind k a = one (ℕ_discrete k 0) (ℕ_discrete k 1)
  where
    one : Dec (k ≡ 0) → Dec (k ≡ 1) → on_some ue_chooses (pick (eqb k 0) none (some (pick (eqb k 1) (ue_given a) (pick (eqb k 2) ue_choose ue_other)))) ≡ eqb k 2
    one (yes e) d = rw e
    one (no n) (yes e) = rw e
    one (no n) (no m) = rw (ne_eqb k 0 n, ne_eqb k 1 m) (two (eqb k 2))
      where
        two : (b : Bool) → ue_chooses (pick b ue_choose ue_other) ≡ b
        two true = refl
        two false = refl

pub choose_rows : (seid : ℕ) (restoring noted : Bool) (rows : List (List ℕ)) → any ue_chooses (addresses_of (request_in seid restoring noted rows)) ≡ any (of_ue_kind true) rows
choose_rows seid restoring noted rows =
    any_addresses ue_chooses seid restoring noted rows ∙ any_ext (of_address ue_chooses) (of_ue_kind true) (λ row. unfold of_address of_ue_kind row_ue in (ap (λ (b : Bool). creates row && b) (chooses_kind (word its.ue_kind row) (word its.ue_address row)))) rows
