-- Whether a TEID is held by the octets of a slot: record by record, and by the session that the slot is read as.
-- Assumes nothing.
use mathlib.Core.Path.{◌≡◌, refl, sym, ap, ◌∙◌}
use Prim.Native.Nat.{ℕ, ◌-◌}
use mathlib.Core.Bool.{Bool, true, false, ◌&&◌, ◌||◌}
use mathlib.Core.Option.{none, some}
use mathlib.Core.List.{List, [], ◌∷◌, map}
use Rattle.std.specs.List.{list_any}
use lib.Dec.{eqb}
use lib.ListN.{length, take, drop, get_or}
use Rattle.octets.specs.Choice.{pick, cons_option}
use Rattle.octets.specs.Octets.{part, number, octet_at, slices}
use Rattle.octets.specs.Lists.{member, collect}
use Rattle.octets.proofs.ListLaws.{map-append}
use Rattle.octets.proofs.Questions.{member_append}
use Rattle.octets.proofs.Bools.{eqb_turn}
use Rattle.octets.proofs.Put.{part_from}
use Rattle.rules.specs.Model.{Holding, teid_of, tunnel_holding, pdr_holding, endpoint_holding, session_holdings, session_teids}
use Rattle.rules.specs.Layout.{tunnel_read, view_area, view_pdr, view_endpoint, view_session, pdr_width, endpoint_width, pdr_count_at, endpoint_count_at, pdrs_at, endpoints_at, match_at, teid_at, endpoint_teid_at}
use Rattle.rules.specs.Finding.{is_holder}
use Rattle.laws.proofs.LayoutLaws.{endpoint_view}
use Rattle.marking.specs.Marking.{holds_teid, held_by, pdr_holds, endpoint_holds}
use Rattle.marking.proofs.Looking.{hold_of_lem, teid_of_lem}
use Rattle.finding.specs.Holds.{endpoints_hold, pdrs_hold}

-- ---- endpoints

endpoint_teid : (xs : List ℕ) → teid_of (endpoint_holding (view_endpoint xs)) ≡ number (part endpoint_teid_at 4 xs)
unfolding endpoint_holding tunnel_holding tunnel_read
endpoint_teid xs = rw (endpoint_view xs)

any_teid : (teid : ℕ) (rows : List (List ℕ)) → list_any (λ row. eqb (number (part endpoint_teid_at 4 row)) teid) rows ≡ member teid (map teid_of (map endpoint_holding (map view_endpoint rows)))
unfolding member
any_teid teid [] = refl
any_teid teid (row ∷ rows) =
    (λ j. eqb (number (part endpoint_teid_at 4 row)) teid || any_teid teid rows j)
    ∙ sym (rw (endpoint_teid row, eqb_turn teid (number (part endpoint_teid_at 4 row))))

pub endpoints_looked : (teid n : ℕ) (a : List ℕ) (rows : List (List ℕ)) → rows ≡ slices endpoint_width n a → list_any (λ row. eqb (number (part endpoint_teid_at 4 row)) teid) rows ≡ endpoints_hold teid n a
unfolding endpoints_hold endpoint_holds
endpoints_looked teid n a rows e = any_teid teid rows ∙ ap (λ (l : List (List ℕ)). member teid (map teid_of (map endpoint_holding (map view_endpoint l)))) e

-- ---- PDRs

pdr_with_lem : (b : Bool) (xs : List ℕ) (teid : ℕ) (hs : List Holding)
    → member teid (map teid_of (cons_option (pick b (some (held_by xs)) none) hs)) ≡ ((b && eqb (number (part teid_at 4 xs)) teid) || member teid (map teid_of hs))
unfolding member
pdr_with_lem false xs teid hs = refl
pdr_with_lem true xs teid hs = rw (teid_of_lem xs, eqb_turn teid (number (part teid_at 4 xs)))

-- PDRs looked through
any_holds : (teid : ℕ) (rows : List (List ℕ)) → list_any (λ row. holds_teid row teid) rows ≡ member teid (map teid_of (collect pdr_holding (map view_pdr rows)))
unfolding collect holds_teid octet_at member
any_holds teid [] = refl
any_holds teid (row ∷ rows) =
    (λ j. (eqb (get_or row match_at 0) 1 && eqb (number (part teid_at 4 row)) teid) || any_holds teid rows j)
    ∙ sym (rw (hold_of_lem row) (pdr_with_lem (eqb (get_or row match_at 0) 1) row teid (collect pdr_holding (map view_pdr rows))))

pub pdrs_looked : (teid n : ℕ) (a : List ℕ) (rows : List (List ℕ)) → rows ≡ slices pdr_width n a → list_any (λ row. holds_teid row teid) rows ≡ pdrs_hold teid n a
unfolding pdrs_hold pdr_holds
pdrs_looked teid n a rows e = any_holds teid rows ∙ ap (λ (l : List (List ℕ)). member teid (map teid_of (collect pdr_holding (map view_pdr l)))) e

-- ---- the slot

holder_by : (teid : ℕ) (slot : List ℕ)
    → is_holder teid (view_session slot) ≡ (endpoints_hold teid (get_or slot endpoint_count_at 0) (drop endpoints_at slot) || pdrs_hold teid (get_or slot pdr_count_at 0) (drop pdrs_at slot))
unfolding is_holder session_teids session_holdings view_session view_area octet_at endpoints_hold endpoint_holds pdrs_hold pdr_holds
holder_by teid slot =
    let es : List Holding = map endpoint_holding (map view_endpoint (slices endpoint_width (get_or slot endpoint_count_at 0) (drop endpoints_at slot))) in
    let ps : List Holding = collect pdr_holding (map view_pdr (slices pdr_width (get_or slot pdr_count_at 0) (drop pdrs_at slot))) in
    ap (member teid) (map-append teid_of es ps) ∙ member_append teid (map teid_of es) (map teid_of ps)

-- as the code has the areas
module _ (teid : ℕ) (slot : List ℕ) (r : Bool) (e : r ≡ endpoints_hold teid (get_or slot endpoint_count_at 0) (take (length slot - endpoints_at) (drop endpoints_at slot))) where
  by_endpoints : r ≡ endpoints_hold teid (get_or slot endpoint_count_at 0) (drop endpoints_at slot)
  by_endpoints = rw (part_from endpoints_at slot) at e

  pub slot_here : r ≡ true → true ≡ is_holder teid (view_session slot)
  slot_here y = sym (holder_by teid slot ∙ rw (← by_endpoints, y))

  pub slot_else : (q : Bool) → r ≡ false → q ≡ pdrs_hold teid (get_or slot pdr_count_at 0) (take (length slot - pdrs_at) (drop pdrs_at slot)) → q ≡ is_holder teid (view_session slot)
  slot_else q y f = let g : q ≡ pdrs_hold teid (get_or slot pdr_count_at 0) (drop pdrs_at slot) = rw (part_from pdrs_at slot) at f in sym (holder_by teid slot ∙ rw (← by_endpoints, y, ← g))
