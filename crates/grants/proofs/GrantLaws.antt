-- What `grant` leaves is what the rules say: the grants of the request, in the plan. Assumes nothing.
use mathlib.Core.Path.{◌≡◌, sym, ap, ◌∙◌}
use mathlib.Core.Bool.{Bool, true, false, or-true}
use mathlib.Core.List.{List, [], ◌++◌, map, map-map}
use Prim.Native.Nat.{ℕ, ◌*◌, ◌≤◌}
use lib.Dec.{T}
use lib.ListN.{length, drop}
use Rattle.octets.specs.Lists.{has_repeat, all}
use Rattle.rules.specs.Model.{Settings, Sessions, held_teids}
use Rattle.rules.specs.Request.{Request}
use Rattle.rules.specs.Stages.{created_pdrs, created_endpoints}
use Rattle.rules.specs.Grants.{of_pdr, of_endpoint, Grant, choices, grant_teid, grant_from, grants, granted_teid}
use Rattle.plan.specs.Rows.{row_width, word, rows_of, tagged, row_pdr, row_endpoint, request_in}
use Rattle.rules.specs.Types as ie
use Rattle.plan.specs.Words as its
use Rattle.pool.specs.Map.{teids_from}
use Rattle.pool.proofs.TakenLaws.{Means}
use Rattle.pool.proofs.GrantWalk.{grants_walk}
use Rattle.created.specs.Groups.{kind_in}
use Rattle.created.specs.Entries.{max_grants, row_id}
use Rattle.grants.specs.Choosing.{choosing, places_from, places, choice_in, choice_at, chosen_grants, teids_at, stores, row_with, Granted}
use Rattle.grants.proofs.StoreLaws.{length_stores}
use Rattle.grants.proofs.ChoiceLaws.{choice_fits, chosen_rows, request_choices, places_are, places_choices}
use Rattle.grants.proofs.PlanLaws.{After, choosing_tag, apart_rows, row_teids, plan_after}
use Rattle.grants.proofs.RequestLaws.{alike_with, request_same}
use Rattle.grants.proofs.ReportLaws.{with_teid_lem}

-- the plan with the grants, which means the same request
pub record IsGranted (gs : List Grant) (seid : ℕ) (restoring noted : Bool) (n : ℕ) (plan plan' : List ℕ) : Type 0 where
  pub long : length plan' ≡ length plan
  pub rows : rows_of n plan' ≡ map (row_with gs) (rows_of n plan)
  pub rest : drop (n * row_width) plan' ≡ drop (n * row_width) plan
  pub same : request_in seid restoring noted (rows_of n plan') ≡ request_in seid restoring noted (rows_of n plan)

module _ (seid : ℕ) (restoring noted : Bool) (n : ℕ) (plan : List ℕ) where
  abbrev request : Request
  request = request_in seid restoring noted (rows_of n plan)

  pdr_ids : has_repeat (created_pdrs request) ≡ false → has_repeat (map (word its.pdr_id) (tagged ie.create_pdr (rows_of n plan))) ≡ false
  unfolding created_pdrs request_in row_pdr
  pdr_ids e = ap has_repeat (sym (map-map _ row_pdr (tagged ie.create_pdr (rows_of n plan)))) ∙ e

  endpoint_ids_lem : has_repeat (created_endpoints request) ≡ false → has_repeat (map (word its.endpoint_id) (tagged ie.create_endpoint (rows_of n plan))) ≡ false
  unfolding created_endpoints request_in row_endpoint
  endpoint_ids_lem e = ap has_repeat (sym (map-map _ row_endpoint (tagged ie.create_endpoint (rows_of n plan)))) ∙ e

  teids_of_lem : (first : ℕ) (words : List ℕ) (size : ℕ) (gs : List Grant) → grant_from [] (teids_from first words 0 size) (map (choice_at plan) (places n plan)) ≡ gs
      → teids_at first words size plan (places n plan) ≡ map grant_teid gs
  unfolding teids_at chosen_grants
  teids_of_lem first words size gs e = ap (map grant_teid) e

  -- 01's grants, for a map of the TEIDs that the sessions hold, a request whose IDs are octets, created IDs that do not repeat and at most 24 CHOOSEs
  pub granted : (s : Settings) (m : Sessions) (words : List ℕ) {r : ℕ} {plan' places' : List ℕ}
      → Means s.first words (held_teids m)
      → n * row_width ≤ length plan
      → T (all choice_fits (choices request)) → length (choices request) ≤ max_grants
      → has_repeat (created_pdrs request) ≡ false → has_repeat (created_endpoints request) ≡ false
      → Granted n s.first words s.size plan r plan' places'
      → IsGranted (grants s m request) seid restoring noted n plan plan'
  granted s m words {r} {plan'} {places'} means h fits few ps es g =
      let gs : List Grant = grants s m request in
      let rows : List (List ℕ) = rows_of n plan in
      let free : List ℕ = teids_from s.first words 0 s.size in
      let walk : gs ≡ grant_from [] free (choices request) = grants_walk s m request words means in
      let at_places = places_choices seid restoring noted n plan fits few in
      let is-places = places_are seid restoring noted n plan fits few in
      let given = teids_of_lem s.first words s.size gs (ap (grant_from [] free) at_places ∙ sym walk) in
      let chosen : gs ≡ grant_from [] free (map choice_in (chosen_rows rows)) = walk ∙ ap (grant_from [] free) (request_choices seid restoring noted rows fits) in
      let teids = rw (← chosen) at (row_teids [] free (chosen_rows rows) (apart_rows rows (pdr_ids ps) (endpoint_ids_lem es))) in
      let is-plan : plan' ≡ stores plan (places_from ie.create_endpoint 0 rows ++ places_from 1 0 rows) (map grant_teid gs) = g.stored ∙ (λ j. stores plan (is-places j) (given j)) in
      let after : After gs n plan plan' = rw is-plan (plan_after gs n plan h teids) in
      let long : length plan' ≡ length plan = ap length g.stored ∙ length_stores plan (places n plan) (teids_at s.first words s.size plan (places n plan)) in
      record {
        long = long;
        rows = after.rows;
        rest = after.rest;
        same = ap (request_in seid restoring noted) after.rows ∙ request_same (row_with gs) (alike_with gs) seid restoring noted rows;
      }

-- ---- the TEID of a row that chooses, in the plan at exit

pub pdr_teid : (gs : List Grant) (row : List ℕ) → length row ≡ row_width → choosing 1 row ≡ true → word its.teid (row_with gs row) ≡ granted_teid gs of_pdr (word its.pdr_id row)
unfolding row_id kind_in
pdr_teid gs row l e = let t = choosing_tag 1 row e in with_teid_lem gs row l (rw e (or-true (choosing ie.create_endpoint row))) ∙ rw t

pub endpoint_teid : (gs : List Grant) (row : List ℕ) → length row ≡ row_width → choosing ie.create_endpoint row ≡ true → word its.teid (row_with gs row) ≡ granted_teid gs of_endpoint (word its.endpoint_id row)
unfolding row_id kind_in
endpoint_teid gs row l e = let t = choosing_tag ie.create_endpoint row e in with_teid_lem gs row l (rw e) ∙ rw t
