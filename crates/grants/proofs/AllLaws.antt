-- What `grant`, `grant_address` and `reported` leave, one after the other, is what the rules say: the plan's rows hold what the records get, and
-- at the places answered the reply's writer finds the rules' reports. Assumes nothing.
use mathlib.Core.Path.{◌≡◌, refl, sym, ap, ◌∙◌, subst}
use mathlib.Core.Bool.{Bool, true}
use mathlib.Core.List.{List, ◌++◌, map, map-map}
use Prim.Native.Nat.{ℕ, ◌+◌, ◌*◌, ◌≤◌}
use native.Mathlib.Nat.{min-le_left, le_trans, le_of_eq}
use native.Mathlib.Omega.{arith}
use lib.Dec.{T}
use lib.ListN.{length, take, drop, length-map, length-take}
use Rattle.octets.specs.Choice.{head_or}
use Rattle.octets.specs.Lists.{all}
use Rattle.octets.proofs.Tests.{is_true}
use Rattle.octets.proofs.ListLaws.{Every}
use Rattle.rules.specs.Model.{Settings, Sessions, held_addresses}
use Rattle.rules.specs.Request.{Request}
use Rattle.rules.specs.Grants.{Grant, grants, chosen_address, granted}
use Rattle.rules.specs.Reply.{Reports, reports}
use Rattle.rules.specs.Types as ie
use Rattle.laws.proofs.RequestLaws.{EndpointRead}
use Rattle.plan.specs.Rows.{row_width, rows_of, tagged, row_pdr, row_endpoint, request_in}
use Rattle.pool.proofs.TakenLaws.{Means}
use Rattle.pool.proofs.AddressLaws.{free_addresses_lem}
use Rattle.created.specs.Groups.{all_reports, id_fits}
use Rattle.created.specs.Entries.{max_grants, tolds_at, reports_at, within}
use Rattle.grants.specs.Choosing.{chosen_by, places_by, report_places, row_with, row_with_address, addressed, lowest_address}
use Rattle.grants.proofs.PlaceLaws.{reports_within}
use Rattle.grants.proofs.AddressLaws.{rows_addressed, length_addressed, rest_addressed}
use Rattle.grants.proofs.RequestLaws.{alike_address, request_same}
use Rattle.grants.proofs.ReportLaws.{row_got, told_rows, told_reports, tells, tells_fit}
use Rattle.grants.proofs.GrantLaws.{IsGranted}

take_few : (n : ℕ) (xs : List ℕ) → length (take n xs) ≤ n
take_few n xs = le_trans (le_of_eq (length-take n xs)) (min-le_left n (length xs))

-- the address is the rules': the lowest that no session holds
pub address_is : (s : Settings) (m : Sessions) (words : List ℕ) → Means s.first_address words (held_addresses s m) → lowest_address s.first_address words s.address_count ≡ chosen_address s m
unfolding chosen_address
address_is s m words means = ap (head_or 0) (free_addresses_lem s m words means)

-- the plan with all that was granted, which means the same request
pub record AllGranted (gs : List Grant) (a seid : ℕ) (restoring noted : Bool) (n : ℕ) (plan plan' : List ℕ) : Type 0 where
  pub long : length plan' ≡ length plan
  pub rows : rows_of n plan' ≡ map (row_got gs a) (rows_of n plan)
  pub rest : drop (n * row_width) plan' ≡ drop (n * row_width) plan
  pub same : request_in seid restoring noted (rows_of n plan') ≡ request_in seid restoring noted (rows_of n plan)

-- what the reply's writer asks of a plan's rows at places, and the reports that it then writes
pub record Reported (told : Reports) (plan places : List ℕ) : Type 0 where
  pub few : length places ≤ max_grants
  pub ids : all id_fits (tolds_at plan places) ≡ true
  pub inside : T (within plan places)
  pub are : reports_at plan places ≡ told

module _ (seid : ℕ) (restoring noted : Bool) (n : ℕ) (plan : List ℕ) (h : n * row_width ≤ length plan) where
  abbrev request : Request
  request = request_in seid restoring noted (rows_of n plan)

  pub all_granted : (gs : List Grant) (a : ℕ) {plan' plan'' : List ℕ} → IsGranted gs seid restoring noted n plan plan' → plan'' ≡ addressed a n plan' → AllGranted gs a seid restoring noted n plan plan''
  all_granted gs a {plan'} {plan''} g e =
      let h' : n * row_width ≤ length plan' = omega (arith, g.long) in
      let rows' : rows_of n plan'' ≡ map (row_with_address a) (rows_of n plan') = ap (rows_of n) e ∙ rows_addressed a n plan' h' in
      record {
        long = ap length e ∙ length_addressed a n plan' h' ∙ g.long;
        rows = rows' ∙ ap (map (row_with_address a)) g.rows ∙ map-map (row_with_address a) (row_with gs) (rows_of n plan);
        rest = ap (drop (n * row_width)) e ∙ rest_addressed a n plan' h' ∙ g.rest;
        same = ap (request_in seid restoring noted) rows' ∙ request_same (row_with_address a) (alike_address a) seid restoring noted (rows_of n plan') ∙ g.same;
      }

  pdr_count : (rows : List (List ℕ)) → length (request_in seid restoring noted rows).pdrs ≡ length (tagged ie.create_pdr rows)
  unfolding request_in
  pdr_count rows = length-map (tagged ie.create_pdr rows) row_pdr

  endpoint_count : (rows : List (List ℕ)) → length (request_in seid restoring noted rows).endpoints ≡ length (tagged ie.create_endpoint rows)
  unfolding request_in
  endpoint_count rows = length-map (tagged ie.create_endpoint rows) row_endpoint

  endpoints_in : (rows : List (List ℕ)) → (request_in seid restoring noted rows).endpoints ≡ map row_endpoint (tagged ie.create_endpoint rows)
  unfolding request_in
  endpoints_in rows = refl

  module _ (s : Settings) (m : Sessions) {plan'' : List ℕ} (g : AllGranted (grants s m request) (chosen_address s m) seid restoring noted n plan plan'')
      (few : length request.pdrs + length request.endpoints ≤ max_grants) (read : Every EndpointRead request.endpoints) where
    few_rows : length (tagged ie.create_endpoint (rows_of n plan'')) + length (tagged ie.create_pdr (rows_of n plan'')) ≤ max_grants
    few_rows =
        omega (
          arith,
          pdr_count (rows_of n plan''),
          endpoint_count (rows_of n plan''),
          ap (λ (r : Request). length r.pdrs) g.same,
          ap (λ (r : Request). length r.endpoints) g.same,
        )

    read_rows : Every EndpointRead (map row_endpoint (tagged ie.create_endpoint (rows_of n plan'')))
    read_rows = subst (Every EndpointRead) (sym (ap (λ (r : Request). r.endpoints) g.same) ∙ endpoints_in (rows_of n plan'')) read

    tells_are : tolds_at plan'' (report_places n plan'') ≡ tells (rows_of n plan'')
    tells_are = told_rows n plan'' few_rows

    few_places : length (report_places n plan'') ≤ max_grants
    unfolding report_places
    few_places = take_few max_grants (places_by (chosen_by true ie.create_endpoint) 0 (rows_of n plan'') ++ places_by (chosen_by true ie.create_pdr) 0 (rows_of n plan''))

    -- 02 (v): the Created groups list what was chosen
    pub all_reported : {places : List ℕ} → places ≡ report_places n plan'' → Reported (reports (granted s m request) request) plan'' places
    unfolding granted
    all_reported {places} e =
        subst (Reported (reports (granted s m request) request) plan'') (sym e)
        (record {
          few = few_places;
          ids = rw tells_are (is_true (all id_fits (tells (rows_of n plan''))) (tells_fit (rows_of n plan'') read_rows));
          inside = reports_within n plan'' (omega (arith, g.long));
          are = ap all_reports (tells_are ∙ ap tells g.rows) ∙ told_reports (grants s m request) (chosen_address s m) seid restoring noted n plan h;
        })
