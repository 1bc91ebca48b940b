-- Bounds of the reports of an accepted request: how many there are, and that what they say fits its octets.
-- Assumes nothing.
use Prim.Native.Nat.{ℕ, ◌^◌, ◌≤◌}
use native.Mathlib.Nat.{le_trans, le_of_eq}
use mathlib.Core.Bool.{Bool, true, ◌&&◌}
use mathlib.Core.Option.{Option, none, some}
use mathlib.Core.List.{List, map}
use mathlib.Core.Path.{subst, sym}
use lib.ListN.{length, length-map}
use lib.Dec.{T, ltb, ltb→lt, lt→ltb, lit≤}
use lib.Pow.{are_bytes}
use Rattle.octets.specs.Choice.{bind_option}
use Rattle.octets.specs.Lists.{all}
use Rattle.octets.proofs.Tests.{both, pick_either}
use Rattle.octets.proofs.Ordered.{keep_all, keep_length}
use Rattle.octets.proofs.ListLaws.{on_some, all_map, all_know, all_always}
use Rattle.rules.specs.Model.{Settings, Sessions}
use Rattle.rules.specs.Elements.{Fteid, given, choose, UeIp, ue_chooses}
use Rattle.rules.specs.Sound.{settings_allowed}
use Rattle.rules.specs.Reading.{read_request}
use Rattle.rules.specs.Request.{NewPdr, NewEndpoint, Request}
use Rattle.rules.specs.Grants.{Kind, of_pdr, of_endpoint, Got, granted}
use Rattle.rules.specs.Reply.{Report, chosen_tunnel, chosen_ip, pdr_report, endpoint_report, something_chosen, reports}
use Rattle.laws.proofs.RequestLaws.{PdrRead, EndpointRead, RequestRead, request_read}
use Rattle.laws.proofs.GrantLaws.{four_octets, chosen_address_fits, granted_teid_fits}

-- an ID of two octets, a TEID and an address of four
abbrev pub report_fits : Report → Bool
report_fits g = ltb g.id (256 ^ 2) && (on_some (λ t. four_octets t.teid) g.local && on_some four_octets g.address)

-- ---- what fits

tunnel_fits : (t : ℕ) (v : Fteid) → T (four_octets t) → T (on_some (λ u. four_octets u.teid) (chosen_tunnel t v))
unfolding chosen_tunnel
tunnel_fits t (given n a b) h = tt
tunnel_fits t (choose v4 v6 i) h = h

local_fits : (t : ℕ) (o : Option Fteid) → T (four_octets t) → T (on_some (λ u. four_octets u.teid) (bind_option o (chosen_tunnel t)))
local_fits t none h = tt
local_fits t (some v) h = tunnel_fits t v h

ip_fits : (a : ℕ) (o : Option UeIp) → T (four_octets a) → T (on_some four_octets (bind_option o (chosen_ip a)))
unfolding chosen_ip
ip_fits a none h = tt
ip_fits a (some v) h = pick_either (λ (o : Option ℕ). T (on_some four_octets o)) (ue_chooses v) (some a) none h tt

module _ (got : Kind → ℕ → Got) (teids : (k : Kind) (i : ℕ) → T (four_octets (got k i).teid)) (addresses : (k : Kind) (i : ℕ) → T (four_octets (got k i).address)) where
  pdr_fits_lem : (p : NewPdr) → PdrRead p → T (report_fits (pdr_report got p))
  unfolding pdr_report
  pdr_fits_lem p k =
      let l = bind_option p.local (chosen_tunnel (got of_pdr p.id).teid) in
      let a = bind_option p.address (chosen_ip (got of_pdr p.id).address) in
      both (ltb p.id (256 ^ 2)) (on_some (λ t. four_octets t.teid) l && on_some four_octets a) k.id
      (both (on_some (λ t. four_octets t.teid) l) (on_some four_octets a) (local_fits (got of_pdr p.id).teid p.local (teids of_pdr p.id)) (ip_fits (got of_pdr p.id).address p.address (addresses of_pdr p.id)))

  endpoint_fits_lem : (e : NewEndpoint) → EndpointRead e → T (report_fits (endpoint_report got e))
  unfolding endpoint_report
  endpoint_fits_lem e k =
      let l = chosen_tunnel (got of_endpoint e.id).teid e.local in
      let a = bind_option e.address (chosen_ip (got of_endpoint e.id).address) in
      both (ltb e.id (256 ^ 2)) (on_some (λ t. four_octets t.teid) l && on_some four_octets a) (lt→ltb e.id (256 ^ 2) (le_trans (ltb→lt e.id 256 k.id) (lit≤ tt)))
      (both (on_some (λ t. four_octets t.teid) l) (on_some four_octets a) (tunnel_fits (got of_endpoint e.id).teid e.local (teids of_endpoint e.id)) (ip_fits (got of_endpoint e.id).address e.address (addresses of_endpoint e.id)))

  -- ---- every report

  pub reports_fit : (r : Request) → RequestRead r → T (all report_fits (reports got r).pdrs) × T (all report_fits (reports got r).endpoints)
  unfolding reports
  reports_fit r k = (
    keep_all something_chosen report_fits (map (pdr_report got) r.pdrs)
        (subst T (sym (all_map (pdr_report got) report_fits r.pdrs))
        (all_know PdrRead (λ _. true) (λ p. report_fits (pdr_report got p)) (λ p h _. pdr_fits_lem p h) r.pdrs k.pdrs (all_always (λ _. true) (λ _. tt) r.pdrs))),
    keep_all something_chosen report_fits (map (endpoint_report got) r.endpoints)
        (subst T (sym (all_map (endpoint_report got) report_fits r.endpoints))
        (all_know EndpointRead (λ _. true) (λ e. report_fits (endpoint_report got e)) (λ e h _. endpoint_fits_lem e h) r.endpoints k.endpoints (all_always (λ _. true) (λ _. tt) r.endpoints))),
  )

-- ---- those of a request

-- no more than the records that it creates
pub few_pdr_reports : (got : Kind → ℕ → Got) (r : Request) → length (reports got r).pdrs ≤ length r.pdrs
unfolding reports
few_pdr_reports got r = le_trans (keep_length something_chosen (map (pdr_report got) r.pdrs)) (le_of_eq (length-map r.pdrs (pdr_report got)))

pub few_endpoint_reports : (got : Kind → ℕ → Got) (r : Request) → length (reports got r).endpoints ≤ length r.endpoints
unfolding reports
few_endpoint_reports got r = le_trans (keep_length something_chosen (map (endpoint_report got) r.endpoints)) (le_of_eq (length-map r.endpoints (endpoint_report got)))

pub granted_reports_fit : (s : Settings) → T (settings_allowed s) → (m : Sessions) (msg : List ℕ) → T (are_bytes msg)
    → T (all report_fits (reports (granted s m (read_request msg)) (read_request msg)).pdrs) × T (all report_fits (reports (granted s m (read_request msg)) (read_request msg)).endpoints)
granted_reports_fit s hs m msg h =
    reports_fit (granted s m (read_request msg)) (λ k i. unfold granted in (granted_teid_fits s hs m msg h k i)) (λ k i. unfold granted in (chosen_address_fits s hs m)) (read_request msg) (request_read msg h)
