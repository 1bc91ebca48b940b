-- The F-TEIDs of a request in one list, of its endpoints and then of its PDRs; choices, restored holds and the holds of the records made are all taken from it.
-- Assumes nothing.
use mathlib.Core.Path.{◌≡◌, refl, sym, ap₂, ◌∙◌, subst}
use Prim.Native.Nat.{ℕ}
use mathlib.Core.Bool.{Bool, true, false, not, ◌&&◌, ◌||◌}
use mathlib.Core.Option.{Option, none, some}
use mathlib.Core.List.{List, ◌++◌, map}
use lib.Dec.{T, eqb}
use Rattle.octets.specs.Choice.{map_option, bind_option}
use Rattle.octets.specs.Lists.{has_repeat, all, all_pairs, collect}
use Rattle.octets.proofs.ListLaws.{Every, OnSome, on_some, on_both, every_map, every_collect, every_append, all_always, pairs_always, pairs_imply, pairs_append, all_map, pairs_map, all_collect, pairs_collect, collect_append, map-append, collect_same, map-map, collect_map, map_collect, collect_collect}
use Rattle.octets.proofs.MemberLaws.{once_differ}
use Rattle.rules.specs.Model.{Tunnel, Holding, matched_tunnel, tunnel_holding, pdr_holding, endpoint_holding}
use Rattle.rules.specs.Elements.{Fteid, given, choose}
use Rattle.rules.specs.Request.{NewPdr, NewEndpoint, Request}
use Rattle.rules.specs.Grants.{Kind, of_pdr, of_endpoint, same_kind, Choice, choice_of, endpoint_choice, pdr_choice, choices, Got}
use Rattle.rules.specs.Stages.{new_pdr_id, new_endpoint_id, pdr_local, created_pdrs, created_endpoints, fteids_of, fteids_may_share, locals_may_share, choices_agree, restored_holding, endpoint_restored, pdr_restored, restored_holdings}
use Rattle.rules.specs.Apply.{tunnel_from, named_match, match_from, made_pdr, made_endpoint}
use Rattle.laws.proofs.ReadLaws.{FteidRead}
use Rattle.laws.proofs.RequestLaws.{PdrRead, EndpointRead}
use Rattle.invariants.proofs.GrantedTeids.{other_record}

-- an F-TEID of a request: the kind, ID and source interface of the record it stands in (an endpoint has none: 0), and its value
pub record Local : Type 0 where
  pub kind : Kind
  pub id : ℕ
  pub source : ℕ
  pub fteid : Fteid

-- a PDR's hold may be shared, an endpoint's not
abbrev pub shared : Kind → Bool
shared of_pdr = true
shared of_endpoint = false

-- the F-TEID of a Create Traffic Endpoint
abbrev pub endpoint_new : NewEndpoint → Local
endpoint_new e = record { kind = of_endpoint; id = e.id; source = 0; fteid = e.local }

-- the F-TEID of a Create PDR, if it has one
abbrev pub pdr_new : NewPdr → Option Local
pdr_new p = map_option (λ v. record { kind = of_pdr; id = p.id; source = p.source; fteid = v }) p.local

-- all of them, endpoints first
unfoldable pub locals : Request → List Local
locals r = map endpoint_new r.endpoints ++ collect pdr_new r.pdrs

-- the value
abbrev pub local_fteid : Local → Fteid
local_fteid l = l.fteid

-- as a CHOOSE, if it is one
abbrev pub local_choice : Local → Option Choice
local_choice l = choice_of l.kind l.id l.fteid

-- as a restored hold, if it is one
abbrev pub local_restored : Local → Option Holding
local_restored l = restored_holding (shared l.kind) l.source l.fteid

-- the F-TEID that the record made from it has
abbrev pub local_tunnel : (Kind → ℕ → ℕ) → Local → Tunnel
local_tunnel teids l = tunnel_from (teids l.kind l.id) l.fteid

-- the hold that the record made from it has
abbrev pub local_holding : (Kind → ℕ → ℕ) → Local → Holding
local_holding teids l = tunnel_holding (shared l.kind) l.source (local_tunnel teids l)

-- the TEIDs of what records got
abbrev pub teids_of : (Kind → ℕ → Got) → Kind → ℕ → ℕ
teids_of got k i = (got k i).teid

-- the holds of the records that a request makes
unfoldable pub new_holdings : (Kind → ℕ → Got) → Request → List Holding
new_holdings got r = map endpoint_holding (map (made_endpoint got) r.endpoints) ++ collect pdr_holding (map (made_pdr got) r.pdrs)

-- ---- everything from the one list

module _ (r : Request) where
  -- the CHOOSEs of the request
  pub choices_locals : choices r ≡ collect local_choice (locals r)
  unfolding choices locals endpoint_choice pdr_choice
  choices_locals =
      ap₂ ◌++◌ (sym (collect_map endpoint_new local_choice r.endpoints))
      (collect_same pdr_choice (λ p. bind_option (pdr_new p) local_choice) (λ p. one p p.local) r.pdrs ∙ sym (collect_collect pdr_new local_choice r.pdrs))
      ∙ sym (collect_append local_choice (map endpoint_new r.endpoints) (collect pdr_new r.pdrs))
    where
      one : (p : NewPdr) (o : Option Fteid) → bind_option o (choice_of of_pdr p.id) ≡ bind_option (map_option (λ v. record { kind = of_pdr; id = p.id; source = p.source; fteid = v }) o) local_choice
      one p none = refl
      one p (some v) = refl

  -- the restored holds
  pub restored_locals : restored_holdings r ≡ collect local_restored (locals r)
  unfolding restored_holdings locals endpoint_restored pdr_restored
  restored_locals =
      ap₂ ◌++◌ (sym (collect_map endpoint_new local_restored r.endpoints))
      (collect_same pdr_restored (λ p. bind_option (pdr_new p) local_restored) (λ p. one p p.local) r.pdrs ∙ sym (collect_collect pdr_new local_restored r.pdrs))
      ∙ sym (collect_append local_restored (map endpoint_new r.endpoints) (collect pdr_new r.pdrs))
    where
      one : (p : NewPdr) (o : Option Fteid) → bind_option o (restored_holding true p.source) ≡ bind_option (map_option (λ v. record { kind = of_pdr; id = p.id; source = p.source; fteid = v }) o) local_restored
      one p none = refl
      one p (some v) = refl

  -- the values
  pub fteids_locals : fteids_of r ≡ map local_fteid (locals r)
  unfolding fteids_of locals
  fteids_locals =
      ap₂ ◌++◌ (sym (map-map endpoint_new local_fteid r.endpoints))
      (collect_same pdr_local (λ p. map_option local_fteid (pdr_new p)) (λ p. one p p.local) r.pdrs ∙ sym (map_collect pdr_new local_fteid r.pdrs))
      ∙ sym (map-append local_fteid (map endpoint_new r.endpoints) (collect pdr_new r.pdrs))
    where
      one : (p : NewPdr) (o : Option Fteid) → o ≡ map_option local_fteid (map_option (λ v. record { kind = of_pdr; id = p.id; source = p.source; fteid = v }) o)
      one p none = refl
      one p (some v) = refl

  -- the holds of the records made
  pub new_locals : (got : Kind → ℕ → Got) → new_holdings got r ≡ map (local_holding (teids_of got)) (locals r)
  unfolding new_holdings locals endpoint_holding made_endpoint pdr_holding made_pdr
  new_locals got =
      ap₂ ◌++◌ (map-map (made_endpoint got) endpoint_holding r.endpoints ∙ sym (map-map endpoint_new (local_holding (teids_of got)) r.endpoints))
      (collect_map (made_pdr got) pdr_holding r.pdrs
      ∙ collect_same (λ p. pdr_holding (made_pdr got p)) (λ p. map_option (local_holding (teids_of got)) (pdr_new p)) (λ p. one p p.local p.endpoint) r.pdrs
      ∙ sym (map_collect pdr_new (local_holding (teids_of got)) r.pdrs))
      ∙ sym (map-append (local_holding (teids_of got)) (map endpoint_new r.endpoints) (collect pdr_new r.pdrs))
    where
      one : (p : NewPdr) (o : Option Fteid) (e : Option ℕ)
          → map_option (tunnel_holding true p.source) (matched_tunnel (match_from (got of_pdr p.id).teid o e))
          ≡ map_option (local_holding (teids_of got)) (map_option (λ v. record { kind = of_pdr; id = p.id; source = p.source; fteid = v }) o)
      one p none none = unfold match_from named_match matched_tunnel in refl
      one p none (some e) = unfold match_from named_match matched_tunnel in refl
      one p (some v) e = unfold match_from matched_tunnel in refl

-- ---- facts of every one, and of every two

-- what was read of the F-TEIDs
pub locals_read : (r : Request) → Every EndpointRead r.endpoints → Every PdrRead r.pdrs → Every (λ l. FteidRead (not (shared l.kind)) l.fteid) (locals r)
unfolding locals
locals_read r he hp =
    every_append (λ l. FteidRead (not (shared l.kind)) l.fteid) (map endpoint_new r.endpoints) (collect pdr_new r.pdrs)
    (every_map endpoint_new EndpointRead (λ l. FteidRead (not (shared l.kind)) l.fteid) (λ e k. k.local) r.endpoints he)
    (every_collect pdr_new PdrRead (λ l. FteidRead (not (shared l.kind)) l.fteid) (λ p k. one p p.local k.local) r.pdrs hp)
  where
    one : (p : NewPdr) (o : Option Fteid) → OnSome (FteidRead false) o
        → OnSome (λ (l : Local). FteidRead (not (shared l.kind)) l.fteid) (map_option (λ v. record { kind = of_pdr; id = p.id; source = p.source; fteid = v }) o)
    one p none k = tt
    one p (some v) k = k

-- a relation of every two: of two endpoints, of two PDRs, and of an endpoint with a PDR
module _ (r : Request) (u : Local → Local → Bool) where
  -- then it holds of every two
  pub locals_pairs : T (all_pairs (λ a b. u (endpoint_new a) (endpoint_new b)) r.endpoints) → T (all_pairs (λ a b. on_both u (pdr_new a) (pdr_new b)) r.pdrs)
      → ((e : NewEndpoint) (p : NewPdr) → T (on_some (u (endpoint_new e)) (pdr_new p))) → T (all_pairs u (locals r))
  unfolding locals
  locals_pairs he hp hc =
      pairs_append u (map endpoint_new r.endpoints) (collect pdr_new r.pdrs) (subst T (sym (pairs_map endpoint_new u r.endpoints)) he) (subst T (sym (pairs_collect pdr_new u r.pdrs)) hp)
      (subst T (sym (all_map endpoint_new (λ x. all (u x) (collect pdr_new r.pdrs)) r.endpoints))
      (all_always (λ e. all (u (endpoint_new e)) (collect pdr_new r.pdrs)) (λ e. subst T (sym (all_collect pdr_new (u (endpoint_new e)) r.pdrs)) (all_always (λ p. on_some (u (endpoint_new e)) (pdr_new p)) (hc e) r.pdrs)) r.endpoints))

-- two F-TEIDs stand in other records
abbrev other_local : Local → Local → Bool
other_local a b = not (same_kind b.kind a.kind && eqb a.id b.id)

-- records created once: each CHOOSE is of another record
pub choices_other : (r : Request) → T (not (has_repeat (created_pdrs r))) → T (not (has_repeat (created_endpoints r))) → T (all_pairs other_record (choices r))
choices_other r hp he =
    subst (λ (l : List Choice). T (all_pairs other_record l)) (sym (choices_locals r))
    (subst T (sym (pairs_collect local_choice other_record (locals r)))
    (pairs_imply other_local (λ a b. on_both other_record (local_choice a) (local_choice b)) (λ a b h. choose_other a.kind b.kind a.id b.id a.fteid b.fteid h) (locals r) ids))
  where
    pdr_pair : (i j a b : ℕ) (o p : Option Fteid) → T (not (eqb i j))
        → T (on_both other_local (map_option (λ v. record { kind = of_pdr; id = i; source = a; fteid = v }) o) (map_option (λ v. record { kind = of_pdr; id = j; source = b; fteid = v }) p))
    pdr_pair i j a b none p h = tt
    pdr_pair i j a b (some v) none h = tt
    pdr_pair i j a b (some v) (some w) h = unfold same_kind in h

    cross : (e : NewEndpoint) (i a : ℕ) (o : Option Fteid) → T (on_some (other_local (endpoint_new e)) (map_option (λ v. record { kind = of_pdr; id = i; source = a; fteid = v }) o))
    cross e i a none = tt
    cross e i a (some v) = unfold same_kind in tt

    ids : T (all_pairs other_local (locals r))
    ids =
        locals_pairs r other_local
        (unfold same_kind created_endpoints in (subst T (pairs_map new_endpoint_id (λ a b. not (eqb a b)) r.endpoints) (once_differ (map new_endpoint_id r.endpoints) he)))
        (pairs_imply (λ a b. not (eqb a.id b.id)) (λ a b. on_both other_local (pdr_new a) (pdr_new b)) (λ a b h. pdr_pair a.id b.id a.source b.source a.local b.local h) r.pdrs
        (unfold created_pdrs in (subst T (pairs_map new_pdr_id (λ a b. not (eqb a b)) r.pdrs) (once_differ (map new_pdr_id r.pdrs) hp))))
        (λ e p. cross e p.id p.source p.local)

    choose_other : (k k' : Kind) (i j : ℕ) (v w : Fteid) → T (not (same_kind k' k && eqb i j)) → T (on_both other_record (choice_of k i v) (choice_of k' j w))
    choose_other k k' i j (given t a b) w h = unfold choice_of in tt
    choose_other k k' i j (choose a b c) (given t d e) h = unfold choice_of in tt
    choose_other k k' i j (choose a b c) (choose d e f) h = unfold choice_of in h

-- equal CHOOSE IDs of two PDRs have equal families and source interface
abbrev pub alike_locals : Local → Local → Bool
alike_locals a b = not (shared a.kind) || (not (shared b.kind) || fteids_may_share a.fteid a.source b.fteid b.source)

-- cause 73 asks so of every two PDRs
pub locals_alike : (r : Request) → T (all_pairs choices_agree r.pdrs) → T (all_pairs alike_locals (locals r))
locals_alike r h =
    locals_pairs r alike_locals (pairs_always (λ a b. alike_locals (endpoint_new a) (endpoint_new b)) (λ a b. tt) r.endpoints)
    (pairs_imply choices_agree (λ a b. on_both alike_locals (pdr_new a) (pdr_new b)) (λ a b g. one a.id b.id a.source b.source a.local b.local (unfold choices_agree in g)) r.pdrs h)
    (λ e p. cross e p.id p.source p.local)
  where
    one : (i j a b : ℕ) (o p : Option Fteid) → T (locals_may_share o a p b)
        → T (on_both alike_locals (map_option (λ v. record { kind = of_pdr; id = i; source = a; fteid = v }) o) (map_option (λ v. record { kind = of_pdr; id = j; source = b; fteid = v }) p))
    one i j a b none p g = tt
    one i j a b (some v) none g = tt
    one i j a b (some v) (some w) g = unfold locals_may_share in g

    cross : (e : NewEndpoint) (i a : ℕ) (o : Option Fteid) → T (on_some (alike_locals (endpoint_new e)) (map_option (λ v. record { kind = of_pdr; id = i; source = a; fteid = v }) o))
    cross e i a none = tt
    cross e i a (some v) = tt
