-- The causes, stage by stage (01, "What comes back"). Each rule is one test on numbers taken from the request and from the session at entry.
-- Assumes nothing.
use Rattle.std.specs.Prelude.{ℕ, ◌+◌, ◌-◌, Bool, true, false, not, ◌&&◌, ◌||◌, List, [], ◌∷◌, ◌++◌, map, length, leb, ltb, eqb}
use Rattle.std.proofs.Math.Option.{Option, none, some}
use Rattle.octets.specs.Choice.{pick, one_of, value_or, bind_option, is_some, is_nil, same_bool}
use Rattle.octets.specs.Octets.{same_octets}
use Rattle.octets.specs.Lists.{distinct, member, any_in, all_in, has_repeat, without, any, all_pairs, keep, find_by, collect}
use Rattle.rules.specs.Model.{peer_of, other_peer, half, of_peer, holdings, unused, key_for, session_key, Settings, Pdr, Session, Sessions, Holding, teid_of, held_teids, in_address_pool, held_addresses, free_addresses, pdr_id, endpoint_id, pdr_endpoint}
use Rattle.rules.specs.Limits.{max_pdrs, max_endpoints}
use Rattle.rules.specs.Elements.{cause_of, Fteid, given, choose, has_v4, has_v6, chooses, choose_id_of, UeIp, ue_given, ue_choose, ue_other, ue_address_of, ue_chooses}
use Rattle.rules.specs.Sound.{in_pool, unit_families, agree}
use Rattle.rules.specs.Message.{establishment, set_deletion, kind_of, header_seid, Spot, frame_fault}
use Rattle.rules.specs.Reading.{read_fault, read_request, Fault}
use Rattle.rules.specs.Request.{NewPdr, NewEndpoint, Change, Request}
use Rattle.rules.specs.Grants.{need}
use Rattle.rules.specs.Causes as why

-- ---- the session at entry

-- by its key: a peer and a SEID
unfoldable pub has_key : ℕ → Session → Bool
has_key k x = eqb (session_key x) k

unfoldable pub session_of : ℕ → Sessions → Option Session
session_of k m = find_by (has_key k) m

unfoldable pub is_live : ℕ → Sessions → Bool
is_live k m = is_some (session_of k m)

unfoldable pub new_session : ℕ → ℕ → Session
new_session who n = record { peer = who; seid = n; pdrs = []; endpoints = []; csids = [] }

-- whether the header names no session of the table: an establishment makes one, a set deletion is about none in particular
unfoldable pub unnamed : ℕ → Bool
unnamed kind = eqb kind establishment || eqb kind set_deletion

-- the session that a request of a peer is about: one without records for those, else the header's
unfoldable pub at_entry : ℕ → ℕ → ℕ → Request → Sessions → Session
at_entry kind who header r m =
    pick (unnamed kind) (new_session who r.seid) (value_or (new_session who header) (session_of (key_for who header) m))

-- ---- numbers of the request

abbrev pub new_pdr_id : NewPdr → ℕ
new_pdr_id p = p.id

abbrev pub new_endpoint_id : NewEndpoint → ℕ
new_endpoint_id e = e.id

abbrev pub change_id : Change → ℕ
change_id c = c.id

abbrev pub named_endpoint : NewPdr → Option ℕ
named_endpoint p = p.endpoint

abbrev pub pdr_local : NewPdr → Option Fteid
pdr_local p = p.local

abbrev pub endpoint_local : NewEndpoint → Fteid
endpoint_local e = e.local

unfoldable pub created_pdrs : Request → List ℕ
created_pdrs r = map new_pdr_id r.pdrs

unfoldable pub created_endpoints : Request → List ℕ
created_endpoints r = map new_endpoint_id r.endpoints

unfoldable pub updated_pdrs : Request → List ℕ
updated_pdrs r = map change_id r.changes

unfoldable pub live_pdrs : Session → List ℕ
live_pdrs x = map pdr_id x.pdrs

unfoldable pub live_endpoints : Session → List ℕ
live_endpoints x = map endpoint_id x.endpoints

-- ---- the PDRs that a request removes (02 (ii)): those that Remove PDR names, and those that name a removed endpoint

unfoldable pub names_one_of : List ℕ → Option ℕ → Bool
names_one_of ids none = false
names_one_of ids (some e) = member e ids

unfoldable pub goes_pdr : Request → Pdr → Bool
goes_pdr r p = member p.id r.gone_pdrs || names_one_of r.gone_endpoints (pdr_endpoint p)

-- their IDs, each once, among the session's PDRs at entry
unfoldable pub removed_pdrs : Request → List Pdr → List ℕ
removed_pdrs r ps = map pdr_id (keep (goes_pdr r) ps)

-- ---- the F-TEIDs of a request

unfoldable pub fteids_of : Request → List Fteid
fteids_of r = map endpoint_local r.endpoints ++ collect pdr_local r.pdrs

-- ---- its addresses (02 (v))

abbrev pub new_pdr_address : NewPdr → Option UeIp
new_pdr_address p = p.address

abbrev pub new_endpoint_address : NewEndpoint → Option UeIp
new_endpoint_address e = e.address

unfoldable pub addresses_of : Request → List UeIp
addresses_of r = collect new_endpoint_address r.endpoints ++ collect new_pdr_address r.pdrs

-- ---- stage 4, cause 64

-- an establishment of a live SEID
unfoldable pub already_live : ℕ → ℕ → Sessions → Request → Bool
already_live kind who m r = eqb kind establishment && is_live (key_for who r.seid) m

-- ---- stage 4, cause 71

-- without CH outside restoration, or with CH inside it
unfoldable pub allocation_wrong : Bool → Fteid → Bool
allocation_wrong restoring v = same_bool (chooses v) restoring

unfoldable pub invalid_allocation : Request → Bool
invalid_allocation r = any (allocation_wrong r.restoring) (fteids_of r)

-- ---- stage 4, cause 73: 01's rules in their order, without the one that 02 (ii) withdraws

-- an ID removed, created or updated twice
unfoldable pub id_twice : Request → Bool
id_twice r =
    one_of (has_repeat r.gone_pdrs ∷ has_repeat r.gone_endpoints ∷ has_repeat (created_pdrs r) ∷ has_repeat (created_endpoints r) ∷ has_repeat (updated_pdrs r) ∷ [])

-- a created ID live at entry
unfoldable pub created_live : Session → Request → Bool
created_live x r = any_in (created_pdrs r) (live_pdrs x) || any_in (created_endpoints r) (live_endpoints x)

-- a removed or updated ID not live at entry
unfoldable pub absent_id : Session → Request → Bool
absent_id x r =
    one_of (not (all_in r.gone_pdrs (live_pdrs x)) ∷ not (all_in r.gone_endpoints (live_endpoints x)) ∷ not (all_in (updated_pdrs r) (live_pdrs x)) ∷ [])

-- an update of a removed PDR
unfoldable pub updates_removed : Session → Request → Bool
updates_removed x r = any_in (updated_pdrs r) (removed_pdrs r x.pdrs)

-- F-TEID and endpoint ID in one PDI
unfoldable pub names_both : NewPdr → Bool
names_both p = is_some p.local && is_some p.endpoint

-- an endpoint ID not there afterwards
unfoldable pub endpoint_ids_after : Session → Request → List ℕ
endpoint_ids_after x r = without (live_endpoints x) r.gone_endpoints ++ created_endpoints r

unfoldable pub names_absent : Session → Request → Bool
names_absent x r = not (all_in (collect named_endpoint r.pdrs) (endpoint_ids_after x r))

-- equal CHOOSE IDs with other families or source interface
unfoldable pub same_choice : Option ℕ → Option ℕ → Bool
same_choice none j = false
same_choice (some i) none = false
same_choice (some i) (some j) = eqb i j

unfoldable pub alike_fteids : Fteid → Fteid → Bool
alike_fteids v w = same_bool (has_v4 v) (has_v4 w) && same_bool (has_v6 v) (has_v6 w)

unfoldable pub fteids_may_share : Fteid → ℕ → Fteid → ℕ → Bool
fteids_may_share v i w j = not (same_choice (choose_id_of v) (choose_id_of w)) || (alike_fteids v w && eqb i j)

unfoldable pub locals_may_share : Option Fteid → ℕ → Option Fteid → ℕ → Bool
locals_may_share none i w j = true
locals_may_share (some v) i none j = true
locals_may_share (some v) i (some w) j = fteids_may_share v i w j

unfoldable pub choices_agree : NewPdr → NewPdr → Bool
choices_agree p q = locals_may_share p.local p.source q.local q.source

-- a family the unit lacks
unfoldable pub lacks_family : Settings → Fteid → Bool
lacks_family s v = not (unit_families s (has_v6 v))

-- a restored F-TEID outside the pool, or with another address
unfoldable pub other_address : List ℕ → List ℕ → Bool
other_address unit a = not (is_nil a) && not (same_octets a unit)

unfoldable pub strange : Settings → Fteid → Bool
strange s (given t a b) = not (in_pool s t) || other_address s.ipv4 a || other_address s.ipv6 b
strange s (choose v4 v6 i) = false

-- the holds that restored F-TEIDs make
unfoldable pub restored_holding : Bool → ℕ → Fteid → Option Holding
restored_holding shared source (given t a b) = some (record { shared = shared; teid = t; v4 = not (is_nil a); v6 = not (is_nil b); source = source })
restored_holding shared source (choose v4 v6 i) = none

unfoldable pub endpoint_restored : NewEndpoint → Option Holding
endpoint_restored e = restored_holding false 0 e.local

unfoldable pub pdr_restored : NewPdr → Option Holding
pdr_restored p = bind_option p.local (restored_holding true p.source)

unfoldable pub restored_holdings : Request → List Holding
restored_holdings r = collect endpoint_restored r.endpoints ++ collect pdr_restored r.pdrs

-- held by another session, or shared against the table's rule
unfoldable pub clash : Sessions → Request → Bool
clash m r = any_in (map teid_of (restored_holdings r)) (held_teids m) || not (all_pairs agree (restored_holdings r))

-- an address of the pool outside restoration, or a CHOOSE inside it (02 (v))
unfoldable pub wrong_address : Settings → Bool → UeIp → Bool
wrong_address s restoring (ue_given a) = in_address_pool s a && not restoring
wrong_address s restoring ue_choose = restoring
wrong_address s restoring ue_other = false

-- the addresses of the pool that restored records take, held by another session
unfoldable pub restored_addresses : Settings → Request → List ℕ
restored_addresses s r = keep (in_address_pool s) (collect ue_address_of (addresses_of r))

unfoldable pub address_clash : Settings → Sessions → Request → Bool
address_clash s m r = any_in (restored_addresses s r) (held_addresses s m)

-- the rules of cause 73 in that order: those on the request and its session alone, and those on what other sessions hold
unfoldable pub request_rules : Settings → Session → Request → List Bool
request_rules s x r =
    id_twice r
    ∷ created_live x r
    ∷ absent_id x r
    ∷ updates_removed x r
    ∷ any names_both r.pdrs
    ∷ names_absent x r
    ∷ not (all_pairs choices_agree r.pdrs)
    ∷ any (lacks_family s) (fteids_of r)
    ∷ any (strange s) (fteids_of r)
    ∷ any (wrong_address s r.restoring) (addresses_of r)
    ∷ []

unfoldable pub broken_rules : Settings → Sessions → Session → Request → List Bool
broken_rules s m x r = request_rules s x r ++ (clash m r ∷ address_clash s m r ∷ [])

unfoldable pub breaks_rule : Settings → Sessions → Session → Request → Bool
breaks_rule s m x r = one_of (broken_rules s m x r)

-- ---- stage 5, cause 75

-- of the peer's own
unfoldable pub too_many_sessions : Settings → ℕ → ℕ → Sessions → Bool
too_many_sessions s who kind m = eqb kind establishment && leb (half s) (length (of_peer who m))

unfoldable pub too_many_pdrs : Session → Request → Bool
too_many_pdrs x r = ltb max_pdrs (length x.pdrs - length (removed_pdrs r x.pdrs) + length r.pdrs)

unfoldable pub too_many_endpoints : Session → Request → Bool
too_many_endpoints x r = ltb max_endpoints (length x.endpoints - length r.gone_endpoints + length r.endpoints)

-- how many TEIDs a request needs: those that its CHOOSEs take, and the different ones that it names: outside a restoration it names none, and
-- inside it chooses none (71)
unfoldable pub needed : Request → ℕ
needed r = need r + distinct (map teid_of (restored_holdings r))

-- the peer's holdings at entry and the need pass its limit; or all holdings, the need and the other's unused guarantee pass the pool (02 (xiv)).
-- A request that needs none never does on a table that is not broken.
unfoldable pub passes_limit : Settings → ℕ → Sessions → Request → Bool
passes_limit s who m r = ltb (peer_of s who).limit (holdings who m + needed r)

unfoldable pub passes_pool : Settings → ℕ → Sessions → Request → Bool
passes_pool s who m r = ltb s.size (holdings who m + holdings (other_peer who) m + needed r + unused s (other_peer who) m)

unfoldable pub too_few_teids : Settings → ℕ → Sessions → Request → Bool
too_few_teids s who m r = passes_limit s who m r || passes_pool s who m r

unfoldable pub room_lacks : ℕ → Settings → ℕ → Sessions → Session → Request → Bool
room_lacks kind s who m x r = one_of (too_many_sessions s who kind m ∷ too_many_pdrs x r ∷ too_many_endpoints x r ∷ too_few_teids s who m r ∷ [])

-- ---- stage 5, cause 79, after 75 (02 (v))

-- some record chooses, and no address is free at entry
unfoldable pub address_lacks : Settings → Sessions → Request → Bool
address_lacks s m r = any ue_chooses (addresses_of r) && is_nil (free_addresses s m)

-- ---- the verdict

-- the cause, the type that Offending IE names, and the place of a fault of stages 2 and 3, else 0
pub record Verdict : Type 0 where
  pub cause : ℕ
  pub offending : Option ℕ
  pub place : ℕ

abbrev pub plain : ℕ → Verdict
plain c = record { cause = c; offending = none; place = 0 }

-- a row of 01's table of causes: a cause, and whether its "exactly when" holds
pub record Reason : Type 0 where
  pub cause : ℕ
  pub holds : Bool

abbrev pub because : ℕ → Bool → Reason
because c b = record { cause = c; holds = b }

-- the rows of stages 4 and 5, from the top of the table down
unfoldable pub reasons : ℕ → Settings → ℕ → Sessions → Session → Request → List Reason
reasons kind s who m x r =
    because why.rejected (already_live kind who m r)
    ∷ because why.wrong_allocation (invalid_allocation r)
    ∷ because why.not_supported r.unsupported
    ∷ because why.broken_rule (breaks_rule s m x r)
    ∷ because why.no_room (room_lacks kind s who m x r)
    ∷ because why.no_address (address_lacks s m r)
    ∷ []

-- the first that holds decides; where none does, the request is accepted: stage 6
abbrev pub first_of : List Reason → ℕ
first_of [] = why.accepted
first_of (r ∷ rs) = pick r.holds r.cause (first_of rs)

-- stages 4 to 6, of a peer's request without a fault
unfoldable pub judge : ℕ → Settings → ℕ → Sessions → Session → Request → Verdict
judge kind s who m x r = plain (first_of (reasons kind s who m x r))

-- the session at entry, in a request without a fault
unfoldable pub entry_session : ℕ → Sessions → List ℕ → Session
entry_session who m msg = at_entry (kind_of msg) who (header_seid msg) (read_request msg) m

unfoldable pub judged : Settings → ℕ → Sessions → List ℕ → Verdict
judged s who m msg = judge (kind_of msg) s who m (entry_session who m msg) (read_request msg)

-- stage 3, then 4 to 6
unfoldable pub from_reading : Settings → ℕ → Sessions → List ℕ → Option Fault → Verdict
from_reading s who m msg none = judged s who m msg
from_reading s who m msg (some f) = record { cause = cause_of f.cause; offending = some f.type; place = f.place }

-- stage 2, then 3 to 6
unfoldable pub verdict_from : Settings → ℕ → Sessions → List ℕ → Option Spot → Verdict
verdict_from s who m msg none = from_reading s who m msg (read_fault msg)
verdict_from s who m msg (some f) = record { cause = why.wrong_length; offending = some f.type; place = f.place }

-- stage 1: no such session of the peer's
unfoldable pub unknown_session : ℕ → Sessions → List ℕ → Bool
unknown_session who m msg = not (unnamed (kind_of msg)) && not (is_live (key_for who (header_seid msg)) m)

unfoldable pub verdict : Settings → ℕ → Sessions → List ℕ → Verdict
verdict s who m msg = pick (unknown_session who m msg) (plain why.no_session) (verdict_from s who m msg (frame_fault msg))

unfoldable pub computing : ℕ
unfolding has_key session_of is_live new_session unnamed at_entry created_pdrs created_endpoints updated_pdrs live_pdrs live_endpoints names_one_of goes_pdr removed_pdrs fteids_of addresses_of already_live allocation_wrong invalid_allocation id_twice created_live absent_id updates_removed names_both endpoint_ids_after names_absent same_choice alike_fteids fteids_may_share locals_may_share choices_agree lacks_family other_address strange restored_holding endpoint_restored pdr_restored restored_holdings clash wrong_address restored_addresses address_clash request_rules broken_rules breaks_rule too_many_sessions too_many_pdrs too_many_endpoints needed passes_limit passes_pool too_few_teids room_lacks address_lacks reasons judge entry_session judged from_reading verdict_from unknown_session verdict
computing = 0
