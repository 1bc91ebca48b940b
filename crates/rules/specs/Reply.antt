-- Writing messages: elements, headers, and the reply (01, "Reply"; 02 (vii)).
-- Assumes nothing.
use Rattle.std.specs.Prelude.{ℕ, ◌+◌, ◌-◌, Bool, ◌||◌, List, [], ◌∷◌, ◌++◌, map, length, eqb}
use Rattle.std.proofs.Math.Option.{Option, none, some}
use Rattle.octets.specs.Choice.{pick, bind_option, is_some}
use Rattle.octets.specs.Octets.{be, concat_map}
use Rattle.octets.specs.Lists.{keep}
use Rattle.rules.specs.Model.{Settings, peer_of, Tunnel}
use Rattle.rules.specs.Elements.{Fteid, given, choose, fteid_octets, unit_fteid, UeIp, ue_given, ue_octets, ue_chooses, fseid_octets}
use Rattle.rules.specs.Message.{establishment, set_deletion, first_with_seid, first_without_seid, counted_place, body_place, list_place, kind_of, seid_there, header_seid, sequence_of}
use Rattle.rules.specs.Request.{NewPdr, NewEndpoint, Request}
use Rattle.rules.specs.Grants.{Kind, of_pdr, of_endpoint, Got}
use Rattle.rules.specs.Stages.{Verdict}
use Rattle.rules.specs.Types as ie
use Rattle.rules.specs.Causes as why

-- type, length and value
unfoldable pub element : ℕ → List ℕ → List ℕ
element t xs = be 2 t ++ (be 2 (length xs) ++ xs)

-- version 1 with S; kind, length, SEID, sequence number (three octets), a spare octet, then the elements
unfoldable pub message : ℕ → ℕ → List ℕ → List ℕ → List ℕ
message kind seid sequence xs = first_with_seid ∷ kind ∷ be 2 (body_place - counted_place + length xs) ++ (be 8 seid ++ (sequence ++ 0 ∷ xs))

-- the same without S and SEID
unfoldable pub list_message : ℕ → List ℕ → List ℕ → List ℕ
list_message kind sequence xs = first_without_seid ∷ kind ∷ be 2 (list_place - counted_place + length xs) ++ (sequence ++ 0 ∷ xs)

-- an F-TEID element with the unit's addresses
unfoldable pub unit_element : Settings → Tunnel → List ℕ
unit_element s t = element ie.fteid (fteid_octets (unit_fteid s t))

unfoldable pub tunnel_part : Settings → Option Tunnel → List ℕ
tunnel_part s none = []
tunnel_part s (some t) = unit_element s t

-- an IPv4 address, if there is one, in a UE IP Address element (02 (v))
unfoldable pub address_part : Option ℕ → List ℕ
address_part none = []
address_part (some a) = element ie.ue_ip_address (ue_octets (ue_given a))

-- ---- Created groups: one for each record with something chosen, which lists what was chosen

-- a record's ID with the F-TEID and the address that it chose, if any
pub record Report : Type 0 where
  pub id : ℕ
  pub local : Option Tunnel
  pub address : Option ℕ

-- the reports of an accepted request, in request order; a refusal has none
pub record Reports : Type 0 where
  pub pdrs : List Report
  pub endpoints : List Report

abbrev pub no_reports : Reports
no_reports = record { pdrs = []; endpoints = [] }

unfoldable pub chosen_tunnel : ℕ → Fteid → Option Tunnel
chosen_tunnel t (given n a b) = none
chosen_tunnel t (choose v4 v6 i) = some (record { teid = t; v4 = v4; v6 = v6 })

unfoldable pub chosen_ip : ℕ → UeIp → Option ℕ
chosen_ip a v = pick (ue_chooses v) (some a) none

unfoldable pub pdr_report : (Kind → ℕ → Got) → NewPdr → Report
pdr_report got p =
    record {
      id = p.id;
      local = bind_option p.local (chosen_tunnel (got of_pdr p.id).teid);
      address = bind_option p.address (chosen_ip (got of_pdr p.id).address);
    }

unfoldable pub endpoint_report : (Kind → ℕ → Got) → NewEndpoint → Report
endpoint_report got e =
    record {
      id = e.id;
      local = chosen_tunnel (got of_endpoint e.id).teid e.local;
      address = bind_option e.address (chosen_ip (got of_endpoint e.id).address);
    }

unfoldable pub something_chosen : Report → Bool
something_chosen g = is_some g.local || is_some g.address

unfoldable pub reports : (Kind → ℕ → Got) → Request → Reports
reports got r =
    record { pdrs = keep something_chosen (map (pdr_report got) r.pdrs); endpoints = keep something_chosen (map (endpoint_report got) r.endpoints) }

unfoldable pub chosen_elements : Settings → Report → List ℕ
chosen_elements s g = tunnel_part s g.local ++ address_part g.address

unfoldable pub created_pdr_content : Settings → Report → List ℕ
created_pdr_content s g = element ie.pdr_id (be 2 g.id) ++ chosen_elements s g

unfoldable pub created_pdr_element : Settings → Report → List ℕ
created_pdr_element s g = element ie.created_pdr (created_pdr_content s g)

unfoldable pub created_endpoint_content : Settings → Report → List ℕ
created_endpoint_content s g = element ie.endpoint_id (g.id ∷ []) ++ chosen_elements s g

unfoldable pub created_endpoint_element : Settings → Report → List ℕ
created_endpoint_element s g = element ie.created_endpoint (created_endpoint_content s g)

unfoldable pub created : Settings → Reports → List ℕ
created s gs = concat_map (created_pdr_element s) gs.pdrs ++ concat_map (created_endpoint_element s) gs.endpoints

unfoldable pub offending_element : Option ℕ → List ℕ
offending_element none = []
offending_element (some t) = element ie.offending_ie (be 2 t)

-- Node ID, in the replies to establishments and set deletions only: home is the peer's signalling address on the unit (02 (xiv))
unfoldable pub node_id_element : ℕ → ℕ → List ℕ
node_id_element kind home = pick (eqb kind establishment || eqb kind set_deletion) (element ie.node_id (0 ∷ be 4 home)) []

-- the unit's F-SEID, in an accepted establishment's reply only: its SEID equals the peer's
unfoldable pub unit_fseid : ℕ → ℕ → ℕ → List ℕ
unit_fseid kind home seid = pick (eqb kind establishment) (element ie.fseid (fseid_octets seid (be 4 home) [])) []

unfoldable pub accepted_part : ℕ → Settings → ℕ → ℕ → Reports → List ℕ
accepted_part kind s home seid gs = unit_fseid kind home seid ++ created s gs

unfoldable pub reply_body : ℕ → Settings → ℕ → ℕ → Verdict → Reports → List ℕ
reply_body kind s home seid v gs =
    node_id_element kind home
    ++ (element ie.cause (v.cause ∷ []) ++ (offending_element v.offending ++ pick (eqb v.cause why.accepted) (accepted_part kind s home seid gs) []))

-- the session's SEID, but 0 for cause 65 and refused establishments
unfoldable pub reply_seid : ℕ → ℕ → ℕ → ℕ → ℕ
reply_seid kind cause header seid = pick (eqb kind establishment) (pick (eqb cause why.accepted) seid 0) (pick (eqb cause why.no_session) 0 header)

-- with a SEID where the request has one; seid is the F-SEID's, gs are the reports of an accepted request
unfoldable pub reply : Settings → ℕ → List ℕ → ℕ → Verdict → Reports → List ℕ
reply s who msg seid v gs =
    let xs = reply_body (kind_of msg) s (peer_of s who).address seid v gs in
    pick (seid_there msg)
    (message (kind_of msg + 1) (reply_seid (kind_of msg) v.cause (header_seid msg) seid) (sequence_of msg) xs)
    (list_message (kind_of msg + 1) (sequence_of msg) xs)

unfoldable pub computing : ℕ
unfolding element message list_message unit_element tunnel_part address_part chosen_tunnel chosen_ip pdr_report endpoint_report something_chosen reports chosen_elements created_pdr_content created_pdr_element created_endpoint_content created_endpoint_element created offending_element node_id_element unit_fseid accepted_part reply_body reply_seid reply
computing = 0
