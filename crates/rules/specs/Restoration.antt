-- A live session's restoration request (01, "What a request does"): its SEID, flags 01 and its records, nothing more,
-- in the order of the establishment line, Places and the table, with the unit's addresses.
-- Assumes nothing.
use Rattle.std.specs.Prelude.{ℕ, ◌^◌, Bool, true, false, not, ◌&&◌, List, [], ◌∷◌, ◌++◌, map, ltb}
use Rattle.std.proofs.Math.Option.{Option, none, some}
use Rattle.octets.specs.Octets.{be, concat_map}
use Rattle.octets.specs.Choice.{map_option, all_of, is_nil}
use Rattle.rules.specs.Model.{Settings, Match, neither, tunnel, endpoint, Pdr, Endpoint, Csid, Session, matched_tunnel, matched_endpoint}
use Rattle.rules.specs.Elements.{ue_given, Fqcsid, unit_fteid, fqcsid_octets, sets, fseid_octets, address_of}
use Rattle.rules.specs.Message.{establishment}
use Rattle.rules.specs.Request.{NewPdr, NewEndpoint, changed, Request}
use Rattle.rules.specs.Reply.{element, message, unit_element, address_part}
use Rattle.rules.specs.Types as ie

unfoldable pub match_element : Settings → Match → List ℕ
match_element s neither = []
match_element s (tunnel t) = unit_element s t
match_element s (endpoint e) = element ie.endpoint_id (e ∷ [])

unfoldable pub far_element : Option ℕ → List ℕ
far_element none = []
far_element (some n) = element ie.far_id (be 4 n)

-- the address stands last in its group (02 (v))
unfoldable pub pdi_content : Settings → Pdr → List ℕ
pdi_content s p = element ie.source_interface (p.source ∷ []) ++ (match_element s p.match ++ address_part p.address)

unfoldable pub pdr_content : Settings → Pdr → List ℕ
pdr_content s p = element ie.pdr_id (be 2 p.id) ++ (element ie.precedence (be 4 p.precedence) ++ (element ie.pdi (pdi_content s p) ++ far_element p.far))

unfoldable pub pdr_element : Settings → Pdr → List ℕ
pdr_element s p = element ie.create_pdr (pdr_content s p)

unfoldable pub endpoint_content : Settings → Endpoint → List ℕ
endpoint_content s e = element ie.endpoint_id (e.id ∷ []) ++ (unit_element s e.local ++ address_part e.address)

unfoldable pub endpoint_element : Settings → Endpoint → List ℕ
endpoint_element s e = element ie.create_endpoint (endpoint_content s e)

-- the FQ-CSID of a record
unfoldable pub record_csid : Csid → Fqcsid
record_csid c = sets c.id_type c.address (c.csid ∷ []) c.node_type

unfoldable pub csid_element : Csid → List ℕ
csid_element c = element ie.fqcsid (fqcsid_octets (record_csid c))

-- the records as the request has them
unfoldable pub restored_pdr : Settings → Pdr → NewPdr
restored_pdr s p =
    record {
      id = p.id;
      precedence = p.precedence;
      far = p.far;
      source = p.source;
      local = map_option (unit_fteid s) (matched_tunnel p.match);
      endpoint = matched_endpoint p.match;
      address = map_option ue_given p.address;
    }

unfoldable pub restored_endpoint : Settings → Endpoint → NewEndpoint
restored_endpoint s e = record { id = e.id; local = unit_fteid s e.local; address = map_option ue_given e.address }

unfoldable pub restored_request : Settings → Session → Request
restored_request s x =
    record {
      seid = x.seid;
      restoring = true;
      pdrs = map (restored_pdr s) x.pdrs;
      endpoints = map (restored_endpoint s) x.endpoints;
      changes = [];
      gone_pdrs = [];
      gone_endpoints = [];
      csids = changed (map record_csid x.csids);
      unsupported = false;
      listed = [];
    }

-- what may be any: header SEID, sequence number, and the F-SEID's addresses (empty where that one is not there)
pub record Sender : Type 0 where
  pub header : ℕ
  pub sequence : ℕ
  pub ipv4 : List ℕ
  pub ipv6 : List ℕ

unfoldable pub sender_tests : Sender → List Bool
sender_tests p =
    ltb p.header (2 ^ 64) ∷ ltb p.sequence (2 ^ 24) ∷ address_of 4 p.ipv4 ∷ address_of 16 p.ipv6 ∷ not (is_nil p.ipv4 && is_nil p.ipv6) ∷ []

unfoldable pub sender_allowed : Sender → Bool
sender_allowed p = all_of (sender_tests p)

-- the records, in the order of the establishment line
unfoldable pub record_elements : Settings → Session → List ℕ
record_elements s x = concat_map (pdr_element s) x.pdrs ++ (concat_map (endpoint_element s) x.endpoints ++ concat_map csid_element x.csids)

unfoldable pub restoration : Settings → Sender → Session → List ℕ
restoration s p x =
    message establishment p.header (be 3 p.sequence)
    (element ie.fseid (fseid_octets x.seid p.ipv4 p.ipv6) ++ (element ie.session_flags (1 ∷ []) ++ record_elements s x))

unfoldable pub computing : ℕ
unfolding match_element far_element pdi_content pdr_content pdr_element endpoint_content endpoint_element record_csid csid_element restored_pdr restored_endpoint restored_request sender_tests sender_allowed record_elements restoration
computing = 0
