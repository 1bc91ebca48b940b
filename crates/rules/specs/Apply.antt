-- What an accepted request does to a session, and to the sessions (01, "What a request does"; 02 (ii), (v) and (vii)).
-- `got` says which TEID and which address a record of a kind and ID got for its CHOOSEs: the engine takes them from what it grants, the live
-- set from the reply.
-- Assumes nothing.
use Rattle.std.specs.Prelude.{ℕ, Bool, false, not, ◌&&◌, List, [], ◌∷◌, map, eqb}
use Rattle.std.proofs.Math.Option.{Option, none, some}
use Rattle.octets.specs.Choice.{pick, bind_option, is_nil, head_or}
use Rattle.octets.specs.Octets.{same_octets}
use Rattle.octets.specs.Lists.{keep, member, any, insert_by, insert_all}
use Rattle.rules.specs.Model.{key_for, Tunnel, Match, neither, tunnel, endpoint, Pdr, Endpoint, Csid, Session, Sessions, pdr_id, endpoint_id, node_type_of, session_key, has_peer}
use Rattle.rules.specs.Elements.{Fteid, given, choose, UeIp, ue_given, ue_choose, ue_other, Fqcsid, sets, removal}
use Rattle.rules.specs.Message.{deletion, set_deletion}
use Rattle.rules.specs.Request.{NewPdr, NewEndpoint, Change, CsidChanges, cleared, changed, Request}
use Rattle.rules.specs.Grants.{Kind, of_pdr, of_endpoint, Got}
use Rattle.rules.specs.Stages.{has_key, at_entry, removed_pdrs}

-- ---- records

-- the families are the request's, and so is a TEID without CH
unfoldable pub tunnel_from : ℕ → Fteid → Tunnel
tunnel_from chosen (given t a b) = record { teid = t; v4 = not (is_nil a); v6 = not (is_nil b) }
tunnel_from chosen (choose v4 v6 i) = record { teid = chosen; v4 = v4; v6 = v6 }

unfoldable pub named_match : Option ℕ → Match
named_match none = neither
named_match (some e) = endpoint e

unfoldable pub match_from : ℕ → Option Fteid → Option ℕ → Match
match_from chosen none e = named_match e
match_from chosen (some v) e = tunnel (tunnel_from chosen v)

-- the address is the request's, or the one that was chosen (02 (v))
unfoldable pub address_got : ℕ → UeIp → Option ℕ
address_got chosen (ue_given a) = some a
address_got chosen ue_choose = some chosen
address_got chosen ue_other = none

unfoldable pub address_from : ℕ → Option UeIp → Option ℕ
address_from chosen v = bind_option v (address_got chosen)

-- a request's PDR, with what it matches on and its address
abbrev pub pdr_by : NewPdr → Match → Option ℕ → Pdr
pdr_by p q u = record { id = p.id; precedence = p.precedence; far = p.far; source = p.source; match = q; address = u }

unfoldable pub made_pdr : (Kind → ℕ → Got) → NewPdr → Pdr
made_pdr got p = pdr_by p (match_from (got of_pdr p.id).teid p.local p.endpoint) (address_from (got of_pdr p.id).address p.address)

unfoldable pub made_endpoint : (Kind → ℕ → Got) → NewEndpoint → Endpoint
made_endpoint got e =
    record { id = e.id; local = tunnel_from (got of_endpoint e.id).teid e.local; address = address_from (got of_endpoint e.id).address e.address }

-- what an Update PDR does not name stays
unfoldable pub or_old : {A : Type 0} → A → Option A → A
or_old a none = a
or_old a (some b) = b

-- a PDR with another precedence and FAR ID
abbrev pub pdr_with : ℕ → Option ℕ → Pdr → Pdr
pdr_with n f p = record { id = p.id; precedence = n; far = f; source = p.source; match = p.match; address = p.address }

unfoldable pub changed_pdr : Change → Pdr → Pdr
changed_pdr c p = pick (eqb p.id c.id) (pdr_with (or_old p.precedence c.precedence) (or_old p.far c.far) p) p

unfoldable pub update_all : List Change → List Pdr → List Pdr
update_all [] ps = ps
update_all (c ∷ cs) ps = update_all cs (map (changed_pdr c) ps)

-- ---- FQ-CSIDs

unfoldable pub other_node : ℕ → Csid → Bool
other_node n c = not (eqb c.node_type n)

-- m = 1 sets that node type's, m = 0 removes it
unfoldable pub set_csid : Fqcsid → List Csid → List Csid
set_csid (sets t a cs n) ds = insert_by node_type_of (record { node_type = n; id_type = t; address = a; csid = head_or 0 cs }) (keep (other_node n) ds)
set_csid (removal n) ds = keep (other_node n) ds

unfoldable pub set_csids : List Fqcsid → List Csid → List Csid
set_csids [] ds = ds
set_csids (c ∷ cs) ds = set_csids cs (set_csid c ds)

-- null length removes all
unfoldable pub follow_csids : CsidChanges → List Csid → List Csid
follow_csids cleared ds = []
follow_csids (changed cs) ds = set_csids cs ds

-- ---- the session

unfoldable pub kept_pdr : List ℕ → Pdr → Bool
kept_pdr gone p = not (member p.id gone)

unfoldable pub kept_endpoint : List ℕ → Endpoint → Bool
kept_endpoint gone e = not (member e.id gone)

-- PDRs that name a removed endpoint go with it
unfoldable pub pdrs_after : (Kind → ℕ → Got) → Request → List Pdr → List Pdr
pdrs_after got r ps = update_all r.changes (insert_all pdr_id (map (made_pdr got) r.pdrs) (keep (kept_pdr (removed_pdrs r ps)) ps))

unfoldable pub endpoints_after : (Kind → ℕ → Got) → Request → List Endpoint → List Endpoint
endpoints_after got r es = insert_all endpoint_id (map (made_endpoint got) r.endpoints) (keep (kept_endpoint r.gone_endpoints) es)

-- removals first, then endpoints, PDRs, updates, FQ-CSIDs
unfoldable pub apply : (Kind → ℕ → Got) → Request → Session → Session
apply got r x =
    record {
      peer = x.peer;
      seid = x.seid;
      pdrs = pdrs_after got r x.pdrs;
      endpoints = endpoints_after got r x.endpoints;
      csids = follow_csids r.csids x.csids;
    }

-- ---- the sessions

unfoldable pub other_session : ℕ → Session → Bool
other_session k x = not (has_key k x)

-- the sessions without the one of a key, and with another in its place
unfoldable pub remove_session : ℕ → Sessions → Sessions
remove_session k m = keep (other_session k) m

unfoldable pub put_session : Session → Sessions → Sessions
put_session x m = insert_by session_key x (remove_session (session_key x) m)

-- ---- set deletions (02 (vii))

-- a listed FQ-CSID and one that a session holds are equal in node type, Node-ID type and address, and the held CSID is one of those listed
unfoldable pub covers : Fqcsid → Csid → Bool
covers (sets t a cs n) c = eqb c.node_type n && eqb c.id_type t && same_octets c.address a && member c.csid cs
covers (removal n) c = false

unfoldable pub covers_session : Session → Fqcsid → Bool
covers_session x l = any (covers l) x.csids

-- a session goes where one of the listed FQ-CSIDs covers one that it holds
unfoldable pub goes_session : List Fqcsid → Session → Bool
goes_session ls x = any (covers_session x) ls

-- of the peer's own sessions (02 (xiv))
unfoldable pub stays_session : ℕ → List Fqcsid → Session → Bool
stays_session who ls x = not (has_peer who x && goes_session ls x)

-- ---- what an accepted request makes of them

-- establishment adds, modification changes, deletion takes out, set deletion takes out every match, each of its peer's sessions alone
unfoldable pub follow : (Kind → ℕ → Got) → ℕ → ℕ → ℕ → Request → Sessions → Sessions
follow got kind who header r m =
    pick (eqb kind set_deletion) (keep (stays_session who r.listed) m)
    (pick (eqb kind deletion) (remove_session (key_for who header) m) (put_session (apply got r (at_entry kind who header r m)) m))

unfoldable pub computing : ℕ
unfolding tunnel_from named_match match_from address_got address_from made_pdr made_endpoint or_old changed_pdr update_all other_node set_csid set_csids follow_csids kept_pdr kept_endpoint pdrs_after endpoints_after apply other_session remove_session put_session covers covers_session goes_session stays_session follow
computing = 0
