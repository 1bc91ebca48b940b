-- What a message asks for: one item for each element that is acted on, and the request that they make.
-- 01, "What a request does"; 02 (vii).
-- Assumes nothing.
use Rattle.std.specs.Prelude.{ℕ, Bool, true, false, not, List, [], ◌∷◌, ◌++◌}
use Rattle.std.proofs.Math.Option.{Option, none, some}
use Rattle.octets.specs.Choice.{pick, value_or, is_nil}
use Rattle.octets.specs.Lists.{any, collect}
use Rattle.rules.specs.Elements.{Fteid, UeIp, Fqcsid, ue_strange}

pub record NewPdr : Type 0 where
  pub id : ℕ
  pub precedence : ℕ
  pub far : Option ℕ
  pub source : ℕ
  pub local : Option Fteid
  pub endpoint : Option ℕ
  pub address : Option UeIp

pub record NewEndpoint : Type 0 where
  pub id : ℕ
  pub local : Fteid
  pub address : Option UeIp

-- an Update PDR: what it replaces; for the FAR ID `some none` takes it away
pub record Change : Type 0 where
  pub id : ℕ
  pub precedence : Option ℕ
  pub far : Option (Option ℕ)
  pub pdi : Bool

-- one thing that a message asks for
pub data Item : Type 0 where
  creates_pdr : NewPdr → Item
  creates_endpoint : NewEndpoint → Item
  updates_pdr : Change → Item
  removes_pdr : ℕ → Item
  removes_endpoint : ℕ → Item
  -- sets or removes the FQ-CSID of a node type; removes all
  sets_csid : Fqcsid → Item
  clears_csids : Item
  -- element 129, which is not supported
  updates_endpoint : Item

-- what becomes of the FQ-CSIDs: all go, or they are set and removed one by one
pub data CsidChanges : Type 0 where
  cleared : CsidChanges
  changed : List Fqcsid → CsidChanges

-- a request in records, each kind in request order; the SEID is that of an establishment's F-SEID, else 0
pub record Request : Type 0 where
  pub seid : ℕ
  pub restoring : Bool
  pub pdrs : List NewPdr
  pub endpoints : List NewEndpoint
  pub changes : List Change
  pub gone_pdrs : List ℕ
  pub gone_endpoints : List ℕ
  pub csids : CsidChanges
  pub unsupported : Bool
  -- the FQ-CSIDs that a set deletion lists
  pub listed : List Fqcsid

-- ---- what was read so far

-- what was read so far: the SEID of 57, whether 186 says restoration, the node types met, and what was asked for
pub record Draft : Type 0 where
  pub seid : Option ℕ
  pub restores : Option Bool
  pub nodes : List ℕ
  pub items : List Item

abbrev pub empty_draft : Draft
empty_draft = record { seid = none; restores = none; nodes = []; items = [] }

abbrev pub with_seid : ℕ → Draft → Draft
with_seid n d = record { seid = some n; restores = d.restores; nodes = d.nodes; items = d.items }

abbrev pub with_restores : Bool → Draft → Draft
with_restores b d = record { seid = d.seid; restores = some b; nodes = d.nodes; items = d.items }

abbrev pub with_node : ℕ → Draft → Draft
with_node n d = record { seid = d.seid; restores = d.restores; nodes = n ∷ d.nodes; items = d.items }

abbrev pub with_item : Item → Draft → Draft
with_item i d = record { seid = d.seid; restores = d.restores; nodes = d.nodes; items = d.items ++ (i ∷ []) }

-- ---- the request that items make

unfoldable pub pdr_in : Item → Option NewPdr
pdr_in (creates_pdr x) = some x
pdr_in (creates_endpoint x) = none
pdr_in (updates_pdr x) = none
pdr_in (removes_pdr x) = none
pdr_in (removes_endpoint x) = none
pdr_in (sets_csid x) = none
pdr_in clears_csids = none
pdr_in updates_endpoint = none

unfoldable pub endpoint_in : Item → Option NewEndpoint
endpoint_in (creates_pdr x) = none
endpoint_in (creates_endpoint x) = some x
endpoint_in (updates_pdr x) = none
endpoint_in (removes_pdr x) = none
endpoint_in (removes_endpoint x) = none
endpoint_in (sets_csid x) = none
endpoint_in clears_csids = none
endpoint_in updates_endpoint = none

unfoldable pub change_in : Item → Option Change
change_in (creates_pdr x) = none
change_in (creates_endpoint x) = none
change_in (updates_pdr x) = some x
change_in (removes_pdr x) = none
change_in (removes_endpoint x) = none
change_in (sets_csid x) = none
change_in clears_csids = none
change_in updates_endpoint = none

unfoldable pub gone_pdr_in : Item → Option ℕ
gone_pdr_in (creates_pdr x) = none
gone_pdr_in (creates_endpoint x) = none
gone_pdr_in (updates_pdr x) = none
gone_pdr_in (removes_pdr x) = some x
gone_pdr_in (removes_endpoint x) = none
gone_pdr_in (sets_csid x) = none
gone_pdr_in clears_csids = none
gone_pdr_in updates_endpoint = none

unfoldable pub gone_endpoint_in : Item → Option ℕ
gone_endpoint_in (creates_pdr x) = none
gone_endpoint_in (creates_endpoint x) = none
gone_endpoint_in (updates_pdr x) = none
gone_endpoint_in (removes_pdr x) = none
gone_endpoint_in (removes_endpoint x) = some x
gone_endpoint_in (sets_csid x) = none
gone_endpoint_in clears_csids = none
gone_endpoint_in updates_endpoint = none

unfoldable pub csid_in : Item → Option Fqcsid
csid_in (creates_pdr x) = none
csid_in (creates_endpoint x) = none
csid_in (updates_pdr x) = none
csid_in (removes_pdr x) = none
csid_in (removes_endpoint x) = none
csid_in (sets_csid x) = some x
csid_in clears_csids = none
csid_in updates_endpoint = none

unfoldable pub clears : Item → Bool
clears (creates_pdr x) = false
clears (creates_endpoint x) = false
clears (updates_pdr x) = false
clears (removes_pdr x) = false
clears (removes_endpoint x) = false
clears (sets_csid x) = false
clears clears_csids = true
clears updates_endpoint = false

-- is there an address with what the unit does not have
unfoldable pub strange_address : Option UeIp → Bool
strange_address none = false
strange_address (some v) = ue_strange v

-- an Update PDR with a PDI, element 129, or such an address
unfoldable pub is_unsupported : Item → Bool
is_unsupported (creates_pdr x) = strange_address x.address
is_unsupported (creates_endpoint x) = strange_address x.address
is_unsupported (updates_pdr x) = x.pdi
is_unsupported (removes_pdr x) = false
is_unsupported (removes_endpoint x) = false
is_unsupported (sets_csid x) = false
is_unsupported clears_csids = false
is_unsupported updates_endpoint = true

unfoldable pub restoring_in : Draft → Bool
restoring_in d = value_or false d.restores

unfoldable pub request_from : ℕ → Draft → Request
request_from n d =
    record {
      seid = n;
      restoring = restoring_in d;
      pdrs = collect pdr_in d.items;
      endpoints = collect endpoint_in d.items;
      changes = collect change_in d.items;
      gone_pdrs = collect gone_pdr_in d.items;
      gone_endpoints = collect gone_endpoint_in d.items;
      csids = pick (any clears d.items) cleared (changed (collect csid_in d.items));
      unsupported = any is_unsupported d.items;
      listed = [];
    }

unfoldable pub creates_any : List Item → Bool
creates_any is = not (is_nil (collect pdr_in is))

-- a request that asks for no more than that
unfoldable pub listing : List Fqcsid → Request
listing cs =
    record { seid = 0; restoring = false; pdrs = []; endpoints = []; changes = []; gone_pdrs = []; gone_endpoints = []; csids = changed []; unsupported = false; listed = cs }
