-- The plan of a request: one row of words for each item that it acts on, in request order, and what a row means. `Words` names the words.
-- Assumes nothing.
use Rattle.std.specs.Prelude.{ℕ, Bool, ◌||◌, List, [], ◌∷◌, ◌++◌, map, get_or, eqb, ltb}
use Rattle.std.proofs.Math.Option.{Option, none, some}
use Rattle.octets.specs.Choice.{pick}
use Rattle.octets.specs.Octets.{be, bit, slices}
use Rattle.octets.specs.Lists.{any, keep, collect}
use Rattle.octets.specs.Rows.{has_tag}
use Rattle.rules.specs.Elements.{Fteid, given, choose, UeIp, ue_given, ue_choose, ue_other, Fqcsid, sets, removal}
use Rattle.rules.specs.Request.{NewPdr, NewEndpoint, Change, cleared, changed, Request}
use Rattle.rules.specs.Types as ie
use Rattle.plan.specs.Words as its

-- words in a row
abbrev pub row_width : ℕ
row_width = 20

-- a word of a row
abbrev pub word : ℕ → List ℕ → ℕ
word k row = get_or row k 0

-- the rows of a plan, n of them
abbrev pub rows_of : ℕ → List ℕ → List (List ℕ)
rows_of n plan = slices row_width n plan

-- those of a type
unfoldable pub tagged : ℕ → List (List ℕ) → List (List ℕ)
tagged t rows = keep (has_tag t) rows

-- the F-TEID of flags f: TEID t, IPv4 address a, IPv6 address h and l, CHOOSE ID c
unfoldable pub fteid_from : ℕ → ℕ → ℕ → ℕ → ℕ → ℕ → Fteid
fteid_from f t a h l c =
    pick (bit 2 f) (choose (bit 0 f) (bit 1 f) (pick (bit 3 f) (some c) none))
    (given t (pick (bit 0 f) (be 4 a) []) (pick (bit 1 f) (be 8 h ++ be 8 l) []))

unfoldable pub row_fteid : List ℕ → Fteid
row_fteid row = fteid_from (word its.flags row) (word its.teid row) (word its.ipv4 row) (word its.ipv6_high row) (word its.ipv6_low row) (word its.choose_id row)

unfoldable pub row_local : List ℕ → Option Fteid
row_local row = pick (eqb (word its.flags row) 0) none (some (row_fteid row))

-- the UE IP Address of kind k and address a
unfoldable pub ue_from : ℕ → ℕ → Option UeIp
ue_from k a = pick (eqb k 0) none (some (pick (eqb k 1) (ue_given a) (pick (eqb k 2) ue_choose ue_other)))

unfoldable pub row_ue : List ℕ → Option UeIp
row_ue row = ue_from (word its.ue_kind row) (word its.ue_address row)

-- a value that is there if its word says so
unfoldable pub present : ℕ → ℕ → Option ℕ
present there v = pick (eqb there 1) (some v) none

unfoldable pub row_pdr : List ℕ → NewPdr
row_pdr row =
    record {
      id = word its.pdr_id row;
      precedence = word its.precedence row;
      far = present (word its.has_far_id row) (word its.far_id row);
      source = word its.source row;
      local = row_local row;
      endpoint = present (word its.has_endpoint_id row) (word its.endpoint_id row);
      address = row_ue row;
    }

unfoldable pub row_endpoint : List ℕ → NewEndpoint
row_endpoint row = record { id = word its.endpoint_id row; local = row_fteid row; address = row_ue row }

-- null length takes the FAR ID away
unfoldable pub row_far : List ℕ → Option (Option ℕ)
row_far row = pick (eqb (word its.has_far_id row) 2) (some none) (pick (eqb (word its.has_far_id row) 1) (some (some (word its.far_id row))) none)

unfoldable pub row_change : List ℕ → Change
row_change row = record { id = word its.pdr_id row; precedence = present (word its.has_precedence row) (word its.precedence row); far = row_far row; pdi = eqb (word its.has_pdi row) 1 }

abbrev pub row_pdi : List ℕ → Bool
row_pdi row = eqb (word its.has_pdi row) 1

-- an address that is not supported
abbrev pub row_strange : List ℕ → Bool
row_strange row = ltb 2 (word its.ue_kind row)

abbrev pub row_pdr_id : List ℕ → ℕ
row_pdr_id row = word its.pdr_id row

abbrev pub row_endpoint_id : List ℕ → ℕ
row_endpoint_id row = word its.endpoint_id row

-- the address of a Node-ID: 16 octets of type 1, else 4
unfoldable pub row_address : List ℕ → List ℕ
row_address row = pick (eqb (word its.id_type row) 1) (be 8 (word its.address_high row) ++ be 8 (word its.address_low row)) (be 4 (word its.address_low row))

unfoldable pub row_csid : List ℕ → Option Fqcsid
row_csid row =
    pick (eqb (word its.verb row) 1) (some (sets (word its.id_type row) (row_address row) (word its.csid row ∷ []) (word its.node_type row)))
    (pick (eqb (word its.verb row) 2) (some (removal (word its.node_type row))) none)

unfoldable pub is_null_row : List ℕ → Bool
is_null_row row = eqb (word its.verb row) 3

-- The request that rows mean, with the F-SEID's SEID, whether it is a restoration, and whether element 129 was met.
unfoldable pub request_in : ℕ → Bool → Bool → List (List ℕ) → Request
request_in seid restoring noted rows =
    record {
      seid = seid;
      restoring = restoring;
      pdrs = map row_pdr (tagged ie.create_pdr rows);
      endpoints = map row_endpoint (tagged ie.create_endpoint rows);
      changes = map row_change (tagged ie.update_pdr rows);
      gone_pdrs = map row_pdr_id (tagged ie.remove_pdr rows);
      gone_endpoints = map row_endpoint_id (tagged ie.remove_endpoint rows);
      csids = pick (any is_null_row (tagged ie.fqcsid rows)) cleared (changed (collect row_csid (tagged ie.fqcsid rows)));
      unsupported =
          noted || any row_pdi (tagged ie.update_pdr rows) || any row_strange (tagged ie.create_pdr rows) || any row_strange (tagged ie.create_endpoint rows);
      listed = [];
    }
