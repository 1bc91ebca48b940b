-- The elements of records, from the octets of their slots: what the writers leave, and what they ask of a slot.
-- Assumes nothing.
use Rattle.std.specs.Prelude.{ℕ, ◌≡◌, Bool, ◌&&◌, List, [], ◌∷◌, ◌++◌, T, eqb, ltb, length, get_or, drop}
use Rattle.octets.specs.Octets.{octet_at, slices}
use Rattle.octets.specs.Choice.{pick}
use Rattle.octets.specs.Lists.{all}
use Rattle.octets.specs.Fields.{field_octets}
use Rattle.rules.specs.Model.{Settings, Session}
use Rattle.rules.specs.Elements.{fseid_octets, fqcsid_octets}
use Rattle.rules.specs.Layout.{view_pdr, view_endpoint, view_csid, pdr_width, csid_width, pdr_count_at, endpoint_count_at, csid_count_at, pdrs_at, endpoints_at, csids_at, session_width, endpoint_width, csid_id_type_at}
use Rattle.rules.specs.Reply.{element}
use Rattle.rules.specs.Restoration.{pdr_element, endpoint_element, record_csid, csid_element, record_elements}
use Rattle.rules.specs.Types as ie
use Rattle.restoration.specs.declared.Kind.{Kind}
use Rattle.restoration.specs.declared.Kind.TheVariants as kind
use Rattle.fqcsid.specs.declared.FqCsid.{FqCsid}
use Rattle.fqcsid.specs.Meaning.{fqcsid_widths, fqcsid_numbers}

-- the kind of a record's element, by its type: what is no PDR's and no endpoint's counts as an FQ-CSID's
unfoldable pub kind_of_type : ℕ → Kind
kind_of_type t = pick (eqb t ie.create_pdr) kind.Pdr (pick (eqb t ie.create_endpoint) kind.Endpoint kind.Csid)

-- what the records of a kind are as wide as, are written as, and ask of their octets: the kind's width, and of an FQ-CSID a Node-ID type of four bits
abbrev pub record_width : Kind → ℕ
record_width kind.Pdr = pdr_width
record_width kind.Endpoint = endpoint_width
record_width kind.Csid = csid_width

abbrev pub record_element : Kind → Settings → List ℕ → List ℕ
record_element kind.Pdr s xs = pdr_element s (view_pdr xs)
record_element kind.Endpoint s xs = endpoint_element s (view_endpoint xs)
record_element kind.Csid s xs = csid_element (view_csid xs)

abbrev pub record_fits : Kind → List ℕ → Bool
record_fits kind.Pdr xs = eqb (length xs) pdr_width
record_fits kind.Endpoint xs = eqb (length xs) endpoint_width
record_fits kind.Csid xs = eqb (length xs) csid_width && ltb (octet_at xs 1) 16

-- the FQ-CSID of a slot: one CSID, and the octets that it is written as
pub record CsidOf (xs : List ℕ) (v : FqCsid) : Type 0 where
  pub kind : v.id_type ≡ get_or xs csid_id_type_at 0
  pub one : v.count ≡ 1
  pub octets : field_octets (fqcsid_widths v.id_type v.count) (fqcsid_numbers v) ≡ fqcsid_octets (record_csid (view_csid xs))

-- n records of a kind, from a place of a session's slot on
unfoldable pub area_fits : Kind → ℕ → ℕ → List ℕ → Bool
area_fits k n at slot = all (record_fits k) (slices (record_width k) n (drop at slot))

-- a session's slot that its records can be written from
pub record SlotFits (slot : List ℕ) : Type 0 where
  pub long : length slot ≡ session_width
  pub pdrs : T (area_fits kind.Pdr (octet_at slot pdr_count_at) pdrs_at slot)
  pub endpoints : T (area_fits kind.Endpoint (octet_at slot endpoint_count_at) endpoints_at slot)
  pub csids : T (area_fits kind.Csid (octet_at slot csid_count_at) csids_at slot)

-- a restoration's elements: F-SEID, flags, records
unfoldable pub content : Settings → Session → List ℕ → List ℕ → List ℕ
content s x ipv4 ipv6 = element ie.fseid (fseid_octets x.seid ipv4 ipv6) ++ (element ie.session_flags (1 ∷ []) ++ record_elements s x)
