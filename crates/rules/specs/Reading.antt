-- Stage 3: a framed message read, each element once and in order: the first fault, or the request.
-- 01, "Message frame", "FQ-CSID" and the causes of stage 3; 02 (vii).
-- Assumes nothing.
use Rattle.std.specs.Prelude.{ℕ, ◌%◌, Bool, true, false, not, ◌&&◌, ◌||◌, List, [], ◌∷◌, length, ltb, eqb}
use Rattle.std.proofs.Math.Option.{Option, none, some}
use Rattle.octets.specs.Choice.{pick, bind_option, is_some, is_nil}
use Rattle.octets.specs.Octets.{number_at, octet_at, bit}
use Rattle.octets.specs.Lists.{member, keep}
use Rattle.rules.specs.Types as ie
use Rattle.rules.specs.Elements.{Refusal, missing, conditional, too_short, incorrect, Answer, refuse, value, Fteid, UeIp, Fqcsid, sets, removal, read_fteid, read_ue_ip, read_fqcsid, read_fseid, node_of}
use Rattle.rules.specs.Message.{establishment, modification, set_deletion, kind_of, header_length, body, inside, Element, elements, acted_on, places_of, has_type, number_width}
use Rattle.rules.specs.Request.{Item, creates_pdr, creates_endpoint, updates_pdr, removes_pdr, removes_endpoint, sets_csid, clears_csids, updates_endpoint, Request, Draft, empty_draft, with_seid, with_restores, with_node, with_item, pdr_in, endpoint_in, change_in, gone_pdr_in, gone_endpoint_in, csid_in, clears, strange_address, is_unsupported, restoring_in, request_from, creates_any, listing}

-- ---- what reading gives

-- a refusal with the type at fault and its place: that of the element, or where one is missing of the group that lacks it, 0 for the message
pub record Fault : Type 0 where
  pub cause : Refusal
  pub type : ℕ
  pub place : ℕ

-- the first fault, or what was read
pub data Reading (A : Type 0) : Type 0 where
  faulty : Fault → Reading A
  done : A → Reading A

abbrev pub refusal_at : {A : Type 0} → Refusal → ℕ → ℕ → Reading A
refusal_at c t p = faulty (record { cause = c; type = t; place = p })

-- a value read, and what is read after it
abbrev pub and_then : {A B : Type 0} → Reading A → (A → Reading B) → Reading B
and_then (faulty f) next = faulty f
and_then (done a) next = next a

-- the answer on the value of an element of type t at place p
abbrev pub named : {A : Type 0} → ℕ → ℕ → Answer A → Reading A
named t p (refuse c) = refusal_at c t p
named t p (value a) = done a

-- what a group at place p requires, and what is read of it
abbrev pub requiring : {A B : Type 0} → Refusal → ℕ → ℕ → Option A → (A → Reading B) → Reading B
requiring c t p none next = refusal_at c t p
requiring c t p (some a) next = next a

-- ---- groups

-- what was read of a group: each member once at most. Those of a Create PDR's PDI stand beside its own.
pub record Members : Type 0 where
  pub pdr_id : Option ℕ
  pub precedence : Option ℕ
  -- `some none`: of null length
  pub far : Option (Option ℕ)
  pub pdi : Bool
  pub source : Option ℕ
  pub local : Option Fteid
  pub endpoint_id : Option ℕ
  pub address : Option UeIp

abbrev pub no_members : Members
no_members = record { pdr_id = none; precedence = none; far = none; pdi = false; source = none; local = none; endpoint_id = none; address = none }

-- with one more
abbrev pub with_pdr_id : ℕ → Members → Members
with_pdr_id n m = record { pdr_id = some n; precedence = m.precedence; far = m.far; pdi = m.pdi; source = m.source; local = m.local; endpoint_id = m.endpoint_id; address = m.address }

abbrev pub with_precedence : ℕ → Members → Members
with_precedence n m = record { pdr_id = m.pdr_id; precedence = some n; far = m.far; pdi = m.pdi; source = m.source; local = m.local; endpoint_id = m.endpoint_id; address = m.address }

abbrev pub with_far : Option ℕ → Members → Members
with_far f m = record { pdr_id = m.pdr_id; precedence = m.precedence; far = some f; pdi = m.pdi; source = m.source; local = m.local; endpoint_id = m.endpoint_id; address = m.address }

abbrev pub with_pdi : Members → Members
with_pdi m = record { pdr_id = m.pdr_id; precedence = m.precedence; far = m.far; pdi = true; source = m.source; local = m.local; endpoint_id = m.endpoint_id; address = m.address }

abbrev pub with_source : ℕ → Members → Members
with_source n m = record { pdr_id = m.pdr_id; precedence = m.precedence; far = m.far; pdi = m.pdi; source = some n; local = m.local; endpoint_id = m.endpoint_id; address = m.address }

abbrev pub with_local : Fteid → Members → Members
with_local v m = record { pdr_id = m.pdr_id; precedence = m.precedence; far = m.far; pdi = m.pdi; source = m.source; local = some v; endpoint_id = m.endpoint_id; address = m.address }

abbrev pub with_endpoint_id : ℕ → Members → Members
with_endpoint_id n m = record { pdr_id = m.pdr_id; precedence = m.precedence; far = m.far; pdi = m.pdi; source = m.source; local = m.local; endpoint_id = some n; address = m.address }

abbrev pub with_address : UeIp → Members → Members
with_address v m = record { pdr_id = m.pdr_id; precedence = m.precedence; far = m.far; pdi = m.pdi; source = m.source; local = m.local; endpoint_id = m.endpoint_id; address = some v }

-- is a member of type t there
unfoldable pub member_there : ℕ → Members → Bool
member_there t m =
    pick (eqb t ie.pdr_id) (is_some m.pdr_id)
    (pick (eqb t ie.precedence) (is_some m.precedence)
    (pick (eqb t ie.far_id) (is_some m.far)
    (pick (eqb t ie.pdi) m.pdi
    (pick (eqb t ie.source_interface) (is_some m.source)
    (pick (eqb t ie.fteid) (is_some m.local)
    (pick (eqb t ie.ue_ip_address) (is_some m.address) (is_some m.endpoint_id)))))))

-- the number of a member with so many octets
unfoldable pub number_read : ℕ → ℕ → List ℕ → Reading ℕ
number_read t p v = pick (ltb (length v) (number_width t)) (refusal_at too_short t p) (done (number_at 0 (number_width t) v))

-- a FAR ID of null length takes the FAR ID away, in an Update PDR
unfoldable pub far_read : ℕ → ℕ → List ℕ → Reading (Option ℕ)
far_read g p v = pick (eqb g ie.update_pdr && is_nil v) (done none) (and_then (number_read ie.far_id p v) (λ n. done (some n)))

-- the PDI of a Create PDR, at place p, is read by `inner`; that of an Update PDR is not
unfoldable pub pdi_in : (ℕ → List ℕ → Members → Reading Members) → ℕ → ℕ → List ℕ → Members → Reading Members
pdi_in inner g p v m = pick (eqb g ie.create_pdr) (inner p v (with_pdi m)) (done (with_pdi m))

-- the value v of a member of type t at place p, in a group of type g
unfoldable pub value_read : (ℕ → List ℕ → Members → Reading Members) → ℕ → ℕ → ℕ → List ℕ → Members → Reading Members
value_read inner g t p v m =
    pick (eqb t ie.pdr_id) (and_then (number_read t p v) (λ n. done (with_pdr_id n m)))
    (pick (eqb t ie.precedence) (and_then (number_read t p v) (λ n. done (with_precedence n m)))
    (pick (eqb t ie.far_id) (and_then (far_read g p v) (λ f. done (with_far f m)))
    (pick (eqb t ie.pdi) (pdi_in inner g p v m)
    (pick (eqb t ie.source_interface) (and_then (number_read t p v) (λ n. done (with_source (n % 16) m)))
    (pick (eqb t ie.fteid) (and_then (named t p (read_fteid (eqb g ie.create_endpoint) v)) (λ y. done (with_local y m)))
    (pick (eqb t ie.ue_ip_address) (and_then (named t p (read_ue_ip v)) (λ y. done (with_address y m)))
    (and_then (number_read t p v) (λ n. done (with_endpoint_id n m)))))))))

-- an element of a group: skipped where it has no place; met again it is 69 before its value is read
unfoldable pub member_read : (ℕ → List ℕ → Members → Reading Members) → ℕ → Element → Members → Reading Members
member_read inner g e m =
    pick (member e.type (places_of g))
    (pick (member_there e.type m) (refusal_at incorrect e.type e.place) (value_read inner g e.type e.place e.content m))
    (done m)

unfoldable pub members_read : (ℕ → List ℕ → Members → Reading Members) → ℕ → List Element → Members → Reading Members
members_read inner g [] m = done m
members_read inner g (e ∷ es) m = and_then (member_read inner g e m) (members_read inner g es)

-- a PDI opens no group
abbrev pub unopened : ℕ → List ℕ → Members → Reading Members
unopened p v m = done m

-- a PDI, at place p, requires its Source Interface
unfoldable pub pdi_end : ℕ → Members → Reading Members
pdi_end p m = requiring missing ie.source_interface p m.source (λ n. done m)

unfoldable pub pdi_read : ℕ → List ℕ → Members → Reading Members
pdi_read p v m = and_then (members_read unopened ie.pdi (elements (inside p) v) m) (pdi_end p)

-- what the members of a group at place p make, the required ones asked for from the lowest type up

-- a PDI that is there has its Source Interface
unfoldable pub pdr_item : ℕ → Members → Reading Item
pdr_item p m =
    pick m.pdi
    (requiring missing ie.precedence p m.precedence (λ n. requiring missing ie.pdr_id p m.pdr_id (λ i. requiring missing ie.source_interface p m.source (λ c.
    done (creates_pdr (record { id = i; precedence = n; far = bind_option m.far (λ f. f); source = c; local = m.local; endpoint = m.endpoint_id; address = m.address }))))))
    (refusal_at missing ie.pdi p)

unfoldable pub endpoint_item : ℕ → Members → Reading Item
endpoint_item p m =
    requiring conditional ie.fteid p m.local (λ v. requiring missing ie.endpoint_id p m.endpoint_id (λ i. done (creates_endpoint (record { id = i; local = v; address = m.address }))))

unfoldable pub change_from : ℕ → Members → Reading Item
change_from p m =
    requiring missing ie.pdr_id p m.pdr_id (λ i. done (updates_pdr (record { id = i; precedence = m.precedence; far = m.far; pdi = m.pdi })))

unfoldable pub item_from : ℕ → ℕ → Members → Reading Item
item_from g p m =
    pick (eqb g ie.create_pdr) (pdr_item p m)
    (pick (eqb g ie.create_endpoint) (endpoint_item p m)
    (pick (eqb g ie.update_pdr) (change_from p m)
    (pick (eqb g ie.remove_pdr) (requiring missing ie.pdr_id p m.pdr_id (λ i. done (removes_pdr i)))
    (requiring missing ie.endpoint_id p m.endpoint_id (λ i. done (removes_endpoint i))))))

-- a group of type g at place p, of value v
unfoldable pub group_read : ℕ → ℕ → List ℕ → Reading Item
group_read g p v = and_then (members_read pdi_read g (elements (inside p) v) no_members) (item_from g p)

-- ---- the top of a message

-- 57 and 186 may come once; a second one stands at place p
abbrev pub once : {A B : Type 0} → Option A → ℕ → ℕ → Reading B → Reading B
once none t p r = r
once (some a) t p r = refusal_at incorrect t p

unfoldable pub seid_read : ℕ → List ℕ → Draft → Reading Draft
seid_read p v d = once d.seid ie.fseid p (and_then (named ie.fseid p (read_fseid v)) (λ n. done (with_seid n d)))

-- bit 1 of the flags' octet
unfoldable pub flags_read : ℕ → List ℕ → Draft → Reading Draft
flags_read p v d =
    once d.restores ie.session_flags p (pick (ltb (length v) 1) (refusal_at too_short ie.session_flags p) (done (with_restores (bit 0 (octet_at v 0)) d)))

-- m = 1 in an establishment, 1 or the removal in a modification
unfoldable pub csid_count_allowed : ℕ → Fqcsid → Bool
csid_count_allowed kind (sets t a cs n) = eqb (length cs) 1
csid_count_allowed kind (removal n) = eqb kind modification

abbrev pub with_csid : Fqcsid → Draft → Draft
with_csid c d = with_node (node_of c) (with_item (sets_csid c) d)

-- null length in a modification, with no other FQ-CSID there (alone), removes all
unfoldable pub csid_read : ℕ → Bool → ℕ → List ℕ → Draft → Reading Draft
csid_read kind alone p v d =
    pick (is_nil v && eqb kind modification && alone) (done (with_item clears_csids d))
    (and_then (named ie.fqcsid p (read_fqcsid v)) (λ c.
    pick (csid_count_allowed kind c && not (member (node_of c) d.nodes)) (done (with_csid c d)) (refusal_at incorrect ie.fqcsid p)))

-- an element that is acted on, of type t and value v, at place p
unfoldable pub acted_read : ℕ → Bool → ℕ → ℕ → List ℕ → Draft → Reading Draft
acted_read kind alone t p v d =
    pick (eqb t ie.fseid) (seid_read p v d)
    (pick (eqb t ie.session_flags) (flags_read p v d)
    (pick (eqb t ie.fqcsid) (csid_read kind alone p v d)
    (pick (eqb t ie.update_endpoint) (done (with_item updates_endpoint d)) (and_then (group_read t p v) (λ i. done (with_item i d))))))

-- any other is skipped
unfoldable pub element_read : ℕ → Bool → Element → Draft → Reading Draft
element_read kind alone e d = pick (member e.type (acted_on kind)) (acted_read kind alone e.type e.place e.content d) (done d)

unfoldable pub elements_read : ℕ → Bool → List Element → Draft → Reading Draft
elements_read kind alone [] d = done d
elements_read kind alone (e ∷ es) d = and_then (element_read kind alone e d) (elements_read kind alone es)

-- ---- the end of a message

-- an establishment needs a Create PDR unless it is a restoration, and its F-SEID; what the message lacks is at place 0
unfoldable pub finished : ℕ → Draft → Reading Request
finished kind d =
    pick (eqb kind establishment)
    (pick (restoring_in d || creates_any d.items) (requiring missing ie.fseid 0 d.seid (λ n. done (request_from n d))) (refusal_at missing ie.create_pdr 0))
    (done (request_from 0 d))

-- is there one FQ-CSID alone
unfoldable pub alone_in : List Element → Bool
alone_in es = eqb (length (keep (has_type ie.fqcsid) es)) 1

-- what the elements of an establishment, a modification or a deletion ask for
unfoldable pub session_read : ℕ → List Element → Reading Request
session_read kind es = and_then (elements_read kind (alone_in es) es empty_draft) (finished kind)

-- ---- set deletions (02 (vii))

-- one CSID at least: m = 0 is 69
unfoldable pub listable : Fqcsid → Bool
listable (sets t a cs n) = true
listable (removal n) = false

-- an FQ-CSID at place p
unfoldable pub listed_read : ℕ → List ℕ → Reading Fqcsid
listed_read p v = and_then (named ie.fqcsid p (read_fqcsid v)) (λ c. pick (listable c) (done c) (refusal_at incorrect ie.fqcsid p))

-- all of them, in order, a node type as often as it comes; any other element is skipped
unfoldable pub list_read : List Element → Reading (List Fqcsid)
list_read [] = done []
list_read (e ∷ es) =
    pick (member e.type (acted_on set_deletion))
    (and_then (listed_read e.place e.content) (λ c. and_then (list_read es) (λ cs. done (c ∷ cs))))
    (list_read es)

-- ---- a framed message

unfoldable pub top_read : ℕ → List Element → Reading Request
top_read kind es = pick (eqb kind set_deletion) (and_then (list_read es) (λ cs. done (listing cs))) (session_read kind es)

unfoldable pub read : List ℕ → Reading Request
read msg = top_read (kind_of msg) (elements (header_length msg) (body msg))

-- its first fault
unfoldable pub fault_in : {A : Type 0} → Reading A → Option Fault
fault_in (faulty f) = some f
fault_in (done a) = none

unfoldable pub read_fault : List ℕ → Option Fault
read_fault msg = fault_in (read msg)

-- what it asks for: nothing where it has a fault
unfoldable pub asked_in : Reading Request → Request
asked_in (faulty f) = request_from 0 empty_draft
asked_in (done r) = r

unfoldable pub read_request : List ℕ → Request
read_request msg = asked_in (read msg)

unfoldable pub computing : ℕ
unfolding member_there number_read far_read pdi_in value_read member_read members_read pdi_end pdi_read pdr_item endpoint_item change_from item_from group_read seid_read flags_read csid_count_allowed csid_read acted_read element_read elements_read pdr_in endpoint_in change_in gone_pdr_in gone_endpoint_in csid_in clears strange_address is_unsupported restoring_in request_from creates_any finished alone_in session_read listable listed_read list_read listing top_read read fault_in read_fault asked_in read_request
computing = 0
