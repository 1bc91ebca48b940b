-- A message: its header, its elements, which of them have a place where, and their framing (stage 2).
-- 01, "Message frame", the cause of stage 2, and the set deletion's header (02 (vii)).
-- Assumes nothing.
use Rattle.std.specs.Prelude.{ℕ, zero, suc, ◌+◌, ◌-◌, ◌/◌, Bool, not, ◌&&◌, ◌||◌, List, [], ◌∷◌, length, drop, leb, ltb, eqb}
use Rattle.std.proofs.Math.Option.{Option, none, some}
use Rattle.octets.specs.Choice.{pick, or_else, value_or, map_option, is_nil, same_bool}
use Rattle.octets.specs.Octets.{part, number_at, octet_at, bit}
use Rattle.octets.specs.Lists.{member, find_by}
use Rattle.rules.specs.Types as ie
use Rattle.rules.specs.Limits.{max_depth}

-- ---- the header

abbrev pub establishment : ℕ
establishment = 50

abbrev pub modification : ℕ
modification = 52

abbrev pub deletion : ℕ
deletion = 54

-- Session Set Deletion (02 (vii))
abbrev pub set_deletion : ℕ
set_deletion = 14

unfoldable pub served : ℕ → Bool
served kind = eqb kind establishment || eqb kind modification || eqb kind deletion || eqb kind set_deletion

unfoldable pub kind_of : List ℕ → ℕ
kind_of msg = octet_at msg 1

-- the S bit: whether the header has a SEID
unfoldable pub seid_there : List ℕ → Bool
seid_there msg = bit 0 (octet_at msg 0)

-- the first octet that the unit writes: version 1, and S where there is a SEID
abbrev pub first_with_seid : ℕ
first_with_seid = 33

abbrev pub first_without_seid : ℕ
first_without_seid = 32

-- what the header's length counts begins after that length: with the SEID, or with the sequence number
abbrev pub counted_place : ℕ
counted_place = 4

-- octets of a header with a SEID, and of one without; its last four are the sequence number and a spare octet
abbrev pub body_place : ℕ
body_place = counted_place + 8 + 4

abbrev pub list_place : ℕ
list_place = counted_place + 4

unfoldable pub header_length : List ℕ → ℕ
header_length msg = pick (seid_there msg) body_place list_place

-- version 1, FO 0; S is 0 for a set deletion and 1 for every other type; the other bits of the first octet are ignored
unfoldable pub first_octet_allowed : ℕ → ℕ → Bool
first_octet_allowed kind x = eqb (x / 32) 1 && not (bit 2 x) && same_bool (bit 0 x) (not (eqb kind set_deletion))

-- what outcome 4 asks: the whole header, its first octet, and the exact length
unfoldable pub header_allowed : List ℕ → Bool
header_allowed msg = leb (header_length msg) (length msg) && first_octet_allowed (kind_of msg) (octet_at msg 0) && eqb (counted_place + number_at 2 2 msg) (length msg)

-- the SEID of a header that has one
unfoldable pub header_seid : List ℕ → ℕ
header_seid msg = number_at counted_place 8 msg

-- the sequence number's three octets, before the header's last
unfoldable pub sequence_of : List ℕ → List ℕ
sequence_of msg = part (header_length msg - 4) 3 msg

unfoldable pub body : List ℕ → List ℕ
body msg = drop (header_length msg) msg

-- the place of the first octet of the value of an element at place p
abbrev pub inside : ℕ → ℕ
inside p = p + 4

-- ---- elements

-- an element (01's IE): type and value, and its place: the index in the message, from 0, of its type's first octet (02 iv)
pub record Element : Type 0 where
  pub type : ℕ
  pub content : List ℕ
  pub place : ℕ

unfoldable pub element_type : List ℕ → ℕ
element_type xs = number_at 0 2 xs

unfoldable pub element_length : List ℕ → ℕ
element_length xs = number_at 2 2 xs

-- the elements of framed octets, the first of which stands at a place, at most n of them
unfoldable pub elements_up_to : ℕ → ℕ → List ℕ → List Element
elements_up_to zero at xs = []
elements_up_to (suc n) at xs =
    let more = elements_up_to n (at + (4 + element_length xs)) (drop (4 + element_length xs) xs) in
    pick (ltb (length xs) 4) [] (record { type = element_type xs; content = part 4 (element_length xs) xs; place = at } ∷ more)

unfoldable pub elements : ℕ → List ℕ → List Element
elements at xs = elements_up_to (length xs) at xs

-- ---- places

-- which groups are opened: in the message (group 0) by its kind, a PDI in Create PDR and Update PDR
unfoldable pub opened_at_top : ℕ → List ℕ
opened_at_top kind =
    pick (eqb kind establishment) (ie.create_pdr ∷ ie.create_endpoint ∷ [])
    (pick (eqb kind modification) (ie.create_pdr ∷ ie.create_endpoint ∷ ie.update_pdr ∷ ie.remove_pdr ∷ ie.remove_endpoint ∷ []) [])

unfoldable pub opened_in : ℕ → ℕ → List ℕ
opened_in kind group = pick (eqb group 0) (opened_at_top kind) (pick (eqb group ie.create_pdr || eqb group ie.update_pdr) (ie.pdi ∷ []) [])

-- what is acted on at top level, by the kind of message; 129 is not opened, and is refused in stage 4
unfoldable pub acted_on : ℕ → List ℕ
acted_on kind =
    pick (eqb kind establishment) (ie.fseid ∷ ie.session_flags ∷ ie.create_pdr ∷ ie.create_endpoint ∷ ie.fqcsid ∷ [])
    (pick (eqb kind modification)
    (ie.create_pdr ∷ ie.create_endpoint ∷ ie.update_pdr ∷ ie.remove_pdr ∷ ie.remove_endpoint ∷ ie.fqcsid ∷ ie.update_endpoint ∷ [])
    (pick (eqb kind set_deletion) (ie.fqcsid ∷ []) []))

-- 01's Places: the members of a group
unfoldable pub places_of : ℕ → List ℕ
places_of group =
    pick (eqb group ie.create_pdr || eqb group ie.update_pdr) (ie.pdr_id ∷ ie.precedence ∷ ie.pdi ∷ ie.far_id ∷ [])
    (pick (eqb group ie.pdi) (ie.source_interface ∷ ie.fteid ∷ ie.endpoint_id ∷ ie.ue_ip_address ∷ [])
    (pick (eqb group ie.create_endpoint) (ie.endpoint_id ∷ ie.fteid ∷ ie.ue_ip_address ∷ [])
    (pick (eqb group ie.remove_pdr) (ie.pdr_id ∷ []) (ie.endpoint_id ∷ []))))

-- ---- stage 2: framing

-- what is at fault: a type and its place; the message is type 0 at place 0
pub record Spot : Type 0 where
  pub type : ℕ
  pub place : ℕ

abbrev pub spot : ℕ → ℕ → Spot
spot t p = record { type = t; place = p }

abbrev pub at_message : Spot
at_message = spot 0 0

-- the fault inside the first element, at a place, if it is a group that is opened here; `inner` frames its value
unfoldable pub inner_fault : (Spot → ℕ → List ℕ → Option Spot) → ℕ → Spot → ℕ → List ℕ → Option Spot
inner_fault inner kind group at xs =
    let f = inner (spot (element_type xs) at) (inside at) (part 4 (element_length xs) xs) in
    pick (member (element_type xs) (opened_in kind group.type)) f none

-- The first fault in the elements of a group, the first of which stands at a place, at most n of them: the element that runs over, or the
-- group where under 4 octets are left.
unfoldable pub frame_up_to : (Spot → ℕ → List ℕ → Option Spot) → ℕ → Spot → ℕ → ℕ → List ℕ → Option Spot
frame_up_to inner kind group zero at xs = none
frame_up_to inner kind group (suc n) at xs =
    let more = frame_up_to inner kind group n (at + (4 + element_length xs)) (drop (4 + element_length xs) xs) in
    pick (is_nil xs) none
    (pick (ltb (length xs) 4) (some group)
    (pick (ltb (length xs) (4 + element_length xs)) (some (spot (element_type xs) at)) (or_else (inner_fault inner kind group at xs) more)))

-- with a depth left, the message counted
unfoldable pub frame : ℕ → ℕ → Spot → ℕ → List ℕ → Option Spot
frame zero kind group at xs = none
frame (suc depth) kind group at xs = frame_up_to (frame depth kind) kind group (length xs) at xs

unfoldable pub frame_fault : List ℕ → Option Spot
frame_fault msg = frame max_depth (kind_of msg) at_message (header_length msg) (body msg)

-- ---- looking an element up

unfoldable pub has_type : ℕ → Element → Bool
has_type t e = eqb e.type t

abbrev pub content_in : Element → List ℕ
content_in e = e.content

-- the value of the first element of a type
unfoldable pub content_of : ℕ → List Element → Option (List ℕ)
content_of t es = map_option content_in (find_by (has_type t) es)

-- PDR ID 2 octets, Precedence 4, FAR ID 4, Source Interface 1, Endpoint ID 1
unfoldable pub number_width : ℕ → ℕ
number_width t = pick (eqb t ie.pdr_id) 2 (pick (eqb t ie.precedence || eqb t ie.far_id) 4 1)

-- the number that the first element of a type holds
unfoldable pub field : ℕ → List Element → Option ℕ
field t es = map_option (λ xs. number_at 0 (number_width t) xs) (content_of t es)

unfoldable pub field_or0 : ℕ → List Element → ℕ
field_or0 t es = value_or 0 (field t es)

unfoldable pub computing : ℕ
unfolding served kind_of seid_there header_length first_octet_allowed header_allowed header_seid sequence_of body element_type element_length elements_up_to elements opened_at_top opened_in acted_on places_of inner_fault frame_up_to frame frame_fault has_type content_of number_width field field_or0
computing = 0
