-- A group's row while the group is read: the members that it holds. For the functions inside this crate.
-- Assumes nothing.
use Rattle.std.specs.Prelude.{◌≡◌, ℕ, ◌%◌, ◌≤◌, Bool, ◌&&◌, List, [], ◌∷◌, length, eqb}
use Rattle.octets.specs.Choice.{pick, is_nil}
use Rattle.octets.specs.Octets.{number_at}
use Rattle.rules.specs.Types as ie
use Rattle.rules.specs.Message.{inside, elements, number_width}
use Rattle.rules.specs.Elements.{Answer, Fteid, UeIp}
use Rattle.rules.specs.Reading.{Reading, done, and_then, named, Members, with_local, with_address, value_read, member_read, members_read, unopened, pdi_read, pdi_end, item_from}
use Rattle.plan.specs.Rows.{row_width, word, present, row_far, row_local, row_ue}
use Rattle.plan.specs.Words as its
use Rattle.ue_ip.specs.declared.UeIp as code-ue
use Rattle.ue_ip.specs.declared.UeIp.TheVariants as ue-case
use Rattle.std.specs.Prelude.{Result}
use Rattle.reading.specs.declared.Fault.{Fault}
use Rattle.reading.specs.Verdicts.{numbered, outcome}

-- the types that have words in a row
abbrev pub member_types : List ℕ
member_types = ie.pdr_id ∷ ie.precedence ∷ ie.far_id ∷ ie.pdi ∷ ie.source_interface ∷ ie.fteid ∷ ie.ue_ip_address ∷ ie.endpoint_id ∷ []

-- those that hold a number
abbrev pub plain_types : List ℕ
plain_types = ie.pdr_id ∷ ie.precedence ∷ ie.far_id ∷ ie.source_interface ∷ ie.endpoint_id ∷ []

-- the word that says whether a member is there; that of an F-TEID holds its flags, that of a UE IP Address its kind
unfoldable pub there_word : ℕ → ℕ
there_word t =
    pick (eqb t ie.pdr_id) its.has_pdr_id
    (pick (eqb t ie.precedence) its.has_precedence
    (pick (eqb t ie.far_id) its.has_far_id
    (pick (eqb t ie.source_interface) its.has_source
    (pick (eqb t ie.endpoint_id) its.has_endpoint_id
    (pick (eqb t ie.pdi) its.has_pdi
    (pick (eqb t ie.fteid) its.flags
    (pick (eqb t ie.ue_ip_address) its.ue_kind 0)))))))

-- the members that a row holds
unfoldable pub row_members : List ℕ → Members
row_members row =
    record {
      pdr_id = present (word its.has_pdr_id row) (word its.pdr_id row);
      precedence = present (word its.has_precedence row) (word its.precedence row);
      far = row_far row;
      pdi = eqb (word its.has_pdi row) 1;
      source = present (word its.has_source row) (word its.source row);
      local = row_local row;
      endpoint_id = present (word its.has_endpoint_id row) (word its.endpoint_id row);
      address = row_ue row;
    }

-- a row whose first words only say whether a member is there
pub record Tidy (row : List ℕ) : Type 0 where
  pub wide : length row ≡ row_width
  pub pdr_id : word its.has_pdr_id row ≤ 1
  pub precedence : word its.has_precedence row ≤ 1
  pub far : word its.has_far_id row ≤ 2
  pub source : word its.has_source row ≤ 1
  pub endpoint_id : word its.has_endpoint_id row ≤ 1
  pub pdi : word its.has_pdi row ≤ 1

-- a reading of members that a row took part in
pub record Reads (result : Reading Members) (row : List ℕ) (r : Result (Unit {0}) Fault) : Type 0 where
  pub told : outcome r (row_members row) ≡ numbered result
  pub tidy : Tidy row

-- a plain member's number, of a Source Interface the low four bits
unfoldable pub plain_number : ℕ → List ℕ → ℕ
plain_number t v = pick (eqb t ie.source_interface) (number_at 0 (number_width t) v % 16) (number_at 0 (number_width t) v)

-- a plain member, as in a Create PDR, where a null FAR ID is short
unfoldable pub plain_read : ℕ → ℕ → List ℕ → Members → Reading Members
plain_read t p v m = value_read unopened ie.create_pdr t p v m

-- the answer on an F-TEID
unfoldable pub fteid_read : ℕ → Answer Fteid → Members → Reading Members
fteid_read p a m = and_then (named ie.fteid p a) (λ y. done (with_local y m))

-- the answer on a UE IP Address
unfoldable pub ue_read : ℕ → Answer UeIp → Members → Reading Members
ue_read p a m = and_then (named ie.ue_ip_address p a) (λ y. done (with_address y m))

-- the words of a UE IP Address: its kind, and its address, 0 where it gives none
abbrev pub ue_kind_in : code-ue.UeIp → ℕ
ue_kind_in (ue-case.Given a) = 1
ue_kind_in ue-case.Choose = 2
ue_kind_in ue-case.Other = 3

abbrev pub ue_address_in : code-ue.UeIp → ℕ
ue_address_in (ue-case.Given a) = a
ue_address_in ue-case.Choose = 0
ue_address_in ue-case.Other = 0

-- an element by itself: a PDI is noted and not opened
unfoldable pub own_read : ℕ → ℕ → ℕ → List ℕ → Members → Reading Members
own_read g t p v m = member_read unopened g (record { type = t; content = v; place = p }) m

-- a null FAR ID in an Update PDR
unfoldable pub is_null_far : ℕ → ℕ → List ℕ → Bool
is_null_far g t v = eqb g ie.update_pdr && (eqb t ie.far_id && is_nil v)

-- a PDI whose members are read
unfoldable pub is_pdi : ℕ → ℕ → Bool
is_pdi g t = eqb g ie.create_pdr && eqb t ie.pdi

-- the end of a group at a place: its members, if none that is required is missing
unfoldable pub closing : ℕ → ℕ → Members → Reading Members
closing g p m = pick (eqb g ie.pdi) (pdi_end p m) (and_then (item_from g p m) (λ i. done m))

-- the members of a group at a place with the value v, read into those that were there before
unfoldable pub closed_read : ℕ → ℕ → List ℕ → Members → Reading Members
closed_read g p v m = and_then (members_read pdi_read g (elements (inside p) v) m) (closing g p)
