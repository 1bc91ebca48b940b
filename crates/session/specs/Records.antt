-- The octets that a row of the plan gives a record, and what an Update PDR's row makes of a PDR's octets. A TEID and an address stand in their
-- words of the row whether they were given or chosen.
-- Assumes nothing.
use Rattle.std.specs.Prelude.{ℕ, ◌%◌, List, [], ◌∷◌, eqb}
use Rattle.octets.specs.Choice.{pick}
use Rattle.octets.specs.Octets.{be, put, zeros}
use Rattle.octets.specs.Fields.{field_octets}
use Rattle.rules.specs.Layout.{pdr_widths, endpoint_widths, precedence_at, far_at, far_id_at}
use Rattle.plan.specs.Rows.{word}
use Rattle.plan.specs.Words as its

-- a word that counts if another word has a value
unfoldable pub if_is : ℕ → ℕ → ℕ → ℕ
if_is there n v = pick (eqb there n) v 0

-- 1 if there is an address, given or chosen
unfoldable pub address_there : List ℕ → ℕ
address_there row = pick (eqb (word its.ue_kind row) 1) 1 (pick (eqb (word its.ue_kind row) 2) 1 0)

-- ---- PDR

-- 0 neither, 1 a local F-TEID, 2 an endpoint ID
unfoldable pub row_match : List ℕ → ℕ
row_match row = pick (eqb (word its.flags row) 0) (pick (eqb (word its.has_endpoint_id row) 1) 2 0) 1

unfoldable pub pdr_values : List ℕ → List ℕ
pdr_values row =
    word its.pdr_id row
    ∷ word its.precedence row
    ∷ if_is (word its.has_far_id row) 1 1
    ∷ if_is (word its.has_far_id row) 1 (word its.far_id row)
    ∷ word its.source row
    ∷ row_match row
    ∷ if_is (row_match row) 1 (word its.teid row)
    ∷ if_is (row_match row) 1 (word its.flags row % 4)
    ∷ if_is (row_match row) 2 (word its.endpoint_id row)
    ∷ address_there row
    ∷ if_is (address_there row) 1 (word its.ue_address row)
    ∷ []

unfoldable pub pdr_record : List ℕ → List ℕ
pdr_record row = field_octets pdr_widths (pdr_values row)

-- ---- endpoint

unfoldable pub endpoint_values : List ℕ → List ℕ
endpoint_values row =
    word its.endpoint_id row
    ∷ word its.teid row
    ∷ word its.flags row % 4
    ∷ address_there row
    ∷ if_is (address_there row) 1 (word its.ue_address row)
    ∷ []

unfoldable pub endpoint_record : List ℕ → List ℕ
endpoint_record row = field_octets endpoint_widths (endpoint_values row)

-- ---- FQ-CSID

-- the address fills 16 octets, or four and zeros
unfoldable pub csid_record_widths : ℕ → List ℕ
csid_record_widths t = pick (eqb t 1) (1 ∷ 1 ∷ 8 ∷ 8 ∷ 0 ∷ 2 ∷ []) (1 ∷ 1 ∷ 4 ∷ 8 ∷ 4 ∷ 2 ∷ [])

unfoldable pub csid_values : List ℕ → List ℕ
csid_values row =
    pick (eqb (word its.id_type row) 1) (word its.node_type row ∷ word its.id_type row ∷ word its.address_high row ∷ word its.address_low row ∷ 0 ∷ word its.csid row ∷ [])
    (word its.node_type row ∷ word its.id_type row ∷ word its.address_low row ∷ 0 ∷ 0 ∷ word its.csid row ∷ [])

unfoldable pub csid_record : List ℕ → List ℕ
csid_record row = field_octets (csid_record_widths (word its.id_type row)) (csid_values row)

-- ---- Update PDR

unfoldable pub record_with_precedence : List ℕ → List ℕ → List ℕ
record_with_precedence row s = pick (eqb (word its.has_precedence row) 1) (put precedence_at (be 4 (word its.precedence row)) s) s

-- a null FAR ID takes it away
unfoldable pub record_with_far : List ℕ → List ℕ → List ℕ
record_with_far row s =
    pick (eqb (word its.has_far_id row) 1) (put far_id_at (be 4 (word its.far_id row)) (put far_at (be 1 1) s)) (pick (eqb (word its.has_far_id row) 2) (put far_at (zeros 5) s) s)

unfoldable pub updated_record : List ℕ → List ℕ → List ℕ
updated_record row s = record_with_far row (record_with_precedence row s)
