-- What the IDs of the PDRs that go and the rows of a plan make of a session slot, pass by pass: removals first, then endpoints, PDRs, updates, FQ-CSIDs (01, "What a request
-- does"). proofs/ says that these octets are the rules' session.
-- Assumes nothing.
use Rattle.std.specs.Prelude.{ℕ, ◌*◌, List, [], ◌∷◌, eqb}
use Rattle.octets.specs.Choice.{pick}
use Rattle.octets.specs.Octets.{part}
use Rattle.octets.specs.Rows.{has_tag}
use Rattle.plan.specs.Rows.{word}
use Rattle.rules.specs.Types as ie
use Rattle.rules.specs.Layout.{pdr_width}
use Rattle.plan.specs.Words as its
use Rattle.areas.specs.Counted.{area_in, place_in, replaced_in, cleared_in, at_place, with_record, without_record}
use Rattle.session.specs.Areas.{area_of_pdrs, area_of_endpoints, area_of_csids}
use Rattle.session.specs.Records.{pdr_record, endpoint_record, csid_record, updated_record}

-- the PDRs of some IDs taken out
unfoldable pub without_pdrs : List ℕ → List ℕ → List ℕ
without_pdrs [] s = s
without_pdrs (i ∷ is) s = without_pdrs is (without_record area_of_pdrs i s)

-- the record at a place of the PDR area, updated
unfoldable pub updated_at : List ℕ → ℕ → List ℕ → List ℕ
updated_at row p s = replaced_in area_of_pdrs p (updated_record row (part (p * pdr_width) pdr_width (area_in area_of_pdrs s))) s

unfoldable pub updated_pdr : List ℕ → List ℕ → List ℕ
updated_pdr row s = at_place (place_in area_of_pdrs (word its.pdr_id row) s) (λ p. updated_at row p s) (λ p. s)

-- 1 sets, 2 removes, 3 null length removes all
unfoldable pub followed_csid : List ℕ → List ℕ → List ℕ
followed_csid row s =
    pick (eqb (word its.verb row) 1) (with_record area_of_csids (csid_record row) s)
    (pick (eqb (word its.verb row) 2) (without_record area_of_csids (word its.node_type row) s) (pick (eqb (word its.verb row) 3) (cleared_in area_of_csids s) s))

-- what one row does
unfoldable pub row_applied : List ℕ → List ℕ → List ℕ
row_applied row s =
    pick (eqb (word its.tag row) ie.remove_endpoint) (without_record area_of_endpoints (word its.endpoint_id row) s)
    (pick (eqb (word its.tag row) ie.create_endpoint) (with_record area_of_endpoints (endpoint_record row) s)
    (pick (eqb (word its.tag row) ie.create_pdr) (with_record area_of_pdrs (pdr_record row) s)
    (pick (eqb (word its.tag row) ie.update_pdr) (updated_pdr row s) (pick (eqb (word its.tag row) ie.fqcsid) (followed_csid row s) s))))

-- what the rows of one type do, in turn
unfoldable pub passed : ℕ → List (List ℕ) → List ℕ → List ℕ
passed t [] s = s
passed t (row ∷ rows) s = passed t rows (pick (has_tag t row) (row_applied row s) s)

unfoldable pub built : List ℕ → List (List ℕ) → List ℕ → List ℕ
built gone rows s = passed ie.fqcsid rows (passed ie.update_pdr rows (passed ie.create_pdr rows (passed ie.create_endpoint rows (passed ie.remove_endpoint rows (without_pdrs gone s)))))
