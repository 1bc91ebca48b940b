-- The rules of cause 73 as they meet one row of a plan, given the IDs of the session's live PDRs and endpoints, those of its PDRs that go, and
-- all rows.
-- Assumes nothing.
use Rattle.std.specs.Prelude.{ℕ, Bool, false, not, ◌&&◌, ◌||◌, List, [], ◌∷◌, ◌++◌}
use Rattle.std.proofs.Math.Option.{Option, none, some}
use Rattle.octets.specs.Choice.{one_of}
use Rattle.octets.specs.Lists.{member, any, without}
use Rattle.octets.specs.Rows.{has_tag, column}
use Rattle.rules.specs.Model.{Settings}
use Rattle.rules.specs.Stages.{names_both, named_endpoint, lacks_family, strange, wrong_address}
use Rattle.plan.specs.Rows.{word, row_pdr}
use Rattle.rules.specs.Types as ie
use Rattle.plan.specs.Words as its
use Rattle.plan.specs.RowRules.{of_fteid, of_address, takes_address, row_holding, restores, disagree}

-- a created ID live at entry
unfoldable pub creates_live : List ℕ → List ℕ → List ℕ → Bool
creates_live pdrs endpoints row = (has_tag ie.create_pdr row && member (word its.pdr_id row) pdrs) || (has_tag ie.create_endpoint row && member (word its.endpoint_id row) endpoints)

-- a removed or updated ID not live at entry
unfoldable pub names_dead : List ℕ → List ℕ → List ℕ → Bool
names_dead pdrs endpoints row =
    one_of ((has_tag ie.remove_pdr row && not (member (word its.pdr_id row) pdrs)) ∷ (has_tag ie.remove_endpoint row && not (member (word its.endpoint_id row) endpoints)) ∷ (has_tag ie.update_pdr row && not (member (word its.pdr_id row) pdrs)) ∷ [])

-- an update of a removed PDR
unfoldable pub updates_gone : List ℕ → List ℕ → Bool
updates_gone gone row = has_tag ie.update_pdr row && member (word its.pdr_id row) gone

-- F-TEID and endpoint ID in one PDI
unfoldable pub pdi_names_both : List ℕ → Bool
pdi_names_both row = has_tag ie.create_pdr row && names_both (row_pdr row)

-- an endpoint ID that is not among those there afterwards
unfoldable pub absent_from : List ℕ → Option ℕ → Bool
absent_from ids none = false
absent_from ids (some e) = not (member e ids)

unfoldable pub pdi_names_absent : List ℕ → List (List ℕ) → List ℕ → Bool
pdi_names_absent endpoints rows row = has_tag ie.create_pdr row && absent_from (without endpoints (column ie.remove_endpoint its.endpoint_id rows) ++ column ie.create_endpoint its.endpoint_id rows) (named_endpoint (row_pdr row))

-- the rules on a row's IDs
unfoldable pub breaks_id : List ℕ → List ℕ → List ℕ → List (List ℕ) → List ℕ → Bool
breaks_id pdrs endpoints gone rows row =
    one_of (creates_live pdrs endpoints row ∷ names_dead pdrs endpoints row ∷ updates_gone gone row ∷ pdi_names_both row ∷ pdi_names_absent endpoints rows row ∷ [])

-- the rules on a row's F-TEID, with a test of the TEIDs that are held
unfoldable pub breaks_fteid : (ℕ → Bool) → Settings → List ℕ → Bool
breaks_fteid held s row = one_of (of_fteid (lacks_family s) row ∷ of_fteid (strange s) row ∷ restores held (row_holding row) ∷ [])

-- the rules on a row's address, with a test of the addresses of the pool that are held
unfoldable pub breaks_address : (ℕ → Bool) → Settings → Bool → List ℕ → Bool
breaks_address held s restoring row = of_address (wrong_address s restoring) row || of_address (takes_address s held) row

-- a row for which a test holds, or two of which the earlier disagrees with the later
unfoldable pub some_row : (List ℕ → Bool) → List (List ℕ) → Bool
some_row p [] = false
some_row p (row ∷ later) = one_of (p row ∷ any (disagree row) later ∷ some_row p later ∷ [])

-- the rules on rows
unfoldable pub breaks_row : (ℕ → Bool) → (ℕ → Bool) → Settings → Bool → List ℕ → List ℕ → List ℕ → List (List ℕ) → List ℕ → Bool
breaks_row teids addresses s restoring pdrs endpoints gone rows row =
    one_of (breaks_id pdrs endpoints gone rows row ∷ breaks_fteid teids s row ∷ breaks_address addresses s restoring row ∷ [])
