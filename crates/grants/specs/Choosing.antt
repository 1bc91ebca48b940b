-- The rows of a plan that choose, what they choose, and the TEIDs that they get.
-- A row begins at its place, counted in words. Assumes nothing.
use Rattle.std.specs.Prelude.{ℕ, zero, suc, ◌+◌, ◌≡◌, Bool, true, ◌&&◌, ◌||◌, List, [], ◌∷◌, ◌++◌, map, length, take, drop, set, ltb, eqb}
use Rattle.std.proofs.Math.Option.{Option, none, some}
use Rattle.octets.specs.Choice.{pick, head_or, rest}
use Rattle.octets.specs.Octets.{bit, part}
use Rattle.octets.specs.Rows.{has_tag}
use Rattle.rules.specs.Grants.{Choice, Grant, grant_teid, grant_from, granted_teid}
use Rattle.rules.specs.Types as ie
use Rattle.plan.specs.Rows.{row_width, word, rows_of}
use Rattle.plan.specs.Words as its
use Rattle.pool.specs.Map.{teids_from}
use Rattle.created.specs.Groups.{kind_in}
use Rattle.created.specs.Entries.{max_grants, row_id}

-- ---- rows that choose

-- a row of a type whose F-TEID has CH
unfoldable pub choosing : ℕ → List ℕ → Bool
choosing tag row = has_tag tag row && bit 2 (word its.flags row)

-- a row of a type that chooses: an F-TEID, or anything, an F-TEID or an address
unfoldable pub chosen_by : Bool → ℕ → List ℕ → Bool
chosen_by anything tag row = has_tag tag row && pick anything (bit 2 (word its.flags row) || eqb (word its.ue_kind row) 2) (bit 2 (word its.flags row))

-- where the rows begin for which a test holds; the first row begins at a place
unfoldable pub places_by : (List ℕ → Bool) → ℕ → List (List ℕ) → List ℕ
places_by p at [] = []
places_by p at (row ∷ rows) = let more = places_by p (at + row_width) rows in pick (p row) (at ∷ more) more

-- of a type, those that choose an F-TEID
abbrev pub places_from : ℕ → ℕ → List (List ℕ) → List ℕ
places_from tag at rows = places_by (choosing tag) at rows

-- the places of a plan's rows that choose: endpoints in request order, then PDRs
unfoldable pub places : ℕ → List ℕ → List ℕ
places n plan = take max_grants (places_from ie.create_endpoint 0 (rows_of n plan) ++ places_from 1 0 (rows_of n plan))

-- the places of the rows with something chosen, which are reported: endpoints in request order, then PDRs
unfoldable pub report_places : ℕ → List ℕ → List ℕ
report_places n plan = take max_grants (places_by (chosen_by true ie.create_endpoint) 0 (rows_of n plan) ++ places_by (chosen_by true ie.create_pdr) 0 (rows_of n plan))

-- ---- what they choose

-- a CHOOSE ID is one octet
abbrev pub octet : ℕ → Option ℕ
octet c = pick (ltb c 256) (some c) none

unfoldable pub choose_id_in : List ℕ → Option ℕ
choose_id_in row = pick (bit 3 (word its.flags row)) (octet (word its.choose_id row)) none

unfoldable pub choice_in : List ℕ → Choice
choice_in row = record { kind = kind_in (word its.tag row); id = row_id row; v4 = bit 0 (word its.flags row); v6 = bit 1 (word its.flags row); choose_id = choose_id_in row }

-- of the row at a place
unfoldable pub choice_at : List ℕ → ℕ → Choice
choice_at plan at = choice_in (part at row_width plan)

-- ---- the TEIDs that they get

-- the grants of the rows at places, by a map of taken TEIDs
unfoldable pub chosen_grants : ℕ → List ℕ → ℕ → List ℕ → List ℕ → List Grant
chosen_grants first words size plan ps = grant_from [] (teids_from first words 0 size) (map (choice_at plan) ps)

unfoldable pub teids_at : ℕ → List ℕ → ℕ → List ℕ → List ℕ → List ℕ
teids_at first words size plan ps = map grant_teid (chosen_grants first words size plan ps)

-- the plan with TEIDs in the TEID words of the rows at places, one for each
unfoldable pub stores : List ℕ → List ℕ → List ℕ → List ℕ
stores plan [] ts = plan
stores plan (p ∷ ps) ts = stores (set plan (p + 13) (head_or 0 ts)) ps (rest ts)

-- a row with the TEID of its grant, if it is one that chooses
unfoldable pub row_with : List Grant → List ℕ → List ℕ
row_with gs row = pick (choosing ie.create_endpoint row || choosing 1 row) (set row 13 (granted_teid gs (kind_in (word its.tag row)) (row_id row))) row

-- what `grant` leaves and answers
pub record Granted (n first : ℕ) (words : List ℕ) (size : ℕ) (plan : List ℕ) (r : ℕ) (plan' places' : List ℕ) : Type 0 where
  pub count : r ≡ length (places n plan)
  pub listed : take r places' ≡ places n plan
  pub stored : plan' ≡ stores plan (places n plan) (teids_at first words size plan (places n plan))

-- ---- the address that they get (02 (v))

-- a row that creates a record with a CHOOSE of an address
unfoldable pub chooses_address : List ℕ → Bool
chooses_address row = (has_tag ie.create_endpoint row || has_tag ie.create_pdr row) && eqb (word its.ue_kind row) 2

-- a row with the address, if it chooses one
unfoldable pub row_with_address : ℕ → List ℕ → List ℕ
row_with_address a row = pick (chooses_address row) (set row its.ue_address a) row

-- the plan with each of its first n rows so
unfoldable pub addressed : ℕ → ℕ → List ℕ → List ℕ
addressed a zero plan = plan
addressed a (suc n) plan = row_with_address a (take row_width plan) ++ addressed a n (drop row_width plan)

-- the first free address by a map of taken ones, 0 if none is free
abbrev pub lowest_address : ℕ → List ℕ → ℕ → ℕ
lowest_address first words size = head_or 0 (teids_from first words 0 size)
