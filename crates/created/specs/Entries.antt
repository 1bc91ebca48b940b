-- 01's list of grants as the code holds it, and the rows of a plan that it is filled from. A row begins at its place, counted in words.
-- Assumes nothing.
use Rattle.std.specs.Prelude.{ℕ, zero, suc, ◌+◌, Bool, List, [], ◌∷◌, ◌++◌, map, length, take, drop, get_or, eqb, leb}
use Rattle.std.proofs.Math.Option.{Option, none, some}
use Rattle.octets.specs.Choice.{pick}
use Rattle.octets.specs.Octets.{bit, part}
use Rattle.octets.specs.Lists.{all}
use Rattle.rules.specs.Limits.{max_pdrs, max_endpoints}
use Rattle.rules.specs.Model.{Tunnel}
use Rattle.rules.specs.Reply.{Reports}
use Rattle.plan.specs.Rows.{row_width, word}
use Rattle.rules.specs.Types as ie
use Rattle.plan.specs.Words as its
use Rattle.writing.specs.Families.{tunnel_in}
use Rattle.created.specs.Groups.{Told, kind_in, all_reports}
use Rattle.created.specs.declared.Grant.{Grant as Entry}

-- 01's list has at most 24 entries: one for each record of a session
abbrev pub max_grants : ℕ
max_grants = max_pdrs + max_endpoints

-- what an entry holds before it is filled
abbrev pub no_entry : Entry
no_entry = record { kind = 0; id = 0; flags = 0; teid = 0; ue = 0; address = 0 }

-- the F-TEID that was granted: where the flags have CH
unfoldable pub granted_tunnel : Entry → Option Tunnel
granted_tunnel e = pick (bit 2 e.flags) (some (tunnel_in e.teid e.flags)) none

-- the address that was granted: where the UE IP Address was a CHOOSE
unfoldable pub granted_address : Entry → Option ℕ
granted_address e = pick (eqb e.ue 2) (some e.address) none

-- what an entry tells
unfoldable pub told_of : Entry → Told
told_of e = record { kind = kind_in e.kind; report = record { id = e.id; local = granted_tunnel e; address = granted_address e } }

-- what the first n entries tell
abbrev pub listed : ℕ → List Entry → List Told
listed n es = map told_of (take n es)

-- ---- from the rows of a plan

-- the ID of a row's record: a PDR's, else a traffic endpoint's
unfoldable pub row_id : List ℕ → ℕ
row_id row = pick (eqb (word its.tag row) ie.create_pdr) (word its.pdr_id row) (word its.endpoint_id row)

unfoldable pub row_entry : List ℕ → Entry
row_entry row = record { kind = word its.tag row; id = row_id row; flags = word its.flags row; teid = word its.teid row; ue = word its.ue_kind row; address = word its.ue_address row }

-- the entry of the row at the i-th place
abbrev pub entry_at : List ℕ → List ℕ → ℕ → Entry
entry_at plan places i = row_entry (part (get_or places i 0) row_width plan)

-- what a row tells whose TEID and address words hold what it was granted, and the rows at places
unfoldable pub row_told : List ℕ → Told
row_told row = told_of (row_entry row)

unfoldable pub told_at : List ℕ → ℕ → Told
told_at plan p = row_told (part p row_width plan)

abbrev pub tolds_at : List ℕ → List ℕ → List Told
tolds_at plan places = map (told_at plan) places

-- the reports of the rows at places
abbrev pub reports_at : List ℕ → List ℕ → Reports
reports_at plan places = all_reports (tolds_at plan places)

-- the row at every place lies within the plan
abbrev pub within : List ℕ → List ℕ → Bool
within plan places = all (λ p. leb (p + row_width) (length plan)) places

-- ---- a list that is filled

-- f 0, f 1, .. up to f (n - 1)
unfoldable pub firsts : {X : Type 0} → (ℕ → X) → ℕ → List X
firsts f zero = []
firsts f (suc i) = firsts f i ++ (f i ∷ [])

-- the first n of a list are f 0 .. f (n - 1), and the rest is as it was
abbrev pub filled : {X : Type 0} → (ℕ → X) → ℕ → List X → List X
filled f n l = firsts f n ++ drop n l
