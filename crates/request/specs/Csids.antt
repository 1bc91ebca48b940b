-- The words that hold an FQ-CSID, in the rules' terms.
-- Assumes nothing.
use Rattle.std.specs.Prelude.{ℕ, ◌-◌, Bool, List, ◌∷◌, replicate, eqb}
use Rattle.octets.specs.Choice.{pick}
use Rattle.rules.specs.Types as ie
use Rattle.rules.specs.Message.{modification}
use Rattle.plan.specs.Rows.{row_width}
use Rattle.fqcsid.specs.declared.FqCsid.{FqCsid}
use Rattle.request.specs.declared.row.Csid.{Csid}

-- m CSIDs: m = 0 is the removal
unfoldable pub csid_count_fits : ℕ → ℕ → Bool
csid_count_fits kind m = pick (eqb m 0) (eqb kind modification) (eqb m 1)

-- an FQ-CSID without an address and a CSID
abbrev pub bare_csid : ℕ → ℕ → Csid
bare_csid s n = record { state = s; node = n; id_type = 0; high = 0; low = 0; csid = 0 }

-- the row of an FQ-CSID
abbrev pub csid_words : Csid → List ℕ
csid_words x = ie.fqcsid ∷ x.state ∷ 0 ∷ 0 ∷ 0 ∷ 0 ∷ 0 ∷ x.node ∷ x.id_type ∷ x.high ∷ x.low ∷ x.csid ∷ replicate (row_width - 12) 0

-- the words of a value with one CSID at most
unfoldable pub csid_taken : FqCsid → Csid
csid_taken x =
    pick (eqb x.count 0) (bare_csid 2 x.node_type)
    (record { state = 1; node = x.node_type; id_type = x.id_type; high = x.address_high; low = x.address_low; csid = x.csids_1 })
