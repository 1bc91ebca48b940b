-- FQ-CSID: the value that the code's struct means. Assumes nothing.
use Rattle.std.specs.Prelude.{Result, Ok, Err}
use Rattle.std.specs.Prelude.{Bool, List, [], ◌∷◌, ◌++◌, ℕ, ◌+◌, ◌-◌, ◌*◌, min, eqb, ltb}
use Rattle.std.proofs.Math.Option.{Option, none, some}
use Rattle.octets.specs.Choice.{pick, all_of, map_option}
use Rattle.octets.specs.Fields.{fit, field_octets}
use Rattle.rules.specs.Elements as rules
use Rattle.rules.specs.Elements.{Fqcsid, csids_read, csid_fields, count_allowed, value, refuse}
use Rattle.element.specs.declared.Refusal.{Refusal}
use Rattle.element.specs.Answers.{refusal_of}
use Rattle.fqcsid.specs.declared.FqCsid.{FqCsid}

-- the octets of the address in its two numbers, by the Node-ID type: 16 are in both, 4 in the second
unfoldable pub address_widths : ℕ → List ℕ
address_widths t = pick (eqb t 1) (8 ∷ 8 ∷ []) (0 ∷ 4 ∷ [])

-- the octets of m CSIDs in word k of the four, 8 in each as far as there are
abbrev pub word_width : ℕ → ℕ → ℕ
word_width k m = min 8 (2 * m - 8 * k)

unfoldable pub csid_widths : ℕ → List ℕ
csid_widths m = word_width 0 m ∷ word_width 1 m ∷ word_width 2 m ∷ word_width 3 m ∷ []

-- those of the first octet, the address, the CSIDs and the last octet
abbrev pub fqcsid_widths : ℕ → ℕ → List ℕ
fqcsid_widths t m = 1 ∷ address_widths t ++ (csid_widths m ++ 1 ∷ [])

abbrev pub address_numbers : FqCsid → List ℕ
address_numbers v = v.address_high ∷ v.address_low ∷ []

abbrev pub csid_numbers : FqCsid → List ℕ
csid_numbers v = v.csids_1 ∷ v.csids_2 ∷ v.csids_3 ∷ v.csids_4 ∷ []

-- the numbers of all eight
abbrev pub fqcsid_numbers : FqCsid → List ℕ
fqcsid_numbers v = (16 * v.id_type + v.count) ∷ address_numbers v ++ (csid_numbers v ++ v.node_type ∷ [])

-- the address, and the CSIDs
abbrev pub csid_address : FqCsid → List ℕ
csid_address v = field_octets (address_widths v.id_type) (address_numbers v)

abbrev pub csids_in : FqCsid → List ℕ
csids_in v = csids_read v.count (field_octets (csid_widths v.count) (csid_numbers v))

-- four bits for the types and the count, and each number within its octets; no CSIDs only with type and address zero
unfoldable pub fqcsid_tests : FqCsid → List Bool
fqcsid_tests v =
    ltb v.id_type 16
    ∷ ltb v.count 16
    ∷ ltb v.node_type 16
    ∷ fit (address_widths v.id_type) (address_numbers v)
    ∷ fit (csid_widths v.count) (csid_numbers v)
    ∷ count_allowed v.count v.id_type (csid_address v)
    ∷ []

abbrev pub fqcsid_meant : FqCsid → Fqcsid
fqcsid_meant v = csid_fields v.count v.id_type (csid_address v) (csids_in v) v.node_type

-- the value that a struct means, if any
unfoldable pub fqcsid_of : FqCsid → Option Fqcsid
fqcsid_of v = pick (all_of (fqcsid_tests v)) (some (fqcsid_meant v)) none

-- the rules' answer for each case of the reader's
abbrev pub fqcsid_answer : Result FqCsid Refusal → Option (rules.Answer Fqcsid)
fqcsid_answer (Ok v) = map_option value (fqcsid_of v)
fqcsid_answer (Err r) = some (refuse (refusal_of r))
