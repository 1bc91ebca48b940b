-- F-TEID: the value that the code's struct means. Assumes nothing.
use Rattle.std.specs.Prelude.{Result, Ok, Err}
use Rattle.std.specs.Prelude.{Bool, not, ◌||◌, List, [], ◌∷◌, ◌++◌, ℕ, ◌*◌, ltb}
use Rattle.std.proofs.Math.Option.{Option, none, some}
use Rattle.octets.specs.Choice.{pick, all_of, flag, map_option}
use Rattle.octets.specs.Octets.{be}
use Rattle.octets.specs.Fields.{fit}
use Rattle.rules.specs.Elements as rules
use Rattle.rules.specs.Elements.{Fteid, given, choose, v4_flag, v6_flag, ch_flag, chid_flag, value, refuse}
use Rattle.element.specs.declared.Refusal.{Refusal}
use Rattle.element.specs.Answers.{refusal_of}
use Rattle.fteid.specs.declared.FTeid.{FTeid}

-- the octets of the flags, the TEID, the IPv4 address, each half of the IPv6 address and the CHOOSE ID; of a field that is not there 0
unfoldable pub fteid_widths : ℕ → List ℕ
fteid_widths f =
    1 ∷ pick (ch_flag f) (0 ∷ 0 ∷ 0 ∷ 0 ∷ flag (chid_flag f) ∷ []) (4 ∷ 4 * flag (v4_flag f) ∷ 8 * flag (v6_flag f) ∷ 8 * flag (v6_flag f) ∷ 0 ∷ [])

abbrev pub fteid_numbers : FTeid → List ℕ
fteid_numbers v = v.flags ∷ v.teid ∷ v.ipv4 ∷ v.ipv6_high ∷ v.ipv6_low ∷ v.choose_id ∷ []

-- flags of four bits, CHID only with CH, and each number within its field: one that is not there is 0
unfoldable pub fteid_tests : FTeid → List Bool
fteid_tests v = ltb v.flags 16 ∷ (ch_flag v.flags || not (chid_flag v.flags)) ∷ fit (fteid_widths v.flags) (fteid_numbers v) ∷ []

-- a CHOOSE with its families and its ID if any; a TEID with the addresses
abbrev pub fteid_meant : FTeid → Fteid
fteid_meant v =
    let f = v.flags in
    pick (ch_flag f) (choose (v4_flag f) (v6_flag f) (pick (chid_flag f) (some v.choose_id) none))
    (given v.teid (be (4 * flag (v4_flag f)) v.ipv4) (be (8 * flag (v6_flag f)) v.ipv6_high ++ be (8 * flag (v6_flag f)) v.ipv6_low))

-- the value that a struct means, if any
unfoldable pub fteid_of : FTeid → Option Fteid
fteid_of v = pick (all_of (fteid_tests v)) (some (fteid_meant v)) none

-- the rules' answer for each case of the reader's
abbrev pub fteid_answer : Result FTeid Refusal → Option (rules.Answer Fteid)
fteid_answer (Ok v) = map_option value (fteid_of v)
fteid_answer (Err r) = some (refuse (refusal_of r))
