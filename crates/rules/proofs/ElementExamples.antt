-- 01's worked element values ("Worked on paper", the rows marked P) as one table, by computation; the F-SEID's flags; and UE IP Addresses
-- by the order of 02 (v).
-- Assumes nothing.
use mathlib.Core.Path.{◌≡◌, refl}
use Prim.Native.Nat.{ℕ, ◌+◌, ◌*◌, ◌/◌, ◌%◌}
use mathlib.Core.Bool.{true, false}
use mathlib.Core.Option.{none, some}
use mathlib.Core.List.{List, [], ◌∷◌, ◌++◌, map}
use Rattle.octets.specs.Octets.{be, number, zeros}
use Rattle.rules.specs.Elements.{too_short, incorrect, refuse, value, Answer, Fteid, Fqcsid, given, choose, sets, removal, read_fteid, read_fqcsid, read_fseid, ue_given, ue_choose, ue_other, read_ue_ip, ue_octets}
use Rattle.rules.proofs.Computing.{computing}

-- the F-TEID values, in 01's order
unfoldable pub fteid_values : List (List ℕ)
fteid_values =
    (0x05 ∷ [])
    ∷ (0x0d ∷ 0x07 ∷ [])
    ∷ (0x01 ∷ 0x00 ∷ 0x00 ∷ 0x10 ∷ 0x00 ∷ 0xc0 ∷ 0x00 ∷ 0x02 ∷ 0x01 ∷ [])
    ∷ (0x04 ∷ [])
    ∷ (0x09 ∷ [])
    ∷ (0x0d ∷ [])
    ∷ (0xf5 ∷ [])
    ∷ (0x03 ∷ zeros 24)
    ∷ (0x03 ∷ zeros 23)
    ∷ []

-- Node-ID type 2 with the top 20 bits p, low bits 5, one CSID 9, node type 5
unfoldable pub operator : ℕ → List ℕ
operator p = 0x21 ∷ be 4 (p * 4096 + 5) ++ 0x00 ∷ 0x09 ∷ 0x05 ∷ []

-- the FQ-CSID values, in 01's order
unfoldable pub fqcsid_values : List (List ℕ)
fqcsid_values =
    (0x01 ∷ 0xc0 ∷ 0x00 ∷ 0x02 ∷ 0x0a ∷ 0x00 ∷ 0x05 ∷ 0x01 ∷ [])
    ∷ (0x00 ∷ 0x00 ∷ 0x00 ∷ 0x00 ∷ 0x00 ∷ 0x02 ∷ [])
    ∷ (0x21 ∷ 0x3f ∷ 0xf7 ∷ 0x10 ∷ 0x05 ∷ 0x00 ∷ 0x09 ∷ 0x05 ∷ [])
    ∷ (0x31 ∷ [])
    ∷ operator 999999
    ∷ operator 1000000
    ∷ []

-- what is read of them; the last are the top 20 and the low 12 bits of the third FQ-CSID's address
pub record Worked : Type 0 where
  pub fteids : List (Answer Fteid)
  pub fqcsids : List (Answer Fqcsid)
  pub holds : List ℕ

unfoldable pub operator_fields : ℕ → List ℕ
operator_fields n = n / 4096 ∷ n % 4096 ∷ []

unfoldable pub worked : Worked
worked =
    record {
      fteids = map (read_fteid false) fteid_values;
      fqcsids = map read_fqcsid fqcsid_values;
      holds = operator_fields (number (0x3f ∷ 0xf7 ∷ 0x10 ∷ 0x05 ∷ []));
    }

pub worked_elements :
    worked
    ≡ record {
      fteids =
          value (choose true false none)
          ∷ value (choose true false (some 7))
          ∷ value (given 4096 (192 ∷ 0 ∷ 2 ∷ 1 ∷ []) [])
          ∷ refuse incorrect
          ∷ refuse incorrect
          ∷ refuse too_short
          ∷ value (choose true false none)
          ∷ value (given 0 (zeros 4) (zeros 16))
          ∷ refuse too_short
          ∷ [];
      fqcsids =
          value (sets 0 (192 ∷ 0 ∷ 2 ∷ 10 ∷ []) (5 ∷ []) 1)
          ∷ value (removal 2)
          ∷ value (sets 2 (0x3f ∷ 0xf7 ∷ 0x10 ∷ 0x05 ∷ []) (9 ∷ []) 5)
          ∷ refuse incorrect
          ∷ value (sets 2 (0xf4 ∷ 0x23 ∷ 0xf0 ∷ 0x05 ∷ []) (9 ∷ []) 5)
          ∷ refuse incorrect
          ∷ [];
      holds = 262001 ∷ 5 ∷ [];
    }
unfolding computing fteid_values operator fqcsid_values operator_fields worked
worked_elements = refl

-- an F-SEID's bit 1 is V6 and bit 2 is V4
pub fseid_bits :
    map read_fseid ((0x02 ∷ be 8 5 ++ zeros 4) ∷ (0x01 ∷ be 8 5 ++ zeros 4) ∷ (0x01 ∷ be 8 5 ++ zeros 16) ∷ (0x04 ∷ be 8 5) ∷ (0x02 ∷ zeros 12) ∷ [] ∷ [])
    ≡ value 5 ∷ refuse too_short ∷ value 5 ∷ refuse incorrect ∷ refuse incorrect ∷ refuse too_short ∷ []
unfolding computing
fseid_bits = refl

-- UE IP Addresses: 10.0.0.1, a CHOOSE, both, neither, short, empty, V6, V4 with CHV6, and 10.0.0.1 with S/D and bit 8, which are ignored
pub ue_addresses :
    map read_ue_ip
    ((0x02 ∷ 0x0a ∷ 0x00 ∷ 0x00 ∷ 0x01 ∷ [])
    ∷ (0x10 ∷ [])
    ∷ (0x12 ∷ [])
    ∷ (0x00 ∷ [])
    ∷ (0x02 ∷ 0x0a ∷ [])
    ∷ []
    ∷ (0x01 ∷ [])
    ∷ (0x22 ∷ [])
    ∷ (0x86 ∷ 0x0a ∷ 0x00 ∷ 0x00 ∷ 0x01 ∷ [])
    ∷ [])
    ≡ value (ue_given 0x0a000001)
    ∷ value ue_choose
    ∷ refuse incorrect
    ∷ refuse incorrect
    ∷ refuse too_short
    ∷ refuse too_short
    ∷ value ue_other
    ∷ value ue_other
    ∷ value (ue_given 0x0a000001)
    ∷ []
unfolding computing
ue_addresses = refl

-- what is written of the first two
pub ue_written : map ue_octets (ue_given 0x0a000001 ∷ ue_choose ∷ []) ≡ (0x02 ∷ 0x0a ∷ 0x00 ∷ 0x00 ∷ 0x01 ∷ []) ∷ (0x10 ∷ []) ∷ []
unfolding computing
ue_written = refl
