-- The writer of restorations on the table that a history left, by computation: its refusals in their order, and a whole request.
-- Assumes nothing.
use mathlib.Core.Path.{◌≡◌, refl}
use Prim.Native.Nat.{ℕ}
use mathlib.Core.List.{List, [], ◌∷◌, ◌++◌, map}
use Rattle.octets.specs.Octets.{zeros}
use Rattle.rules.specs.Layout.{encode}
use Rattle.rules.specs.Restoring.{Writing, write_restoration}
use Rattle.rules.specs.Calls.{table_after_all}
use Rattle.rules.proofs.Computing.{computing}
use Rattle.rules.proofs.CallExamples.{unit, calls}
use Rattle.rules.proofs.RestorationExamples.{history, endpoint_of, naming, csid_of, update}

-- two sessions, 4 and 9
unfoldable pub kept : List ℕ
kept = table_after_all (encode (unit 4 4) []) history

-- the control plane at 198.51.100.1
unfoldable pub plane : List ℕ
plane = 0xc6 ∷ 0x33 ∷ 0x64 ∷ 0x01 ∷ []

unfoldable pub writing : ℕ → List ℕ → List ℕ → List ℕ → Writing
writing place ipv4 ipv6 space = write_restoration kept place ipv4 ipv6 space

unfoldable pub outcome_of : Writing → ℕ
outcome_of w = w.outcome

past : ℕ
unfolding computing calls history endpoint_of naming csid_of update kept plane writing outcome_of
past = 0

-- each refusal where all later ones are due too: another length, a place past the last, no address, addresses of other lengths, too little space
pub writer_outcomes :
    map outcome_of
    (write_restoration (0 ∷ kept) 2 [] [] []
    ∷ writing 2 [] [] []
    ∷ writing 1 [] [] []
    ∷ writing 1 (zeros 3) (zeros 16) []
    ∷ writing 1 (zeros 4) (zeros 15) []
    ∷ writing 0 plane [] (zeros 131)
    ∷ writing 0 plane [] (zeros 132)
    ∷ [])
    ≡ 1 ∷ 2 ∷ 3 ∷ 3 ∷ 3 ∷ 4 ∷ 0 ∷ []
unfolding past
writer_outcomes = refl

-- the request of session 4, whose PDRs 5 and 6 name endpoint 3, and two octets after it
pub writer_request :
    writing 0 plane [] (zeros 132 ++ 7 ∷ 8 ∷ [])
    ≡ record {
      outcome = 0;
      used = 132;
      peer = 1;
      space =
          0x21 ∷ 0x32 ∷ 0x00 ∷ 0x80 ∷ 0x00 ∷ 0x00 ∷ 0x00 ∷ 0x00 ∷ 0x00 ∷ 0x00 ∷ 0x00 ∷ 0x00 ∷ 0x00 ∷ 0x00 ∷ 0x01 ∷ 0x00
          ∷ 0x00 ∷ 0x39 ∷ 0x00 ∷ 0x0d ∷ 0x02 ∷ 0x00 ∷ 0x00 ∷ 0x00 ∷ 0x00 ∷ 0x00 ∷ 0x00 ∷ 0x00 ∷ 0x04 ∷ 0xc6 ∷ 0x33 ∷ 0x64 ∷ 0x01
          ∷ 0x00 ∷ 0xba ∷ 0x00 ∷ 0x01 ∷ 0x01
          ∷ 0x00 ∷ 0x01 ∷ 0x00 ∷ 0x24 ∷ 0x00 ∷ 0x38 ∷ 0x00 ∷ 0x02 ∷ 0x00 ∷ 0x05 ∷ 0x00 ∷ 0x1d ∷ 0x00 ∷ 0x04 ∷ 0x00 ∷ 0x00 ∷ 0x00 ∷ 0x07 ∷ 0x00 ∷ 0x02 ∷ 0x00 ∷ 0x0a ∷ 0x00 ∷ 0x14 ∷ 0x00 ∷ 0x01 ∷ 0x01 ∷ 0x00 ∷ 0x83 ∷ 0x00 ∷ 0x01 ∷ 0x03 ∷ 0x00 ∷ 0x6c ∷ 0x00 ∷ 0x04 ∷ 0x00 ∷ 0x00 ∷ 0x00 ∷ 0x08
          ∷ 0x00 ∷ 0x01 ∷ 0x00 ∷ 0x1c ∷ 0x00 ∷ 0x38 ∷ 0x00 ∷ 0x02 ∷ 0x00 ∷ 0x06 ∷ 0x00 ∷ 0x1d ∷ 0x00 ∷ 0x04 ∷ 0x00 ∷ 0x00 ∷ 0x00 ∷ 0x07 ∷ 0x00 ∷ 0x02 ∷ 0x00 ∷ 0x0a ∷ 0x00 ∷ 0x14 ∷ 0x00 ∷ 0x01 ∷ 0x01 ∷ 0x00 ∷ 0x83 ∷ 0x00 ∷ 0x01 ∷ 0x03
          ∷ 0x00 ∷ 0x7f ∷ 0x00 ∷ 0x12 ∷ 0x00 ∷ 0x83 ∷ 0x00 ∷ 0x01 ∷ 0x03 ∷ 0x00 ∷ 0x15 ∷ 0x00 ∷ 0x09 ∷ 0x01 ∷ 0x00 ∷ 0x00 ∷ 0x10 ∷ 0x02 ∷ 0xc0 ∷ 0x00 ∷ 0x02 ∷ 0x01
          ∷ 7 ∷ 8 ∷ [];
    }
unfolding past
writer_request = refl
