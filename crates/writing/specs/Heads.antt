-- The parts before what a message holds that the rules' definitions have no name for.
-- Assumes nothing.
use Rattle.std.specs.Prelude.{ℕ, ◌+◌, ◌-◌, List, [], ◌∷◌, ◌++◌}
use Rattle.octets.specs.Octets.{be}
use Rattle.rules.specs.Message.{first_with_seid, first_without_seid, counted_place, body_place, list_place}

-- a message's header, before elements of n octets
unfoldable pub message_head : ℕ → ℕ → List ℕ → ℕ → List ℕ
message_head kind seid sequence n = first_with_seid ∷ kind ∷ be 2 (body_place - counted_place + n) ++ (be 8 seid ++ (sequence ++ 0 ∷ []))

-- and that of a message without a SEID
unfoldable pub list_head : ℕ → List ℕ → ℕ → List ℕ
list_head kind sequence n = first_without_seid ∷ kind ∷ be 2 (list_place - counted_place + n) ++ (sequence ++ 0 ∷ [])
