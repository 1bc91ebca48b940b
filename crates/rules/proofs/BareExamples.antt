-- Two units, one with a past that the other does not have, whose live sessions differ in a precedence and a FAR ID alone (02 (xiii)), by computation.
-- Assumes nothing.
use mathlib.Core.Path.{◌≡◌, refl}
use Prim.Native.Nat.{ℕ, ◌+◌}
use mathlib.Core.Bool.{true, false}
use mathlib.Core.List.{List, [], ◌∷◌, ◌++◌}
use lib.Dec.{eqb}
use Rattle.octets.specs.Choice.{pick}
use Rattle.octets.specs.Octets.{be, same_octets}
use Rattle.rules.specs.Model.{Sessions}
use Rattle.rules.specs.Layout.{encode}
use Rattle.rules.specs.Reply.{element}
use Rattle.rules.specs.Serve.{serve}
use Rattle.rules.specs.Live.{reply_in}
use Rattle.rules.specs.Calls.{Call, request, table_after_all, live_after_calls}
use Rattle.rules.specs.Bare.{bare, blank_table}
use Rattle.rules.proofs.Computing.{computing}
use Rattle.rules.proofs.CallExamples.{calls, unit, space, create, own, establish, modify, delete}

-- a Create PDR with precedence n, CHOOSE IPv4, and what stands after its PDI
unfoldable pub ranked : ℕ → ℕ → List ℕ → List ℕ
ranked i n far = element 1 (element 56 (be 2 i) ++ element 29 (be 4 n) ++ element 2 (element 20 (0 ∷ []) ++ element 21 own) ++ far)

-- PDR 1 has precedence 100 and no FAR ID
unfoldable pub plain_past : List Call
plain_past = request 1 (establish 1 (ranked 1 100 [])) space ∷ []

-- a session came and went before, and PDR 1 has precedence 7 and FAR ID 5
unfoldable pub other_past : List Call
other_past = request 1 (establish 9 (create 1 own)) space ∷ request 1 (delete 9) space ∷ request 1 (establish 1 (ranked 1 7 (element 108 (be 4 5)))) space ∷ []

unfoldable pub plain_unit : List ℕ
plain_unit = table_after_all (encode (unit 2 2) []) plain_past

unfoldable pub other_unit : List ℕ
other_unit = table_after_all (encode (unit 2 2) []) other_past

-- the octets of a table with the live sessions of a past, as they are or without precedences and FAR IDs
unfoldable pub living_in : (Sessions → Sessions) → List Call → List ℕ
living_in f cs = encode (unit 2 2) (f (live_after_calls (encode (unit 2 2) []) cs))

-- PDR 1 gets precedence 50, and PDR 2 comes
unfoldable pub same_request : List ℕ
same_request = modify 1 (create 2 own ++ element 9 (element 56 (be 2 1) ++ element 29 (be 4 50)))

-- the places at which octets differ, the first one standing at i
unfoldable pub apart_from : ℕ → List ℕ → List ℕ → List ℕ
apart_from i [] ys = []
apart_from i (x ∷ xs) [] = []
apart_from i (x ∷ xs) (y ∷ ys) = let more = apart_from (i + 1) xs ys in pick (eqb x y) more (i ∷ more)

past : ℕ
unfolding computing calls ranked plain_past other_past plain_unit other_unit living_in same_request apart_from
past = 0

-- the live sets of the two pasts differ, and are alike
pub lives_alike : same_octets (living_in (λ m. m) plain_past) (living_in (λ m. m) other_past) ∷ same_octets (living_in bare plain_past) (living_in bare other_past) ∷ [] ≡ false ∷ true ∷ []
unfolding past
lives_alike = refl

-- the last octet of the precedence, whether there is a FAR ID, and its last octet; and nothing where these fields are blank
pub units_apart : apart_from 0 plain_unit other_unit ∷ apart_from 0 (blank_table plain_unit) (blank_table other_unit) ∷ [] ≡ (82 ∷ 83 ∷ 87 ∷ []) ∷ [] ∷ []
unfolding past
units_apart = refl

-- the same request gets the same reply, after which the precedences are equal too
pub same_reply : same_octets (reply_in (serve plain_unit 1 same_request space).space) (reply_in (serve other_unit 1 same_request space).space) ≡ true
unfolding past
same_reply = refl

pub then_apart : apart_from 0 (serve plain_unit 1 same_request space).table (serve other_unit 1 same_request space).table ≡ 83 ∷ 87 ∷ []
unfolding past
then_apart = refl
