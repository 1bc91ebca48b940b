-- An instance of demand 3: a history, its live set, and the live set restored in either order, by computation.
-- Assumes nothing.
use mathlib.Core.Path.{◌≡◌, refl}
use Prim.Native.Nat.{ℕ}
use mathlib.Core.Bool.{true, false}
use mathlib.Core.List.{List, [], ◌∷◌, ◌++◌, map}
use Rattle.octets.specs.Octets.{be, same_octets, zeros}
use Rattle.rules.specs.Model.{Session}
use Rattle.rules.specs.Layout.{encode}
use Rattle.rules.specs.Reply.{element}
use Rattle.rules.specs.Live.{accepted_event}
use Rattle.rules.specs.Restoration.{Sender, restoration}
use Rattle.rules.specs.Calls.{Call, request, count, table_after_all, events_of, live_after_calls}
use Rattle.rules.proofs.Computing.{computing}
use Rattle.rules.proofs.CallExamples.{unit, space, create, remove, own, with_id, establish, modify, calls}

-- the pool's story as calls, with a second session whose endpoint a PDR names, an update and FQ-CSIDs
unfoldable pub endpoint_of : ℕ → List ℕ → List ℕ
endpoint_of i v = element 127 (element 131 (i ∷ []) ++ element 21 v)

unfoldable pub naming : ℕ → ℕ → List ℕ
naming i e = element 1 (element 2 (element 131 (e ∷ []) ++ element 20 (0xf1 ∷ [])) ++ element 108 (be 4 8) ++ element 29 (be 4 7) ++ element 56 (be 2 i))

unfoldable pub csid_of : ℕ → List ℕ
csid_of n = element 65 (0x01 ∷ 0xc0 ∷ 0x00 ∷ 0x02 ∷ 0x0a ∷ 0x00 ∷ 0x05 ∷ n ∷ [])

unfoldable pub update : ℕ → List ℕ
update i = element 9 (element 56 (be 2 i) ++ element 108 [])

unfoldable pub history : List Call
history =
    request 1 (establish 9 (create 1 (with_id 7) ++ create 2 (with_id 7) ++ create 3 own ++ csid_of 5)) space
    ∷ count
    ∷ request 1 (establish 4 (naming 6 3 ++ naming 5 3 ++ endpoint_of 3 own ++ csid_of 2 ++ csid_of 1)) space
    ∷ request 1 (modify 4 (update 6 ++ element 65 [])) space
    ∷ request 1 (modify 9 (remove 1)) space
    ∷ request 1 (establish 4 (create 1 own)) space
    ∷ []

unfoldable pub sender : Sender
sender = record { header = 77; sequence = 3; ipv4 = []; ipv6 = zeros 16 }

unfoldable pub restores : List Session → List Call
restores [] = []
restores (x ∷ xs) = request x.peer (restoration (unit 4 4) sender x) space ∷ restores xs

past : ℕ
unfolding computing calls endpoint_of naming csid_of update history sender restores
past = 0

unfoldable pub turned : {A : Type 0} → List A → List A
turned [] = []
turned (x ∷ xs) = turned xs ++ x ∷ []

-- which calls were accepted
pub history_accepted : map accepted_event (events_of (encode (unit 4 4) []) history) ≡ true ∷ false ∷ true ∷ true ∷ true ∷ false ∷ []
unfolding past
history_accepted = refl

-- the live set is what the table holds
pub history_live : same_octets (encode (unit 4 4) (live_after_calls (encode (unit 4 4) []) history)) (table_after_all (encode (unit 4 4) []) history) ≡ true
unfolding past
history_live = refl

-- restored in either order, it is the same table
pub history_restored :
    same_octets (table_after_all (encode (unit 4 4) []) (restores (live_after_calls (encode (unit 4 4) []) history)))
    (table_after_all (encode (unit 4 4) []) history)
    ≡ true
unfolding past
history_restored = refl

pub history_restored_turned :
    same_octets (table_after_all (encode (unit 4 4) []) (restores (turned (live_after_calls (encode (unit 4 4) []) history))))
    (table_after_all (encode (unit 4 4) []) history)
    ≡ true
unfolding past turned
history_restored_turned = refl
