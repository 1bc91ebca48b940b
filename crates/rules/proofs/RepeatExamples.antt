-- Sequence numbers that are newer and that are not, and what a store of eight keeps (02 (xi)).
-- Assumes nothing.
use Prim.Native.Nat.{ℕ}
use mathlib.Core.Path.{◌≡◌, refl}
use mathlib.Core.Bool.{true, false}
use mathlib.Core.Option.{none, some}
use mathlib.Core.List.{List, [], ◌∷◌, map}
use Rattle.octets.specs.Lists as lists
use Rattle.octets.specs.Octets as octets
use Rattle.rules.specs.Store.{Entry, entry, message_of, stored_reply, remember}
use Rattle.rules.specs.Store as store
use Rattle.rules.specs.Repeats.{newer}
use Rattle.rules.specs.Repeats as repeats

-- the next one, the last that is newer, the first that is not, the same one, the one before; and where the numbers wrap
newer_ones : newer 1 0 ∷ newer 8388607 0 ∷ newer 8388608 0 ∷ newer 7 7 ∷ newer 6 7 ∷ newer 0 16777215 ∷ newer 8388606 16777215 ∷ newer 8388607 16777215 ∷ newer 16777215 0 ∷ []
    ≡ true ∷ true ∷ false ∷ false ∷ false ∷ true ∷ true ∷ false ∷ false ∷ []
unfolding repeats.computing
newer_ones = refl

-- an entry by its number
one : ℕ → Entry
one n = entry (n ∷ []) (n ∷ n ∷ [])

eight : List Entry
eight = one 1 ∷ one 2 ∷ one 3 ∷ one 4 ∷ one 5 ∷ one 6 ∷ one 7 ∷ one 8 ∷ []

-- the ninth takes the place of the first; the others keep their order
oldest_goes : map message_of (remember (one 9) eight) ≡ (2 ∷ []) ∷ (3 ∷ []) ∷ (4 ∷ []) ∷ (5 ∷ []) ∷ (6 ∷ []) ∷ (7 ∷ []) ∷ (8 ∷ []) ∷ (9 ∷ []) ∷ []
unfolding store.computing one eight
oldest_goes = refl

found_and_not : stored_reply (3 ∷ []) eight ∷ stored_reply (9 ∷ []) eight ∷ [] ≡ some (3 ∷ 3 ∷ []) ∷ none ∷ []
unfolding store.computing lists.computing octets.computing one eight
found_and_not = refl
