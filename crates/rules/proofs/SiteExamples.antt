-- 02 (vi), "A bigger site", by computation: the session limit as a setting, and the table's length.
-- Assumes nothing.
use mathlib.Core.Path.{◌≡◌, refl}
use Prim.Native.Nat.{ℕ}
use mathlib.Core.Bool.{true, false}
use mathlib.Core.List.{List, [], ◌∷◌, ◌++◌, map}
use Rattle.octets.specs.Octets.{zeros}
use Rattle.rules.specs.Layout.{session_width, encode}
use Rattle.rules.specs.Sound.{settings_allowed, sound, length_for}
use Rattle.rules.specs.Reply.{element}
use Rattle.rules.proofs.Computing.{computing}
use Rattle.rules.proofs.CallExamples.{unit, create, own, establish, calls, ask, seen, seen_as}

-- 2 to 256 sessions, 1 to 65,536 TEIDs
pub sizes_allowed :
    map settings_allowed (unit 1 1 ∷ unit 2 1 ∷ unit 256 65536 ∷ unit 257 1 ∷ unit 2 65537 ∷ [])
    ≡ false ∷ true ∷ true ∷ false ∷ false ∷ []
unfolding computing calls
sizes_allowed = refl

-- a table of 64 sessions stays under 64 KiB
pub table_lengths : map length_for (1 ∷ 2 ∷ 64 ∷ 256 ∷ 257 ∷ []) ≡ 0 ∷ 1273 ∷ 38721 ∷ 154689 ∷ 0 ∷ []
unfolding computing
table_lengths = refl

-- a table with more or less room than its limit says is broken
pub length_by_limit : map sound (encode (unit 4 2) [] ∷ (encode (unit 4 2) [] ++ zeros session_width) ∷ encode (unit 0 2) [] ∷ []) ≡ true ∷ false ∷ false ∷ []
unfolding computing calls
length_by_limit = refl

-- with room for one session of each peer the second is 75, a restoration too
unfoldable pub alone : List ℕ
alone = (ask (encode (unit 2 2) []) (establish 1 (create 1 own))).table

unfoldable pub restoring : List ℕ
restoring = element 186 (1 ∷ []) ++ create 1 (0x01 ∷ 0 ∷ 0 ∷ 0x10 ∷ 1 ∷ 192 ∷ 0 ∷ 2 ∷ 1 ∷ [])

pub second_refused : map seen (ask alone (establish 2 (create 1 own)) ∷ ask alone (establish 2 restoring) ∷ []) ≡ seen_as 75 1 ∷ seen_as 75 1 ∷ []
unfolding computing calls ask seen alone restoring
second_refused = refl

-- where there is room for two of each, both are accepted
unfoldable pub first : List ℕ
first = (ask (encode (unit 4 2) []) (establish 1 (create 1 own))).table

pub second_accepted : map seen (ask first (establish 2 (create 1 own)) ∷ ask first (establish 2 restoring) ∷ []) ≡ seen_as 1 0 ∷ seen_as 1 0 ∷ []
unfolding computing calls ask seen first restoring
second_accepted = refl
