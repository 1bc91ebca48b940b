-- The reading calls on the table that a history left, by computation: session 4 holds the TEID 4098, session 9 holds 4096 and 4097.
-- Assumes nothing.
use mathlib.Core.Path.{◌≡◌, refl}
use Prim.Native.Nat.{ℕ}
use mathlib.Core.List.{[], ◌∷◌, map}
use Rattle.rules.specs.Finding.{Finding, Share, count_sessions, find_session, find_holder, count_peer}
use Rattle.rules.proofs.Computing.{computing}
use Rattle.rules.proofs.CallExamples.{calls}
use Rattle.rules.proofs.RestorationExamples.{history, endpoint_of, naming, csid_of, update}
use Rattle.rules.proofs.WriterExamples.{kept}

unfoldable pub answer : ℕ → ℕ → Finding
answer outcome number = record { outcome = outcome; number = number }

unfoldable pub share : ℕ → ℕ → ℕ → Share
share outcome sessions teids = record { outcome = outcome; sessions = sessions; teids = teids }

past : ℕ
unfolding computing calls history endpoint_of naming csid_of update kept answer share
past = 0

-- of a broken table too
pub sessions_counted : count_sessions kept ∷ count_sessions (0 ∷ kept) ∷ [] ≡ answer 0 2 ∷ answer 1 0 ∷ []
unfolding past
sessions_counted = refl

-- SEIDs below, between and above those of the table
pub sessions_found : map (find_session kept 1) (4 ∷ 9 ∷ 0 ∷ 5 ∷ 10 ∷ []) ≡ answer 0 0 ∷ answer 0 1 ∷ answer 2 0 ∷ answer 2 0 ∷ answer 2 0 ∷ []
unfolding past
sessions_found = refl

-- they are peer 1's; no other number is
pub strangers_found : map (λ (who : ℕ). find_session kept who 4) (0 ∷ 2 ∷ 3 ∷ []) ≡ answer 2 0 ∷ answer 2 0 ∷ answer 2 0 ∷ []
unfolding past
strangers_found = refl

pub peers_counted :
    map (count_peer kept) (1 ∷ 2 ∷ 0 ∷ 3 ∷ []) ≡ share 0 2 3 ∷ share 0 0 0 ∷ share 7 0 0 ∷ share 7 0 0 ∷ []
unfolding past
peers_counted = refl

pub broken_counted : map (count_peer (0 ∷ kept)) (1 ∷ 2 ∷ 3 ∷ []) ≡ share 1 0 0 ∷ share 1 0 0 ∷ share 7 0 0 ∷ []
unfolding past
broken_counted = refl

-- a TEID of an endpoint, two of PDRs, one of the pool that is free, and one outside it
pub holders_found : map (find_holder kept) (4098 ∷ 4096 ∷ 4097 ∷ 4099 ∷ 0 ∷ []) ≡ answer 0 0 ∷ answer 0 1 ∷ answer 0 1 ∷ answer 2 0 ∷ answer 2 0 ∷ []
unfolding past
holders_found = refl
