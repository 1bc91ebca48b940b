-- 01's rule on TEIDs ("a TEID is held by one endpoint, or by PDRs of one session with equal family flags and source interface") as a walk over
-- the records in the table's order, which remembers the TEIDs seen. A TEID seen before is allowed only where an earlier hold of the same session
-- lets it be shared.
-- Assumes nothing.
use Rattle.std.specs.Prelude.{ℕ, ◌-◌, Bool, true, not, ◌&&◌, ◌||◌, List, [], ◌∷◌, ◌++◌, ◌==◌}
use Rattle.octets.specs.Choice.{all_of}
use Rattle.octets.specs.Lists.{member, any_in, any}
use Rattle.rules.specs.Model.{Settings, Holding, Session, Sessions, session_holdings, session_teids, session_addresses}
use Rattle.rules.specs.Sound.{share_tests, marked}
use Rattle.pool.specs.Map.{mark, marks, offsets}

-- a PDR's hold on the same TEID
unfoldable pub on_same : Holding → Holding → Bool
on_same h k = k.shared && k.teid == h.teid

unfoldable pub shared_with : Holding → Holding → Bool
shared_with h k = all_of (share_tests k h)

-- an earlier hold of a PDR on the same TEID may be shared with this one
unfoldable pub joins : List Holding → Holding → Bool
joins earlier h = any (λ k. on_same h k && shared_with h k) earlier

-- with the TEIDs seen so far and the session's earlier holds
unfoldable pub accepts : List ℕ → List Holding → Holding → Bool
accepts seen earlier h = not (member h.teid seen) || joins earlier h

-- the holds of one session that are left
unfoldable pub session_keeps : List ℕ → List Holding → List Holding → Bool
session_keeps seen earlier [] = true
session_keeps seen earlier (h ∷ hs) = accepts seen earlier h && session_keeps (h.teid ∷ seen) (earlier ++ h ∷ []) hs

-- the TEIDs seen after a session's holds
unfoldable pub seen_after : List ℕ → List Holding → List ℕ
seen_after seen [] = seen
seen_after seen (h ∷ hs) = seen_after (h.teid ∷ seen) hs

-- the holds of the sessions that are left, session by session
unfoldable pub table_keeps : List ℕ → List (List Holding) → Bool
table_keeps seen [] = true
table_keeps seen (hs ∷ more) = session_keeps seen [] hs && table_keeps (seen_after seen hs) more

-- ---- the same walk with the map of taken TEIDs in place of the list of those seen

unfoldable pub session_marks : ℕ → List ℕ → List Holding → List Holding → Bool
session_marks first words earlier [] = true
session_marks first words earlier (h ∷ hs) =
    (not (marked words (h.teid - first)) || joins earlier h) && session_marks first (mark words (h.teid - first)) (earlier ++ h ∷ []) hs

-- the sessions that are left, each with a test of its own before its holds are walked
unfoldable pub table_marks : (Session → Bool) → ℕ → List ℕ → Sessions → Bool
table_marks own first words [] = true
table_marks own first words (x ∷ m) =
    own x && (session_marks first words [] (session_holdings x) && table_marks own first (marks words (offsets first (session_teids x))) m)

-- ---- the two halves of `apart`

-- two sessions hold no TEID in common
unfoldable pub apart_teids : Session → Session → Bool
apart_teids x y = not (any_in (session_teids x) (session_teids y))

-- and no address of the pool (02 (v))
unfoldable pub apart_addresses : Settings → Session → Session → Bool
apart_addresses s x y = not (any_in (session_addresses s x) (session_addresses s y))

-- ---- addresses: within a session one may stand any number of times, so a session's are compared with the map before any of them is marked

-- the offsets of the addresses of the pool in a session's records
unfoldable pub address_offsets : Settings → Session → List ℕ
address_offsets s x = offsets s.first_address (session_addresses s x)

-- the offsets of the sessions that are left, session by session
unfoldable pub address_marks : List ℕ → List (List ℕ) → Bool
address_marks words [] = true
address_marks words (is ∷ more) = not (any (marked words) is) && address_marks (marks words is) more
