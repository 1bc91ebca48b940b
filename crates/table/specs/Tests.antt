-- The tests of a table on its octets, in the order in which they are made: the settings, the length by the session limit, the number of sessions, the order
-- of the keys with the unused room, the sessions with their TEIDs and addresses, and what the peers may hold.
-- Assumes nothing.
use Rattle.std.specs.Prelude.{ℕ, ◌+◌, ◌*◌, ◌-◌, Bool, ◌&&◌, List, [], ◌∷◌, map, leb, eqb, length, drop, replicate}
use Rattle.octets.specs.Choice.{all_of}
use Rattle.octets.specs.Octets.{part, number, slices, all_zero}
use Rattle.octets.specs.Lists.{ascending}
use Rattle.rules.specs.Limits.{map_words, address_words}
use Rattle.rules.specs.Model.{Settings, half, peer_of}
use Rattle.rules.specs.Layout.{settings_width, head_width, session_width, key_width, table_length, view_settings, view_sessions}
use Rattle.rules.specs.Sound.{peers_kept}
use Rattle.areas.specs.Records.{key_of}
use Rattle.records.specs.Kept.{settings_sound}
use Rattle.marking.specs.Marking.{slots_keep, slots_free}

-- the number of sessions, and their slots
abbrev pub session_count : List ℕ → ℕ
session_count t = number (part settings_width 2 t)

abbrev pub slots_of : List ℕ → List (List ℕ)
slots_of t = slices session_width (session_count t) (drop head_width t)

-- how many sessions there is room for
abbrev pub limit_of : List ℕ → ℕ
limit_of t = (view_settings t).limit

-- the slots stand in ascending order of peers, then SEIDs, and the room after them is zero
unfoldable pub order_sound : List ℕ → Bool
order_sound t = ascending (map (key_of key_width) (slots_of t)) && all_zero (drop (session_count t * session_width) (drop head_width t))

-- the tests before the walk over the sessions
unfoldable pub front_tests : List ℕ → List Bool
front_tests t = settings_sound (part 0 settings_width t) ∷ eqb (length t) (table_length (limit_of t)) ∷ leb (session_count t) (limit_of t) ∷ order_sound t ∷ []

unfoldable pub front_sound : List ℕ → Bool
front_sound t = all_of (front_tests t)

-- the walk
unfoldable pub walk_sound : List ℕ → Bool
walk_sound t = slots_keep (view_settings t) (replicate map_words 0) (slots_of t) && slots_free (view_settings t) (replicate address_words 0) (slots_of t)

-- ---- the peers (02 (xiv))

unfoldable pub peers_sound : List ℕ → Bool
peers_sound t = all_of (peers_kept (view_settings t) (view_sessions t))

-- the same by numbers: the sessions of each, and the TEIDs that each holds
unfoldable pub sessions_fit : Settings → ℕ → ℕ → Bool
sessions_fit s first second = leb first (half s) && leb second (half s)

unfoldable pub teids_fit : Settings → ℕ → ℕ → Bool
teids_fit s one two =
    leb one (peer_of s 1).limit
    && (leb two (peer_of s 2).limit && leb (one + ((peer_of s 1).guarantee - one) + (two + ((peer_of s 2).guarantee - two))) s.size)
