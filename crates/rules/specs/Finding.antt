-- What a table tells beside its requests (the library's reading calls): how many sessions there are, the place of a peer's SEID, for a TEID the
-- place of the session that holds it, what a peer has, and all counts at once. A place counts sessions from 0, in the table's order.
-- Assumes nothing.
use Rattle.std.specs.Prelude.{ℕ, ◌+◌, Bool, List, [], ◌∷◌, length}
use Rattle.std.proofs.Math.Option.{Option, none, some}
use Rattle.octets.specs.Choice.{pick}
use Rattle.octets.specs.Lists.{member}
use Rattle.rules.specs.Model.{Settings, Session, Sessions, key_for, session_teids, is_peer, of_peer, holdings, free_count, free_address_count}
use Rattle.rules.specs.Layout.{view_settings, view_sessions}
use Rattle.rules.specs.Sound.{sound}
use Rattle.rules.specs.Stages.{has_key}

-- the place of the first session for which a test holds; the list's first one stands at i
unfoldable pub place_from : ℕ → (Session → Bool) → Sessions → Option ℕ
place_from i p [] = none
place_from i p (x ∷ m) = let t = place_from (i + 1) p m in pick (p x) (some i) t

-- of a peer's SEID
unfoldable pub session_place : ℕ → ℕ → Sessions → Option ℕ
session_place who seid m = place_from 0 (has_key (key_for who seid)) m

-- a record of the session holds the TEID
unfoldable pub is_holder : ℕ → Session → Bool
is_holder teid x = member teid (session_teids x)

unfoldable pub holder_place : ℕ → Sessions → Option ℕ
holder_place teid m = place_from 0 (is_holder teid) m

-- 0 and a number, or 1 a broken table, 2 none; the number is then 0
pub record Finding : Type 0 where
  pub outcome : ℕ
  pub number : ℕ

abbrev pub finding_of : Option ℕ → Finding
finding_of none = record { outcome = 2; number = 0 }
finding_of (some n) = record { outcome = 0; number = n }

-- what a table answers where it is not broken
unfoldable pub find_in : List ℕ → Option ℕ → Finding
find_in t o = pick (sound t) (finding_of o) (record { outcome = 1; number = 0 })

unfoldable pub count_sessions : List ℕ → Finding
count_sessions t = find_in t (some (length (view_sessions t)))

unfoldable pub find_session : List ℕ → ℕ → ℕ → Finding
find_session t who seid = find_in t (session_place who seid (view_sessions t))

unfoldable pub find_holder : List ℕ → ℕ → Finding
find_holder t teid = find_in t (holder_place teid (view_sessions t))

-- what a peer has (02 (xiv)), by which an operator understands a 75: 0, its sessions and the different TEIDs that their records hold; or 7 no peer, 1 a
-- broken table, and zeros
pub record Share : Type 0 where
  pub outcome : ℕ
  pub sessions : ℕ
  pub teids : ℕ

abbrev pub unshared : ℕ → Share
unshared n = record { outcome = n; sessions = 0; teids = 0 }

unfoldable pub count_peer : List ℕ → ℕ → Share
count_peer t who =
    pick (is_peer who)
    (pick (sound t) (record { outcome = 0; sessions = length (of_peer who (view_sessions t)); teids = holdings who (view_sessions t) }) (unshared 1))
    (unshared 7)

-- all counts at once: 0, of each peer its sessions and the different TEIDs that their records hold, and how many TEIDs and addresses of the pools are
-- free; or 1 a broken table, and zeros
pub record Counts : Type 0 where
  pub outcome : ℕ
  pub sessions1 : ℕ
  pub teids1 : ℕ
  pub sessions2 : ℕ
  pub teids2 : ℕ
  pub free : ℕ
  pub free_addresses : ℕ

abbrev pub uncounted : ℕ → Counts
uncounted n = record { outcome = n; sessions1 = 0; teids1 = 0; sessions2 = 0; teids2 = 0; free = 0; free_addresses = 0 }

abbrev pub counts_of : Settings → Sessions → Counts
counts_of s m =
    record {
      outcome = 0;
      sessions1 = length (of_peer 1 m);
      teids1 = holdings 1 m;
      sessions2 = length (of_peer 2 m);
      teids2 = holdings 2 m;
      free = free_count s m;
      free_addresses = free_address_count s m;
    }

unfoldable pub count_all : List ℕ → Counts
count_all t = pick (sound t) (counts_of (view_settings t) (view_sessions t)) (uncounted 1)

unfoldable pub computing : ℕ
unfolding place_from session_place is_holder holder_place find_in count_sessions find_session find_holder count_peer count_all
computing = 0
