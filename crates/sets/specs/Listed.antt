-- What a set deletion lists as its octets have it, and what is left of a table when sessions go.
-- Assumes nothing.
use Rattle.std.specs.Prelude.{ℕ, ◌+◌, ◌*◌, ◌/◌, ◌%◌, ◌≤◌, ◌≡◌, Bool, ◌&&◌, List, [], ◌∷◌, T, eqb, length, drop, get_or}
use Rattle.octets.specs.Choice.{pick}
use Rattle.octets.specs.Octets.{part}
use Rattle.rules.specs.Model.{Session, has_peer}
use Rattle.rules.specs.Layout.{session_width, table_length, view_session, view_settings}
use Rattle.rules.specs.Sound.{sound}
use Rattle.rules.specs.Elements.{Fqcsid, sets, address_length, csids_read}
use Rattle.rules.specs.Reading.{Reading, faulty, done, listed_read}
use Rattle.rules.specs.Apply.{covers_session}
use Rattle.rules.specs.Types as ie
use Rattle.areas.specs.Counted.{area_in, removed_in}
use Rattle.session.specs.Areas.{table_area}

-- a reading without what was read, and what was read, nothing where there is a fault
abbrev pub blank : {A : Type 0} → Reading A → Reading (Unit {0})
blank (faulty f) = faulty f
blank (done a) = done tt

abbrev pub gotten : Reading (List Fqcsid) → List Fqcsid
gotten (faulty f) = []
gotten (done cs) = cs

-- an element of type t at place p: its fault, if it has one
unfoldable pub list_step : ℕ → ℕ → List ℕ → Reading (Unit {0})
list_step t p v = pick (eqb t ie.fqcsid) (blank (listed_read p v)) (done tt)

-- the octets of the address, and the number of CSIDs, that an FQ-CSID's first octet says
abbrev pub listed_address_octets : List ℕ → ℕ
listed_address_octets v = address_length (get_or v 0 0 / 16)

abbrev pub csid_count : List ℕ → ℕ
csid_count v = get_or v 0 0 % 16

-- all of its octets are there
pub record Sized (v : List ℕ) : Type 0 where
  pub long : 2 + listed_address_octets v + 2 * csid_count v ≤ length v

-- what it lists
unfoldable pub listed_in : List ℕ → Fqcsid
listed_in v =
    sets (get_or v 0 0 / 16) (part 1 (listed_address_octets v) v) (csids_read (csid_count v) (drop (1 + listed_address_octets v) v)) (get_or v (1 + listed_address_octets v + 2 * csid_count v) 0 % 16)

-- and what an element of type t lists
unfoldable pub lists_in : ℕ → List ℕ → List Fqcsid
lists_in t v = pick (eqb t ie.fqcsid) (listed_in v ∷ []) []

-- ---- the sessions

-- the slot at place p of a table with so much room
unfoldable pub slot_at : ℕ → ℕ → List ℕ → List ℕ
slot_at room p t = part (p * session_width) session_width (area_in (table_area room) t)

-- a session goes that is the peer's and that the listed FQ-CSID covers
unfoldable pub goes_by : ℕ → Fqcsid → Session → Bool
goes_by who l x = has_peer who x && covers_session x l

-- the table without the session at place p, if that goes
unfoldable pub after_one : ℕ → ℕ → ℕ → Fqcsid → List ℕ → List ℕ
after_one room p who l t = pick (goes_by who l (view_session (slot_at room p t))) (removed_in (table_area room) p t) t

-- a table that is not broken
pub record Sound (t : List ℕ) : Type 0 where
  pub sound : T (sound t)
  pub long : length t ≡ table_length (view_settings t).limit
