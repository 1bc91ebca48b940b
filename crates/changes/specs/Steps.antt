-- What is known from step to step of an establishment or a modification.
-- Assumes nothing.
use Rattle.std.specs.Result.{is_ok}
use Rattle.std.specs.Prelude.{Result, Ok, ℕ, ◌*◌, ◌≤◌, ◌<◌, ◌^◌, ◌≡◌, false, List, T, eqb, length, take}
use Rattle.octets.specs.Octets.{be, part, put, zeros}
use Rattle.rules.specs.Limits.{max_pool, map_words, max_addresses, address_words}
use Rattle.rules.specs.Model.{free_address_count, key_for, session_key}
use Rattle.rules.specs.Layout.{session_octets, view_session, view_settings, view_sessions, session_width, table_length}
use Rattle.rules.specs.Sound.{sound, taken_map, address_map}
use Rattle.rules.specs.Message.{kind_of, header_seid, establishment, deletion}
use Rattle.rules.specs.Reading.{read_request}
use Rattle.rules.specs.Stages.{is_live, entry_session, judged}
use Rattle.plan.specs.Rows.{row_width, rows_of, request_in}
use Rattle.areas.specs.Records.{pair_key}
use Rattle.areas.specs.Counted.{area_in, place_in}
use Rattle.session.specs.Areas.{table_area}
use Rattle.unit.specs.declared.Settings.{Settings as Unit}
use Rattle.unit.specs.Meaning.{settings_of}
use Rattle.created.specs.Entries.{max_grants}
use Rattle.request.specs.declared.Plan.{Plan}
use Rattle.grants.specs.Choosing.{Granted, addressed, lowest_address, report_places}
use Rattle.stages.specs.Rules.{Slot, ShareOf}
use Rattle.stages.specs.declared.Known.{Known}
use Rattle.stages.specs.declared.Told.{Told}
use Rattle.changes.specs.Answers.{Asked, Live, verdict_on, OnlyNull}

-- the settings, the maps of taken TEIDs and addresses, the peer's share and the free addresses are the table's
pub record Counted (k : Known) (t words ips : List ℕ) : Type 0 where
  pub settings : settings_of k.u ≡ view_settings t
  pub marks : words ≡ taken_map (view_settings t) (view_sessions t)
  pub long : length words ≡ map_words
  pub own : ShareOf (view_settings t) (view_sessions t) k.share.peer k.share.teids k.share.sessions
  pub address_marks : ips ≡ address_map (view_settings t) (view_sessions t)
  pub address_long : length ips ≡ address_words
  pub address_count : k.addresses ≡ free_address_count (view_settings t) (view_sessions t)

-- what giving TEIDs and an address asks: maps with a bit for each number of their pools, and room for the places
pub record Giving (u : Unit) (teids ips plan places : List ℕ) (n : ℕ) : Type 0 where
  pub rows : n * row_width ≤ length plan
  pub wide : u.size ≤ 64 * length teids
  pub size : u.size ≤ max_pool
  pub first : u.first < 2 ^ 32
  pub wide_addresses : u.addresses ≤ 64 * length ips
  pub addresses : u.addresses ≤ max_addresses
  pub first_address : u.first_address < 2 ^ 32
  pub room : length places ≡ max_grants

-- what it leaves: the plan with the TEIDs, then with the address too; and the places of the rows with something chosen
pub record Given (u : Unit) (teids ips plan : List ℕ) (n r : ℕ) (plan' places' : List ℕ) : Type 0 where
  pub count : ℕ
  pub between : List ℕ
  pub chosen : List ℕ
  pub granted : Granted n u.first teids u.size plan count between chosen
  pub address : plan' ≡ addressed (lowest_address u.first_address ips u.addresses) n between
  pub few : r ≤ max_grants
  pub reported : take r places' ≡ report_places n plan'

-- what fetching the session at entry asks: the room for sessions, and a place in it, unless the session is new
pub record Fetching (t slot : List ℕ) (room kind seid p : ℕ) : Type 0 where
  pub table : T (sound t)
  pub table_long : length t ≡ table_length room
  pub limit : room ≡ (view_settings t).limit
  pub fits : seid < 2 ^ 64
  pub there : (kind ≡ establishment → ⊥) → p < room
  pub long : length slot ≡ session_width

-- what reading told of a request, with its session's place
abbrev pub told_of : Plan → Result ℕ ℕ → Told
told_of w at = record { seid = w.seid; place = at; rows = w.rows; restoring = w.restoring; noted = w.noted }

-- what it leaves and answers: the slot of a peer's new session and the place of its SEID, or the slot at the place
pub record Fetched (t : List ℕ) (room kind who p : ℕ) (w : Plan) (q : Told) (slot : List ℕ) : Type 0 where
  pub at : Result ℕ ℕ
  pub told : q ≡ told_of w at
  pub long : length slot ≡ session_width
  pub new : kind ≡ establishment → slot ≡ put 1 (be 8 w.seid) (put 0 (be 1 who) (zeros session_width))
  pub sought : kind ≡ establishment → place_in (table_area room) (pair_key who w.seid) t ≡ at
  pub still : (kind ≡ establishment → ⊥) → at ≡ Ok p
  pub old : (kind ≡ establishment → ⊥) → slot ≡ part (p * session_width) session_width (area_in (table_area room) t)

-- the session at entry in its slot, its place in the table, and whether the SEID of an establishment is live
pub record Entered (k : Known) (q : Told) (t msg slot : List ℕ) : Type 0 where
  pub entry : slot ≡ session_octets (entry_session k.share.peer (view_sessions t) msg)
  pub viewed : view_session slot ≡ entry_session k.share.peer (view_sessions t) msg
  pub place : Slot slot
  pub stands : place_in (table_area (view_settings t).limit) (session_key (entry_session k.share.peer (view_sessions t) msg)) t ≡ q.place
  pub known : k.kind ≡ establishment → is_ok q.place ≡ is_live (key_for k.share.peer q.seid) (view_sessions t)

-- a request without a fault, as the rows of its plan, that is not a deletion
pub record Readable (k : Known) (q : Told) (t msg out plan : List ℕ) : Type 0 where
  pub asked : Asked t k.share.peer msg out
  pub kind_is : k.kind ≡ kind_of msg
  pub other : eqb (kind_of msg) deletion ≡ false
  pub verdict : verdict_on t k.share.peer msg ≡ judged (view_settings t) k.share.peer (view_sessions t) msg
  pub means : read_request msg ≡ request_in q.seid q.restoring q.noted (rows_of q.rows plan)
  pub rows : q.rows * row_width ≤ length plan
  pub only_null : OnlyNull (rows_of q.rows plan)

-- an establishment, or the modification of the session at the place p
pub record Changing (k : Known) (t msg out : List ℕ) (p : ℕ) : Type 0 where
  pub asked : Asked t k.share.peer msg out
  pub live : Live t k.share.peer msg
  pub kind_is : k.kind ≡ kind_of msg
  pub other : eqb (kind_of msg) deletion ≡ false
  pub found : (k.kind ≡ establishment → ⊥) → place_in (table_area (view_settings t).limit) (key_for k.share.peer (header_seid msg)) t ≡ Ok p
