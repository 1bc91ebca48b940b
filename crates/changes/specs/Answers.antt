-- What the functions that answer a request know at entry, and what they leave: the reply and the table of the rules' verdict.
-- Assumes nothing.
use Rattle.std.specs.Prelude.{ℕ, ◌*◌, ◌≤◌, ◌<◌, ◌^◌, ◌≡◌, true, false, List, [], T, eqb, length, Option}
use Rattle.octets.specs.Choice.{pick}
use Rattle.octets.specs.Octets.{octets, put}
use Rattle.octets.specs.Lists.{any, collect}
use Rattle.rules.specs.Limits.{max_pool, map_words, max_addresses, address_words, max_message, min_space}
use Rattle.rules.specs.Model.{is_peer, session_key}
use Rattle.rules.specs.Layout.{session_octets, encode, view_settings, view_sessions, session_width, table_length}
use Rattle.rules.specs.Sound.{sound, taken_map, address_map}
use Rattle.rules.specs.Message.{kind_of, header_allowed, served, deletion, set_deletion}
use Rattle.rules.specs.Reading.{read_request}
use Rattle.rules.specs.Stages.{removed_pdrs, Verdict, plain, entry_session, unknown_session, verdict}
use Rattle.rules.specs.Serve.{sessions_after, reply_to}
use Rattle.plan.specs.Rows.{row_width, rows_of, tagged, row_csid, is_null_row, request_in}
use Rattle.rules.specs.Types as ie
use Rattle.rules.specs.Causes as why
use Rattle.areas.specs.Counted.{place_in}
use Rattle.session.specs.Areas.{table_area}
use Rattle.unit.specs.Meaning.{settings_of}
use Rattle.stages.specs.declared.Known.{Known}
use Rattle.stages.specs.declared.Told.{Told}
use Rattle.reply.specs.Naming.{refusal}
use Rattle.reply.specs.Parts.{WithSeid}

-- outcomes 7 and 1 to 5 have been passed, by a peer's request whose header has a SEID
pub record Asked (t : List ℕ) (who : ℕ) (msg out : List ℕ) : Type 0 where
  pub peer : T (is_peer who)
  pub table : T (sound t)
  pub space : min_space ≤ length out
  pub short : length msg ≤ max_message
  pub header : T (header_allowed msg)
  pub kind : T (served (kind_of msg))
  pub octets : T (octets msg)
  pub table_long : length t ≡ table_length (view_settings t).limit
  pub seid : WithSeid msg
  pub named : eqb (kind_of msg) set_deletion ≡ false
  pub below : kind_of msg < 255

-- and stage 1: the session of the peer's that the request names is live, or the request makes one
abbrev pub Live : List ℕ → ℕ → List ℕ → Type 0
Live t who msg = unknown_session who (view_sessions t) msg ≡ false

-- the verdict on a peer's request
abbrev pub verdict_on : List ℕ → ℕ → List ℕ → Verdict
verdict_on t who msg = verdict (view_settings t) who (view_sessions t) msg

-- its reply stands at the front of the space, and on acceptance the table is that of the sessions after it
pub record Answers (t : List ℕ) (who : ℕ) (msg out : List ℕ) (used : ℕ) (out' t' : List ℕ) : Type 0 where
  pub long : used ≡ length (reply_to (view_settings t) who (view_sessions t) msg (verdict_on t who msg))
  pub space : out' ≡ put 0 (reply_to (view_settings t) who (view_sessions t) msg (verdict_on t who msg)) out
  pub table : t' ≡ pick (eqb (verdict_on t who msg).cause why.accepted) (encode (view_settings t) (sessions_after (view_settings t) who (view_sessions t) msg)) t

-- and the place told beside it is the verdict's
pub record Replies (t : List ℕ) (who : ℕ) (msg out : List ℕ) (used place : ℕ) (out' t' : List ℕ) : Type 0 where
  pub answers : Answers t who msg out used out' t'
  pub placed : place ≡ (verdict_on t who msg).place

-- a verdict with another place
abbrev pub placed_at : ℕ → Verdict → Verdict
placed_at p v = record { cause = v.cause; offending = v.offending; place = p }

-- the verdict is a refusal, by its cause and the element that it names, at any place
pub record Refusing (t : List ℕ) (who : ℕ) (msg out : List ℕ) (c : ℕ) (o : Option ℕ) : Type 0 where
  pub place : ℕ
  pub verdict : verdict_on t who msg ≡ placed_at place (refusal c o)
  pub small : c < 256
  pub other : c ≡ 1 → ⊥

-- where a row removes all FQ-CSIDs, none sets or removes a node type's
abbrev pub OnlyNull : List (List ℕ) → Type 0
OnlyNull rows = any is_null_row (tagged ie.fqcsid rows) ≡ true → collect row_csid (tagged ie.fqcsid rows) ≡ []

-- the verdict is acceptance: the plan is the request's, the slot holds the session at entry, whose place in the table is known, those of its PDRs
-- that go are the rules', and the maps mark the TEIDs and addresses held
pub record Accepting (k : Known) (q : Told) (t words ips msg slot gone plan out : List ℕ) : Type 0 where
  pub asked : Asked t k.share.peer msg out
  pub verdict : verdict_on t k.share.peer msg ≡ plain why.accepted
  pub other : eqb (kind_of msg) deletion ≡ false
  pub means : read_request msg ≡ request_in q.seid q.restoring q.noted (rows_of q.rows plan)
  pub rows : q.rows * row_width ≤ length plan
  pub only_null : OnlyNull (rows_of q.rows plan)
  pub entry : slot ≡ session_octets (entry_session k.share.peer (view_sessions t) msg)
  pub slot_long : length slot ≡ session_width
  pub place : place_in (table_area (view_settings t).limit) (session_key (entry_session k.share.peer (view_sessions t) msg)) t ≡ q.place
  pub removed : gone ≡ removed_pdrs (read_request msg) (entry_session k.share.peer (view_sessions t) msg).pdrs
  pub marks : words ≡ taken_map (view_settings t) (view_sessions t)
  pub map_long : length words ≡ map_words
  pub settings : settings_of k.u ≡ view_settings t
  pub first : (view_settings t).first < 2 ^ 32
  pub size : (view_settings t).size ≤ max_pool
  pub address_marks : ips ≡ address_map (view_settings t) (view_sessions t)
  pub address_map_long : length ips ≡ address_words
  pub first_address : (view_settings t).first_address < 2 ^ 32
  pub addresses : (view_settings t).address_count ≤ max_addresses
