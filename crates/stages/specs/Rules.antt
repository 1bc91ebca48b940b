-- Cause 73 with tests in place of the lists of held TEIDs and addresses, and what is known of table, maps and slot before stages 4 and 5. Assumes nothing.
use Rattle.std.specs.Result.{is_ok}
use Rattle.std.specs.Prelude.{ℕ, ◌+◌, ◌-◌, ◌*◌, ◌≤◌, ◌<◌, ◌≡◌, Bool, false, not, ◌||◌, List, ltb, length, get_or}
use Rattle.octets.specs.Choice.{one_of, pick}
use Rattle.octets.specs.Lists.{member, any, all_pairs}
use Rattle.rules.specs.Limits.{max_pdrs, max_endpoints}
use Rattle.rules.specs.Layout.{view_session, view_sessions, pdr_count_at, endpoint_count_at, session_width}
use Rattle.rules.specs.Model.{Settings, Session, Sessions, teid_of, held_teids, held_addresses, free_address_count, peer_of, other_peer, of_peer, holdings, key_for}
use Rattle.plan.specs.Rows.{row_width, rows_of}
use Rattle.plan.specs.RowRules.{request_of}
use Rattle.rules.specs.Request.{Request}
use Rattle.rules.specs.Sound.{agree, due, marked}
use Rattle.rules.specs.Stages.{needed, too_few_teids, is_live, removed_pdrs, request_rules, restored_holdings, restored_addresses}
use Rattle.rules.specs.Message.{establishment}
use Rattle.unit.specs.Meaning.{settings_of}
use Rattle.stages.specs.declared.Known.{Known}
use Rattle.stages.specs.declared.Told.{Told}

-- a restored TEID that is held, or shared against the table's rule
unfoldable pub clash_by : (ℕ → Bool) → Request → Bool
clash_by held r = any (λ h. held (teid_of h)) (restored_holdings r) || not (all_pairs agree (restored_holdings r))

unfoldable pub breaks_rule_by : (ℕ → Bool) → (ℕ → Bool) → Settings → Session → Request → Bool
breaks_rule_by teids addresses s x r = one_of (request_rules s x r) || (clash_by teids r || any addresses (restored_addresses s r))

-- the octets of a session's slot: as many as the layout has, and counts of records within the limits
pub record Slot (slot : List ℕ) : Type 0 where
  pub long : length slot ≡ session_width
  pub pdrs : get_or slot pdr_count_at 0 ≤ max_pdrs
  pub endpoints : get_or slot endpoint_count_at 0 ≤ max_endpoints

-- the IDs of the PDRs in the slot that the request of some rows removes
abbrev pub Gone : List ℕ → List (List ℕ) → List ℕ → Type 0
Gone slot rows gone = gone ≡ removed_pdrs (request_of false rows) (view_session slot).pdrs

-- what a peer has at entry: so many TEIDs may it still take, and so many sessions has it (02 (xiv))
pub record ShareOf (s : Settings) (m : Sessions) (who teids sessions : ℕ) : Type 0 where
  pub few : (r : Request) → too_few_teids s who m r ≡ ltb teids (needed r)
  pub own : sessions ≡ length (of_peer who m)

-- how many TEIDs a peer that holds so many may still take: to its limit, and to what the pool has beside what the other is due
unfoldable pub room_by : ℕ → ℕ → ℕ → ℕ → ℕ
room_by limit size own due = pick (ltb (size - (own + due)) (limit - own)) (size - (own + due)) (limit - own)

-- the same of a peer, the other being due what it holds or is guaranteed, whichever is more
unfoldable pub room_for : Settings → ℕ → Sessions → ℕ
room_for s who m = room_by (peer_of s who).limit s.size (holdings who m) (due s (other_peer who) m)

-- What is known before stages 4 and 5: each map, of TEIDs and of addresses, has a bit for each number of its pool, set where a session holds the
-- number; the removed PDRs are the rules', the peer's share and the free addresses are the rules', and for an establishment (50) it is known whether
-- the SEID is live.
pub record AtEntry (k : Known) (q : Told) (t taken addresses slot gone plan : List ℕ) : Type 0 where
  pub place : Slot slot
  pub rows : q.rows * row_width ≤ length plan
  pub removed : Gone slot (rows_of q.rows plan) gone
  pub wide : (settings_of k.u).size ≤ 64 * length taken
  pub marks : (i : ℕ) → i < (settings_of k.u).size → marked taken i ≡ member ((settings_of k.u).first + i) (held_teids (view_sessions t))
  pub share : ShareOf (settings_of k.u) (view_sessions t) k.share.peer k.share.teids k.share.sessions
  pub wide_addresses : (settings_of k.u).address_count ≤ 64 * length addresses
  pub marks_addresses : (i : ℕ) → i < (settings_of k.u).address_count → marked addresses i ≡ member ((settings_of k.u).first_address + i) (held_addresses (settings_of k.u) (view_sessions t))
  pub count_addresses : k.addresses ≡ free_address_count (settings_of k.u) (view_sessions t)
  pub known : k.kind ≡ establishment → is_ok q.place ≡ is_live (key_for k.share.peer q.seid) (view_sessions t)
