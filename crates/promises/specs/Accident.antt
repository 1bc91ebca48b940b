-- What must never happen: a TEID or an address of the pool that was released stays in the table, or one that a patient's session holds comes to
-- another's. That it does not, as two statements about every run of the exported calls. "At any time" is after any run: the calls up to any moment are a run.
-- Assumes nothing.
use Rattle.std.specs.Prelude.{ℕ, ◌-◌, ◌≡◌, Bool, false, not, ◌&&◌, ◌||◌, List, map, T, eqb, length}
use Rattle.std.proofs.Math.Option.{Option, none, some}
use Rattle.octets.specs.Choice.{pick}
use Rattle.octets.specs.Octets.{octets}
use Rattle.octets.specs.Lists.{member, ascending, all, any, keep}
use Rattle.rules.specs.Model.{Settings, Session, Sessions, session_teids, held_teids, free_teids, in_address_pool, session_addresses, held_addresses, free_addresses, has_peer, session_key}
use Rattle.rules.specs.Elements.{UeIp, ue_chooses}
use Rattle.rules.specs.Layout.{view_settings, view_sessions}
use Rattle.rules.specs.Sound.{in_pool, marked}
use Rattle.rules.specs.Message.{deletion, kind_of, set_deletion}
use Rattle.rules.specs.Reading.{read_request}
use Rattle.rules.specs.Request.{Request, NewPdr, NewEndpoint}
use Rattle.rules.specs.Grants.{Kind, of_pdr, of_endpoint}
use Rattle.rules.specs.Stages.{has_key, new_session, removed_pdrs, entry_session}
use Rattle.rules.specs.Apply.{kept_pdr, kept_endpoint, goes_session}
use Rattle.rules.specs.Live.{replied, accepted_event, created_teid, created_address}
use Rattle.rules.specs.Claim.{map_of, address_map_of}
use Rattle.pfcp_session.specs.Calls.{count_call, address_count_call, RequestCall, request_call}
use Rattle.promises.specs.Runs.{Run, live_after, table_after}

-- ---- a run, and one more request

-- the sessions whose records stand in the octets of the table
unfoldable pub entries_after : Run → Sessions
entries_after run = view_sessions (table_after run)

-- the run's next call is a request of a peer, r is what it left, and it was accepted: outcome 0 and the reply's cause 1
pub record Accepted (run : Run) (who : ℕ) (msg space : List ℕ) (r : RequestCall) : Type 0 where
  pub message : T (octets msg)
  pub call : r ≡ request_call (table_after run) who msg space
  pub reply : T (accepted_event (replied who msg r.outcome r.space))

-- ---- released is removed

-- a number of a pool is out of use: no record holds it, its bit in the map of those taken is 0, and it is among those that requests may be given
pub record OutOfUse (held words given : List ℕ) (first n : ℕ) : Type 0 where
  pub unheld : T (not (member n held))
  pub unmarked : marked words (n - first) ≡ false
  pub free : T (member n given)

-- a TEID is so in a table, or an address of the pool (02 (v))
abbrev pub Released : List ℕ → ℕ → Type 0
Released t n = OutOfUse (held_teids (view_sessions t)) (map_of t) (free_teids (view_settings t) (view_sessions t)) (view_settings t).first n

abbrev pub AddressReleased : List ℕ → ℕ → Type 0
AddressReleased t a = OutOfUse (held_addresses (view_settings t) (view_sessions t)) (address_map_of t) (free_addresses (view_settings t) (view_sessions t)) (view_settings t).first_address a

-- a session without the PDRs and endpoints that a request removes, with an endpoint the PDRs that name it
unfoldable pub unremoved : Request → Session → Session
unremoved r x =
    record {
      peer = x.peer;
      seid = x.seid;
      pdrs = keep (kept_pdr (removed_pdrs r x.pdrs)) x.pdrs;
      endpoints = keep (kept_endpoint r.gone_endpoints) x.endpoints;
      csids = x.csids;
    }

-- what an accepted request leaves of the session that it is about, before it adds anything: of one that it deletes, no record
unfoldable pub spared : List ℕ → Session → Session
spared msg x = pick (eqb (kind_of msg) deletion) (new_session x.peer x.seid) (unremoved (read_request msg) x)

-- the sessions of its peer that an accepted set deletion takes out
unfoldable pub goes_of : ℕ → List ℕ → Session → Bool
goes_of who msg x = has_peer who x && goes_session (read_request msg).listed x

-- * the TEIDs in the records of the table are those in the live records, the map marks just those, and the free count is of all others of the pool;
-- * a TEID of the pool that no live record holds is out of use;
-- * a TEID that the session which an accepted request is about (`entry_session`) held only in records that it removed is out of use after it;
-- * a TEID that a session of the peer which an accepted set deletion takes out held is out of use after it;
-- * and the same of the addresses of the pool
pub record ReleasedIsRemoved (run : Run) : Type 0 where
  pub records : held_teids (entries_after run) ≡ held_teids (live_after run)
  pub marks : (n : ℕ) → T (in_pool run.settings n) → marked (map_of (table_after run)) (n - run.settings.first) ≡ member n (held_teids (live_after run))
  pub count : count_call (table_after run) ≡ record { outcome = 0; count = length (free_teids run.settings (live_after run)) }
  pub unheld : (n : ℕ) → T (in_pool run.settings n) → T (not (member n (held_teids (live_after run)))) → Released (table_after run) n
  pub removed : (who : ℕ) (msg space : List ℕ) (r : RequestCall) → Accepted run who msg space r → (n : ℕ)
      → T (member n (session_teids (entry_session who (entries_after run) msg)))
      → T (not (member n (session_teids (spared msg (entry_session who (entries_after run) msg)))))
      → Released r.table n
  pub listed : (who : ℕ) (msg space : List ℕ) (r : RequestCall) → Accepted run who msg space r → T (eqb (kind_of msg) set_deletion) → (n : ℕ)
      → T (member n (held_teids (keep (goes_of who msg) (entries_after run))))
      → Released r.table n
  pub address_records : held_addresses run.settings (entries_after run) ≡ held_addresses run.settings (live_after run)
  pub address_marks : (a : ℕ) → T (in_address_pool run.settings a) → marked (address_map_of (table_after run)) (a - run.settings.first_address) ≡ member a (held_addresses run.settings (live_after run))
  pub address_count : address_count_call (table_after run) ≡ record { outcome = 0; count = length (free_addresses run.settings (live_after run)) }
  pub address_unheld : (a : ℕ) → T (in_address_pool run.settings a) → T (not (member a (held_addresses run.settings (live_after run)))) → AddressReleased (table_after run) a
  pub address_removed : (who : ℕ) (msg space : List ℕ) (r : RequestCall) → Accepted run who msg space r → (a : ℕ)
      → T (member a (session_addresses run.settings (entry_session who (entries_after run) msg)))
      → T (not (member a (session_addresses run.settings (spared msg (entry_session who (entries_after run) msg)))))
      → AddressReleased r.table a
  pub address_listed : (who : ℕ) (msg space : List ℕ) (r : RequestCall) → Accepted run who msg space r → T (eqb (kind_of msg) set_deletion) → (a : ℕ)
      → T (member a (held_addresses run.settings (keep (goes_of who msg) (entries_after run))))
      → AddressReleased r.table a

-- ---- no two patients

-- a record of the session with this key, which is that of a peer and a SEID (`key_for`), holds the number; `of` says which numbers a session holds
unfoldable pub holds : (Session → List ℕ) → Sessions → ℕ → ℕ → Bool
holds of m key n = any (λ x. has_key key x && member n (of x)) m

-- each peer and SEID is that of one session, and a TEID or an address of the pool that one session holds no other holds
pub record OneHolder (s : Settings) (m : Sessions) : Type 0 where
  pub keys : T (ascending (map session_key m))
  pub teids : (one other n : ℕ) → T (not (eqb one other)) → T (holds session_teids m one n) → T (not (holds session_teids m other n))
  pub addresses : (one other a : ℕ) → T (not (eqb one other)) → T (holds (session_addresses s) m one a) → T (not (holds (session_addresses s) m other a))

-- a record's UE IP Address is a CHOOSE
unfoldable pub chooses_ip : Option UeIp → Bool
chooses_ip none = false
chooses_ip (some v) = ue_chooses v

-- where a record chooses an address, the one that the reply grants it is not among those held
unfoldable pub fresh_address : List ℕ → List ℕ → Kind → ℕ → Option UeIp → Bool
fresh_address space held k id v = not (chooses_ip v) || not (member (created_address space k id) held)

unfoldable pub fresh_pdr : List ℕ → List ℕ → NewPdr → Bool
fresh_pdr space held p = fresh_address space held of_pdr p.id p.address

unfoldable pub fresh_endpoint : List ℕ → List ℕ → NewEndpoint → Bool
fresh_endpoint space held e = fresh_address space held of_endpoint e.id e.address

-- * a TEID, and an address of the pool, has one holder in the live set and in the octets of the table;
-- * the TEID that an accepted request's reply grants to a PDR or an endpoint was held by no record of the table at entry
--   (where the reply has no such group it reads as 0, which no record holds);
-- * nor was the address that it grants to a PDR or an endpoint which chooses one
pub record NoTwoPatients (run : Run) : Type 0 where
  pub live : OneHolder run.settings (live_after run)
  pub table : OneHolder run.settings (entries_after run)
  pub granted : (who : ℕ) (msg space : List ℕ) (r : RequestCall) → Accepted run who msg space r → (k : Kind) (id : ℕ)
      → T (not (member (created_teid r.space k id) (held_teids (entries_after run))))
  pub pdr_addresses : (who : ℕ) (msg space : List ℕ) (r : RequestCall) → Accepted run who msg space r
      → T (all (fresh_pdr r.space (held_addresses run.settings (entries_after run))) (read_request msg).pdrs)
  pub endpoint_addresses : (who : ℕ) (msg space : List ℕ) (r : RequestCall) → Accepted run who msg space r
      → T (all (fresh_endpoint r.space (held_addresses run.settings (entries_after run))) (read_request msg).endpoints)
