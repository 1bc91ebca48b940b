-- Nothing that a call finds in the sessions depends on PDRs' precedences and FAR IDs: the bare sessions give the same verdict, the same grants, the
-- same counts and the same places. So do sessions that are alike.
-- Assumes nothing.
use mathlib.Core.Path.{◌≡◌, refl, sym, ap, ap₂, ◌∙◌}
use Prim.Native.Nat.{ℕ, ◌+◌, ◌-◌}
use mathlib.Core.Bool.{Bool, not, ◌&&◌, ◌||◌}
use mathlib.Core.Option.{Option, none, some}
use mathlib.Core.List.{List, [], ◌∷◌, ◌++◌, map}
use lib.ListN.{length, length-map}
use Rattle.octets.specs.Choice.{pick, one_of, value_or, map_option, is_some, head_or}
use Rattle.octets.specs.Lists.{member, any_in, all_in, distinct, without, range, keep}
use Rattle.octets.proofs.ListLaws.{map-map, collect_map}
use Rattle.octets.proofs.Mapped.{of_pick, keep_map, find_map}
use Rattle.rules.specs.Model.{other_peer, has_peer, of_peer, holdings, unused, key_for, Settings, Pdr, Session, Sessions, Holding, teid_of, pdr_holding, session_holdings, session_teids, held_teids, free_count, free_teids, session_addresses, held_addresses, free_address_count, free_addresses, pdr_id, pdr_endpoint}
use Rattle.rules.specs.Message.{kind_of, header_seid, Spot, frame_fault}
use Rattle.rules.specs.Reading.{Fault, read_fault, read_request}
use Rattle.rules.specs.Request.{Request}
use Rattle.rules.specs.Grants.{choices, grant_from, grants, granted_teid, chosen_address, granted}
use Rattle.rules.specs.Stages.{Verdict, plain, has_key, session_of, is_live, new_session, unnamed, at_entry, created_pdrs, created_endpoints, updated_pdrs, live_pdrs, live_endpoints, goes_pdr, removed_pdrs, created_live, absent_id, updates_removed, endpoint_ids_after, names_absent, clash, address_clash, request_rules, broken_rules, breaks_rule, too_many_sessions, too_many_pdrs, too_many_endpoints, passes_limit, passes_pool, too_few_teids, room_lacks, address_lacks, judge, entry_session, judged, from_reading, verdict_from, unknown_session, verdict, reasons, already_live}
use Rattle.rules.specs.Finding.{place_from, session_place, is_holder, holder_place}
use Rattle.rules.specs.Causes as why
use Rattle.rules.specs.Bare.{bare_pdr, bare_session, bare, Alike}

-- ---- what the records hold

holdings_bare : (x : Session) → session_holdings (bare_session x) ≡ session_holdings x
unfolding session_holdings pdr_holding
holdings_bare x = simp (collect_map {C = Holding} bare_pdr)

teids_bare : (x : Session) → session_teids (bare_session x) ≡ session_teids x
unfolding session_teids
teids_bare x = ap (map teid_of) (holdings_bare x)

held_bare : (m : Sessions) → held_teids (bare m) ≡ held_teids m
unfolding held_teids
held_bare [] = refl
held_bare (x ∷ m) = ap₂ ◌++◌ (teids_bare x) (held_bare m)

addresses_bare : (s : Settings) (x : Session) → session_addresses s (bare_session x) ≡ session_addresses s x
unfolding session_addresses
addresses_bare s x = simp (collect_map {C = ℕ} bare_pdr)

held_addresses_bare : (s : Settings) (m : Sessions) → held_addresses s (bare m) ≡ held_addresses s m
unfolding held_addresses
held_addresses_bare s [] = refl
held_addresses_bare s (x ∷ m) = ap₂ ◌++◌ (addresses_bare s x) (held_addresses_bare s m)

-- and those of one peer

peer_bare : (who : ℕ) (m : Sessions) → of_peer who (bare m) ≡ bare (of_peer who m)
unfolding of_peer has_peer
peer_bare who m = keep_map bare_session (has_peer who) m

holdings_of_bare : (who : ℕ) (m : Sessions) → holdings who (bare m) ≡ holdings who m
unfolding holdings
holdings_of_bare who m = ap (λ (l : Sessions). distinct (held_teids l)) (peer_bare who m) ∙ ap distinct (held_bare (of_peer who m))

-- ---- the session at entry

session_bare : (n : ℕ) (m : Sessions) → session_of n (bare m) ≡ map_option bare_session (session_of n m)
unfolding session_of has_key
session_bare n m = find_map bare_session (has_key n) m

live_bare : (n : ℕ) (m : Sessions) → is_live n (bare m) ≡ is_live n m
unfolding is_live
live_bare n m = ap is_some (session_bare n m) ∙ there (session_of n m)
  where
    there : (o : Option Session) → is_some (map_option bare_session o) ≡ is_some o
    there none = refl
    there (some x) = refl

pub entry_bare : (kind who header : ℕ) (r : Request) (m : Sessions) → at_entry kind who header r (bare m) ≡ bare_session (at_entry kind who header r m)
unfolding at_entry new_session
entry_bare kind who header r m =
    ap (λ (o : Option Session). pick (unnamed kind) (new_session who r.seid) (value_or (new_session who header) o)) (session_bare (key_for who header) m)
    ∙ ap (pick (unnamed kind) (new_session who r.seid)) (there (session_of (key_for who header) m))
    ∙ sym (of_pick bare_session (unnamed kind) (new_session who r.seid) (value_or (new_session who header) (session_of (key_for who header) m)))
  where
    there : (o : Option Session) → value_or (new_session who header) (map_option bare_session o) ≡ bare_session (value_or (new_session who header) o)
    there none = refl
    there (some x) = refl

-- ---- the stages: each test on the session at entry, and each on all sessions

pdr_ids_bare : (x : Session) → live_pdrs (bare_session x) ≡ live_pdrs x
unfolding live_pdrs
pdr_ids_bare x = map-map bare_pdr pdr_id x.pdrs

pub removed_bare : (r : Request) (ps : List Pdr) → removed_pdrs r (map bare_pdr ps) ≡ removed_pdrs r ps
unfolding removed_pdrs goes_pdr pdr_endpoint
removed_bare r ps = ap (map pdr_id) (keep_map bare_pdr (goes_pdr r) ps) ∙ map-map bare_pdr pdr_id (keep (goes_pdr r) ps)

module _ (x : Session) (r : Request) where
  created_live_bare : created_live (bare_session x) r ≡ created_live x r
  unfolding created_live live_endpoints
  created_live_bare = ap (λ (is : List ℕ). any_in (created_pdrs r) is || any_in (created_endpoints r) (live_endpoints x)) (pdr_ids_bare x)

  absent_bare : absent_id (bare_session x) r ≡ absent_id x r
  unfolding absent_id live_endpoints
  absent_bare =
      ap (λ (is : List ℕ). one_of (not (all_in r.gone_pdrs is) ∷ not (all_in r.gone_endpoints (live_endpoints x)) ∷ not (all_in (updated_pdrs r) is) ∷ [])) (pdr_ids_bare x)

  updates_bare : updates_removed (bare_session x) r ≡ updates_removed x r
  unfolding updates_removed
  updates_bare = ap (any_in (updated_pdrs r)) (removed_bare r x.pdrs)

  names_bare : names_absent (bare_session x) r ≡ names_absent x r
  unfolding names_absent endpoint_ids_after live_endpoints
  names_bare = refl

  pdrs_bare : too_many_pdrs (bare_session x) r ≡ too_many_pdrs x r
  unfolding too_many_pdrs
  pdrs_bare = rw (removed_bare r x.pdrs, length-map)

  endpoints_bare : too_many_endpoints (bare_session x) r ≡ too_many_endpoints x r
  unfolding too_many_endpoints
  endpoints_bare = refl

module _ (s : Settings) (m : Sessions) (r : Request) where
  clash_bare : clash (bare m) r ≡ clash m r
  unfolding clash
  clash_bare = rw (held_bare m)

  address_clash_bare : address_clash s (bare m) r ≡ address_clash s m r
  unfolding address_clash
  address_clash_bare = rw (held_addresses_bare s m)

  sessions_bare : (who kind : ℕ) → too_many_sessions s who kind (bare m) ≡ too_many_sessions s who kind m
  unfolding too_many_sessions
  sessions_bare who kind = rw (peer_bare who m, length-map)

  few_teids_bare : (who : ℕ) → too_few_teids s who (bare m) r ≡ too_few_teids s who m r
  unfolding too_few_teids passes_limit passes_pool unused
  few_teids_bare who = rw (holdings_of_bare who m, holdings_of_bare (other_peer who) m)

  address_lacks_bare : address_lacks s (bare m) r ≡ address_lacks s m r
  unfolding address_lacks free_addresses
  address_lacks_bare = rw (held_addresses_bare s m)

-- the rules, the room and the verdict, by the lists of their tests
module _ (s : Settings) (m : Sessions) (x : Session) (r : Request) where
  breaks_bare : breaks_rule s (bare m) (bare_session x) r ≡ breaks_rule s m x r
  unfolding breaks_rule broken_rules request_rules
  breaks_bare = simp (created_live_bare x r, absent_bare x r, updates_bare x r, names_bare x r, clash_bare s m r, address_clash_bare s m r)

  room_bare : (who kind : ℕ) → room_lacks kind s who (bare m) (bare_session x) r ≡ room_lacks kind s who m x r
  unfolding room_lacks
  room_bare who kind = simp (sessions_bare s m r who kind, pdrs_bare x r, endpoints_bare x r, few_teids_bare s m r who)

  judge_bare : (who kind : ℕ) → judge kind s who (bare m) (bare_session x) r ≡ judge kind s who m x r
  unfolding judge reasons already_live
  judge_bare who kind = simp (live_bare (key_for who r.seid) m, breaks_bare, room_bare who kind, address_lacks_bare s m r)

module _ (s : Settings) (who : ℕ) (m : Sessions) (msg : List ℕ) where
  judged_bare : judged s who (bare m) msg ≡ judged s who m msg
  unfolding judged entry_session
  judged_bare =
      ap (λ (x : Session). judge (kind_of msg) s who (bare m) x (read_request msg)) (entry_bare (kind_of msg) who (header_seid msg) (read_request msg) m)
      ∙ judge_bare s m (entry_session who m msg) (read_request msg) who (kind_of msg)

  reading_bare : (f : Option Fault) → from_reading s who (bare m) msg f ≡ from_reading s who m msg f
  unfolding from_reading
  reading_bare none = judged_bare
  reading_bare (some f) = refl

  frame_bare : (f : Option Spot) → verdict_from s who (bare m) msg f ≡ verdict_from s who m msg f
  unfolding verdict_from
  frame_bare none = reading_bare (read_fault msg)
  frame_bare (some f) = refl

  verdict_bare : verdict s who (bare m) msg ≡ verdict s who m msg
  unfolding verdict unknown_session
  verdict_bare =
      ap₂ (λ (b : Bool) (v : Verdict). pick (not (unnamed (kind_of msg)) && not b) (plain why.no_session) v) (live_bare (key_for who (header_seid msg)) m) (frame_bare (frame_fault msg))

-- ---- what is granted

granted_bare : (s : Settings) (m : Sessions) (r : Request) → granted s (bare m) r ≡ granted s m r
unfolding granted grants free_teids chosen_address free_addresses
granted_bare s m r = λ i k id. record { teid = granted_teid (grant_from [] (left s.first s.size (held_bare m i)) (choices r)) k id; address = head_or 0 (left s.first_address s.address_count (held_addresses_bare s m i)) }
  where
    left : ℕ → ℕ → List ℕ → List ℕ
    left first size held = without (range first size) held

-- ---- what is counted and found

count_bare : (s : Settings) (m : Sessions) → free_count s (bare m) ≡ free_count s m
unfolding free_count
count_bare s m = ap (λ (held : List ℕ). s.size - distinct held) (held_bare m)

address_count_bare : (s : Settings) (m : Sessions) → free_address_count s (bare m) ≡ free_address_count s m
unfolding free_address_count
address_count_bare s m = ap (λ (held : List ℕ). s.address_count - distinct held) (held_addresses_bare s m)

place_bare : (p : Session → Bool) → ((x : Session) → p (bare_session x) ≡ p x) → (i : ℕ) (m : Sessions) → place_from i p (bare m) ≡ place_from i p m
unfolding place_from
place_bare p same i [] = refl
place_bare p same i (x ∷ m) = ap₂ (λ (b : Bool) (o : Option ℕ). pick b (some i) o) (same x) (place_bare p same (i + 1) m)

seid_place_bare : (who seid : ℕ) (m : Sessions) → session_place who seid (bare m) ≡ session_place who seid m
unfolding session_place has_key
seid_place_bare who seid m = place_bare (has_key (key_for who seid)) (λ x. refl) 0 m

holder_place_bare : (teid : ℕ) (m : Sessions) → holder_place teid (bare m) ≡ holder_place teid m
unfolding holder_place is_holder
holder_place_bare teid m = place_bare (is_holder teid) (λ x. ap (member teid) (teids_bare x)) 0 m

-- ---- of sessions that are alike

-- what is the same of bare sessions is the same of sessions that are alike
pub same_of : {X : Type 0} (f : Sessions → X) → ((m : Sessions) → f (bare m) ≡ f m) → (m n : Sessions) → Alike m n → f m ≡ f n
same_of f through m n e = sym (through m) ∙ ap f e ∙ through n

module _ (s : Settings) (m n : Sessions) (e : Alike m n) where
  pub verdict_alike : (who : ℕ) (msg : List ℕ) → verdict s who m msg ≡ verdict s who n msg
  verdict_alike who msg = same_of (λ (l : Sessions). verdict s who l msg) (λ l. verdict_bare s who l msg) m n e

  pub granted_alike : (r : Request) → granted s m r ≡ granted s n r
  granted_alike r = same_of (λ (l : Sessions). granted s l r) (λ l. granted_bare s l r) m n e

  pub count_alike : free_count s m ≡ free_count s n
  count_alike = same_of (free_count s) (count_bare s) m n e

  pub address_count_alike : free_address_count s m ≡ free_address_count s n
  address_count_alike = same_of (free_address_count s) (address_count_bare s) m n e

module _ (m n : Sessions) (e : Alike m n) where
  pub length_alike : length m ≡ length n
  length_alike = same_of length (λ l. length-map l bare_session) m n e

  pub seid_place_alike : (who seid : ℕ) → session_place who seid m ≡ session_place who seid n
  seid_place_alike who seid = same_of (session_place who seid) (seid_place_bare who seid) m n e

  pub peer_sessions_alike : (who : ℕ) → length (of_peer who m) ≡ length (of_peer who n)
  peer_sessions_alike who = same_of (λ (l : Sessions). length (of_peer who l)) (λ l. ap length (peer_bare who l) ∙ length-map (of_peer who l) bare_session) m n e

  pub peer_holdings_alike : (who : ℕ) → holdings who m ≡ holdings who n
  peer_holdings_alike who = same_of (holdings who) (holdings_of_bare who) m n e

  pub holder_place_alike : (teid : ℕ) → holder_place teid m ≡ holder_place teid n
  holder_place_alike teid = same_of (holder_place teid) (holder_place_bare teid) m n e
