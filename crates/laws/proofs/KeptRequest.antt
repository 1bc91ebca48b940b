-- The rules of cause 73 and the room of cause 75 as records with a named field for each test: what a request keeps is taken by name.
-- Assumes nothing.
use Prim.Native.Nat.{ℕ, ◌+◌, ◌-◌, ◌≤◌}
use mathlib.Core.Bool.{Bool, true, false, not}
use mathlib.Core.List.{List, [], ◌∷◌, map}
use lib.ListN.{length}
use lib.Dec.{T, nltb→le}
use Rattle.octets.specs.Choice.{one_of}
use Rattle.octets.specs.Lists.{any_in, all_in, has_repeat, any, all_pairs, collect}
use Rattle.octets.proofs.ListLaws.{not_not}
use Rattle.octets.proofs.Bools.{not_or}
use Rattle.rules.specs.Model.{Settings, Session, Sessions, teid_of, held_teids, held_addresses, holdings, unused, peer_of, other_peer}
use Rattle.rules.specs.Limits.{max_pdrs, max_endpoints}
use Rattle.rules.specs.Sound.{agree}
use Rattle.rules.specs.Request.{Request}
use Rattle.rules.specs.Stages.{created_pdrs, created_endpoints, updated_pdrs, live_pdrs, live_endpoints, fteids_of, id_twice, created_live, absent_id, updates_removed, names_both, named_endpoint, endpoint_ids_after, names_absent, removed_pdrs, choices_agree, lacks_family, strange, restored_holdings, clash, addresses_of, wrong_address, restored_addresses, address_clash, request_rules, broken_rules, breaks_rule, too_many_sessions, too_many_pdrs, too_many_endpoints, too_few_teids, needed, passes_limit, passes_pool, room_lacks}

-- tests that all fail
abbrev pub NoneOf : List Bool → Type 0
NoneOf [] = Unit {0}
NoneOf (b ∷ bs) = T (not b) × NoneOf bs

pub none_hold : (bs : List Bool) → T (not (one_of bs)) → NoneOf bs
none_hold [] h = tt
none_hold (true ∷ bs) h = absurd h
none_hold (false ∷ bs) h = (tt, none_hold bs h)

-- ---- the rules of cause 73 that a request keeps

-- Stages.broken_rules, of which none is broken
pub record RulesKept (s : Settings) (m : Sessions) (x : Session) (r : Request) : Type 0 where
  pub gone_pdrs_once : T (not (has_repeat r.gone_pdrs))
  pub gone_endpoints_once : T (not (has_repeat r.gone_endpoints))
  pub created_pdrs_once : T (not (has_repeat (created_pdrs r)))
  pub created_endpoints_once : T (not (has_repeat (created_endpoints r)))
  pub updated_once : T (not (has_repeat (updated_pdrs r)))
  pub created_pdrs_new : T (not (any_in (created_pdrs r) (live_pdrs x)))
  pub created_endpoints_new : T (not (any_in (created_endpoints r) (live_endpoints x)))
  pub gone_pdrs_live : T (all_in r.gone_pdrs (live_pdrs x))
  pub gone_endpoints_live : T (all_in r.gone_endpoints (live_endpoints x))
  pub updated_live : T (all_in (updated_pdrs r) (live_pdrs x))
  pub updated_stay : T (not (updates_removed x r))
  pub one_match : T (not (any names_both r.pdrs))
  pub named_there : T (all_in (collect named_endpoint r.pdrs) (endpoint_ids_after x r))
  pub choices_alike : T (all_pairs choices_agree r.pdrs)
  pub families : T (not (any (lacks_family s) (fteids_of r)))
  pub restored : T (not (any (strange s) (fteids_of r)))
  pub addresses_given : T (not (any (wrong_address s r.restoring) (addresses_of r)))
  pub restored_free : T (not (any_in (map teid_of (restored_holdings r)) (held_teids m)))
  pub restored_agree : T (all_pairs agree (restored_holdings r))
  pub addresses_free : T (not (any_in (restored_addresses s r) (held_addresses s m)))

-- from the tests to the names
pub rules_kept : (s : Settings) (m : Sessions) (x : Session) (r : Request) → T (not (breaks_rule s m x r)) → RulesKept s m x r
unfolding breaks_rule request_rules broken_rules id_twice created_live absent_id names_absent clash address_clash
rules_kept s m x r h =
    let n = none_hold (broken_rules s m x r) h in
    let once = none_hold (has_repeat r.gone_pdrs ∷ has_repeat r.gone_endpoints ∷ has_repeat (created_pdrs r) ∷ has_repeat (created_endpoints r) ∷ has_repeat (updated_pdrs r) ∷ []) n.0 in
    let new = not_or (any_in (created_pdrs r) (live_pdrs x)) (any_in (created_endpoints r) (live_endpoints x)) n.1.0 in
    let live = none_hold (not (all_in r.gone_pdrs (live_pdrs x)) ∷ not (all_in r.gone_endpoints (live_endpoints x)) ∷ not (all_in (updated_pdrs r) (live_pdrs x)) ∷ []) n.1.1.0 in
    let later = n.1.1.1 in
    let last = later.1.1.1 in
    let held = not_or (any_in (map teid_of (restored_holdings r)) (held_teids m)) (not (all_pairs agree (restored_holdings r))) last.1.1.1.1.0 in
    record {
      gone_pdrs_once = once.0;
      gone_endpoints_once = once.1.0;
      created_pdrs_once = once.1.1.0;
      created_endpoints_once = once.1.1.1.0;
      updated_once = once.1.1.1.1.0;
      created_pdrs_new = new.0;
      created_endpoints_new = new.1;
      gone_pdrs_live = not_not (all_in r.gone_pdrs (live_pdrs x)) live.0;
      gone_endpoints_live = not_not (all_in r.gone_endpoints (live_endpoints x)) live.1.0;
      updated_live = not_not (all_in (updated_pdrs r) (live_pdrs x)) live.1.1.0;
      updated_stay = later.0;
      one_match = later.1.0;
      named_there = not_not (all_in (collect named_endpoint r.pdrs) (endpoint_ids_after x r)) later.1.1.0;
      choices_alike = not_not (all_pairs choices_agree r.pdrs) last.0;
      families = last.1.0;
      restored = last.1.1.0;
      addresses_given = last.1.1.1.0;
      restored_free = held.0;
      restored_agree = not_not (all_pairs agree (restored_holdings r)) held.1;
      addresses_free = last.1.1.1.1.1.0;
    }

-- ---- the room of cause 75 that a request finds

-- Stages.room_lacks, of which no test holds
pub record RoomLeft (kind : ℕ) (s : Settings) (who : ℕ) (m : Sessions) (x : Session) (r : Request) : Type 0 where
  pub sessions : T (not (too_many_sessions s who kind m))
  pub pdrs : length x.pdrs - length (removed_pdrs r x.pdrs) + length r.pdrs ≤ max_pdrs
  pub endpoints : length x.endpoints - length r.gone_endpoints + length r.endpoints ≤ max_endpoints
  pub limit : holdings who m + needed r ≤ (peer_of s who).limit
  pub pool : holdings who m + holdings (other_peer who) m + needed r + unused s (other_peer who) m ≤ s.size

-- from the tests to the names
pub room_left_lem : (kind : ℕ) (s : Settings) (who : ℕ) (m : Sessions) (x : Session) (r : Request)
    → T (not (room_lacks kind s who m x r)) → RoomLeft kind s who m x r
unfolding room_lacks too_many_pdrs too_many_endpoints too_few_teids passes_limit passes_pool
room_left_lem kind s who m x r h =
    let n = none_hold (too_many_sessions s who kind m ∷ too_many_pdrs x r ∷ too_many_endpoints x r ∷ too_few_teids s who m r ∷ []) h in
    let few = not_or (passes_limit s who m r) (passes_pool s who m r) n.1.1.1.0 in
    record {
      sessions = n.0;
      pdrs = nltb→le max_pdrs (length x.pdrs - length (removed_pdrs r x.pdrs) + length r.pdrs) n.1.0;
      endpoints = nltb→le max_endpoints (length x.endpoints - length r.gone_endpoints + length r.endpoints) n.1.1.0;
      limit = nltb→le (peer_of s who).limit (holdings who m + needed r) few.0;
      pool = nltb→le s.size (holdings who m + holdings (other_peer who) m + needed r + unused s (other_peer who) m) few.1;
    }
