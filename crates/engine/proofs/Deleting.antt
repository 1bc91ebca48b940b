-- A deletion of a live session, and a set deletion, without a fault is accepted: it has no records of its own, so no rule can be broken and nothing
-- be short.
-- Assumes nothing.
use mathlib.Core.Path.{◌≡◌, refl, ap}
use mathlib.Core.Bool.{Bool, false}
use mathlib.Core.Option.{none}
use mathlib.Core.List.{List, [], ◌∷◌}
use Prim.Native.Nat.{ℕ, ◌+◌, ◌-◌, ◌≤◌}
use native.Mathlib.Omega.{arith}
use borrow.Author.Tests.{le-ltb}
use lib.Dec.{T, eqb}
use lib.ListN.{length}
use Rattle.octets.specs.Lists.{distinct, member, any, keep, collect, any_in, all_in, has_repeat, all_pairs}
use Rattle.rules.specs.Limits.{max_pdrs, max_endpoints}
use Rattle.rules.specs.Model.{Settings, Session, Sessions, is_peer}
use Rattle.rules.specs.Elements.{Fqcsid}
use Rattle.rules.specs.Message.{Element, kind_of, header_length, body, elements, acted_on, establishment, deletion}
use Rattle.rules.specs.Reading.{done, element_read, elements_read, finished, alone_in, session_read, top_read, read, fault_in, read_fault, asked_in, read_request}
use Rattle.rules.specs.Request.{Request, Draft, empty_draft, request_from, listing}
use Rattle.rules.specs.Grants.{Kind, Got, choices, need, need_of}
use Rattle.rules.specs.Reply.{no_reports, reports}
use Rattle.rules.specs.Stages.{plain, fteids_of, addresses_of, restored_addresses, address_clash, address_lacks, invalid_allocation, created_pdrs, created_endpoints, updated_pdrs, id_twice, created_live, absent_id, removed_pdrs, updates_removed, names_absent, restored_holdings, clash, request_rules, broken_rules, breaks_rule, too_many_sessions, too_many_pdrs, too_many_endpoints, needed, too_few_teids, room_lacks, judge, reasons, already_live}
use Rattle.rules.specs.Causes as why
use Rattle.octets.proofs.Tests.{is_false}
use Rattle.laws.proofs.PeerLaws.{PeersKept}
use Rattle.invariants.proofs.PeersAfter.{nothing_needed}

-- a request without records
pub record Empty (r : Request) : Type 0 where
  pub seid : r.seid ≡ 0
  pub pdrs : r.pdrs ≡ []
  pub endpoints : r.endpoints ≡ []
  pub changes : r.changes ≡ []
  pub gone_pdrs : r.gone_pdrs ≡ []
  pub gone_endpoints : r.gone_endpoints ≡ []
  pub unsupported : r.unsupported ≡ false

-- a deletion acts on no element
unread : (alone : Bool) (es : List Element) (d : Draft) → elements_read deletion alone es d ≡ done d
unfolding elements_read element_read acted_on member
unread alone [] d = refl
unread alone (e ∷ es) d = unread alone es d

pub deletion_read : (msg : List ℕ) → kind_of msg ≡ deletion → read msg ≡ done (request_from 0 empty_draft)
unfolding read top_read session_read finished
deletion_read msg e = let es = elements (header_length msg) (body msg) in rw (e, unread (alone_in es) es empty_draft)

-- so it has no fault and no records
pub deletion_fine : (msg : List ℕ) → kind_of msg ≡ deletion → read_fault msg ≡ none
unfolding read_fault fault_in
deletion_fine msg e = rw (deletion_read msg e)

pub deletion_empty : (msg : List ℕ) → kind_of msg ≡ deletion → Empty (read_request msg)
unfolding read_request asked_in request_from collect any
deletion_empty msg e = rw (deletion_read msg e) (record { seid = refl; pdrs = refl; endpoints = refl; changes = refl; gone_pdrs = refl; gone_endpoints = refl; unsupported = refl })

-- and neither has what a set deletion lists
pub listing_empty : (cs : List Fqcsid) → Empty (listing cs)
unfolding listing
listing_empty cs = record { seid = refl; pdrs = refl; endpoints = refl; changes = refl; gone_pdrs = refl; gone_endpoints = refl; unsupported = refl }

-- with no records no rule is broken and nothing is short
module _ (s : Settings) (m : Sessions) (x : Session) (r : Request) (e : Empty r) where
  no_fteids : fteids_of r ≡ []
  unfolding fteids_of collect
  no_fteids = rw (e.endpoints, e.pdrs)

  no_addresses : addresses_of r ≡ []
  unfolding addresses_of collect
  no_addresses = rw (e.endpoints, e.pdrs)

  allocated : invalid_allocation r ≡ false
  unfolding invalid_allocation any
  allocated = rw no_fteids

  no_holdings : restored_holdings r ≡ []
  unfolding restored_holdings collect
  no_holdings = rw (e.endpoints, e.pdrs)

  kept : breaks_rule s m x r ≡ false
  unfolding breaks_rule request_rules broken_rules id_twice created_live absent_id updates_removed names_absent clash address_clash restored_addresses created_pdrs created_endpoints updated_pdrs has_repeat any_in all_in any all_pairs keep collect
  kept = rw (no_fteids, no_addresses, no_holdings, e.pdrs, e.endpoints, e.changes, e.gone_pdrs, e.gone_endpoints)

  needs_none : needed r ≡ 0
  unfolding needed need need_of choices keep collect distinct
  needs_none = rw (no_holdings, e.endpoints, e.pdrs)

  addressed : address_lacks s m r ≡ false
  unfolding address_lacks any
  addressed = rw no_addresses

  pub no_reports_lem : (got : Kind → ℕ → Got) → reports got r ≡ no_reports
  unfolding reports keep
  no_reports_lem got = rw (e.endpoints, e.pdrs)

  few_pdrs_lem : length x.pdrs ≤ 16 → too_many_pdrs x r ≡ false
  unfolding too_many_pdrs
  few_pdrs_lem a = let n = ap length e.pdrs in le-ltb max_pdrs (length x.pdrs - length (removed_pdrs r x.pdrs) + length r.pdrs) (omega arith)

  few_endpoints_lem : length x.endpoints ≤ 8 → too_many_endpoints x r ≡ false
  unfolding too_many_endpoints
  few_endpoints_lem b = let n = ap length e.endpoints in le-ltb max_endpoints (length x.endpoints - length r.gone_endpoints + length r.endpoints) (omega arith)

  -- of either peer, on a table that is not broken
  module _ (who : ℕ) (known : T (is_peer who)) (peers : PeersKept s m) where
    room : (kind : ℕ) → eqb kind establishment ≡ false → length x.pdrs ≤ 16 → length x.endpoints ≤ 8 → room_lacks kind s who m x r ≡ false
    unfolding room_lacks too_many_sessions
    room kind k a b = rw (is_false (too_few_teids s who m r) (nothing_needed s who m r known peers needs_none), k, few_pdrs_lem a, few_endpoints_lem b)

    pub accepted_empty : (kind : ℕ) → eqb kind establishment ≡ false → length x.pdrs ≤ 16 → length x.endpoints ≤ 8 → judge kind s who m x r ≡ plain why.accepted
    unfolding judge reasons already_live
    accepted_empty kind k a b = rw (kept, room kind k a b, addressed, allocated, k, e.unsupported)
