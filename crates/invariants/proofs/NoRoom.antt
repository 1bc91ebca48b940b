-- Cause 75 is answered exactly when no earlier fault stands and the limits leave no room, and cause 79 exactly when they leave room, some record
-- chooses an address and none is free (02 (v)); and what "no room" says of the sessions that would result.
-- Assumes nothing.
use mathlib.Core.Path.{◌≡◌, refl, sym, ap, ap₂, ◌∙◌, subst}
use Prim.Native.Nat.{ℕ, suc, ◌+◌, ◌-◌, ◌≤◌}
use native.Mathlib.Omega.{arith}
use mathlib.Core.Bool.{Bool, true, false, not, ◌&&◌, ◌||◌}
use mathlib.Core.List.{List, [], ◌∷◌, map}
use lib.ListN.{length, length-map}
use lib.Dec.{T, leb, ltb, eqb, eqb→eq, leb-suc-suc}
use mir.Facts.{no_ltb, yes_eqb}
use Rattle.octets.specs.Choice.{pick, one_of, value_or, flag}
use Rattle.octets.specs.Octets.{octets}
use Rattle.octets.specs.Lists.{member, ascending, keep, insert_by, all}
use Rattle.octets.proofs.Tests.{pick_yes, is_false, of_true, is_true}
use Rattle.octets.proofs.ListLaws.{not_not, none_found, by_test}
use Rattle.invariants.proofs.InsertLaws.{keep_everything}
use Rattle.invariants.proofs.RecordsAfter.{after, after_count}
use Rattle.rules.specs.Model.{Settings, Session, Sessions, pdr_id, endpoint_id, session_key, key_for, is_peer, half, of_peer, has_peer}
use Rattle.rules.specs.Limits.{max_pdrs, max_endpoints}
use Rattle.rules.specs.Layout.{view_settings, view_sessions}
use Rattle.rules.specs.Sound.{sessions_allowed}
use Rattle.rules.specs.Message.{kind_of, header_seid, establishment, deletion, set_deletion}
use Rattle.rules.specs.Reading.{read_request}
use Rattle.rules.specs.Request.{Request}
use Rattle.rules.specs.Grants.{Kind, Got, granted}
use Rattle.rules.specs.Stages.{has_key, session_of, is_live, new_session, at_entry, live_endpoints, removed_pdrs, too_many_sessions, too_many_pdrs, too_many_endpoints, too_few_teids, room_lacks, address_lacks, entry_session, unknown_session, verdict, unnamed, already_live}
use Rattle.rules.specs.Apply.{made_pdr, made_endpoint, update_all, kept_pdr, kept_endpoint, pdrs_after, endpoints_after, apply, other_session, remove_session, put_session, follow, stays_session}
use Rattle.rules.specs.Serve.{sessions_after, serve}
use Rattle.rules.specs.Live.{reply_cause}
use Rattle.rules.specs.Causes as why
use Rattle.laws.proofs.ReasonLaws.{first_past, first_rest, first_holds_lem}
use Rattle.laws.proofs.KeptRules.{table_kept}
use Rattle.laws.proofs.KeptRequest.{RulesKept, rules_kept}
use Rattle.invariants.proofs.VerdictLaws.{Reached, reached, reached_cause, no_room, no_address}
use Rattle.invariants.proofs.RemovedPdrs.{removed_live, removed_once}
use Rattle.invariants.proofs.ChangedRecords.{update_map, update_id}
use Rattle.invariants.proofs.After.{changed, found_key}
use Rattle.invariants.proofs.Changed.{entry_known, found_room}
use Rattle.invariants.proofs.ServeLaws.{answers, served_cause}
use Rattle.laws.proofs.HeaderLaws.{unnamed_new, unnamed_sets}
use Rattle.invariants.proofs.Totals.{total, total_insert, total_keep, peer_sessions, count_total}
use Rattle.laws.proofs.PeerLaws.{peers_kept_lem, header_seid_fits}

-- ---- exactly when

module _ (s : Settings) (who : ℕ) (m : Sessions) (msg : List ℕ) where
  -- the limits leave no room for the request
  abbrev pub Full : Type 0
  Full = T (room_lacks (kind_of msg) s who m (entry_session who m msg) (read_request msg))

  -- it chooses an address, and none is free
  abbrev pub Unaddressed : Type 0
  Unaddressed = T (address_lacks s m (read_request msg))

  -- 75 only then
  pub cause_75 : (verdict s who m msg).cause ≡ why.no_room → Reached s who m msg × Full
  unfolding member all
  cause_75 e =
      let k = reached s who m msg why.no_room tt tt e in
      (k.0, first_holds_lem (no_room s who m msg) (no_address s who m msg ∷ []) tt tt k.1)

  -- 79 only where there is room, and no address
  pub cause_79 : (verdict s who m msg).cause ≡ why.no_address → Reached s who m msg × (T (not (room_lacks (kind_of msg) s who m (entry_session who m msg) (read_request msg))) × Unaddressed)
  unfolding member all
  cause_79 e =
      let k = reached s who m msg why.no_address tt tt e in
      let p = first_past why.no_address (no_room s who m msg ∷ []) (no_address s who m msg ∷ []) tt k.1 in
      (k.0, (p.0.0, first_holds_lem (no_address s who m msg) [] tt tt p.1))

  -- 75 always then
  pub verdict_75 : Reached s who m msg → Full → (verdict s who m msg).cause ≡ why.no_room
  verdict_75 p full = reached_cause s who m msg p ∙ pick_yes (room_lacks (kind_of msg) s who m (entry_session who m msg) (read_request msg)) why.no_room _ full

  -- 79 always then
  pub verdict_79 : Reached s who m msg → T (not (room_lacks (kind_of msg) s who m (entry_session who m msg) (read_request msg))) → Unaddressed → (verdict s who m msg).cause ≡ why.no_address
  verdict_79 p room full =
      reached_cause s who m msg p
      ∙ first_rest (no_room s who m msg ∷ []) (no_address s who m msg ∷ []) (room, tt)
      ∙ pick_yes (address_lacks s m (read_request msg)) why.no_address why.accepted full

-- ---- what would result

-- 01's words, with 02 (xiv): more of the peer's sessions than half the limit, 16 PDRs or 8 endpoints would result; or what the peer holds at entry and the
-- need pass its limit, or these, the other's holdings and what of its guarantee it doesn't use pass the pool
unfoldable pub over_limits : Settings → ℕ → Sessions → List ℕ → List Bool
over_limits s who m msg =
    ltb (half s) (length (of_peer who (sessions_after s who m msg)))
    ∷ ltb max_pdrs (length (changed s who m msg).pdrs)
    ∷ ltb max_endpoints (length (changed s who m msg).endpoints)
    ∷ too_few_teids s who m (read_request msg)
    ∷ []

-- a number at most another is not above it
not_above : (n k : ℕ) → k ≤ n → ltb n k ≡ false
not_above n k h = is_false (ltb n k) (no_ltb h)

-- a session put in its place
put_count : (who : ℕ) (y : Session) (m : Sessions) → length (of_peer who (put_session y m)) ≡ peer_sessions who y + total (peer_sessions who) (remove_session (session_key y) m)
unfolding put_session
put_count who y m = count_total who (insert_by session_key y (remove_session (session_key y) m)) ∙ total_insert (peer_sessions who) session_key y (remove_session (session_key y) m)

-- where no session has the key, none is taken out
absent_stays : (n : ℕ) (m : Sessions) → T (not (is_live n m)) → remove_session n m ≡ m
unfolding is_live session_of remove_session other_session
absent_stays n m h = keep_everything (λ z. not (has_key n z)) m (none_found (has_key n) m h)

module _ (s : Settings) (who : ℕ) (m : Sessions) (msg : List ℕ) (hw : T (is_peer who)) (hm : T (sessions_allowed s m)) (ho : T (octets msg)) (p : Reached s who m msg) where
  -- the session at entry
  abbrev x : Session
  x = entry_session who m msg

  -- the request
  abbrev r : Request
  r = read_request msg

  -- a set deletion is about a session without records
  sets_entry : T (eqb (kind_of msg) set_deletion) → x ≡ new_session who r.seid
  unfolding entry_session at_entry
  sets_entry d = pick_yes (unnamed (kind_of msg)) (new_session who r.seid) _ (of_true (unnamed_sets (kind_of msg) (eqb→eq (kind_of msg) set_deletion d)))

  -- what is known of the session at entry
  pdr_order_lem : T (ascending (map pdr_id x.pdrs))
  pdr_order_lem =
      by_test (eqb (kind_of msg) set_deletion) (λ d. subst (λ (y : Session). T (ascending (map pdr_id y.pdrs))) (sym (sets_entry d)) (unfold new_session ascending in tt))
      (λ ns. (entry_known s who m msg hw hm ho ns p.known p.read).kept.records.pdr_order)

  endpoint_order_lem : T (ascending (map endpoint_id x.endpoints))
  endpoint_order_lem =
      by_test (eqb (kind_of msg) set_deletion) (λ d. subst (λ (y : Session). T (ascending (map endpoint_id y.endpoints))) (sym (sets_entry d)) (unfold new_session ascending in tt))
      (λ ns. (entry_known s who m msg hw hm ho ns p.known p.read).kept.records.endpoint_order)

  -- the rules that the request keeps
  rules : RulesKept s m x r
  rules = rules_kept s m x r p.rules

  -- the peer's sessions at entry are within its half
  few : length (of_peer who m) ≤ half s
  few = (peers_kept_lem s m hm).sessions who hw

  -- and so are fewer
  kept_few : (q : Session → Bool) → length (of_peer who (keep q m)) ≤ half s
  kept_few q =
      let a = count_total who (keep q m) in
      let b = count_total who m in
      let c = total_keep (peer_sessions who) q m in
      let d = few in
      omega arith

  -- the changed session is the peer's
  own_one : T (not (eqb (kind_of msg) set_deletion)) → peer_sessions who (apply (granted s m r) r (at_entry (kind_of msg) who (header_seid msg) r m)) ≡ 1
  unfolding apply has_peer entry_session
  own_one ns =
      let e : (at_entry (kind_of msg) who (header_seid msg) r m).peer ≡ who = (entry_known s who m msg hw hm ho ns p.known p.read).peer in
      ap flag (is_true (eqb (at_entry (kind_of msg) who (header_seid msg) r m).peer who) (yes_eqb e))

  -- the number of the peer's sessions
  sessions_exact : ltb (half s) (length (of_peer who (sessions_after s who m msg))) ≡ too_many_sessions s who (kind_of msg) m
  unfolding sessions_after follow too_many_sessions already_live
  sessions_exact = sets (eqb (kind_of msg) set_deletion) refl
    where
      y : Session
      y = apply (granted s m r) r (at_entry (kind_of msg) who (header_seid msg) r m)

      own : T (not (eqb (kind_of msg) set_deletion)) → peer_sessions who y ≡ 1
      own ns = own_one ns

      key_new : unnamed (kind_of msg) ≡ true → session_key y ≡ key_for who r.seid
      key_new e = unfold apply at_entry new_session in (ap {B = ℕ} (λ (b : Bool). session_key (pick b (new_session who r.seid) (value_or (new_session who (header_seid msg)) (session_of (key_for who (header_seid msg)) m)))) e)

      key_old : unnamed (kind_of msg) ≡ false → T (is_live (key_for who (header_seid msg)) m) → session_key y ≡ key_for who (header_seid msg)
      key_old e live = unfold apply at_entry in (ap {B = ℕ} (λ (b : Bool). session_key (pick b (new_session who r.seid) (value_or (new_session who (header_seid msg)) (session_of (key_for who (header_seid msg)) m)))) e ∙ found_key who (header_seid msg) m live)

      live_header : unnamed (kind_of msg) ≡ false → T (is_live (key_for who (header_seid msg)) m)
      live_header e = unfold unknown_session in (not_not (is_live (key_for who (header_seid msg)) m) (subst (λ (b : Bool). T (not (not b && not (is_live (key_for who (header_seid msg)) m)))) e p.known))

      new_key : eqb (kind_of msg) establishment ≡ true → T (not (is_live (key_for who r.seid) m))
      new_key e = subst (λ (b : Bool). T (not (b && is_live (key_for who r.seid) m))) e p.fresh

      -- one more, or as many as before
      one_more : T (not (eqb (kind_of msg) set_deletion)) → eqb (kind_of msg) establishment ≡ true → length (of_peer who (put_session y m)) ≡ suc (length (of_peer who m))
      one_more ns e =
          let a = put_count who y m in
          let b = own ns in
          let c = ap (total (peer_sessions who)) (ap (λ (k : ℕ). remove_session k m) (key_new (unnamed_new (kind_of msg) ns ∙ e)) ∙ absent_stays (key_for who r.seid) m (new_key e)) in
          let d = count_total who m in
          omega arith

      no_more : T (not (eqb (kind_of msg) set_deletion)) → unnamed (kind_of msg) ≡ false → length (of_peer who (put_session y m)) ≤ half s
      no_more ns e =
          let a = put_count who y m in
          let b = own ns in
          let c = ap (λ (k : ℕ). total (peer_sessions who) (remove_session k m)) (key_old e (live_header e)) in
          let d = count_total who m in
          let f = found_room s who m (header_seid msg) (header_seid_fits msg ho) hm (live_header e) in
          let g = few in
          omega arith

      go : T (not (eqb (kind_of msg) set_deletion)) → (a : Bool) → eqb (kind_of msg) deletion ≡ a → (b : Bool) → eqb (kind_of msg) establishment ≡ b
          → ltb (half s) (length (of_peer who (pick a (remove_session (key_for who (header_seid msg)) m) (put_session y m)))) ≡ (b && leb (half s) (length (of_peer who m)))
      go ns true d true e =
          let k : kind_of msg ≡ deletion = eqb→eq (kind_of msg) deletion (subst T (sym d) tt) in
          let l : kind_of msg ≡ establishment = eqb→eq (kind_of msg) establishment (subst T (sym e) tt) in
          absurd (omega arith)
      go ns true d false e = not_above (half s) (length (of_peer who (remove_session (key_for who (header_seid msg)) m))) (unfold remove_session in (kept_few (other_session (key_for who (header_seid msg)))))
      go ns false d true e = ap (ltb (half s)) (one_more ns e) ∙ leb-suc-suc (half s) (length (of_peer who m))
      go ns false d false e = not_above (half s) (length (of_peer who (put_session y m))) (no_more ns (unnamed_new (kind_of msg) ns ∙ e))

      sets : (a : Bool) → eqb (kind_of msg) set_deletion ≡ a
          → ltb (half s) (length (of_peer who (pick a (keep (stays_session who r.listed) m) (pick (eqb (kind_of msg) deletion) (remove_session (key_for who (header_seid msg)) m) (put_session y m)))))
          ≡ (eqb (kind_of msg) establishment && leb (half s) (length (of_peer who m)))
      sets true d =
          not_above (half s) (length (of_peer who (keep (stays_session who r.listed) m))) (kept_few (stays_session who r.listed))
          ∙ sym (ap (λ (k : ℕ). eqb k establishment && leb (half s) (length (of_peer who m))) (eqb→eq (kind_of msg) set_deletion (subst T (sym d) tt)))
      sets false d = go (subst (λ (b : Bool). T (not b)) (sym d) tt) (eqb (kind_of msg) deletion) refl (eqb (kind_of msg) establishment) refl

  -- the number of PDRs
  pdrs_exact : (got : Kind → ℕ → Got) → length (pdrs_after got r x.pdrs) ≡ length x.pdrs - length (removed_pdrs r x.pdrs) + length r.pdrs
  unfolding pdrs_after kept_pdr
  pdrs_exact got =
      let new = map (made_pdr got) r.pdrs in
      let gone = removed_pdrs r x.pdrs in
      let base = after pdr_id gone new x.pdrs in
      let a = after_count pdr_id gone new x.pdrs (removed_once r x.pdrs pdr_order_lem) (removed_live r x.pdrs) pdr_order_lem in
      let b = length-map r.pdrs (made_pdr got) in
      let c = ap length (update_map pdr_id update_id r.changes base) in
      let d = length-map (update_all r.changes base) pdr_id in
      let e = length-map base pdr_id in
      omega arith

  -- the number of endpoints
  endpoints_exact : (got : Kind → ℕ → Got) → length (endpoints_after got r x.endpoints) ≡ length x.endpoints - length r.gone_endpoints + length r.endpoints
  unfolding endpoints_after kept_endpoint live_endpoints
  endpoints_exact got =
      let new = map (made_endpoint got) r.endpoints in
      let a = after_count endpoint_id r.gone_endpoints new x.endpoints rules.gone_endpoints_once rules.gone_endpoints_live endpoint_order_lem in
      let b = length-map r.endpoints (made_endpoint got) in
      omega arith

  -- stage 5 tests just that
  pub full_exact : room_lacks (kind_of msg) s who m x r ≡ one_of (over_limits s who m msg)
  unfolding room_lacks over_limits too_many_pdrs too_many_endpoints changed apply
  full_exact =
      let got = granted s m r in
      ap₂ ◌||◌ (sym sessions_exact) (ap₂ ◌||◌ (ap (ltb max_pdrs) (sym (pdrs_exact got))) (ap₂ ◌||◌ (ap (ltb max_endpoints) (sym (endpoints_exact got)))
      refl))

-- ---- the same of `serve`

-- a reply has cause 75 exactly when no earlier fault stands and the limits leave no room
module _ (t : List ℕ) (who : ℕ) (msg space : List ℕ) (ho : T (octets msg)) (zero' : T (eqb (serve t who msg space).outcome 0)) where
  peer_entry : T (is_peer who)
  peer_entry = (answers t who msg space zero').peer

  -- the sessions at entry keep the rules
  sessions_entry : T (sessions_allowed (view_settings t) (view_sessions t))
  sessions_entry = (table_kept t (answers t who msg space zero').table).sessions

  -- only then
  pub served_75 : reply_cause (serve t who msg space).space ≡ why.no_room → Reached (view_settings t) who (view_sessions t) msg × T (one_of (over_limits (view_settings t) who (view_sessions t) msg))
  served_75 e =
      let k = cause_75 (view_settings t) who (view_sessions t) msg (sym (served_cause t who msg space ho zero') ∙ e) in
      (k.0, subst T (full_exact (view_settings t) who (view_sessions t) msg peer_entry sessions_entry ho k.0) k.1)

  -- and always then
  pub then_75 : Reached (view_settings t) who (view_sessions t) msg → T (one_of (over_limits (view_settings t) who (view_sessions t) msg)) → reply_cause (serve t who msg space).space ≡ why.no_room
  then_75 p full =
      served_cause t who msg space ho zero'
      ∙ verdict_75 (view_settings t) who (view_sessions t) msg p (subst T (sym (full_exact (view_settings t) who (view_sessions t) msg peer_entry sessions_entry ho p)) full)

  -- 79 only where there is room, some record chooses an address and none is free
  pub served_79 : reply_cause (serve t who msg space).space ≡ why.no_address
      → Reached (view_settings t) who (view_sessions t) msg × (T (not (one_of (over_limits (view_settings t) who (view_sessions t) msg))) × T (address_lacks (view_settings t) (view_sessions t) (read_request msg)))
  served_79 e =
      let k = cause_79 (view_settings t) who (view_sessions t) msg (sym (served_cause t who msg space ho zero') ∙ e) in
      (k.0, (subst (λ (b : Bool). T (not b)) (full_exact (view_settings t) who (view_sessions t) msg peer_entry sessions_entry ho k.0) k.1.0, k.1.1))

  -- and always then
  pub then_79 : Reached (view_settings t) who (view_sessions t) msg → T (not (one_of (over_limits (view_settings t) who (view_sessions t) msg))) → T (address_lacks (view_settings t) (view_sessions t) (read_request msg))
      → reply_cause (serve t who msg space).space ≡ why.no_address
  then_79 p room full =
      served_cause t who msg space ho zero'
      ∙ verdict_79 (view_settings t) who (view_sessions t) msg p (subst (λ (b : Bool). T (not b)) (sym (full_exact (view_settings t) who (view_sessions t) msg peer_entry sessions_entry ho p)) room) full
