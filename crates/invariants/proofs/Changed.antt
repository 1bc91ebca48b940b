-- The session that an accepted establishment or modification makes or changes keeps the rules and shares no TEID and no address with another.
-- Assumes nothing.
use mathlib.Core.Path.{◌≡◌, refl, sym, subst, ◌∙◌, ap}
use Prim.Native.Nat.{ℕ, ◌^◌, ◌≤◌, ◌+◌, ◌<◌}
use mathlib.Core.Bool.{Bool, true, false, not, ◌&&◌}
use mathlib.Core.Option.{Option, none, some}
use mathlib.Core.List.{List}
use lib.ListN.{length}
use lib.Dec.{T, ltb, eqb, eqb→eq, leb, ltb→lt, nleb→lt}
use Rattle.octets.specs.Choice.{pick, is_some, value_or, flag}
use Rattle.octets.specs.Octets.{octets}
use Rattle.octets.specs.Lists.{member, any_in, ascending, all, all_pairs, keep, find_by, collect, distinct}
use Rattle.octets.proofs.ListLaws.{not_not, all_every, all_always, found_passes, found_knows, found_others}
use Rattle.rules.specs.Model.{Settings, Session, Sessions, session_holdings, session_teids, held_teids, free_teids, session_addresses, held_addresses, key_for, session_key, is_peer, other_peer, has_peer, half, of_peer}
use Rattle.rules.specs.Sound.{session_allowed, sessions_allowed, apart}
use Rattle.rules.specs.Message.{kind_of, header_seid, set_deletion}
use Rattle.rules.specs.Reading.{read_fault, read_request}
use Rattle.rules.specs.Request.{Request}
use Rattle.rules.specs.Grants.{Kind, chosen_address, Got, granted, need}
use Rattle.rules.specs.Stages.{has_key, session_of, is_live, new_session, at_entry, entry_session, unknown_session, invalid_allocation, address_lacks, unnamed, too_many_sessions, needed}
use Rattle.rules.specs.Apply.{apply, other_session, remove_session, put_session}
use Rattle.invariants.proofs.Beside.{apart_turn, insert_apart}
use Rattle.invariants.proofs.VerdictLaws.{Passed}
use Rattle.invariants.proofs.GrantLaws.{enough}
use Rattle.laws.proofs.ReadLaws.{SeidRead}
use Rattle.laws.proofs.RequestLaws.{RequestRead, request_read, seid_read_lem}
use Rattle.laws.proofs.KeptRules.{SessionKept, session_kept, session_allowed_lem, sessions_kept}
use Rattle.laws.proofs.KeptRequest.{RulesKept, RoomLeft}
use Rattle.invariants.proofs.ChangedCsids.{CsidsKept, csids_kept, csids_few_lem}
use Rattle.invariants.proofs.ChangedRecords.{endpoints_few_lem, endpoints_order, endpoints_allowed, pdrs_few_lem, pdrs_order, pdrs_allowed}
use Rattle.invariants.proofs.HeldLaws.{all_held, all_addresses_held}
use Rattle.invariants.proofs.ChangedHolds.{changed_agree}
use Rattle.invariants.proofs.ChangedAddresses.{changed_apart}
use Rattle.laws.proofs.GrantLaws.{chosen_address_fits}
use Rattle.invariants.proofs.After.{changed, ChangedSound, found_key}
use Rattle.laws.proofs.HeaderLaws.{unnamed_new}
use Rattle.laws.proofs.PeerLaws.{peer_cases, PeersKept, peers_kept_lem, key_peer, header_seid_fits}
use Rattle.invariants.proofs.Totals.{total, total_insert, total_keep, total_found, peer_sessions, peer_teids, count_total, holdings_total}
use Rattle.invariants.proofs.PeersAfter.{admitted_kept}
use Rattle.invariants.proofs.NeededTeids.{changed_few}
use native.Mathlib.Omega.{arith}
use mir.Facts.{yes_eqb}
use Rattle.octets.proofs.Tests.{is_true, is_false}
use Rattle.octets.proofs.Ordered.{keep_pairs}

-- ---- the session at entry

-- it keeps the rules, its TEIDs and its addresses of the pool are held, and no other session holds them; it is the peer's, and what the others of the
-- peer hold is what the peer holds less its own
pub record Entry (s : Settings) (who : ℕ) (m : Sessions) (x : Session) : Type 0 where
  pub kept : SessionKept s x
  pub held : T (all (λ n. member n (held_teids m)) (session_teids x))
  pub held_addresses : T (all (λ n. member n (held_addresses s m)) (session_addresses s x))
  pub separate : T (all (apart s x) (remove_session (session_key x) m))
  pub peer : x.peer ≡ who
  pub weighed : peer_teids who x + total (peer_teids who) (remove_session (session_key x) m) ≤ total (peer_teids who) m

-- an empty session holds nothing
empty_weighs : (who : ℕ) (m : Sessions) (n : ℕ) → peer_teids who (new_session who n) + total (peer_teids who) (remove_session (key_for who n) m) ≤ total (peer_teids who) m
unfolding remove_session new_session session_teids session_holdings collect distinct
empty_weighs who m n =
    let a = total_keep (peer_teids who) (other_session (key_for who n)) m in
    let b = nothing (has_peer who (new_session who n)) in
    omega arith
  where
    nothing : (b : Bool) → pick {X = ℕ} b 0 0 ≡ 0
    nothing true = refl
    nothing false = refl

-- a new session
new_entry : (s : Settings) (who : ℕ) (m : Sessions) (n : ℕ) → T (is_peer who) → SeidRead n → Entry s who m (new_session who n)
unfolding new_session
new_entry s who m n hw h =
    record {
      kept = record {
        records = record {
          seid = h.nonzero;
          seid_fits = h.fits;
          few_pdrs = tt;
          pdr_order = unfold ascending in tt;
          pdrs = unfold all in tt;
          few_endpoints = tt;
          endpoint_order = unfold ascending in tt;
          endpoints = unfold all in tt;
          few_csids = tt;
          csid_order = unfold ascending in tt;
          csids = unfold all in tt;
          peer = hw;
        };
        holds = unfold session_holdings collect all_pairs in tt;
      };
      held = unfold session_teids session_holdings collect all in tt;
      held_addresses = unfold session_addresses collect keep all in tt;
      separate = all_always (apart s (new_session who n)) (λ z. unfold apart session_teids session_holdings session_addresses collect keep any_in in tt) (remove_session (key_for who n) m);
      peer = refl;
      weighed = empty_weighs who m n;
    }

-- the one found has the key
pub found_has : (m : Sessions) (k : ℕ) (x : Session) → find_by (has_key k) m ≡ some x → session_key x ≡ k
unfolding has_key
found_has m k x e = eqb→eq (session_key x) k (found_passes (has_key k) m x e)

-- no other session holds its TEIDs or addresses
found_separate : (s : Settings) (m : Sessions) (k : ℕ) (x : Session) → T (all_pairs (apart s) m) → find_by (has_key k) m ≡ some x → T (all (apart s x) (remove_session (session_key x) m))
unfolding remove_session other_session
found_separate s m k x h e =
    subst (λ (i : ℕ). T (all (apart s x) (keep (λ z. not (has_key i z)) m))) (sym (found_has m k x e)) (found_others (apart s) (apart_turn s) (has_key k) m x h e)

-- what it comes to, and what the others do
found_weighed : (w : Session → ℕ) (m : Sessions) (k : ℕ) (x : Session) → find_by (has_key k) m ≡ some x → w x + total w (remove_session (session_key x) m) ≤ total w m
unfolding remove_session other_session
found_weighed w m k x e = subst (λ (i : ℕ). w x + total w (keep (λ z. not (has_key i z)) m) ≤ total w m) (sym (found_has m k x e)) (total_found w (has_key k) m x e)

-- a live one
found_entry : (s : Settings) (who : ℕ) (m : Sessions) (n : ℕ) → n < 2 ^ 64 → T (sessions_allowed s m) → T (is_live (key_for who n) m) → Entry s who m (value_or (new_session who n) (session_of (key_for who n) m))
unfolding is_live session_of
found_entry s who m n fits hm live = one (find_by (has_key (key_for who n)) m) refl live
  where
    one : (o : Option Session) → find_by (has_key (key_for who n)) m ≡ o → T (is_some o) → Entry s who m (value_or (new_session who n) o)
    one none e h = absurd h
    one (some x) e h =
        let key = key_for who n in
        let k = sessions_kept s m hm in
        let kept' = session_kept s x (found_knows (λ z. T (session_allowed s z)) (has_key key) m x (all_every (session_allowed s) m k.sessions) e) in
        record {
          kept = kept';
          held = found_knows (λ z. T (all (λ t. member t (held_teids m)) (session_teids z))) (has_key key) m x (all_every (λ z. all (λ t. member t (held_teids m)) (session_teids z)) m (all_held m)) e;
          held_addresses = found_knows (λ z. T (all (λ t. member t (held_addresses s m)) (session_addresses s z))) (has_key key) m x
              (all_every (λ z. all (λ t. member t (held_addresses s m)) (session_addresses s z)) m (all_addresses_held s m)) e;
          separate = found_separate s m key x k.separate e;
          peer = key_peer x.peer x.seid who n (ltb→lt x.seid (2 ^ 64) kept'.records.seid_fits) fits (found_has m key x e);
          weighed = found_weighed (peer_teids who) m key x e;
        }

-- the one that a request without a fault is about
pub entry_known : (s : Settings) (who : ℕ) (m : Sessions) (msg : List ℕ) → T (is_peer who) → T (sessions_allowed s m) → T (octets msg) → T (not (eqb (kind_of msg) set_deletion)) → T (not (unknown_session who m msg)) → read_fault msg ≡ none → Entry s who m (entry_session who m msg)
unfolding entry_session at_entry unknown_session
entry_known s who m msg hw hm ho ns known read = one (unnamed (kind_of msg)) refl known
  where
    one : (b : Bool) → unnamed (kind_of msg) ≡ b → T (not (not b && not (is_live (key_for who (header_seid msg)) m)))
        → Entry s who m (pick b (new_session who (read_request msg).seid) (value_or (new_session who (header_seid msg)) (session_of (key_for who (header_seid msg)) m)))
    one true e k = new_entry s who m (read_request msg).seid hw (seid_read_lem msg ho (subst T (sym e ∙ unnamed_new (kind_of msg) ns) tt) read)
    one false e k = found_entry s who m (header_seid msg) (header_seid_fits msg ho) hm (not_not (is_live (key_for who (header_seid msg)) m) k)

-- the one that an accepted request is about
pub entry_sound : (s : Settings) (who : ℕ) (m : Sessions) (msg : List ℕ) → T (is_peer who) → T (sessions_allowed s m) → T (octets msg) → T (not (eqb (kind_of msg) set_deletion)) → Passed s who m msg → Entry s who m (entry_session who m msg)
entry_sound s who m msg hw hm ho ns p = entry_known s who m msg hw hm ho ns p.known p.read

-- ---- room for it

-- a live session leaves its place to the changed one
pub found_room : (s : Settings) (who : ℕ) (m : Sessions) (n : ℕ) → n < 2 ^ 64 → T (sessions_allowed s m) → T (is_live (key_for who n) m) → 1 + total (peer_sessions who) (remove_session (key_for who n) m) ≤ total (peer_sessions who) m
unfolding is_live session_of remove_session other_session
found_room s who m n fits hm live = one (find_by (has_key (key_for who n)) m) refl live
  where
    one : (o : Option Session) → find_by (has_key (key_for who n)) m ≡ o → T (is_some o) → 1 + total (peer_sessions who) (keep (λ z. not (has_key (key_for who n) z)) m) ≤ total (peer_sessions who) m
    one none e h = absurd h
    one (some x) e h =
        let key = key_for who n in
        let fits' = (session_kept s x (found_knows (λ z. T (session_allowed s z)) (has_key key) m x (all_every (session_allowed s) m (sessions_kept s m hm).sessions) e)).records.seid_fits in
        let own = key_peer x.peer x.seid who n (ltb→lt x.seid (2 ^ 64) fits') fits (found_has m key x e) in
        let a = total_found (peer_sessions who) (has_key key) m x e in
        let b : peer_sessions who x ≡ 1 = unfold has_peer in (ap flag (is_true (eqb x.peer who) (yes_eqb own))) in
        omega arith

-- a new session has room by the limit, a changed one has its own place
own_room : (s : Settings) (who : ℕ) (m : Sessions) (msg : List ℕ) → T (sessions_allowed s m) → T (is_peer who) → T (octets msg) → T (not (eqb (kind_of msg) set_deletion)) → Passed s who m msg
    → 1 + total (peer_sessions who) (remove_session (session_key (entry_session who m msg)) m) ≤ half s
unfolding entry_session at_entry too_many_sessions unknown_session
own_room s who m msg hm hw ho ns p = one (unnamed (kind_of msg)) p.known (subst (λ (b : Bool). T (not (b && leb (half s) (length (of_peer who m))))) (sym (unnamed_new (kind_of msg) ns)) p.room.sessions)
  where
    one : (b : Bool) → T (not (not b && not (is_live (key_for who (header_seid msg)) m))) → T (not (b && leb (half s) (length (of_peer who m))))
        → 1 + total (peer_sessions who) (remove_session (session_key (pick b (new_session who (read_request msg).seid) (value_or (new_session who (header_seid msg)) (session_of (key_for who (header_seid msg)) m)))) m) ≤ half s
    one true known space =
        let a = nleb→lt (half s) (length (of_peer who m)) space in
        let b = count_total who m in
        let c = removed_fewer (session_key (new_session who (read_request msg).seid)) in
        omega arith
      where
        removed_fewer : (k : ℕ) → total (peer_sessions who) (remove_session k m) ≤ total (peer_sessions who) m
        removed_fewer k = unfold remove_session in (total_keep (peer_sessions who) (other_session k) m)
    one false known space =
        let there = not_not (is_live (key_for who (header_seid msg)) m) known in
        let a = found_room s who m (header_seid msg) (header_seid_fits msg ho) hm there in
        let b = count_total who m in
        let c = (peers_kept_lem s m hm).sessions who hw in
        subst (λ (k : ℕ). 1 + total (peer_sessions who) (remove_session k m) ≤ half s) (sym (found_key who (header_seid msg) m there)) (omega arith)

-- ---- the session afterwards

module _ (kind : ℕ) (s : Settings) (who : ℕ) (m : Sessions) (x : Session) (r : Request) (entry : Entry s who m x) (rules : RulesKept s m x r) (room : RoomLeft kind s who m x r) (read : RequestRead r)
    (enough' : need r ≤ length (free_teids s m)) (ok : T (not (invalid_allocation r))) (found : T (not (address_lacks s m r))) (fits : T (ltb (chosen_address s m) (2 ^ 32))) where
  -- what the records get
  abbrev got : Kind → ℕ → Got
  got = granted s m r

  -- its FQ-CSIDs
  csids_after : CsidsKept (apply got r x).csids
  unfolding apply
  csids_after = csids_kept r.csids x.csids read.csids (record { order = entry.kept.records.csid_order; each = entry.kept.records.csids })

  -- it keeps every rule
  pub applied_kept : SessionKept s (apply got r x)
  applied_kept =
      let k = entry.kept in
      record {
        records = record {
          seid = unfold apply in k.records.seid;
          seid_fits = unfold apply in k.records.seid_fits;
          few_pdrs = unfold apply in (pdrs_few_lem kind s who m x r k rules room read enough' fits);
          pdr_order = unfold apply in (pdrs_order kind s who m x r k rules room read enough' fits);
          pdrs = unfold apply in (pdrs_allowed kind s who m x r k rules room read enough' fits);
          few_endpoints = unfold apply in (endpoints_few_lem kind s who m x r k rules room read enough' fits);
          endpoint_order = unfold apply in (endpoints_order kind s who m x r k rules room read enough' fits);
          endpoints = unfold apply in (endpoints_allowed kind s who m x r k rules room read enough' fits);
          few_csids = csids_few_lem (apply got r x).csids csids_after;
          csid_order = csids_after.order;
          csids = csids_after.each;
          peer = unfold apply in k.records.peer;
        };
        holds = changed_agree s m x r k rules read enough' entry.held ok;
      }

  -- and no other session holds its TEIDs or addresses
  pub applied_separate : T (all (apart s (apply got r x)) (remove_session (session_key x) m))
  unfolding remove_session
  applied_separate = changed_apart s m x r rules found entry.kept read enough' entry.held (other_session (session_key x)) entry.separate

  -- ---- with it both peers have what is theirs

  -- what the sessions come to afterwards
  put_total : (w : Session → ℕ) → total w (put_session (apply got r x) m) ≡ w (apply got r x) + total w (remove_session (session_key x) m)
  unfolding put_session apply
  put_total w = total_insert w session_key (apply got r x) (remove_session (session_key x) m)

  -- no more for the other peer
  put_others : (w : Session → ℕ) → w (apply got r x) ≡ 0 → total w (put_session (apply got r x) m) ≤ total w m
  put_others w e = let a = put_total w in let b = removed in omega arith
    where
      removed : total w (remove_session (session_key x) m) ≤ total w m
      removed = unfold remove_session in (total_keep w (other_session (session_key x)) m)

  -- the session is the peer's
  own_is : has_peer who (apply got r x) ≡ true
  unfolding has_peer apply
  own_is = is_true (eqb x.peer who) (yes_eqb entry.peer)

  other_is : T (is_peer who) → has_peer (other_peer who) (apply got r x) ≡ false
  unfolding has_peer apply
  other_is hw = ap (λ (n : ℕ). eqb n (other_peer who)) entry.peer ∙ is_false (eqb who (other_peer who)) (unfold other_peer in (peer_cases (λ (n : ℕ). T (not (eqb n (pick (eqb n 1) 2 1)))) tt tt who hw))

  pub applied_peers : T (is_peer who) → PeersKept s m → T (all_pairs (apart s) m) → T (all_pairs (apart s) (put_session (apply got r x) m)) → 1 + total (peer_sessions who) (remove_session (session_key x) m) ≤ half s
      → PeersKept s (put_session (apply got r x) m)
  applied_peers hw peers far far' space =
      admitted_kept s who hw m (put_session (apply got r x) m) (needed r) peers (record {
        own =
            let a = count_total who (put_session (apply got r x) m) in
            let b = put_total (peer_sessions who) in
            let c = ap flag own_is in
            omega arith;
        others =
            let a = count_total (other_peer who) (put_session (apply got r x) m) in
            let b = count_total (other_peer who) m in
            let c = put_others (peer_sessions (other_peer who)) (ap flag (other_is hw)) in
            omega arith;
        more =
            let a = holdings_total s who (put_session (apply got r x) m) far' in
            let b = holdings_total s who m far in
            let c = put_total (peer_teids who) in
            let d = ap (λ (b : Bool). pick {X = ℕ} b (distinct (session_teids (apply got r x))) 0) own_is in
            let e = entry.weighed in
            let f = changed_few s m x r rules enough' in
            let g : peer_teids who x ≡ distinct (session_teids x) = unfold has_peer in (ap (λ (b : Bool). pick {X = ℕ} b (distinct (session_teids x)) 0) (is_true (eqb x.peer who) (yes_eqb entry.peer))) in
            omega arith;
        same =
            let a = holdings_total s (other_peer who) (put_session (apply got r x) m) far' in
            let b = holdings_total s (other_peer who) m far in
            let c = put_others (peer_teids (other_peer who)) (ap (λ (b : Bool). pick {X = ℕ} b (distinct (session_teids (apply got r x))) 0) (other_is hw)) in
            omega arith;
        limit = room.limit;
        pool = room.pool;
      })

-- the open fact of the sequence claim
pub changed_sound : ChangedSound
unfolding ChangedSound changed
changed_sound s who m msg hw hs hm ho hk ns nd p =
    let k = sessions_kept s m hm in
    let x = entry_session who m msg in
    let r = read_request msg in
    let entry = entry_sound s who m msg hw hm ho ns p in
    let rules = p.rules in
    let room = p.room in
    let far = applied_separate (kind_of msg) s who m x r entry rules room (request_read msg ho) (enough hw hm p) p.allocation p.address (chosen_address_fits s hs m) in
    record {
      sound = unfold changed in (session_allowed_lem (applied_kept (kind_of msg) s who m x r entry rules room (request_read msg ho) (enough hw hm p) p.allocation p.address (chosen_address_fits s hs m)));
      separate = unfold changed apply in far;
      peers = unfold changed in (
          applied_peers (kind_of msg) s who m x r entry rules room (request_read msg ho) (enough hw hm p) p.allocation p.address (chosen_address_fits s hs m) hw (peers_kept_lem s m hm) k.separate
          (unfold put_session apply in (insert_apart s (apply (granted s m r) r x) (remove_session (session_key x) m) far (unfold remove_session in (keep_pairs (other_session (session_key x)) (apart s) m k.separate))))
          (own_room s who m msg hm hw ho ns p));
    }
