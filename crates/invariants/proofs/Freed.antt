-- A TEID or an address of a session that an accepted request's removals leave unheld is free in the sessions afterwards, and so is every one of a
-- session that a set deletion takes out.
-- Assumes nothing.
use mathlib.Core.Path.{◌≡◌, refl, sym, ap, ◌∙◌, subst}
use Prim.Native.Nat.{ℕ}
use mathlib.Core.Bool.{Bool, true, false, not, ◌&&◌, ◌||◌}
use mathlib.Core.List.Permᴰ
use mathlib.Core.List.{List, [], ◌∷◌, ◌++◌, map}
use lib.Dec.{T, T_not, not_T, eqb, eqb→eq}
use Rattle.octets.specs.Choice.{pick, value_or}
use Rattle.octets.specs.Octets.{octets}
use Rattle.octets.specs.Lists.{member, any_in, all, all_pairs, keep, collect, insert_by}
use Rattle.octets.proofs.Tests.{pick_yes, pick_no, all_cons}
use Rattle.octets.proofs.Ordered.{all_perm, insert_all_lem, keep_all, pairs_head, pairs_tail}
use Rattle.octets.proofs.ListLaws.{not_not, or_right, or_by_left, or_by_right, by_test, all_imply, all_append, all_map}
use Rattle.octets.proofs.MemberLaws.{absent_each, each_absent, member_passes, none_in}
use Rattle.rules.specs.Model.{Settings, Session, Sessions, teid_of, session_key, session_holdings, session_teids, held_teids, free_teids, endpoint_address, pdr_address, in_address_pool, session_addresses, held_addresses, free_addresses, key_for, is_peer, has_peer}
use Rattle.rules.specs.Sound.{sessions_allowed, apart, in_pool}
use Rattle.rules.specs.Message.{kind_of, header_seid, establishment, deletion, set_deletion}
use Rattle.rules.specs.Reading.{read_request}
use Rattle.rules.specs.Request.{Request}
use Rattle.rules.specs.Grants.{chosen_address, granted}
use Rattle.rules.specs.Stages.{entry_session, at_entry, new_session, is_live, unknown_session, session_of, unnamed}
use Rattle.rules.specs.Apply.{apply, remove_session, put_session, follow, goes_session, stays_session}
use Rattle.rules.specs.Serve.{sessions_after}
use Rattle.invariants.proofs.VerdictLaws.{Passed}
use Rattle.invariants.proofs.GrantLaws.{enough}
use Rattle.invariants.proofs.After.{found_key, keep_allowed}
use Rattle.laws.proofs.KeptRules.{sessions_kept}
use Rattle.laws.proofs.KeptRequest.{RulesKept}
use Rattle.invariants.proofs.FreeTeids.{free_there, held_in_pool}
use Rattle.invariants.proofs.FreeAddresses.{address_free_there, held_addresses_pool}
use Rattle.invariants.proofs.HeldLaws.{member_append, absent_held, absent_address_held}
use Rattle.invariants.proofs.Beside.{apart_teids_lem, apart_addresses_lem}
use Rattle.invariants.proofs.NewHolds.{new_holdings}
use Rattle.invariants.proofs.ChangedHolds.{staying_holdings, changed_holds, new_free}
use Rattle.invariants.proofs.ChangedAddresses.{when_kept, kept_pass, staying_addresses, new_addresses, changed_addresses, new_addresses_free}
use Rattle.laws.proofs.RequestLaws.{request_read}
use Rattle.invariants.proofs.Changed.{Entry, entry_sound}

-- a number that one session holds is no other session's, where they have nothing in common
others_not : (s : Settings) (of : Session → List ℕ) → ((y z : Session) → T (apart s y z) → T (not (any_in (of y) (of z))))
    → (n : ℕ) (x : Session) (l : Sessions) → T (member n (of x)) → T (all (apart s x) l) → T (all (λ z. not (member n (of z))) l)
others_not s of common n x l h far =
    all_imply (apart s x) (λ z. not (member n (of z))) (λ z g. member_passes (λ k. not (member k (of z))) n (of x) h (none_in (of x) (of z) (common x z g))) l far

module _ (s : Settings) (who : ℕ) (m : Sessions) (msg : List ℕ) (hw : T (is_peer who)) (hm : T (sessions_allowed s m)) (ho : T (octets msg)) (ns : T (not (eqb (kind_of msg) set_deletion)))
    (p : Passed s who m msg) where
  -- the session at entry
  abbrev x : Session
  x = entry_session who m msg

  -- the request
  abbrev r : Request
  r = read_request msg

  -- what is known of the session at entry
  entry : Entry s who m x
  entry = entry_sound s who m msg hw hm ho ns p

  rules : RulesKept s m x r
  rules = p.rules

  -- ---- TEIDs and addresses alike: `of` are those that a session holds, `held` those of all sessions

  module _ (of : Session → List ℕ) (held : Sessions → List ℕ) (absent : (n : ℕ) (l : Sessions) → T (all (λ z. not (member n (of z))) l) → T (not (member n (held l))))
      (common : (y z : Session) → T (apart s y z) → T (not (any_in (of y) (of z)))) (n : ℕ) (there : T (member n (of x))) where
    -- an establishment's or a modification's: where the changed session does not hold it, nobody does
    unheld_changed : T (not (eqb (kind_of msg) deletion)) → T (not (member n (of (apply (granted s m r) r x)))) → T (not (member n (held (sessions_after s who m msg))))
    unheld_changed nd own =
        subst (λ (l : Sessions). T (not (member n (held l)))) (sym put)
        (absent n (insert_by session_key y (remove_session (session_key y) m))
        (insert_all_lem session_key (λ z. not (member n (of z))) y (remove_session (session_key y) m) own (unfold apply in (others_not s of common n x (remove_session (session_key x) m) there entry.separate))))
      where
        y : Session
        y = apply (granted s m r) r x

        put : sessions_after s who m msg ≡ insert_by session_key y (remove_session (session_key y) m)
        put = unfold sessions_after follow put_session entry_session in (pick_no (eqb (kind_of msg) set_deletion) _ _ ns ∙ pick_no (eqb (kind_of msg) deletion) (remove_session (key_for who (header_seid msg)) m) _ nd)

    -- a deletion's
    unheld_deleted : T (eqb (kind_of msg) deletion) → T (not (member n (held (sessions_after s who m msg))))
    unheld_deleted d = subst (λ (l : Sessions). T (not (member n (held l)))) (sym gone) (absent n (remove_session (session_key x) m) (others_not s of common n x (remove_session (session_key x) m) there entry.separate))
      where
        kind : kind_of msg ≡ deletion
        kind = eqb→eq (kind_of msg) deletion d

        not_new : unnamed (kind_of msg) ≡ false
        not_new = unfold unnamed in (ap (λ (k : ℕ). eqb k establishment || eqb k set_deletion) kind)

        live : T (is_live (key_for who (header_seid msg)) m)
        live = unfold unknown_session in (not_not (is_live (key_for who (header_seid msg)) m) (subst (λ (b : Bool). T (not (not b && not (is_live (key_for who (header_seid msg)) m)))) not_new p.known))

        key : session_key (entry_session who m msg) ≡ key_for who (header_seid msg)
        key = unfold entry_session at_entry in (
            ap {B = ℕ} (λ (b : Bool). session_key (pick b (new_session who (read_request msg).seid) (value_or (new_session who (header_seid msg)) (session_of (key_for who (header_seid msg)) m)))) not_new ∙ found_key who (header_seid msg) m live)

        gone : sessions_after s who m msg ≡ remove_session (session_key (entry_session who m msg)) m
        gone = unfold sessions_after follow in (pick_no (eqb (kind_of msg) set_deletion) _ _ ns ∙ pick_yes (eqb (kind_of msg) deletion) (remove_session (key_for who (header_seid msg)) m) _ d ∙ ap (λ (k : ℕ). remove_session k m) (sym key))

  -- ---- TEIDs

  module _ (n : ℕ) (h : T (member n (session_teids x))) where
    -- it is held at entry, and in the pool
    held_n : T (member n (held_teids m))
    held_n = member_passes (λ k. member k (held_teids m)) n (session_teids x) h entry.held

    pool_n : T (in_pool s n)
    pool_n = member_passes (in_pool s) n (held_teids m) held_n (held_in_pool s m hm)

    -- the changed session does not hold it, where none of the records that stay does
    changed_unheld : T (not (member n (map teid_of (staying_holdings r x)))) → T (not (member n (session_teids (apply (granted s m r) r x))))
    changed_unheld gone = unfold session_teids in (
        each_absent n (map teid_of (session_holdings (apply (granted s m r) r x)))
        (subst T (sym (all_map teid_of (λ k. not (eqb n k)) (session_holdings (apply (granted s m r) r x))))
        (all_perm (λ g. not (eqb n g.teid)) (Permᴰ.symm (changed_holds (granted s m r) r x))
        (all_append (λ g. not (eqb n g.teid)) (new_holdings (granted s m r) r) (staying_holdings r x) new_other
        (subst T (all_map teid_of (λ k. not (eqb n k)) (staying_holdings r x)) (absent_each n (map teid_of (staying_holdings r x)) gone))))))
      where
        new_other : T (all (λ g. not (eqb n g.teid)) (new_holdings (granted s m r) r))
        new_other =
            all_imply (λ g. not (member g.teid (held_teids m))) (λ g. not (eqb n g.teid))
            (λ g free. not_T (eqb n g.teid) (λ e. T_not (member g.teid (held_teids m)) free (subst (λ (k : ℕ). T (member k (held_teids m))) (eqb→eq n g.teid e) held_n)))
            (new_holdings (granted s m r) r) (new_free s m x r entry.kept rules (request_read msg ho) (enough hw hm p) entry.held)

    -- an establishment's or a modification's removals
    pub removed_free : T (not (eqb (kind_of msg) deletion)) → T (not (member n (map teid_of (staying_holdings r x)))) → T (member n (free_teids s (sessions_after s who m msg)))
    removed_free nd gone = free_there s (sessions_after s who m msg) n pool_n (unheld_changed session_teids held_teids absent_held (apart_teids_lem s) n h nd (changed_unheld gone))

    -- a deletion's: every TEID of its session
    pub deleted_free : T (eqb (kind_of msg) deletion) → T (member n (free_teids s (sessions_after s who m msg)))
    deleted_free d = free_there s (sessions_after s who m msg) n pool_n (unheld_deleted session_teids held_teids absent_held (apart_teids_lem s) n h d)

  -- ---- addresses of the pool (02 (v))

  module _ (a : ℕ) (h : T (member a (session_addresses s x))) where
    held_a : T (member a (held_addresses s m))
    held_a = member_passes (λ k. member k (held_addresses s m)) a (session_addresses s x) h entry.held_addresses

    pool_a : T (in_address_pool s a)
    pool_a = member_passes (in_address_pool s) a (held_addresses s m) held_a (held_addresses_pool s m)

    -- the changed session does not hold it, where none of the records that stay does
    address_unheld_lem : T (not (member a (staying_addresses r x))) → T (not (member a (session_addresses s (apply (granted s m r) r x))))
    address_unheld_lem gone = unfold session_addresses in (
        each_absent a (keep (in_address_pool s) (collect endpoint_address (apply (granted s m r) r x).endpoints ++ collect pdr_address (apply (granted s m r) r x).pdrs))
        (kept_pass (in_address_pool s) other (collect endpoint_address (apply (granted s m r) r x).endpoints ++ collect pdr_address (apply (granted s m r) r x).pdrs)
        (all_perm (when_kept (in_address_pool s) other) (Permᴰ.symm (changed_addresses s m r x))
        (all_append (when_kept (in_address_pool s) other) (new_addresses (chosen_address s m) r) (staying_addresses r x) new_other
        (all_imply other (when_kept (in_address_pool s) other) (λ b g. or_by_right (not (in_address_pool s b)) (other b) g) (staying_addresses r x) (absent_each a (staying_addresses r x) gone))))))
      where
        other : ℕ → Bool
        other b = not (eqb a b)

        unheld : ℕ → Bool
        unheld b = not (member b (held_addresses s m))

        one : (b : ℕ) → T (when_kept (in_address_pool s) unheld b) → T (when_kept (in_address_pool s) other b)
        one b g =
            by_test (not (in_address_pool s b)) (λ k. or_by_left (not (in_address_pool s b)) (other b) k)
            (λ k. or_by_right (not (in_address_pool s b)) (other b)
            (not_T (eqb a b) (λ e. T_not (member b (held_addresses s m)) (or_right (not (in_address_pool s b)) (unheld b) g k) (subst (λ (c : ℕ). T (member c (held_addresses s m))) (eqb→eq a b e) held_a))))

        new_other : T (all (when_kept (in_address_pool s) other) (new_addresses (chosen_address s m) r))
        new_other = all_imply (when_kept (in_address_pool s) unheld) (when_kept (in_address_pool s) other) one (new_addresses (chosen_address s m) r) (new_addresses_free s m x r rules p.address)

    pub removed_address_free : T (not (eqb (kind_of msg) deletion)) → T (not (member a (staying_addresses r x))) → T (member a (free_addresses s (sessions_after s who m msg)))
    removed_address_free nd gone =
        address_free_there s (sessions_after s who m msg) a pool_a (unheld_changed (session_addresses s) (held_addresses s) (absent_address_held s) (apart_addresses_lem s) a h nd (address_unheld_lem gone))

    pub deleted_address_free : T (eqb (kind_of msg) deletion) → T (member a (free_addresses s (sessions_after s who m msg)))
    deleted_address_free d = address_free_there s (sessions_after s who m msg) a pool_a (unheld_deleted (session_addresses s) (held_addresses s) (absent_address_held s) (apart_addresses_lem s) a h d)

-- ---- set deletions (02 (vii))

-- TEIDs and addresses alike: of sessions that are apart, a number that one of those that go holds is held by none of those that stay
module _ (s : Settings) (of : Session → List ℕ) (held : Sessions → List ℕ) (absent : (n : ℕ) (l : Sessions) → T (all (λ z. not (member n (of z))) l) → T (not (member n (held l))))
    (more-held : (y : Session) (l : Sessions) → held (y ∷ l) ≡ of y ++ held l)
    (common : (y z : Session) → T (apart s y z) → T (not (any_in (of y) (of z)))) (q : Session → Bool) (n : ℕ) where
  -- what is held and not by the first is held by the others
  held_by_lem : (y : Session) (l : Sessions) → T (member n (held (y ∷ l))) → T (not (member n (of y))) → T (member n (held l))
  held_by_lem y l h other =
      by_test (member n (held l)) (λ e. e)
      (λ e. absurd (T_not (member n (of y ++ held l)) (member_append n (of y) (held l) other e) (subst (λ (k : List ℕ). T (member n k)) (more-held y l) h)))

  none_stays : (m : Sessions) → T (all_pairs (apart s) m) → T (member n (held (keep q m))) → T (all (λ z. not (member n (of z))) (keep (λ z. not (q z)) m))
  unfolding keep all
  none_stays [] far = λ _. tt
  none_stays (y ∷ m) far = one (λ g. none_stays m (pairs_tail (apart s) y m far) g) (q y)
    where
      go : Sessions
      go = keep q m

      stay : Sessions
      stay = keep (λ z. not (q z)) m

      one : (T (member n (held go)) → T (all (λ z. not (member n (of z))) stay)) → (b : Bool) → T (member n (held (pick b (y ∷ go) go)))
          → T (all (λ z. not (member n (of z))) (pick (not b) (y ∷ stay) stay))
      one more true h =
          by_test (member n (of y)) (λ e. others_not s of common n y stay e (keep_all (λ z. not (q z)) (apart s y) m (pairs_head (apart s) y m far)))
          (λ e. more (held_by_lem y go h e))
      one more false h =
          all_cons (λ z. not (member n (of z))) y stay
          (not_T (member n (of y)) (λ e. T_not (member n (held go)) (absent n go (others_not s of common n y go e (keep_all q (apart s y) m (pairs_head (apart s) y m far)))) h))
          (more h)

-- so every TEID and every address of the pool of a session that a set deletion takes out is free afterwards
module _ (s : Settings) (who : ℕ) (m : Sessions) (msg : List ℕ) (hm : T (sessions_allowed s m)) (d : T (eqb (kind_of msg) set_deletion)) where
  abbrev goes : Session → Bool
  goes z = has_peer who z && goes_session (read_request msg).listed z

  left : sessions_after s who m msg ≡ keep (λ z. not (goes z)) m
  left = unfold sessions_after follow stays_session in (pick_yes (eqb (kind_of msg) set_deletion) (keep (λ z. not (goes z)) m) _ d)

  apart_all : T (all_pairs (apart s) m)
  apart_all = (sessions_kept s m hm).separate

  pub listed_free : (n : ℕ) → T (member n (held_teids (keep (λ z. has_peer who z && goes_session (read_request msg).listed z) m))) → T (member n (free_teids s (sessions_after s who m msg)))
  unfolding held_teids
  listed_free n h =
      free_there s (sessions_after s who m msg) n (member_passes (in_pool s) n (held_teids (keep goes m)) h (held_in_pool s (keep goes m) (keep_allowed s goes m hm)))
      (subst (λ (l : Sessions). T (not (member n (held_teids l)))) (sym left)
      (absent_held n (keep (λ z. not (goes z)) m) (none_stays s session_teids held_teids absent_held (λ y l. refl) (apart_teids_lem s) goes n m apart_all h)))

  pub listed_address_free : (a : ℕ) → T (member a (held_addresses s (keep (λ z. has_peer who z && goes_session (read_request msg).listed z) m))) → T (member a (free_addresses s (sessions_after s who m msg)))
  unfolding held_addresses
  listed_address_free a h =
      address_free_there s (sessions_after s who m msg) a (member_passes (in_address_pool s) a (held_addresses s (keep goes m)) h (held_addresses_pool s (keep goes m)))
      (subst (λ (l : Sessions). T (not (member a (held_addresses s l)))) (sym left)
      (absent_address_held s a (keep (λ z. not (goes z)) m) (none_stays s (session_addresses s) (held_addresses s) (absent_address_held s) (λ y l. refl) (apart_addresses_lem s) goes a m apart_all h)))
