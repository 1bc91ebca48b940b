-- The sessions after an accepted request keep the rules, if the one session that it made or changed does.
-- Assumes nothing.
use mathlib.Core.Path.{◌≡◌, refl, sym, subst}
use Prim.Native.Nat.{ℕ}
use mathlib.Core.Bool.{Bool, true, false, not}
use mathlib.Core.Option.{some, Option}
use mathlib.Core.List.{List, [], ◌∷◌}
use lib.Dec.{T, eqb, eqb→eq}
use Rattle.octets.specs.Choice.{pick, is_some, value_or}
use Rattle.octets.specs.Octets.{octets}
use Rattle.octets.specs.Lists.{all, keep, find_by}
use Rattle.octets.proofs.Tests.{all_head, all_tail, all_cons, no_eqb}
use Rattle.octets.proofs.Ordered.{other_key, keep_all, keep_pairs, keep_passes, keep_ascending, ne_of}
use Rattle.rules.specs.Model.{Settings, Session, Sessions, session_key, key_for, is_peer}
use Rattle.rules.specs.Sound.{settings_allowed, session_allowed, apart, sessions_allowed}
use Rattle.rules.specs.Message.{kind_of, header_seid, served, deletion, set_deletion}
use Rattle.rules.specs.Reading.{read_request}
use Rattle.rules.specs.Grants.{granted}
use Rattle.rules.specs.Stages.{has_key, session_of, is_live, new_session, at_entry, entry_session}
use Rattle.rules.specs.Apply.{apply, other_session, remove_session, put_session, follow, stays_session}
use Rattle.rules.specs.Serve.{sessions_after}
use Rattle.invariants.proofs.VerdictLaws.{Passed}
use Rattle.invariants.proofs.Beside.{insert_allowed}
use Rattle.invariants.proofs.Accepting.{SoundAfter}
use Rattle.laws.proofs.KeptRules.{sessions_kept, sessions_allowed_lem}
use Rattle.laws.proofs.PeerLaws.{PeersKept, peers_kept_lem, peers_keep}
use Rattle.invariants.proofs.PeersAfter.{keep_kept}

-- ---- taking a session out

-- any of the sessions
pub keep_allowed : (s : Settings) (q : Session → Bool) (m : Sessions) → T (sessions_allowed s m) → T (sessions_allowed s (keep q m))
keep_allowed s q m h =
    let e = sessions_kept s m h in
    sessions_allowed_lem (record {
      peers = peers_keep s (keep q m) (keep_kept s q m e.separate (peers_kept_lem s m h));
      order = keep_ascending q session_key m e.order;
      sessions = keep_all q (session_allowed s) m e.sessions;
      separate = keep_pairs q (apart s) m e.separate;
    })

pub remove_allowed : (s : Settings) (n : ℕ) (m : Sessions) → T (sessions_allowed s m) → T (sessions_allowed s (remove_session n m))
unfolding remove_session
remove_allowed s n m h = keep_allowed s (other_session n) m h

-- the others have other keys
others : (x : Session) (m : Sessions) → T (all (other_session (session_key x)) m) → T (all (other_key session_key x) m)
unfolding all other_session has_key
others x [] h = tt
others x (y ∷ m) h =
    let k = all_head (other_session (session_key x)) y m (unfold_it h) in
    all_cons (other_key session_key x) y m (no_eqb (session_key x) (session_key y) (λ e. ne_of (session_key y) (session_key x) k (sym e))) (others x m (all_tail (other_session (session_key x)) y m (unfold_it h)))
  where
    unfold_it : T (all (other_session (session_key x)) (y ∷ m)) → T (all (other_session (session_key x)) (y ∷ m))
    unfold_it g = g

-- ---- the session after a request

-- the session that a request makes or changes
unfoldable pub changed : Settings → ℕ → Sessions → List ℕ → Session
changed s who m msg = apply (granted s m (read_request msg)) (read_request msg) (entry_session who m msg)

-- the one found has the key
pub found_key : (who n : ℕ) (m : Sessions) → T (is_live (key_for who n) m) → session_key (value_or (new_session who n) (session_of (key_for who n) m)) ≡ key_for who n
unfolding is_live session_of find_by has_key
found_key who n [] h = absurd h
found_key who n (y ∷ m) h = one (eqb (session_key y) (key_for who n)) refl (λ g. found_key who n m g) h
  where
    found : Option Session
    found = find_by (λ z. eqb (session_key z) (key_for who n)) m

    one : (b : Bool) → eqb (session_key y) (key_for who n) ≡ b → (T (is_some found) → session_key (value_or (new_session who n) found) ≡ key_for who n)
        → T (is_some (pick b (some y) found)) → session_key (value_or (new_session who n) (pick b (some y) found)) ≡ key_for who n
    one true e f g = eqb→eq (session_key y) (key_for who n) (subst T (sym e) tt)
    one false e f g = f g

-- what is left to prove, of that session alone: it keeps the rules, no other session holds its TEIDs or addresses, and
-- with it both peers have what is theirs
pub record OwnSound (s : Settings) (who : ℕ) (m : Sessions) (msg : List ℕ) : Type 0 where
  pub sound : T (session_allowed s (changed s who m msg))
  pub separate : T (all (apart s (changed s who m msg)) (remove_session (session_key (changed s who m msg)) m))
  pub peers : PeersKept s (put_session (changed s who m msg) m)

unfoldable pub ChangedSound : Type 0
ChangedSound =
    (s : Settings) (who : ℕ) (m : Sessions) (msg : List ℕ) → T (is_peer who) → T (settings_allowed s) → T (sessions_allowed s m) → T (octets msg) → T (served (kind_of msg))
    → T (not (eqb (kind_of msg) set_deletion)) → T (not (eqb (kind_of msg) deletion)) → Passed s who m msg → OwnSound s who m msg

pub sound_after : ChangedSound → SoundAfter
unfolding ChangedSound SoundAfter sessions_after follow changed entry_session apply at_entry
sound_after changes s who m msg hw hs hm ho hk p = sets (eqb (kind_of msg) set_deletion) refl
  where
    put : T (not (eqb (kind_of msg) set_deletion)) → T (not (eqb (kind_of msg) deletion)) → T (sessions_allowed s (put_session (changed s who m msg) m))
    put ns nd = unfold put_session ChangedSound in (
        let c = changes s who m msg hw hs hm ho hk ns nd p in
        let x = changed s who m msg in
        let n = session_key x in
        insert_allowed s x (remove_session n m) (remove_allowed s n m hm) c.sound
        (others x (remove_session n m) (unfold remove_session in (keep_passes (other_session n) m))) c.separate c.peers)

    go : T (not (eqb (kind_of msg) set_deletion)) → (b : Bool) → eqb (kind_of msg) deletion ≡ b
        → T (sessions_allowed s (pick b (remove_session (key_for who (header_seid msg)) m)
        (put_session (apply (granted s m (read_request msg)) (read_request msg) (at_entry (kind_of msg) who (header_seid msg) (read_request msg) m)) m)))
    go ns true e = remove_allowed s (key_for who (header_seid msg)) m hm
    go ns false e = unfold changed entry_session in (put ns (subst (λ (b : Bool). T (not b)) (sym e) tt))

    sets : (b : Bool) → eqb (kind_of msg) set_deletion ≡ b
        → T (sessions_allowed s (pick b (keep (stays_session who (read_request msg).listed) m) (pick (eqb (kind_of msg) deletion) (remove_session (key_for who (header_seid msg)) m)
        (put_session (apply (granted s m (read_request msg)) (read_request msg) (at_entry (kind_of msg) who (header_seid msg) (read_request msg) m)) m))))
    sets true e = keep_allowed s (stays_session who (read_request msg).listed) m hm
    sets false e = go (subst (λ (b : Bool). T (not b)) (sym e) tt) (eqb (kind_of msg) deletion) refl
