-- A place that a reading call found is the one place there is, of the table and of the live set after any run.
-- Assumes nothing.
use mathlib.Core.Path.{◌≡◌, refl, sym, ap, ap₂, subst, ◌∙◌}
use Prim.Native.Nat.{ℕ, ◌-◌, ◌<◌}
use native.Mathlib.Omega.{arith}
use mathlib.Core.Bool.{Bool, not}
use mathlib.Core.Option.{Option, none, some}
use mathlib.Core.List.{List}
use lib.Dec.{T, T_not, eqb→eq, ltb→lt}
use lib.ListN.{length}
use Rattle.octets.specs.Lists.{member}
use Rattle.octets.proofs.Tests.{is_true}
use Rattle.octets.proofs.Ordered.{up_pairs, below_key}
use Rattle.octets.proofs.MemberLaws.{member_passes, none_in}
use Rattle.rules.specs.Model.{Settings, Session, Sessions, session_key, key_for, is_peer, of_peer, holdings, session_teids}
use Rattle.rules.specs.Layout.{view_settings, view_sessions}
use Rattle.rules.specs.Sound.{apart, sound}
use Rattle.rules.specs.Stages.{has_key}
use Rattle.rules.specs.Restoring.{session_at}
use Rattle.rules.specs.Finding.{Finding, finding_of, place_from, session_place, is_holder, holder_place, find_in, count_sessions, find_session, find_holder, count_peer, counts_of, count_all}
use Rattle.laws.proofs.PeerLaws.{key_peer}
use Rattle.laws.proofs.KeptRules.{SessionsKept, sessions_kept, table_kept}
use Rattle.invariants.proofs.Beside.{apart_teids_lem}
use Rattle.finding.proofs.PlaceLaws.{place_says, none_says, place_only}
use Rattle.pfcp_session.specs.Calls.{session_count_call, find_session_call, find_teid_call, peer_count_call, counts_call}
use Rattle.promises.specs.Runs.{Run, table_after}
use Rattle.promises.specs.Findings.{At, found_at, nowhere, TheOne, SessionFound, HolderFound, KeysApart, LiveFound}
use Rattle.promises.proofs.AccidentLaws.{left, counted_sound}

-- ---- one place, by a test

-- the answer where the table is not broken
told : (t : List ℕ) (o : Option ℕ) → T (sound t) → find_in t o ≡ finding_of o
unfolding find_in
told t o h = rw (is_true (sound t) h)

module _ (p : Session → Bool) (m : Sessions) (only : (i j : ℕ) → i < length m → j < length m → T (p (session_at m i)) → T (p (session_at m j)) → i ≡ j) where
  said : (place : ℕ) → place_from 0 p m ≡ some place → At p m place
  said place e =
      let k = place_says 0 place p m e in
      let whole : place - 0 ≡ place = omega arith in
      record { live = omega (arith, k.1); passes = rw whole at k.2 }

  the_one : TheOne (At p m) (finding_of (place_from 0 p m))
  the_one =
      record {
        unique = λ i j a b. only i j a.live b.live a.passes b.passes;
        found = λ place e. found (place_from 0 p m) refl place e;
        tells = λ place a. tells (place_from 0 p m) refl place a;
        none = λ e place a. nothing (place_from 0 p m) refl e place a;
        absent = λ f. absent (place_from 0 p m) refl f;
      }
    where
      found : (o : Option ℕ) → place_from 0 p m ≡ o → (place : ℕ) → finding_of o ≡ found_at place → At p m place
      found none e place f = absurd (let z = ap (λ (x : Finding). x.outcome) f in omega arith)
      found (some q) e place f = said place (e ∙ ap some (ap (λ (x : Finding). x.number) f))

      tells : (o : Option ℕ) → place_from 0 p m ≡ o → (place : ℕ) → At p m place → finding_of o ≡ found_at place
      tells none e place a = absurd (none_says 0 p m e place a.live a.passes)
      tells (some q) e place a = let b = said q e in ap found_at (only q place b.live a.live b.passes a.passes)

      nothing : (o : Option ℕ) → place_from 0 p m ≡ o → finding_of o ≡ nowhere → (place : ℕ) → At p m place → ⊥
      nothing none e f place a = none_says 0 p m e place a.live a.passes
      nothing (some q) e f place a = let z = ap (λ (x : Finding). x.outcome) f in omega arith

      absent : (o : Option ℕ) → place_from 0 p m ≡ o → ((place : ℕ) → At p m place → ⊥) → finding_of o ≡ nowhere
      absent none e f = refl
      absent (some q) e f = absurd (f q (said q e))

-- ---- SEIDs and TEIDs

-- keys ascend, so no two sessions have one
key_clash : (key : ℕ) (x y : Session) → T (below_key session_key x y) → T (has_key key x) → T (has_key key y) → ⊥
unfolding has_key
key_clash key x y l a b =
    let below = ltb→lt (session_key x) (session_key y) l in
    let one = eqb→eq (session_key x) key a in
    let other = eqb→eq (session_key y) key b in
    omega arith

pub keys_apart : KeysApart
unfolding KeysApart key_for
keys_apart who seid other n h g e =
    let a = key_peer who seid other n h g (unfold key_for in e) in
    (a, omega arith)

-- sessions are apart, so no two hold one TEID
teid_clash : (s : Settings) (teid : ℕ) (x y : Session) → T (apart s x y) → T (is_holder teid x) → T (is_holder teid y) → ⊥
unfolding is_holder
teid_clash s teid x y far a b =
    T_not (member teid (session_teids y)) (member_passes (λ n. not (member n (session_teids y))) teid (session_teids x) a (none_in (session_teids x) (session_teids y) (apart_teids_lem s x y far))) b

module _ (t : List ℕ) (h : T (sound t)) where
  rules : SessionsKept (view_settings t) (view_sessions t)
  rules = sessions_kept (view_settings t) (view_sessions t) (table_kept t h).sessions

  seid_one : (who seid : ℕ) → TheOne (At (has_key (key_for who seid)) (view_sessions t)) (find_session_call t who seid)
  unfolding find_session_call find_session session_place
  seid_one who seid =
      let key = key_for who seid in
      subst (TheOne (At (has_key key) (view_sessions t))) (sym (told t (session_place who seid (view_sessions t)) h))
      (the_one (has_key key) (view_sessions t) (place_only (has_key key) (below_key session_key) (key_clash key) (view_sessions t) (up_pairs session_key (view_sessions t) rules.order)))

  teid_one : (teid : ℕ) → TheOne (At (is_holder teid) (view_sessions t)) (find_teid_call t teid)
  unfolding find_teid_call find_holder holder_place
  teid_one teid =
      subst (TheOne (At (is_holder teid) (view_sessions t))) (sym (told t (holder_place teid (view_sessions t)) h))
      (the_one (is_holder teid) (view_sessions t) (place_only (is_holder teid) (apart (view_settings t)) (teid_clash (view_settings t) teid) (view_sessions t) rules.separate))

pub session_found : SessionFound
unfolding SessionFound
session_found t who seid h = seid_one t h who seid

pub holder_found : HolderFound
unfolding HolderFound
holder_found t teid h = teid_one t h teid

-- ---- after any run

pub live_found : (run : Run) → LiveFound run
unfolding session_count_call count_sessions SessionFound HolderFound peer_count_call count_peer counts_call count_all
live_found run =
    let t = table_after run in
    let l = left run in
    let h = counted_sound t _ l.count in
    record {
      count = told t (some (length (view_sessions t))) h ∙ ap (λ (m : Sessions). found_at (length m)) l.records;
      seids = λ who seid. subst (λ (m : Sessions). TheOne (At (has_key (key_for who seid)) m) (find_session_call t who seid)) l.records (session_found t who seid h);
      teids = λ teid. subst (λ (m : Sessions). TheOne (At (is_holder teid) m) (find_teid_call t teid)) l.records (holder_found t teid h);
      peers = λ who hw. rw (is_true (is_peer who) hw, is_true (sound t) h) (ap (λ (m : Sessions). record { outcome = 0; sessions = length (of_peer who m); teids = holdings who m }) l.records);
      counts = rw (is_true (sound t) h) (ap₂ (λ (s : Settings) (m : Sessions). counts_of s m) l.settings l.records);
    }
