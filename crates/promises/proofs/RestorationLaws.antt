-- The requests of pfcp_write_restoration are short and accepted, give the table back, and leave nothing out.
-- Assumes nothing.
use mathlib.Core.Path.{◌≡◌, refl, sym, ap, ap₂, ◌∙◌, subst}
use Prim.Native.Nat.{ℕ, zero, suc, ◌+◌, ◌≤◌, ◌<◌}
use native.Mathlib.Nat.{le_trans}
use native.Mathlib.Numerals.{add-one}
use native.Mathlib.Omega.{arith}
use mathlib.Core.Bool.{Bool, true, false, not, ◌&&◌}
use mathlib.Core.List.Permᴰ
use mathlib.Core.List.{List, [], ◌∷◌, map, Permᴰ}
use borrow.Author.Tests.{leb-false}
use lib.Dec.{T, leb, ltb, eqb, leb→le}
use lib.ListN.{length, take, drop, drop_of_length-le}
use lib.Seq.{drop-cons}
use Rattle.octets.specs.Choice.{pick}
use Rattle.octets.specs.Octets.{octets, put, zeros}
use Rattle.octets.specs.Lists.{all, all_pairs, find_by}
use Rattle.octets.proofs.Tests.{of_true, all_of_each, all_cons, all_head, all_tail, and_left, and_right}
use Rattle.rules.specs.Limits.{min_space, max_restoration}
use Rattle.rules.specs.Model.{Settings, Session, Sessions, peer_of, other_peer, holdings, unused}
use Rattle.rules.specs.Layout.{encode, view_settings, view_sessions}
use Rattle.rules.specs.Sound.{apart, due, sound, make}
use Rattle.rules.specs.Stages.{new_session, session_of, is_live, plain}
use Rattle.rules.specs.Apply.{put_session}
use Rattle.rules.specs.Serve.{Served, reply_to, serve}
use Rattle.rules.specs.Live.{accepted_event, reply_cause}
use Rattle.rules.specs.Calls.{request, table_after_all}
use Rattle.rules.specs.Restoration.{sender_allowed, restoration}
use Rattle.rules.specs.Restoring.{session_at, sender_addressed, sender_at, restoration_at, Writing, unwritten, write_into, write_restoration}
use Rattle.rules.specs.Claim.{Step, Ran, Restore, restored, restore_allowed, restore_call, restore_calls, call_in, Restores}
use Rattle.rules.specs.Causes as why
use Rattle.claim.proofs.RestorationApply.{restored_call}
use Rattle.claim.proofs.RestorationJudge.{RoomFor}
use Rattle.claim.proofs.PeersRestored.{both, Weighs, room_next}
use Rattle.claim.proofs.RestoreAll.{restored_cause, restored_table}
use Rattle.laws.proofs.PeerLaws.{known_peer, PeersKept, peers_kept_lem}
use Rattle.invariants.proofs.Totals.{total, peer_sessions, peer_teids, count_total, holdings_total}
use Rattle.invariants.proofs.PeersAfter.{due_less}
use Rattle.laws.proofs.KeptRules.{sessions_kept}
use Rattle.invariants.proofs.Beside.{separate_all, separate_addresses, empty_allowed}
use Rattle.claim.proofs.Sequence.{made_empty}
use Rattle.claim.proofs.Runs.{restores_table}
use Rattle.table.proofs.Encoded.{Encoded, sound_encoded}
use Rattle.restoration.proofs.RequestSteps.{take_put}
use Rattle.table.proofs.SoundSlots.{place_allowed}
use Rattle.restoration.proofs.SoundSlots.{sender_kept, request_short}
use Rattle.pfcp_session.specs.Calls.{MakeCall, make_call, restoration_call}
use Rattle.promises.specs.Runs.{steps_of}
use Rattle.promises.specs.Restorations.{Written, Wrote, Past, WroteAll, Emptied, RestorationShort, RestorationAccepted, Asking, written_of, asking_call, asking_allowed, RestorationsGiveBack, RestorationsTellAll}
use Rattle.promises.proofs.RunLaws.{request_step, ran, is_made}

-- ---- what an outcome says

-- the tests that a request passed, and its octets
record Passed (t : List ℕ) (place : ℕ) (ipv4 ipv6 : List ℕ) (r : Written) : Type 0 where
  sound : T (sound t)
  live : place < length (view_sessions t)
  address : T (sender_addressed ipv4 ipv6)
  peer : r.peer ≡ (session_at (view_sessions t) place).peer
  is : r.message ≡ restoration_at t place ipv4 ipv6

module _ (t : List ℕ) (place : ℕ) (ipv4 ipv6 space : List ℕ) where
  abbrev whole : List ℕ
  whole = restoration_at t place ipv4 ipv6

  abbrev who : ℕ
  who = (session_at (view_sessions t) place).peer

  abbrev chain : (b c d e : Bool) → Writing
  chain b c d e = pick (not b) (unwritten 1 space) (pick c (unwritten 2 space) (pick (not d) (unwritten 3 space) (pick e (unwritten 4 space) (record { outcome = 0; used = length whole; peer = who; space = put 0 whole space }))))

  by_outcome : (b c d e : Bool) (w : Writing) → w ≡ chain b c d e → w.outcome ≡ 0 → T b × (c ≡ false) × T d × (take w.used w.space ≡ whole) × (w.peer ≡ who)
  by_outcome false c d e w p z = absurd (let n = ap (λ (x : Writing). x.outcome) p in omega arith)
  by_outcome true true d e w p z = absurd (let n = ap (λ (x : Writing). x.outcome) p in omega arith)
  by_outcome true false false e w p z = absurd (let n = ap (λ (x : Writing). x.outcome) p in omega arith)
  by_outcome true false true true w p z = absurd (let n = ap (λ (x : Writing). x.outcome) p in omega arith)
  by_outcome true false true false w p z = (tt, refl, tt, ap (λ (x : Writing). take x.used x.space) p ∙ take_put whole space, ap (λ (x : Writing). x.peer) p)

  past_outcome : (b c d e : Bool) → (chain b c d e).outcome ≡ 2 → T b × T c
  past_outcome false c d e z = absurd (omega arith)
  past_outcome true true d e z = (tt, tt)
  past_outcome true false false e z = absurd (omega arith)
  past_outcome true false true true z = absurd (omega arith)
  past_outcome true false true false z = absurd (omega arith)

module _ (t : List ℕ) (place : ℕ) where
  wrote : (r : Written) (w : Wrote t place r) → Passed t place w.ipv4 w.ipv6 r
  unfolding restoration_call write_restoration write_into
  wrote r w =
      let c = leb (length (view_sessions t)) place in
      let f = by_outcome t place w.ipv4 w.ipv6 w.space (sound t) c (sender_addressed w.ipv4 w.ipv6) (ltb (length w.space) (length (restoration_at t place w.ipv4 w.ipv6))) w.answer w.call w.success in
      record { sound = f.0; live = leb-false (length (view_sessions t)) place f.1; address = f.2; peer = w.peer_of ∙ f.4; is = w.octets_of ∙ f.3 }

  past : Past t place → T (sound t) × (length (view_sessions t) ≤ place)
  unfolding restoration_call write_restoration write_into
  past p =
      let f = past_outcome t place p.ipv4 p.ipv6 p.space (sound t) (leb (length (view_sessions t)) place) (sender_addressed p.ipv4 p.ipv6) (ltb (length p.space) (length (restoration_at t place p.ipv4 p.ipv6))) p.outcome in
      (f.0, leb→le (length (view_sessions t)) place f.1)

-- ---- short

pub restoration_short : RestorationShort
unfolding RestorationShort
restoration_short t place r w =
    let k = wrote t place r w in
    subst (λ (l : List ℕ). length l ≤ max_restoration) (sym k.is) (request_short t k.sound place k.live w.ipv4 w.ipv6 k.address)

-- ---- accepted by an empty table

emptied : (t : List ℕ) (made : MakeCall) (e : Emptied t made) → T (make (view_settings t) e.found).made × (made.table ≡ (make (view_settings t) e.found).table)
unfolding make_call
emptied t made e =
    (is_made (make (view_settings t) e.found) (sym (ap (λ (x : MakeCall). x.outcome) e.making) ∙ e.success), ap (λ (x : MakeCall). x.table) e.making)

-- one of them comes to no more than all
at_total : (w : Session → ℕ) (m : Sessions) (place : ℕ) → place < length m → w (session_at m place) ≤ total w m
unfolding total session_at
at_total w [] place h = absurd (omega arith)
at_total w (x ∷ m) zero h = omega arith
at_total w (x ∷ m) (suc n) h = let a = at_total w m n (omega arith) in omega arith

-- so there is room for a table's session in an empty one
room_alone : (t : List ℕ) → T (sound t) → (place : ℕ) → place < length (view_sessions t) → RoomFor (view_settings t) (session_at (view_sessions t) place) []
room_alone t h place live = room_next s x [] [] (known_peer s x (place_allowed t h place live)) (unfold all_pairs in tt) weighs
  where
    s : Settings
    s = view_settings t

    m : Sessions
    m = view_sessions t

    x : Session
    x = session_at m place

    kept : PeersKept s m
    kept = peers_kept_lem s m (sound_encoded t h).sessions

    far : T (all_pairs (apart s) m)
    far = (sessions_kept s m (sound_encoded t h).sessions).separate

    less : (who : ℕ) → both (peer_teids who) [] (x ∷ []) ≤ holdings who m
    less who = let a = holdings_total s who m far in let b = at_total (peer_teids who) m place live in unfold total in (omega arith)

    weighs : Weighs s [] (x ∷ [])
    weighs =
        record {
          sessions = λ who hw. let a = count_total who m in let b = at_total (peer_sessions who) m place live in let c = kept.sessions who hw in unfold total in (omega arith);
          teids = λ who hw. le_trans (less who) (kept.teids who hw);
          pool = λ who hw.
              let a = due_less (holdings who m) (both (peer_teids who) [] (x ∷ [])) (peer_of s who).guarantee (less who) in
              let b = due_less (holdings (other_peer who) m) (both (peer_teids (other_peer who)) [] (x ∷ [])) (peer_of s (other_peer who)).guarantee (less (other_peer who)) in
              let c = kept.pool who hw in
              unfold due unused in (omega arith);
        }

pub restoration_accepted : RestorationAccepted
unfolding RestorationAccepted accepted_event restoration_at
restoration_accepted t place r made space answer w e long call =
    let k = wrote t place r w in
    let s = view_settings t in
    let hs = (sound_encoded t k.sound).settings in
    let x = session_at (view_sessions t) place in
    let hx = place_allowed t k.sound place k.live in
    let p = sender_at place w.ipv4 w.ipv6 in
    let hp = sender_kept t k.sound place k.live w.ipv4 w.ipv6 k.address in
    let m = emptied t made e in
    let empty : made.table ≡ encode s [] = m.1 ∙ made_empty s e.found m.0 in
    let served : ◌≡◌ {A = Served} (record { outcome = answer.outcome; place = answer.place; space = answer.space; table = answer.table })
    (record { outcome = 0; place = 0; space = put 0 (reply_to s x.peer [] (restoration s p x) (plain why.accepted)) space; table = encode s (put_session x []) }) =
    request_step made.table r.peer r.message space answer call
    ∙ (λ i. serve (empty i) (k.peer i) (k.is i) space)
    ∙ restored_call s hs x hx [] (unfold is_live session_of find_by in refl) (room_alone t k.sound place k.live) (separate_all s x [] (unfold all in tt)) (separate_addresses s x [] (unfold all in tt)) p hp (empty_allowed s hs) space long in
    of_true
    (ap₂ (λ (o : ℕ) (l : List ℕ). eqb o 0 && eqb (reply_cause l) 1) (ap (λ (v : Served). v.outcome) served) (ap (λ (v : Served). v.space) served)
    ∙ ap (λ (c : ℕ). eqb c 1) (restored_cause s hs x hx p hp [] space))

-- ---- all in turn

-- what was asked, in the words of the claim
restores_from : (t : List ℕ) (place : ℕ) (asked : List Asking) → WroteAll t place (map written_of asked) → List Restore
restores_from t place [] w = []
restores_from t place (a ∷ asked) w =
    record { session = session_at (view_sessions t) place; sender = sender_at place w.0.ipv4 w.0.ipv6; space = a.reply } ∷ restores_from t (place + 1) asked w.1

-- the table is not broken
all_sound : (t : List ℕ) (place : ℕ) (rs : List Written) → WroteAll t place rs → T (sound t)
all_sound t place [] w = (past t place w).0
all_sound t place (r ∷ rs) w = (wrote t place r w.0).sound

-- the sessions are the table's from the place on
all_sessions : (t : List ℕ) (place : ℕ) (asked : List Asking) (w : WroteAll t place (map written_of asked)) → drop place (view_sessions t) ≡ map restored (restores_from t place asked w)
unfolding session_at restores_from
all_sessions t place [] w = drop_of_length-le (view_sessions t) {i = place} (past t place w).1
all_sessions t place (a ∷ asked) w =
    drop-cons (view_sessions t) place (new_session 0 0) (wrote t place (written_of a) w.0).live
    ∙ ap (λ (m : Sessions). session_at (view_sessions t) place ∷ m) (ap (λ (n : ℕ). drop n (view_sessions t)) (sym (add-one place)) ∙ all_sessions t (place + 1) asked w.1)

all_allowed : (t : List ℕ) (place : ℕ) (asked : List Asking) (w : WroteAll t place (map written_of asked)) → T (all asking_allowed asked) → T (all restore_allowed (restores_from t place asked w))
unfolding restore_allowed asking_allowed all restores_from
all_allowed t place [] w h = tt
all_allowed t place (a ∷ asked) w h =
    let k = wrote t place (written_of a) w.0 in
    let f = all_head asking_allowed a asked h in
    let p = sender_at place w.0.ipv4 w.0.ipv6 in
    all_cons restore_allowed (record { session = session_at (view_sessions t) place; sender = p; space = a.reply }) (restores_from t (place + 1) asked w.1)
    (all_of_each (sender_allowed p ∷ octets a.reply ∷ leb min_space (length a.reply) ∷ []) (sender_kept t k.sound place k.live w.0.ipv4 w.0.ipv6 k.address, (and_left (octets a.reply) (leb min_space (length a.reply)) f, (and_right (octets a.reply) (leb min_space (length a.reply)) f, tt))))
    (all_allowed t (place + 1) asked w.1 (all_tail asking_allowed a asked h))

all_calls : (t : List ℕ) (place : ℕ) (asked : List Asking) (w : WroteAll t place (map written_of asked)) → map asking_call asked ≡ restore_calls (view_settings t) (restores_from t place asked w)
unfolding asking_call restore_calls restore_call restoration_at restores_from
all_calls t place [] w = refl
all_calls t place (a ∷ asked) w = let k = wrote t place (written_of a) w.0 in let e = all_calls t (place + 1) asked w.1 in (λ i. request (k.peer i) (k.is i) a.reply ∷ e i)

module _ (t : List ℕ) (asked : List Asking) (w : WroteAll t 0 (map written_of asked)) (ok : T (all asking_allowed asked)) where
  abbrev s : Settings
  s = view_settings t

  abbrev m : Sessions
  m = view_sessions t

  encoded : Encoded t s m
  encoded = sound_encoded t (all_sound t 0 (map written_of asked) w)

  order : Permᴰ m (map restored (restores_from t 0 asked w))
  order = subst (λ (n : Sessions). Permᴰ m n) (all_sessions t 0 asked w) (Permᴰ.refl m)

  -- the requests, computed from an empty table on, make the table
  computed : table_after_all (encode s []) (map asking_call asked) ≡ t
  computed =
      ap (table_after_all (encode s [])) (all_calls t 0 asked w)
      ∙ restored_table s encoded.settings m encoded.sessions (restores_from t 0 asked w) (all_allowed t 0 asked w ok) order
      ∙ sym encoded.whole

  given_back : (b : List ℕ) (again : List Step) → T (make s b).made → Ran (make s b).table again → map call_in again ≡ map asking_call asked
      → Restores t (make s b).table again
  given_back b again made went are =
      restores_table s encoded.settings m encoded.sessions t encoded.whole b (restores_from t 0 asked w) again made (all_allowed t 0 asked w ok) went
      (are ∙ all_calls t 0 asked w) order

pub restorations_give_back : RestorationsGiveBack
unfolding RestorationsGiveBack
restorations_give_back t made asked steps w ok e went are =
    let k = emptied t made e in
    let back = given_back t asked w ok e.found (steps_of steps) k.0 (subst (λ (u : List ℕ). Ran u (steps_of steps)) k.1 (ran made.table steps went)) are in
    subst (λ (u : List ℕ). Restores t u (steps_of steps)) (sym k.1) back

-- ---- nothing left out

-- each request with a reply space of zeros
abbrev with_space : Written → Asking
with_space r = record { peer = r.peer; message = r.message; reply = zeros min_space }

same_messages : (rs : List Written) → rs ≡ map written_of (map with_space rs)
same_messages [] = refl
same_messages (r ∷ rs) = ap (λ (l : List Written). r ∷ l) (same_messages rs)

spaces_allowed : (rs : List Written) → T (all asking_allowed (map with_space rs))
unfolding all asking_allowed zeros
spaces_allowed [] = tt
spaces_allowed (r ∷ rs) = all_cons asking_allowed (with_space r) (map with_space rs) tt (spaces_allowed rs)

pub restorations_tell_all : RestorationsTellAll
unfolding RestorationsTellAll
restorations_tell_all t u rs e v w =
    let asked = map with_space rs in
    let v' = subst (WroteAll t 0) (same_messages rs) v in
    let w' = subst (WroteAll u 0) (same_messages rs) w in
    sym (computed t asked v' (spaces_allowed rs))
    ∙ ap (λ (s : Settings). table_after_all (encode s []) (map asking_call asked)) e
    ∙ computed u asked w' (spaces_allowed rs)
