-- No memory of the departed: one call by the rules' unwinding, all calls by induction, and the tables that two runs left.
-- Assumes nothing.
use mathlib.Core.Path.{◌≡◌, refl, sym, ap, ap₂, ◌∙◌, subst}
use Prim.Native.Nat.{ℕ, ◌≤◌, ◌<◌}
use native.Mathlib.Omega.{arith}
use mathlib.Core.Bool.{Bool, true, false, not}
use mathlib.Core.Option.{Option, some}
use mathlib.Core.List.{List, [], ◌∷◌, map}
use borrow.Author.Tests.{leb-false, le-ltb}
use lib.Dec.{T, leb, ltb, eqb}
use lib.ListN.{length, take, get_or, get_or-map}
use Rattle.octets.specs.Choice.{pick}
use Rattle.octets.specs.Octets.{octets, put}
use Rattle.octets.specs.Lists.{all}
use Rattle.octets.proofs.Tests.{and_left, all_head, all_tail, is_true, of_true}
use Rattle.octets.proofs.Mapped.{of_pick}
use Rattle.rules.specs.Limits.{max_restoration}
use Rattle.rules.specs.Model.{Settings, Sessions, is_peer, of_peer, holdings}
use Rattle.rules.specs.Layout.{encode, view_settings, view_sessions}
use Rattle.rules.specs.Sound.{settings_allowed, sessions_allowed, sound}
use Rattle.rules.specs.Stages.{new_session, verdict}
use Rattle.rules.specs.Serve.{Served, reply_to, serve}
use Rattle.rules.specs.Restoring.{session_at, sender_addressed, restoration_at, Writing, unwritten, write_into, write_restoration}
use Rattle.rules.specs.Finding.{finding_of, session_place, holder_place, find_in, count_sessions, find_session, find_holder, Share, unshared, count_peer, counts_of, count_all}
use Rattle.rules.specs.Bare.{bare_session, bare, Alike}
use Rattle.rules.specs.Claim.{step_allowed, last_table}
use Rattle.laws.proofs.TableLaws.{sound_encode, encoded_settings, sessions_back, length_encode}
use Rattle.laws.proofs.BareLaws.{length_alike, seid_place_alike, holder_place_alike, peer_sessions_alike, peer_holdings_alike, count_alike, address_count_alike}
use Rattle.laws.proofs.BlankLaws.{blank_alike}
use Rattle.laws.proofs.KeptRules.{TableKept, table_kept}
use Rattle.restoration.proofs.RequestSteps.{take_put}
use Rattle.restoration.proofs.SoundSlots.{request_short}
use Rattle.claim.proofs.Unwinding.{Pair, reply_alike, counts_alike, address_counts_alike, serve_agree}
use Rattle.pfcp_session.specs.Calls.{count_answer, count_call, address_count_call, RequestCall, reply_of, request_answer, request_call, restoration_call, session_count_call, find_session_call, find_teid_call, peer_count_call, counts_call}
use Rattle.promises.specs.Runs.{HostStep, requested, counted, counted_addresses, HostRan, claim_step, steps_of, Run, live_after, table_after}
use Rattle.promises.specs.Departed.{called_in, hears_reply, hears_count, heard_in, Differ, ReadAlike, WriteAlike, NoMemory}
use Rattle.promises.proofs.AccidentLaws.{left, counted_sound}

-- ---- what is heard of a request

-- the reply is what was written
module _ (t : List ℕ) (who : ℕ) (msg space w : List ℕ) (same : reply_of t who msg ≡ w) where
  abbrev out : Served
  out = serve t who msg space

  -- nothing, where the outcome is not 0
  abbrev written : List ℕ
  written = pick (eqb out.outcome 0) w []

  heard_by : out.space ≡ put 0 written space → heard_in (requested who msg space (request_call t who msg space)) ≡ hears_reply out.outcome out.place (length written) written
  unfolding heard_in request_call request_answer
  heard_by e =
      ap (λ (n : ℕ). hears_reply out.outcome out.place n (take n out.space)) long
      ∙ ap (λ (l : List ℕ). hears_reply out.outcome out.place (length written) (take (length written) l)) e
      ∙ ap (hears_reply out.outcome out.place (length written)) (take_put written space)
    where
      long : pick (eqb out.outcome 0) (length (reply_of t who msg)) 0 ≡ length written
      long = ap (λ (l : List ℕ). pick (eqb out.outcome 0) (length l) 0) same ∙ sym (of_pick {A = List ℕ} {B = ℕ} length (eqb out.outcome 0) w [])

-- ---- one call

module _ (s : Settings) (hs : T (settings_allowed s)) where
  reply_encoded : (m : Sessions) → T (sessions_allowed s m) → (who : ℕ) (msg : List ℕ) → reply_of (encode s m) who msg ≡ reply_to s who m msg (verdict s who m msg)
  unfolding reply_of
  reply_encoded m hm who msg = ap₂ (λ (s' : Settings) (m' : Sessions). reply_to s' who m' msg (verdict s' who m' msg)) (encoded_settings s hs m hm) (sessions_back s hs m hm)

  -- what holds of tables that encode sessions which are alike
  of_pair : (P : List ℕ → List ℕ → Type 0) → ((m n : Sessions) → T (sessions_allowed s m) → T (sessions_allowed s n) → Alike m n → P (encode s m) (encode s n)) → (t u : List ℕ) → Pair s t u → P t u
  of_pair P f t u p =
      subst (λ (x : List ℕ). P x u) (sym p.one_table) (subst (P (encode s p.one)) (sym p.other_table) (f p.one p.other p.one_kept p.other_kept p.alike))

  -- what two requests left: the same answer, and two tables again
  record Next (who : ℕ) (msg space other : List ℕ) (r r' : RequestCall) : Type 0 where
    answer : heard_in (requested who msg space r) ≡ heard_in (requested who msg other r')
    tables : Pair s r.table r'.table

  module _ (who : ℕ) (msg space other : List ℕ) (ho : T (octets msg)) (long : length space ≡ length other) where
    encoded_next : (m n : Sessions) → T (sessions_allowed s m) → T (sessions_allowed s n) → Alike m n
        → Next who msg space other (request_call (encode s m) who msg space) (request_call (encode s n) who msg other)
    unfolding request_call request_answer
    encoded_next m n hm hn e =
        let w : List ℕ = reply_to s who m msg (verdict s who m msg) in
        let g = serve_agree s hs m n hm hn e who msg space other ho long in
        record {
          answer =
              heard_by (encode s m) who msg space w (reply_encoded m hm who msg) g.one_space
              ∙ ap₂ (λ (o k : ℕ). hears_reply o k (length (pick (eqb o 0) w [])) (pick (eqb o 0) w [])) g.outcome g.place
              ∙ sym (heard_by (encode s n) who msg other w (reply_encoded n hn who msg ∙ sym (reply_alike s hs m n hm hn e who msg)) g.other_space);
          tables = g.tables;
        }

    -- by the calls' contracts
    request_next : (t u : List ℕ) → Pair s t u → (r r' : RequestCall) → r ≡ request_call t who msg space → r' ≡ request_call u who msg other → Next who msg space other r r'
    request_next t u p r r' g h =
        subst (λ (x : RequestCall). Next who msg space other x r') (sym g) (subst (Next who msg space other (request_call t who msg space)) (sym h)
        (of_pair (λ (t' u' : List ℕ). Next who msg space other (request_call t' who msg space) (request_call u' who msg other)) encoded_next t u p))

  -- ---- all calls

  -- what two tables that the same calls were made on have left
  record Went (t u : List ℕ) (steps others : List HostStep) : Type 0 where
    answers : map heard_in steps ≡ map heard_in others
    tables : Pair s (last_table t (steps_of steps)) (last_table u (steps_of others))

  count_next : (t u : List ℕ) → Pair s t u → count_call t ≡ count_call u
  unfolding count_call
  count_next = of_pair (λ (t u : List ℕ). count_call t ≡ count_call u) (λ m n hm hn e. ap count_answer (counts_alike s hs m n hm hn e))

  address_count_next : (t u : List ℕ) → Pair s t u → address_count_call t ≡ address_count_call u
  unfolding address_count_call
  address_count_next = of_pair (λ (t u : List ℕ). address_count_call t ≡ address_count_call u) (λ m n hm hn e. ap count_answer (address_counts_alike s hs m n hm hn e))

  went : (steps others : List HostStep) (t u : List ℕ) → Pair s t u → T (all step_allowed (steps_of steps)) → HostRan t steps → HostRan u others
      → map called_in steps ≡ map called_in others → Went t u steps others
  unfolding called_in heard_in last_table claim_step step_allowed
  went [] [] t u p ho g h e = record { answers = refl; tables = p }
  went [] (b ∷ others) t u p ho g h e = absurd (let z : ◌≡◌ {A = ℕ} 0 1 = cc in omega arith)
  went (a ∷ steps) [] t u p ho g h e = absurd (let z : ◌≡◌ {A = ℕ} 0 1 = cc in omega arith)
  went (requested who msg space r ∷ steps) (counted c ∷ others) t u p ho g h e = absurd (let z : ◌≡◌ {A = ℕ} 0 1 = cc in omega arith)
  went (requested who msg space r ∷ steps) (counted_addresses c ∷ others) t u p ho g h e = absurd (let z : ◌≡◌ {A = ℕ} 0 1 = cc in omega arith)
  went (counted c ∷ steps) (requested who msg space r ∷ others) t u p ho g h e = absurd (let z : ◌≡◌ {A = ℕ} 0 1 = cc in omega arith)
  went (counted c ∷ steps) (counted_addresses d ∷ others) t u p ho g h e = absurd (let z : ◌≡◌ {A = ℕ} 0 1 = cc in omega arith)
  went (counted_addresses c ∷ steps) (requested who msg space r ∷ others) t u p ho g h e = absurd (let z : ◌≡◌ {A = ℕ} 0 1 = cc in omega arith)
  went (counted_addresses c ∷ steps) (counted d ∷ others) t u p ho g h e = absurd (let z : ◌≡◌ {A = ℕ} 0 1 = cc in omega arith)
  went (counted c ∷ steps) (counted d ∷ others) t u p ho g h e =
      let more : map called_in steps ≡ map called_in others = cc in
      let w = went steps others t u p (all_tail step_allowed (claim_step (counted c)) (steps_of steps) ho) g.1 h.1 more in
      record { answers = ap₂ ◌∷◌ (ap hears_count (g.0 ∙ count_next t u p ∙ sym h.0)) w.answers; tables = w.tables }
  went (counted_addresses c ∷ steps) (counted_addresses d ∷ others) t u p ho g h e =
      let more : map called_in steps ≡ map called_in others = cc in
      let w = went steps others t u p (all_tail step_allowed (claim_step (counted_addresses c)) (steps_of steps) ho) g.1 h.1 more in
      record { answers = ap₂ ◌∷◌ (ap hears_count (g.0 ∙ address_count_next t u p ∙ sym h.0)) w.answers; tables = w.tables }
  went (requested who msg space r ∷ steps) (requested who' msg' space' r' ∷ others) t u p ho g h e =
      let more : map called_in steps ≡ map called_in others = cc in
      let peer : who ≡ who' = cc in
      let same : msg ≡ msg' = cc in
      let long : length space ≡ length space' = cc in
      let okay : T (octets msg) = and_left (octets msg) (octets space) (all_head step_allowed (claim_step (requested who msg space r)) (steps_of steps) ho) in
      let n = request_next who msg space space' okay long t u p r r' g.0 (h.0 ∙ ap₂ (λ (q : ℕ) (z : List ℕ). request_call u q z space') (sym peer) (sym same)) in
      let w = went steps others r.table r'.table n.tables (all_tail step_allowed (claim_step (requested who msg space r)) (steps_of steps) ho) g.1 h.1 more in
      record { answers = ap₂ ◌∷◌ n.answer w.answers; tables = w.tables }

  -- ---- the tables

  -- the writer's outcome, in a space that any request fits
  writer_encoded : (m : Sessions) → T (sessions_allowed s m) → (place : ℕ) (ipv4 ipv6 space : List ℕ) → max_restoration ≤ length space
      → (restoration_call (encode s m) place ipv4 ipv6 space).outcome ≡ pick (leb (length m) place) 2 (pick (not (sender_addressed ipv4 ipv6)) 3 0)
  unfolding restoration_call write_restoration write_into
  writer_encoded m hm place ipv4 ipv6 space room =
      rw (is_true (sound t) sure)
      (ap (λ (l : Sessions). (pick (leb (length l) place) (unwritten 2 space) (pick (not (sender_addressed ipv4 ipv6)) (unwritten 3 space) written)).outcome) back
      ∙ by_tests (leb (length m) place) (sender_addressed ipv4 ipv6) refl refl)
    where
      t : List ℕ
      t = encode s m

      sure : T (sound t)
      sure = sound_encode s hs m hm

      back : view_sessions t ≡ m
      back = sessions_back s hs m hm

      whole : List ℕ
      whole = restoration_at t place ipv4 ipv6

      written : Writing
      written = pick (ltb (length space) (length whole)) (unwritten 4 space) (record { outcome = 0; used = length whole; peer = (session_at (view_sessions t) place).peer; space = put 0 whole space })

      fits : leb (length m) place ≡ false → T (sender_addressed ipv4 ipv6) → written.outcome ≡ 0
      fits c d =
          let live : place < length (view_sessions t) = rw back (leb-false (length m) place c) in
          let short = request_short t sure place live ipv4 ipv6 d in
          rw (le-ltb (length space) (length whole) (omega arith))

      by_tests : (c d : Bool) → leb (length m) place ≡ c → sender_addressed ipv4 ipv6 ≡ d
          → (pick c (unwritten 2 space) (pick (not d) (unwritten 3 space) written)).outcome ≡ pick c 2 (pick (not d) 3 0)
      by_tests true d e f = refl
      by_tests false false e f = refl
      by_tests false true e f = fits e (of_true f)

  found_encoded : (m : Sessions) → T (sessions_allowed s m) → (o : Sessions → Option ℕ) → find_in (encode s m) (o (view_sessions (encode s m))) ≡ finding_of (o m)
  unfolding find_in
  found_encoded m hm o = rw (is_true (sound (encode s m)) (sound_encode s hs m hm)) (ap (λ (l : Sessions). finding_of (o l)) (sessions_back s hs m hm))

  -- what a peer has
  abbrev share_of : ℕ → ℕ → Share
  share_of sessions teids = record { outcome = 0; sessions = sessions; teids = teids }

  shared : (who : ℕ) (m : Sessions) → T (sessions_allowed s m) → count_peer (encode s m) who ≡ pick (is_peer who) (share_of (length (of_peer who m)) (holdings who m)) (unshared 7)
  unfolding count_peer
  shared who m hm = rw (is_true (sound (encode s m)) (sound_encode s hs m hm)) (ap (λ (l : Sessions). pick (is_peer who) (share_of (length (of_peer who l)) (holdings who l)) (unshared 7)) (sessions_back s hs m hm))

  -- and all counts
  all_counted : (m : Sessions) → T (sessions_allowed s m) → count_all (encode s m) ≡ counts_of s m
  unfolding count_all
  all_counted m hm = rw (is_true (sound (encode s m)) (sound_encode s hs m hm)) (ap₂ (λ (u : Settings) (l : Sessions). counts_of u l) (encoded_settings s hs m hm) (sessions_back s hs m hm))

  module _ (m n : Sessions) (hm : T (sessions_allowed s m)) (hn : T (sessions_allowed s n)) (e : Alike m n) where
    found_same : (o : Sessions → Option ℕ) → o m ≡ o n → find_in (encode s m) (o (view_sessions (encode s m))) ≡ find_in (encode s n) (o (view_sessions (encode s n)))
    found_same o same = found_encoded m hm o ∙ ap finding_of same ∙ sym (found_encoded n hn o)

    differ : Differ (encode s m) (encode s n)
    differ =
        record {
          settings = encoded_settings s hs m hm ∙ sym (encoded_settings s hs n hn);
          sessions = ap bare (sessions_back s hs m hm) ∙ e ∙ ap bare (sym (sessions_back s hs n hn));
          lengths = length_encode s hs m hm ∙ sym (length_encode s hs n hn);
          octets = blank_alike s hs m n hm hn e;
        }

    read_alike : ReadAlike (encode s m) (encode s n)
    unfolding count_call address_count_call session_count_call count_sessions find_session_call find_session find_teid_call find_holder peer_count_call counts_call
    read_alike =
        record {
          count = ap count_answer (counts_alike s hs m n hm hn e);
          addresses = ap count_answer (address_counts_alike s hs m n hm hn e);
          sessions = found_same (λ (l : Sessions). some (length l)) (ap some (length_alike m n e));
          seids = λ who seid. found_same (session_place who seid) (seid_place_alike m n e who seid);
          teids = λ teid. found_same (holder_place teid) (holder_place_alike m n e teid);
          peers = λ who. shared who m hm ∙ (λ i. pick (is_peer who) (share_of (peer_sessions_alike m n e who i) (peer_holdings_alike m n e who i)) (unshared 7)) ∙ sym (shared who n hn);
          counts = all_counted m hm ∙ (λ i. record {
            outcome = 0;
            sessions1 = peer_sessions_alike m n e 1 i;
            teids1 = peer_holdings_alike m n e 1 i;
            sessions2 = peer_sessions_alike m n e 2 i;
            teids2 = peer_holdings_alike m n e 2 i;
            free = count_alike s m n e i;
            free_addresses = address_count_alike s m n e i;
          }) ∙ sym (all_counted n hn);
        }

    write_alike : WriteAlike (encode s m) (encode s n)
    unfolding session_at
    write_alike =
        record {
          outcomes = λ place ipv4 ipv6 space other room room'.
              writer_encoded m hm place ipv4 ipv6 space room
              ∙ ap (λ (k : ℕ). pick (leb k place) 2 (pick (not (sender_addressed ipv4 ipv6)) 3 0)) (length_alike m n e)
              ∙ sym (writer_encoded n hn place ipv4 ipv6 other room');
          requests = λ place.
              ap (λ (l : Sessions). bare_session (session_at l place)) (sessions_back s hs m hm)
              ∙ sym (get_or-map bare_session m place (new_session 0 0))
              ∙ ap (λ (l : Sessions). get_or l place (bare_session (new_session 0 0))) e
              ∙ get_or-map bare_session n place (new_session 0 0)
              ∙ ap (λ (l : Sessions). bare_session (session_at l place)) (sym (sessions_back s hs n hn));
        }

-- ---- after any run

module _ (run : Run) where
  kept : TableKept (table_after run)
  kept = table_kept (table_after run) (counted_sound (table_after run) _ (left run).count)

  settings_allowed_lem : T (settings_allowed run.settings)
  settings_allowed_lem = subst (λ (s : Settings). T (settings_allowed s)) (left run).settings kept.settings

  live_allowed : T (sessions_allowed run.settings (live_after run))
  live_allowed = subst (λ (s : Settings). T (sessions_allowed s (live_after run))) (left run).settings (subst (λ (m : Sessions). T (sessions_allowed (view_settings (table_after run)) m)) (left run).records kept.sessions)

pub no_memory : NoMemory
unfolding NoMemory
no_memory one other same e steps others ho g h asked =
    let s = one.settings in
    let hs = settings_allowed_lem one in
    let p : Pair s (table_after one) (table_after other) =
    record {
      one = live_after one;
      other = live_after other;
      one_kept = live_allowed one;
      other_kept = subst (λ (x : Settings). T (sessions_allowed x (live_after other))) (sym same) (live_allowed other);
      one_table = (left one).encoded;
      other_table = (left other).encoded ∙ ap (λ (x : Settings). encode x (live_after other)) (sym same);
      alike = e;
    } in
    let w = went s hs steps others (table_after one) (table_after other) p ho g h asked in
    record { answers = w.answers; tables = of_pair s hs Differ (differ s hs) _ _ w.tables; readings = of_pair s hs ReadAlike (read_alike s hs) _ _ w.tables; restorations = of_pair s hs WriteAlike (write_alike s hs) _ _ w.tables }
