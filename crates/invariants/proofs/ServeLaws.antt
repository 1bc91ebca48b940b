-- One call of `serve`: a table that is not broken stays so, a refusal leaves it octet for octet, outcomes 1 to 5 write nothing,
-- and a reply has at most 1,280 octets.
-- Assumes nothing.
use mathlib.Core.Path.{◌≡◌, refl, sym, ap, ◌∙◌, subst}
use Prim.Native.Nat.{ℕ, ◌≤◌}
use native.Mathlib.Nat.{le_trans, le_of_eq}
use mathlib.Core.Bool.{Bool, true, false, not, ◌&&◌}
use mathlib.Core.List.{List}
use lib.ListN.{length}
use native.Mathlib.Omega.{arith}
use lib.Dec.{T, T_not, not_T, ltb, eqb, eqb→eq, nltb→le, lit≤}
use mir.Facts.{no_ltb}
use Rattle.octets.specs.Choice.{pick}
use Rattle.octets.specs.Octets.{octets, put}
use Rattle.octets.proofs.Tests.{and_right, of_true, pick_yes, pick_no}
use Rattle.octets.proofs.ListLaws.{not_not, pick_cases}
use Rattle.rules.specs.Model.{Settings, Sessions, is_peer}
use Rattle.rules.specs.Limits.{max_message, min_space}
use Rattle.rules.specs.Layout.{encode, view_settings, view_sessions}
use Rattle.laws.proofs.KeptRules.{table_kept}
use Rattle.laws.proofs.TableLaws.{sound_encode}
use Rattle.rules.specs.Sound.{sound}
use Rattle.rules.specs.Message.{kind_of, header_allowed, served}
use Rattle.rules.specs.Reading.{read_request}
use Rattle.rules.specs.Grants.{granted}
use Rattle.rules.specs.Stages.{Verdict, verdict}
use Rattle.rules.specs.Reply.{reports}
use Rattle.laws.proofs.HeaderLaws.{header_long}
use Rattle.laws.proofs.ReplyLaws.{own_found, sequence_three, reply_cause_lem}
use Rattle.invariants.proofs.ReplyLength.{reply_body_short, reply_short}
use Rattle.octets.proofs.Put.{length_put}
use Rattle.rules.specs.Serve.{Served, unserved, sessions_after, reply_to, answered, answer, serve_sound, serve, serve_of}
use Rattle.rules.specs.Live.{replied, accepted_event, reply_in, reply_cause}
use Rattle.rules.specs.Causes as why
use Rattle.invariants.proofs.Steps.{AcceptedKeeps, one_kept_lem}
use Rattle.invariants.proofs.Accepting.{SoundAfter, accepting}
use Rattle.invariants.proofs.After.{sound_after}
use Rattle.invariants.proofs.Changed.{changed_sound}

-- octets put at the front of a space that holds them leave its length
put_front_length : (xs space : List ℕ) → length xs ≤ length space → length (put 0 xs space) ≡ length space
put_front_length xs space h = length_put 0 xs space (omega arith)

-- ---- facts of ChangedSound that are used again

-- the sessions after an accepted request keep the rules
pub sessions_after_lem : SoundAfter
sessions_after_lem = sound_after changed_sound

-- and the live set reads the same from the reply
pub accepted_keeps : AcceptedKeeps
accepted_keeps = accepting sessions_after_lem

-- ---- the outcomes

-- what stands when a request is answered with outcome 0
pub record Answers (t : List ℕ) (who : ℕ) (msg space : List ℕ) : Type 0 where
  pub peer : T (is_peer who)
  pub table : T (sound t)
  pub room : min_space ≤ length space
  pub short : length msg ≤ max_message
  pub header : T (header_allowed msg)
  pub kind : T (served (kind_of msg))

module _ (t : List ℕ) (who : ℕ) (msg space : List ℕ) where
  -- every call is a refusal with an outcome that is not 0, or is answered
  pub serve_cases : (P : Served → Type 0) → ((n : ℕ) → eqb n 0 ≡ false → P (unserved n space t))
      → (Answers t who msg space → P (answer (view_settings t) who (view_sessions t) msg space t)) → P (serve t who msg space)
  unfolding serve serve_of serve_sound
  serve_cases P refused ok =
      pick_cases P (is_peer who) _ (unserved 7 space t)
      (λ h0. pick_cases P (sound t) _ (unserved 1 space t)
      (λ h1. pick_cases P (ltb (length space) min_space) (unserved 2 space t) _ (λ h. refused 2 refl)
      (λ h2. pick_cases P (ltb max_message (length msg)) (unserved 3 space t) _ (λ h. refused 3 refl)
      (λ h3. pick_cases P (not (header_allowed msg)) (unserved 4 space t) _ (λ h. refused 4 refl)
      (λ h4. pick_cases P (not (served (kind_of msg))) (unserved 5 space t) _ (λ h. refused 5 refl)
      (λ h5. ok (record {
        peer = h0;
        table = h1;
        room = nltb→le (length space) min_space h2;
        short = nltb→le max_message (length msg) h3;
        header = not_not (header_allowed msg) h4;
        kind = not_not (served (kind_of msg)) h5;
      }))))))
      (λ h. refused 1 refl))
      (λ h. refused 7 refl)

  -- outcome 0 is answered
  pub answers : T (eqb (serve t who msg space).outcome 0) → Answers t who msg space
  answers = serve_cases (λ (v : Served). T (eqb v.outcome 0) → Answers t who msg space) (λ n e h. absurd (subst T e h)) (λ a h. a)

  -- and what is answered has outcome 0
  pub answered_zero : Answers t who msg space → serve t who msg space ≡ answer (view_settings t) who (view_sessions t) msg space t
  unfolding serve serve_of serve_sound
  answered_zero a =
      pick_yes (is_peer who) _ (unserved 7 space t) a.peer
      ∙ pick_yes (sound t) _ (unserved 1 space t) a.table
      ∙ pick_no (ltb (length space) min_space) (unserved 2 space t) _ (no_ltb a.room)
      ∙ pick_no (ltb max_message (length msg)) (unserved 3 space t) _ (no_ltb a.short)
      ∙ pick_no (not (header_allowed msg)) (unserved 4 space t) _ (not_T (not (header_allowed msg)) (λ n. T_not (header_allowed msg) n a.header))
      ∙ pick_no (not (served (kind_of msg))) (unserved 5 space t) _ (not_T (not (served (kind_of msg))) (λ n. T_not (served (kind_of msg)) n a.kind))

  -- outcomes 7 and 1 to 5 write nothing
  pub unserved_nothing : T (not (eqb (serve t who msg space).outcome 0)) → serve t who msg space ≡ unserved (serve t who msg space).outcome space t
  unserved_nothing =
      serve_cases (λ (v : Served). T (not (eqb v.outcome 0)) → v ≡ unserved v.outcome space t) (λ n e h. refl)
      (λ a h. absurd (unfold answer answered in h))

-- ---- one call on a table that is not broken

module _ (t : List ℕ) (who : ℕ) (msg space : List ℕ) (ho : T (octets msg)) where
  -- the table's settings and sessions, the verdict, and what the call leaves
  abbrev pub s : Settings
  s = view_settings t

  abbrev pub m : Sessions
  m = view_sessions t

  abbrev pub v : Verdict
  v = verdict s who m msg

  abbrev pub out : Served
  out = serve t who msg space

  -- an answered request that is accepted by its verdict is accepted as the host sees it
  accepted_seen : Answers t who msg space → eqb v.cause why.accepted ≡ true
      → reply_cause (put 0 (reply_to s who m msg v) space) ≡ 1
  unfolding AcceptedKeeps
  accepted_seen a e =
      let k = table_kept t a.table in
      (accepted_keeps s who m msg space a.peer k.settings k.sessions ho a.header a.kind (eqb→eq v.cause why.accepted (of_true e))).cause

  -- a request that is not accepted, by its outcome and its reply's cause, leaves the table octet for octet
  pub refused_same : T (not (accepted_event (replied who msg out.outcome out.space))) → out.table ≡ t
  refused_same =
      serve_cases t who msg space (λ (o : Served). T (not (accepted_event (replied who msg o.outcome o.space))) → o.table ≡ t) (λ n e h. refl)
      (λ a. unfold answer answered accepted_event in (go a (eqb v.cause why.accepted) refl))
    where
      go : Answers t who msg space → (b : Bool) → eqb v.cause why.accepted ≡ b
          → T (not (eqb (reply_cause (put 0 (reply_to s who m msg v) space)) 1))
          → pick b (encode s (sessions_after s who m msg)) t ≡ t
      go a true e h = absurd (subst (λ (c : ℕ). T (not (eqb c 1))) (accepted_seen a e) h)
      go a false e h = refl

  -- the reply's cause is the verdict's
  pub served_cause : T (eqb out.outcome 0) → reply_cause out.space ≡ v.cause
  served_cause =
      serve_cases t who msg space (λ (o : Served). T (eqb o.outcome 0) → reply_cause o.space ≡ v.cause)
      (λ n e h. absurd (subst T e h))
      (λ b h. unfold answer answered reply_to in (
      let k = table_kept t b.table in
      reply_cause_lem s who msg (read_request msg).seid v (reports (granted s m (read_request msg)) (read_request msg)) space (sequence_three msg (header_long msg b.header))
      (le_trans (reply_body_short s k.settings who m msg) (lit≤ tt))))

  -- a refusal by its reply's cause
  pub refused_cause : T (eqb out.outcome 0) → T (not (eqb (reply_cause out.space) 1)) → out.table ≡ t
  refused_cause zero' h = refused_same (unfold accepted_event in (not_T (eqb out.outcome 0 && eqb (reply_cause out.space) 1)
      (λ b. T_not (eqb (reply_cause out.space) 1) h (and_right (eqb out.outcome 0) (eqb (reply_cause out.space) 1) b))))

  -- the reply is the one that 01 writes
  pub reply_found : T (eqb out.outcome 0) → reply_in out.space ≡ reply_to s who m msg v
  reply_found =
      serve_cases t who msg space (λ (o : Served). T (eqb o.outcome 0) → reply_in o.space ≡ reply_to s who m msg v)
      (λ n e h. absurd (subst T e h))
      (λ b h. unfold answer answered reply_to in (
      let k = table_kept t b.table in
      own_found s who msg (read_request msg).seid v (reports (granted s m (read_request msg)) (read_request msg)) space
      (sequence_three msg (header_long msg b.header)) (le_trans (reply_body_short s k.settings who m msg) (lit≤ tt))))

  -- so it has at most 1,280 octets
  pub reply_length_lem : T (eqb out.outcome 0) → length (reply_in out.space) ≤ min_space
  reply_length_lem h =
      let a = answers t who msg space h in
      le_trans (le_of_eq (ap length (reply_found h)))
      (le_trans (reply_short s (table_kept t a.table).settings who m msg (header_long msg a.header)) (lit≤ tt))

  -- the reply space keeps its length, whatever the outcome
  pub space_length : length out.space ≡ length space
  space_length =
      serve_cases t who msg space (λ (o : Served). length o.space ≡ length space) (λ n e. refl)
      (λ a. unfold answer answered in (
      put_front_length (reply_to s who m msg v) space
      (le_trans (reply_short s (table_kept t a.table).settings who m msg (header_long msg a.header)) (le_trans (lit≤ tt) a.room))))

-- a table that is not broken stays so
pub serve_sound_lem : (t : List ℕ) (who : ℕ) (msg space : List ℕ) → T (octets msg) → T (sound t) → T (sound (serve t who msg space).table)
serve_sound_lem t who msg space ho h =
    let k = table_kept t h in
    let s = view_settings t in
    let m = view_sessions t in
    let o = one_kept_lem accepted_keeps s who m msg space k.settings k.sessions ho in
    subst (λ (u : List ℕ). T (sound (serve u who msg space).table)) k.encoded
    (subst (λ (u : List ℕ). T (sound u)) (sym o.table) (sound_encode s k.settings o.after o.sound))
