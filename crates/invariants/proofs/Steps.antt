-- One request on a table that is not broken: a refusal changes neither the table nor the live set; what is left is an accepted request.
-- Assumes nothing.
use mathlib.Core.Path.{◌≡◌, refl, sym, ap, ap₂, ◌∙◌, subst}
use Prim.Native.Nat.{ℕ}
use native.Mathlib.Nat.{le_trans}
use mathlib.Core.Bool.{Bool, true, false, not, ◌&&◌}
use mathlib.Core.List.{List}
use lib.ListN.{length}
use lib.Dec.{T, T_not, ltb, eqb, eqb→eq, lit≤}
use Rattle.octets.specs.Choice.{pick}
use Rattle.octets.specs.Octets.{octets, put}
use Rattle.rules.specs.Limits.{max_message, min_space}
use Rattle.rules.specs.Model.{Settings, Sessions, peer_of, is_peer}
use Rattle.rules.specs.Layout.{encode}
use Rattle.laws.proofs.TableLaws.{sound_encode, encoded_settings, sessions_back}
use Rattle.rules.specs.Sound.{settings_allowed, sessions_allowed, sound}
use Rattle.rules.specs.Message.{kind_of, header_seid, header_allowed, served}
use Rattle.rules.specs.Reading.{read_request}
use Rattle.rules.specs.Grants.{granted}
use Rattle.rules.specs.Stages.{Verdict, verdict}
use Rattle.rules.specs.Apply.{follow}
use Rattle.rules.specs.Reply.{reports}
use Rattle.invariants.proofs.ReplyLength.{body_short}
use Rattle.laws.proofs.HeaderLaws.{header_long}
use Rattle.laws.proofs.ReplyLaws.{reply_cause_lem, sequence_three}
use Rattle.rules.specs.Serve.{Served, unserved, sessions_after, reply_to, answered, answer, serve_sound, serve, serve_of}
use Rattle.rules.specs.Live.{replied, accepted_event, follow_event, live_step, reply_cause, created_got, Event}
use Rattle.rules.specs.Causes as why

-- what one call does to a table and to the live set: both go to sessions m' that keep the rules
pub record Kept (s : Settings) (m : Sessions) (t : List ℕ) (e : Event) : Type 0 where
  pub after : Sessions
  pub sound : T (sessions_allowed s after)
  pub table : t ≡ encode s after
  pub live : live_step m e ≡ after

-- the fact about one request
unfoldable pub Keeps : Type 0
Keeps =
    (s : Settings) (who : ℕ) (m : Sessions) (msg space : List ℕ) → T (settings_allowed s) → T (sessions_allowed s m) → T (octets msg) → T (octets space)
    → Kept s m (serve (encode s m) who msg space).table
    (replied who msg (serve (encode s m) who msg space).outcome (serve (encode s m) who msg space).space)

-- one of two answers
pick_case : (P : Served → Type 0) (b : Bool) (v w : Served) → (T b → P v) → (T (not b) → P w) → P (pick b v w)
pick_case P true v w f g = f tt
pick_case P false v w f g = g tt

-- ---- an accepted request

-- the two facts that are left: the sessions after it keep the rules, and the live set reads the same TEIDs and addresses from the reply
pub record Accepts (s : Settings) (who : ℕ) (m : Sessions) (msg : List ℕ) (space : List ℕ) : Type 0 where
  pub sound : T (sessions_allowed s (sessions_after s who m msg))
  pub cause : reply_cause (put 0 (reply_to s who m msg (verdict s who m msg)) space) ≡ 1
  pub same : follow (created_got (put 0 (reply_to s who m msg (verdict s who m msg)) space)) (kind_of msg) who (header_seid msg) (read_request msg) m ≡ sessions_after s who m msg

unfoldable pub AcceptedKeeps : Type 0
AcceptedKeeps =
    (s : Settings) (who : ℕ) (m : Sessions) (msg space : List ℕ) → T (is_peer who) → T (settings_allowed s) → T (sessions_allowed s m) → T (octets msg)
    → T (header_allowed msg) → T (served (kind_of msg)) → (verdict s who m msg).cause ≡ why.accepted → Accepts s who m msg space

-- ---- every request

module _ (accepts : AcceptedKeeps) (s : Settings) (who : ℕ) (m : Sessions) (msg space : List ℕ)
    (hs : T (settings_allowed s)) (hm : T (sessions_allowed s m)) (ho : T (octets msg)) where
  abbrev pub t : List ℕ
  t = encode s m

  abbrev pub P : Served → Type 0
  P r = Kept s m r.table (replied who msg r.outcome r.space)

  -- nothing changes where the event is no acceptance
  unchanged : (o : ℕ) (l : List ℕ) → accepted_event (replied who msg o l) ≡ false → Kept s m t (replied who msg o l)
  unchanged o l e = record { after = m; sound = hm; table = refl; live = unfold live_step in (ap (λ (b : Bool). pick b (follow_event m (replied who msg o l)) m) e) }

  unserved_kept : (n : ℕ) → eqb n 0 ≡ false → P (unserved n space t)
  unserved_kept n e = unchanged n space (unfold accepted_event in (ap (λ (b : Bool). b && eqb (reply_cause space) 1) e))

  refused_event : (v : Verdict) → T (header_allowed msg) → eqb v.cause why.accepted ≡ false → accepted_event (replied who msg 0 (put 0 (reply_to s who m msg v) space)) ≡ false
  unfolding accepted_event reply_to
  refused_event v hh e =
      let refused : T (not (eqb v.cause why.accepted)) = subst (λ (c : Bool). T (not c)) (sym e) tt in
      let gs = reports (granted s m (read_request msg)) (read_request msg) in
      ap (λ (c : ℕ). eqb c 1)
      (reply_cause_lem s who msg (read_request msg).seid v gs space (sequence_three msg (header_long msg hh)) (le_trans (body_short s hs (kind_of msg) (peer_of s who).address (read_request msg).seid v gs (λ h. absurd (T_not (eqb v.cause why.accepted) refused h))) (lit≤ tt)))
      ∙ e

  accepted_facts : T (is_peer who) → T (header_allowed msg) → T (served (kind_of msg)) → eqb (verdict s who m msg).cause why.accepted ≡ true → Accepts s who m msg space
  unfolding AcceptedKeeps
  accepted_facts hw hh hk e = accepts s who m msg space hw hs hm ho hh hk (eqb→eq (verdict s who m msg).cause why.accepted (subst T (sym e) tt))

  accepted_live : (l : List ℕ) → reply_cause l ≡ 1 → live_step m (replied who msg 0 l) ≡ follow (created_got l) (kind_of msg) who (header_seid msg) (read_request msg) m
  unfolding live_step accepted_event follow_event
  accepted_live l e = ap (λ (c : ℕ). pick (eqb c 1) (follow (created_got l) (kind_of msg) who (header_seid msg) (read_request msg) m) m) e

  answered_kept : T (is_peer who) → T (header_allowed msg) → T (served (kind_of msg)) → P (answer s who m msg space t)
  unfolding answer answered
  answered_kept hw hh hk = go (eqb (verdict s who m msg).cause why.accepted) refl
    where
      l : List ℕ
      l = put 0 (reply_to s who m msg (verdict s who m msg)) space

      go : (b : Bool) → eqb (verdict s who m msg).cause why.accepted ≡ b → Kept s m (pick b (encode s (sessions_after s who m msg)) t) (replied who msg 0 l)
      go false e = unchanged 0 l (refused_event (verdict s who m msg) hh e)
      go true e =
          let a = accepted_facts hw hh hk e in
          record { after = sessions_after s who m msg; sound = a.sound; table = refl; live = accepted_live l a.cause ∙ a.same }

  served_kept : T (is_peer who) → P (serve_sound s who m t msg space)
  unfolding serve_sound
  served_kept hw =
      pick_case P (ltb (length space) min_space) (unserved 2 space t) _ (λ h. unserved_kept 2 refl)
      (λ h2. pick_case P (ltb max_message (length msg)) (unserved 3 space t) _ (λ h. unserved_kept 3 refl)
      (λ h3. pick_case P (not (header_allowed msg)) (unserved 4 space t) _ (λ h. unserved_kept 4 refl)
      (λ h4. pick_case P (not (served (kind_of msg))) (unserved 5 space t) (answer s who m msg space t) (λ h. unserved_kept 5 refl)
      (λ h5. answered_kept hw (twice (header_allowed msg) h4) (twice (served (kind_of msg)) h5)))))
    where
      twice : (b : Bool) → T (not (not b)) → T b
      twice true h = tt
      twice false h = h

  pub one_kept_lem : P (serve t who msg space)
  unfolding serve serve_of
  one_kept_lem =
      pick_case P (is_peer who) _ (unserved 7 space t)
      (λ hw. pick_case P (sound t) _ (unserved 1 space t)
      (λ h. subst (λ (r : Served). P r)
      (ap₂ (λ (s' : Settings) (m' : Sessions). serve_sound s' who m' t msg space) (sym (encoded_settings s hs m hm)) (sym (sessions_back s hs m hm)))
      (served_kept hw))
      (λ h. absurd (T_not (sound t) h (sound_encode s hs m hm))))
      (λ h. unserved_kept 7 refl)

pub keeps : AcceptedKeeps → Keeps
unfolding Keeps
keeps accepts s who m msg space hs hm ho hsp = one_kept_lem accepts s who m msg space hs hm ho
