-- A refusal: its reply does not depend on grants, on the F-SEID or on the place of the fault, and the table stays.
-- Assumes nothing.
use Rattle.std.specs.Prelude.{Option}
use mathlib.Core.Path.{◌≡◌, sym, ap, ◌∙◌}
use mathlib.Core.List.{List}
use Prim.Native.Nat.{ℕ}
use borrow.Author.Tests.{ne_eqb}
use lib.ListN.{length}
use Rattle.octets.specs.Octets.{put}
use Rattle.rules.specs.Layout.{view_settings, view_sessions}
use Rattle.rules.specs.Model.{Settings}
use Rattle.rules.specs.Reading.{read_request}
use Rattle.rules.specs.Grants.{granted}
use Rattle.rules.specs.Stages.{Verdict}
use Rattle.rules.specs.Reply.{no_reports, reports, reply_body, reply}
use Rattle.rules.specs.Serve.{reply_to}
use Rattle.writing.specs.Placed.{written}
use Rattle.reply.specs.Naming.{refusal}
use Rattle.reply.proofs.CallerLaws.{refusal_alone}
use Rattle.changes.specs.Answers.{verdict_on, placed_at, Answers, Refusing}

module _ (t : List ℕ) (who : ℕ) (msg out : List ℕ) where
  -- the reply of a refusal, whatever was read
  alone : (c : ℕ) (o : Option ℕ) (p : ℕ) → (c ≡ 1 → ⊥) → verdict_on t who msg ≡ placed_at p (refusal c o) → reply (view_settings t) who msg 0 (refusal c o) no_reports ≡ reply_to (view_settings t) who (view_sessions t) msg (verdict_on t who msg)
  unfolding reply_to reply reply_body
  alone c o p h e =
      refusal_alone (view_settings t) who msg 0 (read_request msg).seid (refusal c o) no_reports (reports (granted (view_settings t) (view_sessions t) (read_request msg)) (read_request msg)) h
      ∙ ap (λ (v : Verdict). reply (view_settings t) who msg (read_request msg).seid v (reports (granted (view_settings t) (view_sessions t) (read_request msg)) (read_request msg))) (sym e)

  pub refused_answers : (s : Settings) (c : ℕ) (o : Option ℕ) (used : ℕ) (out' : List ℕ) → Refusing t who msg out c o → s ≡ view_settings t → (used, out') ≡ written (reply s who msg 0 (refusal c o) no_reports) out → Answers t who msg out used out' t
  refused_answers s c o used out' k is w' =
      let w : (used, out') ≡ written (reply (view_settings t) who msg 0 (refusal c o) no_reports) out = rw is at w' in
      let e = k.verdict in
      let h = k.other in
      let same = alone c o k.place h e in
      record {
        long = ap (λ (p : ℕ × List ℕ). p.0) w ∙ ap length same;
        space = ap (λ (p : ℕ × List ℕ). p.1) w ∙ ap (λ (l : List ℕ). put 0 l out) same;
        table = rw (e, ne_eqb c 1 h);
      }
