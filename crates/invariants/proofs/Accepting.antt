-- An accepted request keeps the rules, from one fact: the sessions after it keep them.
-- Assumes nothing.
use mathlib.Core.Path.{ap, ◌∙◌}
use Prim.Native.Nat.{ℕ}
use mathlib.Core.List.{List}
use lib.Dec.{T}
use Rattle.octets.specs.Octets.{octets}
use Rattle.rules.specs.Model.{Settings, Sessions, is_peer}
use Rattle.rules.specs.Sound.{settings_allowed, sessions_allowed}
use Rattle.rules.specs.Message.{kind_of, header_seid, served}
use Rattle.rules.specs.Reading.{read_request}
use Rattle.rules.specs.Grants.{Kind, Got, granted}
use Rattle.rules.specs.Stages.{verdict}
use Rattle.rules.specs.Reply.{reports}
use Rattle.rules.specs.Apply.{follow}
use Rattle.rules.specs.Serve.{sessions_after, reply_to}
use Rattle.invariants.proofs.VerdictLaws.{Passed, passed}
use Rattle.laws.proofs.ReportLaws.{granted_reports_fit}
use Rattle.invariants.proofs.ReplyLength.{reports_few}
use Rattle.invariants.proofs.GrantReply.{accepted_cause, accepted_got}
use Rattle.invariants.proofs.Reported.{follow_said}
use Rattle.laws.proofs.HeaderLaws.{header_long}
use Rattle.invariants.proofs.Steps.{AcceptedKeeps}

-- what is left to prove
unfoldable pub SoundAfter : Type 0
SoundAfter =
    (s : Settings) (who : ℕ) (m : Sessions) (msg : List ℕ) → T (is_peer who) → T (settings_allowed s) → T (sessions_allowed s m) → T (octets msg) → T (served (kind_of msg))
    → Passed s who m msg → T (sessions_allowed s (sessions_after s who m msg))

pub accepting : SoundAfter → AcceptedKeeps
unfolding AcceptedKeeps SoundAfter
accepting sound_after s who m msg space hw hs hm ho hh hk e =
    let p = passed s who m msg e in
    let r = read_request msg in
    let k = p.rules in
    let gs = reports (granted s m r) r in
    let few = reports_few s hs who m msg e in
    let fits = granted_reports_fit s hs m msg ho in
    let long = header_long msg hh in
    record {
      sound = sound_after s who m msg hw hs hm ho hk p;
      cause = unfold reply_to in (accepted_cause s hs who msg long r.seid (verdict s who m msg) e gs few space);
      same = unfold reply_to sessions_after in (
          ap {B = Sessions} (λ (f : Kind → ℕ → Got). follow f (kind_of msg) who (header_seid msg) r m) (λ j i n. accepted_got s hs who msg long r.seid (verdict s who m msg) e gs few space fits i n j)
          ∙ follow_said s m r k.created_pdrs_once k.created_endpoints_once (kind_of msg) who (header_seid msg));
    }
