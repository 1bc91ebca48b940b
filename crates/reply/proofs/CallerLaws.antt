-- What callers need: a refusal's reply shows neither SEID nor reports. Assumes nothing.
use mathlib.Core.Path.{◌≡◌}
use Prim.Native.Nat.{ℕ}
use borrow.Author.Tests.{ne_eqb}
use mathlib.Core.List.{List}
use Rattle.rules.specs.Model.{Settings}
use Rattle.rules.specs.Stages.{Verdict}
use Rattle.rules.specs.Reply.{Reports, reply_body, reply_seid, reply}
use Rattle.rules.specs.Causes as why

pub refusal_alone : (s : Settings) (who : ℕ) (msg : List ℕ) (seid seid' : ℕ) (v : Verdict) (gs gs' : Reports) → (v.cause ≡ why.accepted → ⊥) → reply s who msg seid v gs ≡ reply s who msg seid' v gs'
unfolding reply reply_body reply_seid
refusal_alone s who msg seid seid' v gs gs' n = rw (ne_eqb v.cause why.accepted n)
