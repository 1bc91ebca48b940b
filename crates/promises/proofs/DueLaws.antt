-- Each peer has its due after every run of the exported calls, and a request touches its peer's sessions alone.
-- Assumes nothing.
use mathlib.Core.Path.{sym, ap, ◌∙◌, subst}
use Prim.Native.Nat.{ℕ}
use mathlib.Core.List.{List}
use Rattle.rules.specs.Model.{Settings, Sessions}
use Rattle.rules.specs.Sound.{make}
use Rattle.rules.specs.Serve.{Served}
use Rattle.rules.specs.Live.{reply_cause}
use Rattle.rules.specs.Claim.{last_table, live_set, Due, EachItsDue}
use Rattle.claim.proofs.Demand3.{each_its_due}
use Rattle.promises.specs.Runs.{steps_of, live_after, table_after}
use Rattle.promises.specs.Traffic.{traffic_live}
use Rattle.promises.specs.Due.{DueTo, HostDue, TrafficDue}
use Rattle.promises.proofs.RunLaws.{request_step, run_began}
use Rattle.promises.proofs.TrafficLaws.{engine_run, engine_settings, engine_live, engine_table}

-- by the contract of the call
due_to : (s : Settings) (m : Sessions) (t : List ℕ) → Due s m t → DueTo s m t
due_to s m t d =
    record {
      limited = d.limited;
      guaranteed = λ who msg space r g zero full.
          let same = request_step t who msg space r g.call in
          d.answered who msg space g.message g.within (sym (ap (λ (v : Served). v.outcome) same) ∙ zero) (sym (ap (λ (v : Served). reply_cause v.space) same) ∙ full);
    }

pub host_due : HostDue
unfolding HostDue live_after table_after EachItsDue
host_due run =
    let s = run.settings in
    let hs = steps_of run.steps in
    let b = run_began run in
    subst (λ (t : List ℕ). DueTo s (live_set hs) (last_table t hs)) (sym b.table)
    (due_to s (live_set hs) (last_table (make s run.found).table hs) (each_its_due s run.found hs b.yes run.allowed b.went))

pub traffic_due : TrafficDue
unfolding TrafficDue HostDue
traffic_due run =
    subst (λ (t : List ℕ). DueTo run.settings (traffic_live run) t) (engine_table run)
    (subst (λ (m : Sessions). DueTo run.settings m (table_after (engine_run run))) (engine_live run)
    (subst (λ (s : Settings). DueTo s (live_after (engine_run run)) (table_after (engine_run run))) (engine_settings run) (host_due (engine_run run))))
