-- Demand 3 holds of the exported calls: what their contracts say of a run is what the claim asks of one. So do its restorations, and what it says of
-- two runs.
-- Assumes nothing.
use mathlib.Core.Path.{◌≡◌, refl, sym, ap, ap₂, ◌∙◌, subst}
use Prim.Native.Nat.{ℕ}
use native.Mathlib.Omega.{arith}
use mathlib.Core.Bool.{Bool, true, false}
use mathlib.Core.List.{List, [], ◌∷◌}
use lib.Dec.{T}
use Rattle.octets.specs.Choice.{pick}
use Rattle.rules.specs.Model.{Settings}
use Rattle.rules.specs.Layout.{encode}
use Rattle.rules.specs.Sound.{Made, make, Count, broken, free, count_free, count_addresses}
use Rattle.rules.specs.Serve.{Served, serve}
use Rattle.rules.specs.Claim.{Ran, last_table, live_set, Restores, Promise, Demand3}
use Rattle.claim.proofs.Demand3.{demand3}
use Rattle.pfcp_session.specs.Calls.{MakeCall, make_answer, make_call, CountCall, count_answer, count_call, address_count_call, RequestCall, request_answer, request_call}
use Rattle.promises.specs.Runs.{HostStep, requested, counted, counted_addresses, HostRan, count_of, claim_step, steps_of, Run, live_after, table_after, HostClaim, HostRestores, TwoRuns}

-- a request's outcome, place, space and table are those of `serve`
pub request_step : (t : List ℕ) (who : ℕ) (msg space : List ℕ) (r : RequestCall) → r ≡ request_call t who msg space
    → ◌≡◌ {A = Served} (record { outcome = r.outcome; place = r.place; space = r.space; table = r.table }) (serve t who msg space)
unfolding request_call request_answer
request_step t who msg space r e = ap (λ (x : RequestCall). record { outcome = x.outcome; place = x.place; space = x.space; table = x.table }) e

-- a count is that of `count_free`, or of `count_addresses`
count_back : (c : Count) → count_of (count_answer c) ≡ c
unfolding count_of
count_back broken = refl
count_back (free n) = refl

address_count_step : (t : List ℕ) (c : CountCall) → c ≡ address_count_call t → count_of c ≡ count_addresses t
unfolding address_count_call
address_count_step t c e = ap count_of e ∙ count_back (count_addresses t)

count_step : (t : List ℕ) (c : CountCall) → c ≡ count_call t → count_of c ≡ count_free t
unfolding count_call
count_step t c e = ap count_of e ∙ count_back (count_free t)

pub ran : (t : List ℕ) (hs : List HostStep) → HostRan t hs → Ran t (steps_of hs)
unfolding claim_step
ran t [] h = tt
ran t (requested who msg space r ∷ hs) h = (request_step t who msg space r h.0, ran r.table hs h.1)
ran t (counted c ∷ hs) h = (count_step t c h.0, ran t hs h.1)
ran t (counted_addresses c ∷ hs) h = (address_count_step t c h.0, ran t hs h.1)

-- a table was made where the call says 0
pub is_made : (m : Made) → (make_answer m).outcome ≡ 0 → T m.made
is_made m e = go m.made e
  where
    go : (b : Bool) → ◌≡◌ {A = ℕ} (pick b 0 1) 0 → T b
    go true z = tt
    go false z = absurd (omega arith)

-- calls on a table that was made, as the claim has them
pub record Began (s : Settings) (found : List ℕ) (t : List ℕ) (steps : List HostStep) : Type 0 where
  pub table : t ≡ (make s found).table
  pub yes : T (make s found).made
  pub went : Ran (make s found).table (steps_of steps)

pub began : (s : Settings) (found : List ℕ) (made : MakeCall) (steps : List HostStep) → made ≡ make_call s found → made.outcome ≡ 0 → HostRan made.table steps
    → Began s found made.table steps
unfolding make_call
began s found made steps making success h =
    let same : made.table ≡ (make s found).table = ap (λ (x : MakeCall). x.table) making in
    record {
      table = same;
      yes = is_made (make s found) (sym (ap (λ (x : MakeCall). x.outcome) making) ∙ success);
      went = subst (λ (t : List ℕ). Ran t (steps_of steps)) same (ran made.table steps h);
    }

pub run_began : (run : Run) → Began run.settings run.found run.made.table run.steps
run_began run = began run.settings run.found run.made run.steps run.making run.success run.ran

pub host_claim : HostClaim
unfolding HostClaim live_after table_after Demand3
host_claim run =
    let hs = steps_of run.steps in
    let b = run_began run in
    subst (λ (t : List ℕ). Promise run.settings (live_set hs) (last_table t hs)) (sym b.table) (demand3 run.settings run.found hs b.yes run.allowed b.went)

pub host_restores : HostRestores
unfolding HostRestores HostClaim
host_restores run found made rs steps making success ok h are order =
    let b = began run.settings found made steps making success h in
    subst (λ (t : List ℕ). Restores (table_after run) t (steps_of steps)) (sym b.table) ((host_claim run).restores found rs (steps_of steps) b.yes ok b.went are order)

pub two_runs : TwoRuns
unfolding TwoRuns HostClaim
two_runs a b e f = (host_claim a).holds.encoded ∙ ap₂ encode e f ∙ sym (host_claim b).holds.encoded
