-- A host's run of the exported calls, each of which left what its contract says; and demand 3 of it, its restorations and its other runs by
-- the exported calls too.
-- Assumes nothing.
use Rattle.std.specs.Prelude.{ℕ, ◌≡◌, T, eqb}
use mathlib.Core.List.{List, [], ◌∷◌, map, Permᴰ}
use Rattle.octets.specs.Choice.{pick}
use Rattle.octets.specs.Lists.{all}
use Rattle.rules.specs.Model.{Settings, Sessions}
use Rattle.rules.specs.Sound.{Count, broken, free}
use Rattle.rules.specs.Claim.{Step, asked, told, told_addresses, step_allowed, last_table, live_set, Restore, restored, restore_allowed, restore_calls, call_in, Restores, Promise}
use Rattle.pfcp_session.specs.Calls.{MakeCall, make_call, CountCall, count_call, address_count_call, RequestCall, request_call}

-- a call of pfcp_request with the number of its peer, its message and reply space, or one of pfcp_free_count or pfcp_free_addresses, and what it left
pub data HostStep : Type 0 where
  requested : ℕ → List ℕ → List ℕ → RequestCall → HostStep
  counted counted_addresses : CountCall → HostStep

-- each call left what its contract says on the table t, and the next one had the table that it left
abbrev pub HostRan : List ℕ → List HostStep → Type 0
HostRan t [] = Unit
HostRan t (requested who msg space r ∷ steps) = (r ≡ request_call t who msg space) × HostRan r.table steps
HostRan t (counted c ∷ steps) = (c ≡ count_call t) × HostRan t steps
HostRan t (counted_addresses c ∷ steps) = (c ≡ address_count_call t) × HostRan t steps

-- the same in the claim's words
unfoldable pub count_of : CountCall → Count
count_of c = pick (eqb c.outcome 0) (free c.count) broken

unfoldable pub claim_step : HostStep → Step
claim_step (requested who msg space r) = asked who msg space (record { outcome = r.outcome; place = r.place; space = r.space; table = r.table })
claim_step (counted c) = told (count_of c)
claim_step (counted_addresses c) = told_addresses (count_of c)

abbrev pub steps_of : List HostStep → List Step
steps_of hs = map claim_step hs

-- pfcp_make_table said 0 of the octets found, and any calls with any octets followed, each of which left what its contract says
pub record Run : Type 0 where
  pub settings : Settings
  pub found : List ℕ
  pub made : MakeCall
  pub steps : List HostStep
  pub making : made ≡ make_call settings found
  pub success : made.outcome ≡ 0
  pub allowed : T (all step_allowed (steps_of steps))
  pub ran : HostRan made.table steps

-- the live set, from messages, outcomes and replies alone
unfoldable pub live_after : Run → Sessions
live_after run = live_set (steps_of run.steps)

-- the octets of the table
unfoldable pub table_after : Run → List ℕ
table_after run = last_table run.made.table (steps_of run.steps)

-- the claim's promise holds of the table that any run left
unfoldable pub HostClaim : Type 0
HostClaim = (run : Run) → Promise run.settings (live_after run) (table_after run)

-- One restoration request for each session that lives after a run, in any order, by calls of pfcp_request on a table that pfcp_make_table made with
-- the same settings: each is accepted, by its call's outcome and reply, and they leave the same octets.
unfoldable pub HostRestores : Type 0
HostRestores =
    (run : Run) (found : List ℕ) (made : MakeCall) (rs : List Restore) (steps : List HostStep) → made ≡ make_call run.settings found → made.outcome ≡ 0
    → T (all restore_allowed rs) → HostRan made.table steps → map call_in (steps_of steps) ≡ restore_calls run.settings rs
    → Permᴰ (live_after run) (map restored rs) → Restores (table_after run) made.table (steps_of steps)

-- two runs with equal settings and the same live set, whatever calls they were, left the same octets
unfoldable pub TwoRuns : Type 0
TwoRuns = (a b : Run) → a.settings ≡ b.settings → live_after a ≡ live_after b → table_after a ≡ table_after b
