-- What the code leaves on each way of a request.
-- Assumes nothing.
use Rattle.std.specs.Prelude.{ℕ, List, ltb, eqb, length, Result, Ok, Err}
use Rattle.octets.specs.Choice.{pick}
use Rattle.octets.specs.Octets.{put}
use Rattle.rules.specs.Limits.{min_space}
use Rattle.rules.specs.Sound.{sound}
use Rattle.rules.specs.Serve.{serve}
use Rattle.rules.specs.Repeats.{Once, unanswered, anew, engine_reply}
use Rattle.changes.specs.declared.Replied.{Replied}
use Rattle.engine.specs.declared.outcome.Outcome.{Outcome}
use Rattle.engine.specs.Outcomes.{number_of, outcome_of, used_of, place_of}

-- outcomes 1 and 2 of a request whose header is allowed, or 0
unfoldable pub resting_outcome : List ℕ → List ℕ → ℕ
resting_outcome t space = pick (sound t) (pick (ltb (length space) min_space) 2 0) 1

-- the number of an outcome that stands, or 0
abbrev pub resting_told : {A : Type 0} → Result A Outcome → ℕ
resting_told (Ok a) = 0
resting_told (Err o) = number_of o

-- what a call that leaves table and store answers
pub record Resting : Type 0 where
  pub outcome : ℕ
  pub used : ℕ
  pub place : ℕ
  pub space : List ℕ

-- of the code's answer, with the reply space that it leaves
abbrev pub resting : Result Replied Outcome → List ℕ → Resting
resting r space = record { outcome = outcome_of r; used = used_of r; place = place_of r; space = space }

-- and of a whole call, with the table and the store too
abbrev pub once : Result Replied Outcome → List ℕ → List ℕ → List ℕ → Once
once r space t store = record { outcome = outcome_of r; used = used_of r; place = place_of r; space = space; table = t; store = store }

abbrev pub silent : ℕ → List ℕ → Resting
silent n space = record { outcome = n; used = 0; place = 0; space = space }

-- a stored reply, or outcome 1 or 2
unfoldable pub repeated : List ℕ → List ℕ → List ℕ → Resting
repeated t r space = pick (eqb (resting_outcome t space) 0) (record { outcome = 0; used = length r; place = 0; space = put 0 r space }) (silent (resting_outcome t space) space)

-- outcome 6, or 1 or 2
unfoldable pub dropped : List ℕ → List ℕ → Resting
dropped t space = pick (eqb (resting_outcome t space) 0) (silent 6 space) (silent (resting_outcome t space) space)

-- what a peer's request leaves that the engine was asked; the store keeps a reply
unfoldable pub renewed : List ℕ → ℕ → List ℕ → List ℕ → List ℕ → Once
renewed t who store msg space =
    pick (eqb (serve t who msg space).outcome 0) (anew (serve t who msg space) (engine_reply t who msg) store msg) (unanswered (serve t who msg space).outcome t store space)
