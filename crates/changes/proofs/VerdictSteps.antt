-- The verdict, stage by stage.
-- Assumes nothing.
use mathlib.Core.Path.{◌≡◌}
use mathlib.Core.Bool.{true, false}
use mathlib.Core.Option.{none, some}
use mathlib.Core.List.{List}
use Prim.Native.Nat.{ℕ}
use Rattle.rules.specs.Model.{Settings, Sessions}
use Rattle.rules.specs.Elements.{cause_of}
use Rattle.rules.specs.Message.{Spot, frame_fault}
use Rattle.rules.specs.Reading.{Fault, read_fault}
use Rattle.rules.specs.Stages.{plain, judged, from_reading, verdict_from, unknown_session, verdict}
use Rattle.rules.specs.Causes as why

module _ (s : Settings) (who : ℕ) (m : Sessions) (msg : List ℕ) where
  -- stage 1
  pub no_session_lem : unknown_session who m msg ≡ true → verdict s who m msg ≡ plain why.no_session
  unfolding verdict
  no_session_lem e = rw e

  module _ (known : unknown_session who m msg ≡ false) where
    -- stage 2
    pub not_framed : (f : Spot) → frame_fault msg ≡ some f → verdict s who m msg ≡ record { cause = why.wrong_length; offending = some f.type; place = f.place }
    unfolding verdict verdict_from
    not_framed f e = rw (known, e)

    module _ (framed : frame_fault msg ≡ none) where
      -- stage 3
      pub not_read : (f : Fault) → read_fault msg ≡ some f → verdict s who m msg ≡ record { cause = cause_of f.cause; offending = some f.type; place = f.place }
      unfolding verdict verdict_from from_reading
      not_read f e = rw (known, framed, e)

      -- stages 4 to 6
      pub read_through : read_fault msg ≡ none → verdict s who m msg ≡ judged s who m msg
      unfolding verdict verdict_from from_reading
      read_through e = rw (known, framed, e)
