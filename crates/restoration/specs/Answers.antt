-- What the writer answers, as the rules have it, and when it writes.
-- Assumes nothing.
use Rattle.std.specs.Prelude.{ℕ, ◌<◌, List, T, length, Result, Ok, Err}
use Rattle.rules.specs.Layout.{view_sessions}
use Rattle.rules.specs.Sound.{sound}
use Rattle.rules.specs.Restoring.{Writing, unwritten, sender_addressed}
use Rattle.restoration.specs.declared.Written.{Written}
use Rattle.restoration.specs.declared.Unwritten.{Unwritten}
use Rattle.restoration.specs.declared.Unwritten.TheVariants.{Broken, NoSession, NoAddress, NoRoom}

-- the outcome of each refusal
abbrev pub outcome_of : Unwritten → ℕ
outcome_of Broken = 1
outcome_of NoSession = 2
outcome_of NoAddress = 3
outcome_of NoRoom = 4

abbrev pub writing_of : Result Written Unwritten → List ℕ → Writing
writing_of (Ok w) space = record { outcome = 0; used = w.used; peer = w.peer; space = space }
writing_of (Err e) space = unwritten (outcome_of e) space

-- the first three refusals do not apply
pub record Ready (t : List ℕ) (place : ℕ) (ipv4 ipv6 : List ℕ) : Type 0 where
  pub sound : T (sound t)
  pub live : place < length (view_sessions t)
  pub address : T (sender_addressed ipv4 ipv6)
