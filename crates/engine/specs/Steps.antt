-- What is known around a request's change: what the walk over the table told, a set deletion that is asked for, and the whole call.
-- Assumes nothing.
use Rattle.std.specs.Prelude.{ℕ, ◌≤◌, ◌≡◌, List, T, eqb, length}
use Rattle.octets.specs.Choice.{pick}
use Rattle.rules.specs.Limits.{max_message, min_space}
use Rattle.rules.specs.Model.{is_peer, of_peer, holdings}
use Rattle.rules.specs.Layout.{view_settings, view_sessions}
use Rattle.rules.specs.Sound.{sound}
use Rattle.rules.specs.Serve.{reply_to, serve}
use Rattle.unit.specs.declared.Settings.{Settings as Unit}
use Rattle.unit.specs.Meaning.{settings_of}
use Rattle.reply.specs.Parts.{Listing}
use Rattle.sets.specs.Listed.{Sound}
use Rattle.changes.specs.Answers.{verdict_on}

-- what the walk over the sessions of a table that is not broken told: how many TEIDs each peer holds, and how many sessions are peer 1's
pub record Tallied (u : Unit) (t : List ℕ) (one two first : ℕ) : Type 0 where
  pub table : T (sound t)
  pub settings : settings_of u ≡ view_settings t
  pub first_holds : one ≡ holdings 1 (view_sessions t)
  pub second_holds : two ≡ holdings 2 (view_sessions t)
  pub first_sessions : first ≡ length (of_peer 1 (view_sessions t))

-- outcomes 7 and 1 to 5 have been passed, by a set deletion
pub record AskedList (t : List ℕ) (who : ℕ) (msg out : List ℕ) : Type 0 where
  pub peer : T (is_peer who)
  pub table : Sound t
  pub space : min_space ≤ length out
  pub short : length msg ≤ max_message
  pub list : Listing msg

-- the whole call: outcome, place of a fault, reply space and table are the rules', and `used` is the length of the reply, 0 where there is none
pub record Serves (t : List ℕ) (who : ℕ) (msg out : List ℕ) (outcome used place : ℕ) (out' t' : List ℕ) : Type 0 where
  pub served : record { outcome = outcome; place = place; space = out'; table = t' } ≡ serve t who msg out
  pub long : used ≡ pick (eqb outcome 0) (length (reply_to (view_settings t) who (view_sessions t) msg (verdict_on t who msg))) 0
