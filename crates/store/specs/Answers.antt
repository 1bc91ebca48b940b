-- What the calls on a store answer and leave.
-- Assumes nothing.
use Rattle.std.specs.Prelude.{◌≡◌, ℕ, ◌-◌, ◌≤◌, T, List, length}
use Rattle.std.proofs.Math.Option.{some}
use Rattle.octets.specs.Octets.{part}
use Rattle.rules.specs.Store.{entry, store_sound, store_entries, entry_allowed, stored_reply}

-- octets that stand among others, from one place to another
pub record Within (s octets : List ℕ) : Type 0 where
  pub from : ℕ
  pub to : ℕ
  pub low : from ≤ to
  pub high : to ≤ length s
  pub stands : octets ≡ part from (to - from) s

-- the reply to a message, which stands in the store
pub record Recalls (s msg reply : List ℕ) : Type 0 where
  pub means : stored_reply msg (store_entries s) ≡ some reply
  pub within : Within s reply

-- a store that is not broken, and an entry that may be kept in it
pub record Keepable (s msg reply : List ℕ) : Type 0 where
  pub store : T (store_sound s)
  pub entry : T (entry_allowed (entry msg reply))
