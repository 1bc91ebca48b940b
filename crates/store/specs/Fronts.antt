-- The entry at the front of some octets, as the code finds it, and the walks over entries: how far they reach, the reply to a message, and
-- whether each is allowed and no message stands twice.
-- Assumes nothing.
use Rattle.std.specs.Prelude.{◌≡◌, ℕ, zero, suc, ◌+◌, ◌<◌, ◌≤◌, Bool, true, not, ◌&&◌, List, length, drop, nat_le}
use Rattle.std.proofs.Math.Option.{Option, none, some}
use Rattle.octets.specs.Choice.{pick, is_some}
use Rattle.octets.specs.Octets.{part, same_octets, all_zero}
use Rattle.rules.specs.Store.{message_length, reply_length, entry_length, request_allowed, reply_allowed}
use Rattle.store.specs.declared.Entry.{Entry}

-- an entry stands there whole, and is allowed
unfoldable pub whole_front : List ℕ → Bool
whole_front s =
    nat_le (4 + message_length s) (length s) && request_allowed (part 2 (message_length s) s) && reply_allowed (reply_length s) && nat_le (entry_length s) (length s)

-- where its message ends, and where it ends
pub record Front (s : List ℕ) (e : Entry) : Type 0 where
  pub whole : whole_front s ≡ true
  pub message : e.message_end ≡ 2 + message_length s
  pub size : e.end ≡ 4 + message_length s + reply_length s
  pub high : e.end ≤ length s
  pub some : 0 < reply_length s

-- how many octets n entries take
unfoldable pub span_of : ℕ → List ℕ → ℕ
span_of zero s = 0
span_of (suc n) s = pick (whole_front s) (entry_length s + span_of n (drop (entry_length s) s)) 0

-- the reply to a message among n entries
unfoldable pub reply_among : ℕ → List ℕ → List ℕ → Option (List ℕ)
reply_among zero s msg = none
reply_among (suc n) s msg =
    pick (whole_front s)
    (pick (same_octets msg (part 2 (message_length s) s)) (some (part (4 + message_length s) (reply_length s) s)) (reply_among n (drop (entry_length s) s) msg))
    none

-- n entries, each allowed and its message none of the later ones', and zeros behind them
unfoldable pub sound_from : ℕ → List ℕ → Bool
sound_from zero s = all_zero s
sound_from (suc n) s =
    whole_front s && not (is_some (reply_among n (drop (entry_length s) s) (part 2 (message_length s) s))) && sound_from n (drop (entry_length s) s)
