-- The store of repeated requests (02 (xi)): the last eight requests that were replied to, with their replies, the oldest first.
-- Assumes nothing.
use Rattle.std.specs.Prelude.{ℕ, zero, suc, ◌+◌, ◌*◌, Bool, true, false, not, ◌&&◌, List, [], ◌∷◌, ◌++◌, length, drop, leb, ltb, eqb}
use Rattle.std.proofs.Math.Option.{Option, none, some}
use Rattle.octets.specs.Choice.{pick, all_of, rest, value_or, map_option}
use Rattle.octets.specs.Octets.{be, part, number_at, octet_at, same_octets, padded, concat_map}
use Rattle.octets.specs.Lists.{all, all_pairs, find_by}
use Rattle.rules.specs.Limits.{max_message, min_space}
use Rattle.rules.specs.Message.{header_allowed, served, kind_of}

-- a request and the reply that it got, both whole
pub record Entry : Type 0 where
  pub message : List ℕ
  pub reply : List ℕ

abbrev pub entry : List ℕ → List ℕ → Entry
entry m r = record { message = m; reply = r }

abbrev pub message_of : Entry → List ℕ
message_of e = e.message

abbrev pub reply_of : Entry → List ℕ
reply_of e = e.reply

abbrev pub max_entries : ℕ
max_entries = 8

-- octets of the longest reply that is kept: every reply space that outcome 2 lets pass has room for it (02 says 2,048, the reply space of (ix))
abbrev pub max_reply : ℕ
max_reply = min_space

-- ---- the octets

-- an entry: the message's length (2 octets), the message, the reply's length (2), the reply
unfoldable pub entry_octets : Entry → List ℕ
entry_octets e = be 2 (length e.message) ++ (e.message ++ (be 2 (length e.reply) ++ e.reply))

abbrev pub entry_room : ℕ
entry_room = 2 + max_message + (2 + max_reply)

-- the number of entries (1 octet), and room for each
abbrev pub store_length : ℕ
store_length = 1 + max_entries * entry_room

-- the entries one after the other, and zeros behind them
unfoldable pub store_octets : List Entry → List ℕ
store_octets es = padded store_length (length es ∷ concat_map entry_octets es)

-- ---- reading them back

unfoldable pub message_length : List ℕ → ℕ
message_length s = number_at 0 2 s

unfoldable pub reply_length : List ℕ → ℕ
reply_length s = number_at (2 + message_length s) 2 s

-- the entry at the front of some octets, and how many it takes
unfoldable pub entry_in : List ℕ → Entry
entry_in s = entry (part 2 (message_length s) s) (part (4 + message_length s) (reply_length s) s)

unfoldable pub entry_length : List ℕ → ℕ
entry_length s = 4 + message_length s + reply_length s

unfoldable pub entries_up_to : ℕ → List ℕ → List Entry
entries_up_to zero s = []
entries_up_to (suc n) s = entry_in s ∷ entries_up_to n (drop (entry_length s) s)

unfoldable pub store_entries : List ℕ → List Entry
store_entries s = entries_up_to (octet_at s 0) (drop 1 s)

-- ---- which are broken

-- the message would get none of outcomes 3 to 5
unfoldable pub request_allowed : List ℕ → Bool
request_allowed msg = leb (length msg) max_message && header_allowed msg && served (kind_of msg)

-- the reply is not empty, and no longer than any
unfoldable pub reply_allowed : ℕ → Bool
reply_allowed n = ltb 0 n && leb n max_reply

unfoldable pub entry_allowed : Entry → Bool
entry_allowed e = request_allowed e.message && reply_allowed (length e.reply)

unfoldable pub has_message : List ℕ → Entry → Bool
has_message msg e = same_octets msg e.message

unfoldable pub differ : Entry → Entry → Bool
differ a b = not (has_message a.message b)

-- Of the right length, at most eight entries, each allowed, no two with equal messages, and the octets are the ones that these entries have:
-- unused room is zero.
unfoldable pub store_sound : List ℕ → Bool
store_sound s =
    all_of
    (eqb (length s) store_length
    ∷ leb (length (store_entries s)) max_entries
    ∷ all entry_allowed (store_entries s)
    ∷ all_pairs differ (store_entries s)
    ∷ same_octets s (store_octets (store_entries s))
    ∷ [])

-- ---- asking and keeping

-- the reply that equal octets got
unfoldable pub stored_reply : List ℕ → List Entry → Option (List ℕ)
stored_reply msg es = map_option reply_of (find_by (has_message msg) es)

-- the entry that was stored last
unfoldable pub newest : List Entry → Option Entry
newest [] = none
newest (e ∷ es) = some (value_or e (newest es))

-- one more, for which the oldest of eight goes
unfoldable pub remember : Entry → List Entry → List Entry
remember e es = pick (ltb (length es) max_entries) es (rest es) ++ (e ∷ [])

-- ---- emptying

-- whether it was done, and the store at exit; one of wrong length stays as it is
pub record Emptied : Type 0 where
  pub done : Bool
  pub store : List ℕ

unfoldable pub empty : List ℕ → Emptied
empty s = pick (eqb (length s) store_length) (record { done = true; store = store_octets [] }) (record { done = false; store = s })

unfoldable pub computing : ℕ
unfolding entry_octets store_octets message_length reply_length entry_in entry_length entries_up_to store_entries request_allowed reply_allowed entry_allowed has_message differ store_sound stored_reply newest remember empty
computing = 0
