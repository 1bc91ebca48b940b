-- Which addresses of the pool stand in the octets of a session's slot, and the walk that marks them (02 (v)). An offset is an address less the
-- pool's first.
-- Assumes nothing.
use Rattle.std.specs.Prelude.{Result, Ok}
use Rattle.marking.specs.declared.Broken.{Broken}
use Rattle.marking.specs.Refusal.{refusal}
use Rattle.std.specs.Prelude.{◌≡◌, ℕ, ◌+◌, ◌-◌, ◌*◌, ◌<◌, ◌≤◌, Bool, not, ◌&&◌, List, ◌++◌, length, ◌==◌, nat_lt, slice_index, slice_index_or, slice_set}
use Rattle.std.proofs.Math.Option.{Option, none, some}
use Rattle.octets.specs.Choice.{pick, flag}
use Rattle.octets.specs.Octets.{part, number, octet_at, slices}
use Rattle.octets.specs.Lists.{any, collect}
use Rattle.rules.specs.Limits.{max_sessions, max_addresses}
use Rattle.rules.specs.Model.{Settings, in_address_pool}
use Rattle.rules.specs.Layout.{option_read, view_session, pdr_width, endpoint_width, pdr_count_at, endpoint_count_at, pdr_address_there_at, endpoint_address_there_at}
use Rattle.rules.specs.Sound.{marked}
use Rattle.pool.specs.Map.{mark, marks, new_marks}
use Rattle.marking.specs.Walk.{address_offsets}
use Rattle.records.specs.Slot.{pdr_area, endpoint_area}

-- ---- by octets

-- the address of a record's octets, if it has one
abbrev pub address_at : ℕ → List ℕ → Option ℕ
address_at at xs = option_read (slice_index xs at) (number (part (at + 1) 4 xs))

-- the offset of an address of the pool
unfoldable pub offset_of : Settings → Option ℕ → Option ℕ
offset_of s none = none
offset_of s (some a) = pick (in_address_pool s a) (some (a - s.first_address)) none

-- those of n records of w octets, and of a session's slot
unfoldable pub offsets_in : Settings → ℕ → ℕ → ℕ → List ℕ → List ℕ
offsets_in s w at n a = collect (λ xs. offset_of s (address_at at xs)) (slices w n a)

unfoldable pub slot_offsets : Settings → List ℕ → List ℕ
slot_offsets s xs =
    offsets_in s endpoint_width endpoint_address_there_at (octet_at xs endpoint_count_at) (endpoint_area xs) ++ offsets_in s pdr_width pdr_address_there_at (octet_at xs pdr_count_at) (pdr_area xs)

-- each of n records of w octets says by 0 or 1 whether it has an address, as sound ones do
pub record Present (w at n : ℕ) (a : List ℕ) : Type 0 where
  pub there : (i : ℕ) → i < n → slice_index (part (i * w) w a) at ≤ 1

-- ---- holders: which session holds an address of the pool, by its turn in the walk, from 1; 0 for none. After those of the pool stands one that is
-- never free: records without an address of the pool are sent there.

abbrev pub holders_length : ℕ
holders_length = max_addresses + 1

-- where the holder of an offset stands
abbrev pub holder_at : Option ℕ → ℕ
holder_at none = max_addresses
holder_at (some i) = i

-- it is a session before this turn
unfoldable pub earlier : ℕ → List ℕ → ℕ → Bool
earlier turn hs i = not (slice_index hs i == 0) && nat_lt (slice_index hs i) turn

-- the holders and the map of count addresses say the same, no turn is after this one, and the last holder is never an earlier session
pub record Agrees (turn count : ℕ) (hs ws : List ℕ) : Type 0 where
  pub long : length hs ≡ holders_length
  pub most : count ≤ max_addresses
  pub last : max_sessions ≤ slice_index hs max_addresses
  pub free : (i : ℕ) → i < count → (slice_index hs i == 0) ≡ not (marked ws i)
  pub until : (i : ℕ) → i < count → slice_index hs i ≤ turn

-- one of them is entered: a new holder where there is none, and its mark
pub record Claimable (p : ℕ) (hs ws : List ℕ) : Type 0 where
  pub within : p < length hs
  pub room : slice_index_or hs p 0 ≡ 0 → p < 64 * length ws

pub record Claimed (turn p : ℕ) (hs ws : List ℕ) (r : Result ℕ Broken) (hs' ws' : List ℕ) : Type 0 where
  pub answer : r ≡ pick (slice_index hs p == 0) (Ok 1) (pick (nat_lt (slice_index hs p) turn) refusal (Ok 0))
  pub holders : hs' ≡ pick (slice_index hs p == 0) (slice_set hs p turn) hs
  pub words : ws' ≡ pick (slice_index hs p == 0) (mark ws p) ws

-- those of an area: one is an earlier session's, or they are marked
pub record AreaClaimed (turn count : ℕ) (is : List ℕ) (most : ℕ) (hs ws : List ℕ) (r : Result ℕ Broken) (hs' ws' : List ℕ) : Type 0 where
  pub answer : r ≡ pick (any (earlier turn hs) is) refusal (Ok (new_marks ws is))
  pub words : (k : ℕ) → r ≡ Ok k → ws' ≡ marks ws is
  pub agrees : (k : ℕ) → r ≡ Ok k → Agrees turn count hs' ws'
  pub same : (k : ℕ) → r ≡ Ok k → (i : ℕ) → earlier turn hs' i ≡ earlier turn hs i
  pub few : (k : ℕ) → r ≡ Ok k → k ≤ most

-- ---- one record

unfoldable pub new_by : List ℕ → Option ℕ → ℕ
new_by words none = 0
new_by words (some i) = flag (not (marked words i))

unfoldable pub mark_by : List ℕ → Option ℕ → List ℕ
mark_by words none = words
mark_by words (some i) = mark words i

-- the offsets that the session in a slot holds
unfoldable pub held_offsets : Settings → List ℕ → List ℕ
held_offsets s xs = address_offsets s (view_session xs)

-- none of a session's was marked, and then they are
pub record AddressesAdmitted (s : Settings) (ws xs : List ℕ) (r : Result ℕ Broken) (ws' : List ℕ) : Type 0 where
  pub answer : r ≡ pick (any (marked ws) (held_offsets s xs)) refusal (Ok (new_marks ws (held_offsets s xs)))
  pub words : (n : ℕ) → r ≡ Ok n → ws' ≡ marks ws (held_offsets s xs)
  pub few : (n : ℕ) → r ≡ Ok n → n ≤ 24

-- and the holders follow
pub record SlotClaimed (s : Settings) (turn : ℕ) (ws xs : List ℕ) (r : Result ℕ Broken) (hs' ws' : List ℕ) : Type 0 where
  pub admitted : AddressesAdmitted s ws xs r ws'
  pub agrees : (n : ℕ) → r ≡ Ok n → Agrees turn s.address_count hs' ws'
