-- Who holds which TEID by the octets of slots, and the walk that marks TEIDs and addresses (01: "a TEID is held by one endpoint, or by PDRs of one session
-- with equal family flags and source interface").
-- Assumes nothing.
use Rattle.std.specs.Prelude.{Result, Ok}
use Rattle.marking.specs.declared.Broken.{Broken}
use Rattle.marking.specs.declared.New.{New}
use Rattle.marking.specs.declared.Tally.{Tally}
use Rattle.marking.specs.Refusal.{refusal}
use Rattle.std.specs.Prelude.{◌≡◌, ℕ, ◌+◌, ◌-◌, ◌*◌, ◌%◌, ◌≤◌, Bool, true, not, ◌&&◌, List, [], ◌∷◌, map, length, ◌==◌}
use Rattle.std.proofs.Math.Option.{Option, none, some}
use Rattle.octets.specs.Choice.{pick, flag}
use Rattle.octets.specs.Octets.{part, number, octet_at, slices, concat_map}
use Rattle.octets.specs.Lists.{any, collect}
use Rattle.rules.specs.Model.{Settings, Holding, tunnel_holding, pdr_holding, endpoint_holding, session_holdings, teid_of}
use Rattle.rules.specs.Layout.{tunnel_read, view_pdr, view_endpoint, view_session, pdr_width, endpoint_width, source_at, match_at, teid_at, families_at}
use Rattle.rules.specs.Sound.{marked}
use Rattle.pool.specs.Map.{mark, marks, new_marks, offsets}
use Rattle.marking.specs.Walk.{joins, session_marks}
use Rattle.records.specs.Slot.{slot_sound}
use Rattle.marking.specs.Offsets.{held_offsets, Agrees}

-- ---- one PDR

-- a PDR's slot holds a TEID
unfoldable pub holds_teid : List ℕ → ℕ → Bool
holds_teid xs teid = octet_at xs match_at == 1 && number (part teid_at 4 xs) == teid

-- two PDRs' slots have equal families and source interface
unfoldable pub alike : List ℕ → List ℕ → Bool
alike xs ys = octet_at xs families_at % 4 == octet_at ys families_at % 4 && octet_at xs source_at == octet_at ys source_at

-- the hold of a PDR whose slot has an F-TEID
unfoldable pub held_by : List ℕ → Holding
held_by xs = tunnel_holding true (octet_at xs source_at) (tunnel_read (number (part teid_at 4 xs)) (octet_at xs families_at))

-- ---- holds by octets

-- of PDRs' slots, and of the first n PDRs in octets
unfoldable pub holds_in : List (List ℕ) → List Holding
holds_in rows = collect pdr_holding (map view_pdr rows)

unfoldable pub pdr_holds : ℕ → List ℕ → List Holding
pdr_holds n a = collect pdr_holding (map view_pdr (slices pdr_width n a))

unfoldable pub endpoint_holds : ℕ → List ℕ → List Holding
endpoint_holds n a = map endpoint_holding (map view_endpoint (slices endpoint_width n a))

unfoldable pub slot_holds : List ℕ → List Holding
slot_holds xs = session_holdings (view_session xs)

-- the hold of a PDR's slot, and of the PDR at place i
unfoldable pub pdr_hold : List ℕ → Option Holding
pdr_hold xs = pdr_holding (view_pdr xs)

unfoldable pub hold_at : List ℕ → ℕ → Option Holding
hold_at a i = pdr_holding (view_pdr (part (i * pdr_width) pdr_width a))

-- the hold of an endpoint's slot
unfoldable pub endpoint_hold : List ℕ → Option Holding
endpoint_hold xs = some (endpoint_holding (view_endpoint xs))

-- ---- marking

-- the map with the TEIDs of holds marked, and how many of them were new
unfoldable pub marks_after : ℕ → List ℕ → List Holding → List ℕ
marks_after first ws hs = marks ws (offsets first (map teid_of hs))

unfoldable pub new_after : ℕ → List ℕ → List Holding → ℕ
new_after first ws hs = new_marks ws (offsets first (map teid_of hs))

-- one record's hold, if it has one, after the session's earlier ones
unfoldable pub step_of : ℕ → List ℕ → List Holding → Option Holding → Result ℕ Broken
step_of first ws earlier none = Ok 0
step_of first ws earlier (some h) = pick (marked ws (h.teid - first)) (pick (joins earlier h) (Ok 0) refusal) (Ok 1)

unfoldable pub words_of : ℕ → List ℕ → Option Holding → List ℕ
words_of first ws none = ws
words_of first ws (some h) = mark ws (h.teid - first)

-- a record that is sound or not, and its hold: the map is what it should be where the record is not refused
pub record Stepped (sound : Bool) (first : ℕ) (ws : List ℕ) (earlier : List Holding) (hold : Option Holding) (r : Result ℕ Broken) (ws' : List ℕ) : Type 0 where
  pub answer : r ≡ pick sound (step_of first ws earlier hold) refusal
  pub words : (n : ℕ) → r ≡ Ok n → ws' ≡ words_of first ws hold

-- the holds of an area of one session that is sound or not: refused, or marked
unfoldable pub walked : Bool → ℕ → List ℕ → List Holding → Result ℕ Broken
walked sound first ws hs = pick (sound && session_marks first ws [] hs) (Ok (new_after first ws hs)) refusal

-- the map is what it should be where the walk is not refused
pub record Marked (sound : Bool) (first : ℕ) (ws : List ℕ) (hs : List Holding) (r : Result ℕ Broken) (ws' : List ℕ) : Type 0 where
  pub answer : r ≡ walked sound first ws hs
  pub words : (n : ℕ) → r ≡ Ok n → ws' ≡ marks_after first ws hs
  pub few : (n : ℕ) → r ≡ Ok n → n ≤ length hs

-- ---- slots

-- a slot is sound and its holds are not against the rule
unfoldable pub slot_keeps : Settings → List ℕ → List ℕ → Bool
slot_keeps s ws xs = slot_sound s xs && session_marks s.first ws [] (slot_holds xs)

pub record Admitted (s : Settings) (ws xs : List ℕ) (r : Result ℕ Broken) (ws' : List ℕ) : Type 0 where
  pub answer : r ≡ pick (slot_keeps s ws xs) (Ok (new_after s.first ws (slot_holds xs))) refusal
  pub words : (n : ℕ) → r ≡ Ok n → ws' ≡ marks_after s.first ws (slot_holds xs)
  pub few : (n : ℕ) → r ≡ Ok n → n ≤ 24

-- ---- a slot with its addresses (02 (v))

-- the offsets of the TEIDs that the session in a slot holds
unfoldable pub slot_teids : Settings → List ℕ → List ℕ
slot_teids s xs = offsets s.first (map teid_of (slot_holds xs))

-- no address of a slot is another session's
unfoldable pub slot_free : Settings → List ℕ → List ℕ → Bool
slot_free s as' xs = not (any (marked as') (held_offsets s xs))

pub record SlotEntered (s : Settings) (ws as' xs : List ℕ) (r : Result New Broken) (ws₁ as₁ : List ℕ) : Type 0 where
  pub answer : r ≡ pick (slot_keeps s ws xs && slot_free s as' xs) (Ok (record { teids = new_marks ws (slot_teids s xs); addresses = new_marks as' (held_offsets s xs) })) refusal
  pub words : (new : New) → r ≡ Ok new → ws₁ ≡ marks ws (slot_teids s xs)
  pub addresses : (new : New) → r ≡ Ok new → as₁ ≡ marks as' (held_offsets s xs)
  pub few : (new : New) → r ≡ Ok new → (new.teids ≤ 24) × (new.addresses ≤ 24)

-- and the holders of addresses follow
pub record SessionClaimed (s : Settings) (turn : ℕ) (ws as' xs : List ℕ) (r : Result New Broken) (ws₁ hs₁ as₁ : List ℕ) : Type 0 where
  pub entered : SlotEntered s ws as' xs r ws₁ as₁
  pub agrees : (new : New) → r ≡ Ok new → Agrees turn s.address_count hs₁ as₁

-- ---- the slots of a table, in turn

-- each is tested with the map that those before it leave
unfoldable pub in_turn : (List ℕ → List ℕ → Bool) → (List ℕ → List ℕ) → List ℕ → List (List ℕ) → Bool
in_turn test held ws [] = true
in_turn test held ws (xs ∷ xss) = test ws xs && in_turn test held (marks ws (held xs)) xss

unfoldable pub slots_keep : Settings → List ℕ → List (List ℕ) → Bool
slots_keep s ws xss = in_turn (slot_keeps s) (slot_teids s) ws xss

unfoldable pub slots_free : Settings → List ℕ → List (List ℕ) → Bool
slots_free s as' xss = in_turn (slot_free s) (held_offsets s) as' xss

-- the offsets that they hold
unfoldable pub teids_in : Settings → List (List ℕ) → List ℕ
teids_in s xss = concat_map (slot_teids s) xss

unfoldable pub addresses_in : Settings → List (List ℕ) → List ℕ
addresses_in s xss = concat_map (held_offsets s) xss

-- how many of the TEIDs that a peer's slots hold are new, and how many slots it has (02 (xiv))
unfoldable pub new_by : Settings → ℕ → List ℕ → List (List ℕ) → ℕ
new_by s who ws [] = 0
new_by s who ws (xs ∷ xss) = pick (octet_at xs 0 == who) (new_marks ws (slot_teids s xs)) 0 + new_by s who (marks ws (slot_teids s xs)) xss

unfoldable pub slots_by : ℕ → List (List ℕ) → ℕ
slots_by who [] = 0
slots_by who (xs ∷ xss) = flag (octet_at xs 0 == who) + slots_by who xss

pub record AllAdmitted (s : Settings) (ws as' : List ℕ) (xss : List (List ℕ)) (r : Result Tally Broken) (ws₁ as₁ : List ℕ) : Type 0 where
  pub answer : r ≡ pick (slots_keep s ws xss && slots_free s as' xss) (Ok (record { one = new_by s 1 ws xss; two = new_by s 2 ws xss; first = slots_by 1 xss; taken = new_marks as' (addresses_in s xss) })) refusal
  pub words : (c : Tally) → r ≡ Ok c → ws₁ ≡ marks ws (teids_in s xss)
  pub addresses : (c : Tally) → r ≡ Ok c → as₁ ≡ marks as' (addresses_in s xss)

-- numbers that another session can be added to
pub record Tallied (c : Tally) (fresh : New) (peer : ℕ) : Type 0 where
  pub ones : c.one ≤ 6144
  pub twos : c.two ≤ 6144
  pub firsts : c.first ≤ 256
  pub addresses : c.taken ≤ 6144
  pub teids : fresh.teids ≤ 24
  pub new : fresh.addresses ≤ 24
  pub least : 1 ≤ peer
  pub most : peer ≤ 2
