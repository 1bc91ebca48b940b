-- The framing of octets, element by element: what each length at the front says. Assumes nothing.
use mathlib.Core.Path.{◌≡◌, refl, ap}
use Prim.Native.Nat.{ℕ, zero, suc, ◌+◌, ◌-◌, ◌^◌, ◌≤◌, ◌<◌}
use native.Mathlib.Nat.{le_refl, le_trans, le_of_eq, min-le_right, not-suc-le-zero}
use native.Mathlib.Numerals.{sub-one}
use native.Mathlib.Omega.{arith}
use mathlib.Core.Bool.{true, false}
use mathlib.Core.Option.{Option, none, some}
use mathlib.Core.List.{List, [], ◌∷◌}
use lib.ListN.{length, take, drop, length-take, length-drop}
use lib.Dec.{ltb}
use borrow.Author.Tests.{lt-ltb, le-ltb}
use Rattle.octets.specs.Choice.{pick, or_else}
use Rattle.octets.specs.Octets.{part}
use Rattle.octets.specs.Lists.{member}
use Rattle.octets.proofs.Put.{part_from}
use Rattle.rules.specs.Message.{inside, element_type, element_length, opened_in, Spot, spot, inner_fault, frame_up_to, frame}
use Rattle.frame.specs.Framed.{framing_fault}
use Rattle.std.specs.Prelude.{Result, Err}
use Rattle.frame.specs.declared.Spot as code
use Rattle.laws.proofs.MessageLaws.{shorter, frame_enough}

-- ---- parts from a place on

pub part_shorter : (n : ℕ) (s : List ℕ) → 0 < n → n ≤ length s → length (take (length s - n) (drop n s)) < length s
part_shorter n s h k = rw (part_from n s, length-drop) (omega arith)

-- the value of an element of n octets at the front of s, and its places
pub value_length : (n : ℕ) (s : List ℕ) → n ≤ length s → length (take (n - 4) (drop 4 s)) ≤ length s - 4
value_length n s h = le_trans (le_of_eq (length-take (n - 4) (drop 4 s))) (le_trans (min-le_right (n - 4) (length (drop 4 s))) (le_of_eq (length-drop 4 s)))

pub value_places : (at n : ℕ) (s : List ℕ) → 4 ≤ length s → n ≤ length s → at + length s < 2 ^ 64 → at + 4 + length (take (n - 4) (drop 4 s)) < 2 ^ 64
value_places at n s long h fits = let v = value_length n s h in omega arith

module _ (inner : Spot → ℕ → List ℕ → Option Spot) (kind : ℕ) (group : Spot) (at : ℕ) where
  -- octets at the front
  ahead : (x : ℕ) (xs : List ℕ) → frame_up_to inner kind group (length (x ∷ xs)) at (x ∷ xs)
      ≡ pick (ltb (length (x ∷ xs)) 4) (some group)
      (pick (ltb (length (x ∷ xs)) (4 + element_length (x ∷ xs))) (some (spot (element_type (x ∷ xs)) at))
      (or_else (inner_fault inner kind group at (x ∷ xs))
      (frame_up_to inner kind group (length (drop (4 + element_length (x ∷ xs)) (x ∷ xs))) (at + (4 + element_length (x ∷ xs))) (drop (4 + element_length (x ∷ xs)) (x ∷ xs)))))
  unfolding frame_up_to
  ahead x xs =
      ap (λ (more : Option Spot). pick (ltb (length (x ∷ xs)) 4) (some group)
      (pick (ltb (length (x ∷ xs)) (4 + element_length (x ∷ xs))) (some (spot (element_type (x ∷ xs)) at)) (or_else (inner_fault inner kind group at (x ∷ xs)) more)))
      (frame_enough inner kind group (length xs) _ _ _ (shorter (element_length (x ∷ xs)) (length xs) (x ∷ xs) (le_refl _)) (le_refl _))

-- ---- the framing by what stands at the front, with a depth left

-- the fault inside an element of type t at a place, with the value v, in a group of type g
unfoldable pub fault_inside : ℕ → ℕ → ℕ → ℕ → ℕ → List ℕ → Option Spot
fault_inside d m g t at v = pick (member t (opened_in m g)) (frame (d - 1) m (spot t at) (inside at) v) none

pub frame_none : (d m : ℕ) (g : Spot) (at : ℕ) (s : List ℕ) → d ≡ 0 → frame d m g at s ≡ none
unfolding frame
frame_none d m g at s h = rw h

pub frame_end : (d m : ℕ) (g : Spot) (at : ℕ) (s : List ℕ) → length s ≤ 0 → frame d m g at s ≡ none
unfolding frame frame_up_to
frame_end zero m g at s h = refl
frame_end (suc d) m g at [] h = refl
frame_end (suc d) m g at (x ∷ xs) h = absurd (not-suc-le-zero h)

by_front : (d m : ℕ) (g : Spot) (at : ℕ) (s : List ℕ) → (d ≡ 0 → ⊥) → 0 < length s → frame d m g at s
    ≡ pick (ltb (length s) 4) (some g)
    (pick (ltb (length s) (4 + element_length s)) (some (spot (element_type s) at))
    (or_else (fault_inside d m g.type (element_type s) at (part 4 (element_length s) s)) (frame d m g (at + (4 + element_length s)) (drop (4 + element_length s) s))))
unfolding frame fault_inside inner_fault
by_front zero m g at s n h = absurd (n refl)
by_front (suc d) m g at [] n h = absurd (not-suc-le-zero h)
by_front (suc d) m g at (x ∷ xs) n h = rw (sub-one) (ahead (frame d m) m g at x xs)

module _ (d m g p at : ℕ) (s : List ℕ) (deep : d ≡ 0 → ⊥) (some_left : 0 < length s) where
  abbrev here : ℕ → List ℕ → Option Spot
  here = frame d m (spot g p)

  -- under 4 octets are left
  pub frame_cut : length s < 4 → here at s ≡ some (spot g p)
  frame_cut h = rw (by_front d m (spot g p) at s deep some_left, lt-ltb (length s) 4 h)

  module _ (t n : ℕ) (type : t ≡ element_type s) (size : n ≡ 4 + element_length s) (long : 4 ≤ length s) where
    pub frame_over : length s < n → here at s ≡ some (spot t at)
    frame_over h = rw (by_front d m (spot g p) at s deep some_left, le-ltb (length s) 4 long, ← size, lt-ltb (length s) n h, type)

    whole : n ≤ length s → here at s ≡ or_else (fault_inside d m g t at (take (n - 4) (drop 4 s))) (here (at + n) (drop n s))
    whole h =
        let e : n - 4 ≡ element_length s = omega arith in
        rw (by_front d m (spot g p) at s deep some_left, le-ltb (length s) 4 long, ← size, le-ltb (length s) n h, ← type, e)

    pub fault_inside_lem : {A : Type 0} {r : Result A code.Spot} {x : code.Spot} → n ≤ length s → fault_inside d m g t at (take (n - 4) (drop 4 s)) ≡ framing_fault r → r ≡ Err x → framing_fault r ≡ here at s
    fault_inside_lem h e q = rw (whole h, e, q)

    pub sound_inside : n ≤ length s → fault_inside d m g t at (take (n - 4) (drop 4 s)) ≡ none → here at s ≡ here (at + n) (take (length s - n) (drop n s))
    sound_inside h e = rw (whole h, e, part_from)

pub inside_shut : (d m g t at : ℕ) (v : List ℕ) → false ≡ member t (opened_in m g) → fault_inside d m g t at v ≡ none
unfolding fault_inside
inside_shut d m g t at v h = rw (← h)

pub inside_open : (d m g t at : ℕ) (v : List ℕ) → true ≡ member t (opened_in m g) → fault_inside d m g t at v ≡ frame (d - 1) m (spot t at) (inside at) v
unfolding fault_inside
inside_open d m g t at v h = rw (← h)
