-- One walk over an area of records: each is tested, its key compared, and its TEID marked. What is left gives the same answer, the same
-- map and the same number of new marks.
-- Assumes nothing.
use Rattle.std.specs.Prelude.{Result, Ok}
use Rattle.marking.specs.declared.Broken.{Broken}
use Rattle.marking.specs.Refusal.{refusal}
use Rattle.std.proofs.Common.{◌≡◌, ℕ, ◌+◌, ◌-◌, ◌*◌, ◌<◌, ◌≤◌, Bool, true, false, not, ◌&&◌, List, [], ◌∷◌, ◌++◌, map, length, take, drop, sym, refl, ap, ◌∙◌, subst, zero-le, add-one, arith}
use mathlib.Core.Option.{Option}
use borrow.Author.Tests.{not-true, not-false}
use Rattle.octets.specs.Choice.{pick}
use Rattle.octets.specs.Octets.{part, number, slices, all_zero}
use Rattle.octets.specs.Lists.{collect}
use Rattle.octets.proofs.Bools.{and-false}
use Rattle.rules.specs.Model.{Holding, Pdr, pdr_holding, endpoint_holding}
use Rattle.rules.specs.Layout.{view_pdr, view_endpoint, pdr_width, endpoint_width}
use Rattle.marking.specs.Walk.{session_marks}
use Rattle.records.specs.Slot.{area_sound}
use Rattle.records.proofs.Turns.{slices_more, Rows, rows_none, rows_low, rows_bad, rows_more, rows_room}
use mathlib.Core.Path.{transport}
use Rattle.unit.specs.declared.Settings.{Settings as Unit}
use Rattle.unit.specs.Meaning.{settings_of}
use Rattle.records.specs.Kept.{pdr_sound, endpoint_sound, ids_of, endpoint_ids}
use Rattle.marking.specs.Marking.{holds_in, pdr_hold, hold_at, endpoint_hold, pdr_holds, endpoint_holds, step_of, words_of, Stepped, walked, Marked}
use Rattle.marking.proofs.Looking.{slices_snoc, map_snoc}
use Rattle.marking.proofs.Steps.{Marking, marking_start, marking_end, endpoint_turn, endpoint_clash, pdr_turn, pdr_clash, step_few}

-- ---- what an answer for one record says

module _ {sound : Bool} {first : ℕ} {ws : List ℕ} {earlier : List Holding} {hold : Option Holding} {r : Result ℕ Broken} {ws' : List ℕ} (t : Stepped sound first ws earlier hold r ws') where
  stepped_new : (k : ℕ) → r ≡ Ok k → (sound ≡ true) × (step_of first ws earlier hold ≡ Ok k)
  stepped_new k e = go sound (sym t.answer ∙ e)
    where
      go : (b : Bool) → pick b (step_of first ws earlier hold) refusal ≡ Ok k → (b ≡ true) × (step_of first ws earlier hold ≡ Ok k)
      go true q = (refl, q)
      go false q = absurd (let z : ◌≡◌ {A = ℕ} 0 1 = cc in omega arith)

  stepped_clash : {X : Type 0} → r ≡ refusal → (sound ≡ false → X) → (step_of first ws earlier hold ≡ refusal → X) → X
  stepped_clash {X} e f g = go sound f (sym t.answer ∙ e)
    where
      go : (b : Bool) → (b ≡ false → X) → pick b (step_of first ws earlier hold) refusal ≡ refusal → X
      go true f q = g q
      go false f q = f refl

-- a walk that is refused
refused : {sound : Bool} {first : ℕ} {ws : List ℕ} {hs : List Holding} (ws' : List ℕ) → (sound && session_marks first ws [] hs) ≡ false → Marked sound first ws hs refusal ws'
unfolding walked
refused ws' e = record {
  answer = sym (rw e);
  words = λ n q. absurd (let z : ◌≡◌ {A = ℕ} 0 1 = cc in omega arith);
  few = λ n q. absurd (let z : ◌≡◌ {A = ℕ} 0 1 = cc in omega arith);
}

-- ---- the walk

-- The holds of an area by its places: those before a place, those from it on, and its own.
pub record Places (first : ℕ) (ws₀ : List ℕ) (hs : List Holding) (n : ℕ) (earlier left : ℕ → List Holding) (hold : ℕ → Option Holding) : Type 0 where
  pub start : Marking first ws₀ hs ws₀ (earlier 0) (left 0) 0
  pub turn : {ws : List ℕ} {i new : ℕ} → i < n → Marking first ws₀ hs ws (earlier i) (left i) new → (k : ℕ) → step_of first ws (earlier i) (hold i) ≡ Ok k
      → Marking first ws₀ hs (words_of first ws (hold i)) (earlier (i + 1)) (left (i + 1)) (new + k)
  pub clash : {ws : List ℕ} {i new : ℕ} → i < n → Marking first ws₀ hs ws (earlier i) (left i) new → step_of first ws (earlier i) (hold i) ≡ refusal → session_marks first ws₀ [] hs ≡ false
  pub end : (i : ℕ) → n ≤ i → left i ≡ []

module _ (p : List ℕ → Bool) (w k : ℕ) (a : List ℕ) (n first : ℕ) (ws₀ : List ℕ) (hs : List Holding) (earlier left : ℕ → List Holding) where
  -- what holds at the loop's head
  pub record Walk (ws : List ℕ) (i next new : ℕ) : Type 0 where
    pub few : new ≤ i
    pub rows : Rows p w k a n i next
    pub state : Marking first ws₀ hs ws (earlier i) (left i) new

module _ (p : List ℕ → Bool) (w k : ℕ) (a : List ℕ) {n first : ℕ} {ws₀ : List ℕ} {hs : List Holding} {earlier left : ℕ → List Holding} {hold : ℕ → Option Holding}
    (ps : Places first ws₀ hs n earlier left hold) where
  abbrev pub Here : List ℕ → ℕ → ℕ → ℕ → Type 0
  Here ws i next new = Walk p w k a n first ws₀ hs earlier left ws i next new

  abbrev pub Answer : Result ℕ Broken → List ℕ → Type 0
  Answer r ws = Marked (area_sound p w k n a) first ws₀ hs r ws

  pub walk_none : Here ws₀ 0 0 0
  walk_none = record { few = zero-le; rows = rows_none p w k a n; state = ps.start }

  broken : (ws' : List ℕ) → area_sound p w k n a ≡ false → Answer refusal ws'
  broken ws' e = refused ws' (rw e)

  module _ {ws : List ℕ} {i next new : ℕ} (r : Here ws i next new) (h : i < n) where
    module _ (key : ℕ) (q : key ≡ number (take k (part (i * w) w a))) where
      pub walk_low : (ws' : List ℕ) → key < next → Answer refusal ws'
      walk_low ws' l = broken ws' (rows_low p w k a n r.rows h key q l)

      pub walk_more : (m : Result ℕ Broken) (ws' : List ℕ) → Stepped (p (part (i * w) w a)) first ws (earlier i) (hold i) m ws' → next ≤ key → (j : ℕ) → m ≡ Ok j → Here ws' (i + 1) (key + 1) (new + j)
      walk_more m ws' t l j e =
          let s = stepped_new t j e in
          record {
            few = omega (arith, r.few, step_few first ws (earlier i) (hold i) j s.1);
            rows = rows_more p w k a n r.rows h key q l s.0;
            state = rw (t.words j e) (ps.turn h r.state j s.1);
          }

    pub walk_clash : (m : Result ℕ Broken) (ws' : List ℕ) → Stepped (p (part (i * w) w a)) first ws (earlier i) (hold i) m ws' → m ≡ refusal → (v : List ℕ) → Answer refusal v
    walk_clash m ws' t e v =
        stepped_clash t e
        (λ f. broken v (rows_bad p w k a n r.rows h f))
        (λ f. refused v (rw (ps.clash h r.state f) (and-false (area_sound p w k n a))))

  module _ {ws : List ℕ} {i next new : ℕ} (r : Here ws i next new) (h : n ≤ i) (long : n * w ≤ length a) (z : Bool) (q : z ≡ all_zero (part (n * w) (length a - n * w) a)) where
    pub walk_room : (ws' : List ℕ) → not z ≡ true → Answer refusal ws'
    walk_room ws' e = broken ws' (sym (rows_room p w k a n r.rows h long z q) ∙ not-true z e)

    pub walk_all : not z ≡ false → Answer (Ok new) ws
    walk_all e =
        marking_end (area_sound p w k n a) (sym (rows_room p w k a n r.rows h long z q) ∙ not-false z e)
        (subst (λ (l : List Holding). Marking first ws₀ hs ws (earlier i) l new) (ps.end i h) r.state)

-- ---- endpoints

module _ (first : ℕ) (ws₀ a : List ℕ) (n : ℕ) where
  abbrev pub ends_from : ℕ → List Holding
  ends_from i = endpoint_holds (n - i) (drop (i * endpoint_width) a)

  ends_left : (i : ℕ) → i < n → ends_from i ≡ map endpoint_holding (view_endpoint (part (i * endpoint_width) endpoint_width a) ∷ map view_endpoint (slices endpoint_width (n - (i + 1)) (drop ((i + 1) * endpoint_width) a)))
  unfolding endpoint_holds
  ends_left i h = ap (λ (l : List (List ℕ)). map endpoint_holding (map view_endpoint l)) (slices_more endpoint_width a n i h)

  ends_none : (i : ℕ) → n ≤ i → ends_from i ≡ []
  unfolding endpoint_holds slices
  ends_none i h = let e : n - i ≡ 0 = omega arith in rw e

  pub endpoint_places : Places first ws₀ (endpoint_holds n a) n (λ i. []) ends_from (λ i. endpoint_hold (part (i * endpoint_width) endpoint_width a))
  endpoint_places =
      record {
        start = let e : n - 0 ≡ n = omega arith in rw e marking_start;
        turn = λ {ws} {i} {new} h m. unfold endpoint_hold endpoint_holds in
            endpoint_turn (view_endpoint (part (i * endpoint_width) endpoint_width a)) (map view_endpoint (slices endpoint_width (n - (i + 1)) (drop ((i + 1) * endpoint_width) a)))
            (subst (λ (l : List Holding). Marking first ws₀ (endpoint_holds n a) ws [] l new) (ends_left i h) m);
        clash = λ {ws} {i} {new} h m. unfold endpoint_hold endpoint_holds in
            endpoint_clash (view_endpoint (part (i * endpoint_width) endpoint_width a)) (map view_endpoint (slices endpoint_width (n - (i + 1)) (drop ((i + 1) * endpoint_width) a)))
            (subst (λ (l : List Holding). Marking first ws₀ (endpoint_holds n a) ws [] l new) (ends_left i h) m);
        end = ends_none;
      }

-- an endpoint as the walk has it
pub endpoint_row : (u : Unit) {ws ws' xs : List ℕ} (row : List ℕ) → row ≡ xs → {r : Result ℕ Broken} → Stepped (endpoint_sound (settings_of u) row) u.first ws [] (endpoint_hold row) r ws' → Stepped (endpoint_sound (settings_of u) xs) u.first ws [] (endpoint_hold xs) r ws'
endpoint_row u {ws} {ws'} row e {r} t = subst (λ (xs : List ℕ). Stepped (endpoint_sound (settings_of u) xs) u.first ws [] (endpoint_hold xs) r ws') e t

-- ---- PDRs

module _ (first : ℕ) (ws₀ a : List ℕ) (n : ℕ) where
  abbrev pub pdrs_to : ℕ → List Holding
  pdrs_to i = pdr_holds i a

  abbrev pub pdrs_from : ℕ → List Holding
  pdrs_from i = pdr_holds (n - i) (drop (i * pdr_width) a)

  abbrev done_at : ℕ → List Pdr
  done_at i = map view_pdr (slices pdr_width i a)

  abbrev rest_at : ℕ → List Pdr
  rest_at i = map view_pdr (slices pdr_width (n - (i + 1)) (drop ((i + 1) * pdr_width) a))

  pdrs_left_lem : (i : ℕ) → i < n → pdrs_from i ≡ collect pdr_holding (view_pdr (part (i * pdr_width) pdr_width a) ∷ rest_at i)
  unfolding pdr_holds
  pdrs_left_lem i h = ap (λ (l : List (List ℕ)). collect pdr_holding (map view_pdr l)) (slices_more pdr_width a n i h)

  pdrs_done : (i : ℕ) → collect pdr_holding (done_at i ++ (view_pdr (part (i * pdr_width) pdr_width a) ∷ [])) ≡ pdrs_to (i + 1)
  unfolding pdr_holds
  pdrs_done i =
      let next : slices pdr_width (i + 1) a ≡ slices pdr_width i a ++ (part (i * pdr_width) pdr_width a ∷ []) = rw add-one (slices_snoc pdr_width i a) in
      ap (collect pdr_holding) (sym (ap (map view_pdr) next ∙ map_snoc (slices pdr_width i a) (part (i * pdr_width) pdr_width a)))

  pdrs_none : (i : ℕ) → n ≤ i → pdrs_from i ≡ []
  unfolding pdr_holds slices collect
  pdrs_none i h = let e : n - i ≡ 0 = omega arith in rw e

  pub pdr_places : Places first ws₀ (pdr_holds n a) n pdrs_to pdrs_from (hold_at a)
  pdr_places =
      record {
        start = start;
        turn = turn;
        clash = λ {ws} {i} {new} h m. unfold hold_at pdr_holds in
            pdr_clash (done_at i) (view_pdr (part (i * pdr_width) pdr_width a)) (rest_at i)
            (subst (λ (l : List Holding). Marking first ws₀ (pdr_holds n a) ws (pdrs_to i) l new) (pdrs_left_lem i h) m);
        end = pdrs_none;
      }
    where
      start : Marking first ws₀ (pdr_holds n a) ws₀ (pdrs_to 0) (pdrs_from 0) 0
      start = unfold pdr_holds slices collect in (let e : n - 0 ≡ n = omega arith in rw e marking_start)

      turn : {ws : List ℕ} {i new : ℕ} → i < n → Marking first ws₀ (pdr_holds n a) ws (pdrs_to i) (pdrs_from i) new → (k : ℕ) → step_of first ws (pdrs_to i) (hold_at a i) ≡ Ok k
          → Marking first ws₀ (pdr_holds n a) (words_of first ws (hold_at a i)) (pdrs_to (i + 1)) (pdrs_from (i + 1)) (new + k)
      turn {ws} {i} {new} h m k q =
          unfold hold_at pdr_holds in
          subst (λ (l : List Holding). Marking first ws₀ (pdr_holds n a) (words_of first ws (hold_at a i)) l (pdrs_from (i + 1)) (new + k)) (pdrs_done i)
          (pdr_turn (done_at i) (view_pdr (part (i * pdr_width) pdr_width a)) (rest_at i)
          (subst (λ (l : List Holding). Marking first ws₀ (pdr_holds n a) ws (pdrs_to i) l new) (pdrs_left_lem i h) m) k q)

-- a PDR as the walk has it
pub pdr_row : (u : Unit) (live a : List ℕ) (i : ℕ) {ws ws' : List ℕ} {rows : List (List ℕ)} (row : List ℕ) → row ≡ part (i * pdr_width) pdr_width a → rows ≡ slices pdr_width i a → {r : Result ℕ Broken}
    → Stepped (pdr_sound (settings_of u) live row) u.first ws (holds_in rows) (pdr_hold row) r ws' → Stepped (pdr_sound (settings_of u) live (part (i * pdr_width) pdr_width a)) u.first ws (pdr_holds i a) (hold_at a i) r ws'
unfolding holds_in pdr_holds pdr_hold hold_at
pdr_row u live a i {ws} {ws'} row e f {r} t = transport (λ j. Stepped (pdr_sound (settings_of u) live (e j)) u.first ws (collect pdr_holding (map view_pdr (f j))) (pdr_holding (view_pdr (e j))) r ws') t

-- the endpoints that PDRs name
pub named_rows : (u : Unit) (xs a : List ℕ) (m n : ℕ) {ws ws' : List ℕ} {rows : List (List ℕ)} → rows ≡ slices endpoint_width m a → {r : Result ℕ Broken}
    → Marked (area_sound (pdr_sound (settings_of u) (ids_of rows)) pdr_width 2 n xs) u.first ws (pdr_holds n xs) r ws' → Marked (area_sound (pdr_sound (settings_of u) (endpoint_ids m a)) pdr_width 2 n xs) u.first ws (pdr_holds n xs) r ws'
unfolding endpoint_ids
named_rows u xs a m n {ws} {ws'} e {r} t = subst (λ (l : List (List ℕ)). Marked (area_sound (pdr_sound (settings_of u) (ids_of l)) pdr_width 2 n xs) u.first ws (pdr_holds n xs) r ws') e t
