-- The loop over the slots of a table: what is left gives the same answer, the same map and the same number of new marks. It is the same for
-- TEIDs and for addresses: a slot has a test against the map, and offsets that are marked.
-- Assumes nothing.
use Rattle.std.proofs.Common.{◌≡◌, ℕ, ◌+◌, ◌-◌, ◌*◌, ◌<◌, ◌≤◌, Bool, true, false, ◌&&◌, List, [], ◌∷◌, length, drop, sym, refl, ap, ◌∙◌, zero-le, add-zero, add_assoc, zero-add, arith}
use Rattle.octets.specs.Octets.{part, slices, concat_map}
use Rattle.rules.specs.Layout.{session_width}
use Rattle.pool.specs.Map.{marks, new_marks}
use Rattle.pool.proofs.Marks.{marks_append, new_append, length_marks}
use Rattle.records.proofs.Turns.{slices_more}
use Rattle.marking.specs.Marking.{in_turn}

-- what a walk that is not refused says
pub record Whole (ws : List ℕ) (is : List ℕ) (keeps : Bool) (new : ℕ) (ws' : List ℕ) : Type 0 where
  pub yes' : keeps ≡ true
  pub count : new ≡ new_marks ws is
  pub words : ws' ≡ marks ws is

module _ (test : List ℕ → List ℕ → Bool) (held : List ℕ → List ℕ) (ws₀ a : List ℕ) (n : ℕ) where
  abbrev slots : List (List ℕ)
  slots = slices session_width n a

  abbrev left : ℕ → List (List ℕ)
  left i = slices session_width (n - i) (drop (i * session_width) a)

  abbrev slot : ℕ → List ℕ
  slot i = part (i * session_width) session_width a

  -- what holds at the loop's head
  pub record Through (ws : List ℕ) (i new : ℕ) : Type 0 where
    pub within : i ≤ n
    pub few : new ≤ 24 * i
    pub long : length ws ≡ length ws₀
    pub keeps : in_turn test held ws (left i) ≡ in_turn test held ws₀ slots
    pub words : marks ws (concat_map held (left i)) ≡ marks ws₀ (concat_map held slots)
    pub count : new + new_marks ws (concat_map held (left i)) ≡ new_marks ws₀ (concat_map held slots)

  pub through_none : Through ws₀ 0 0
  through_none =
      let e : n - 0 ≡ n = omega arith in
      record { within = zero-le; few = zero-le; long = refl; keeps = rw e; words = rw e; count = rw e (zero-add (new_marks ws₀ (concat_map held slots))) }

  module _ {ws : List ℕ} {i new : ℕ} (p : Through ws i new) where
    module _ (h : i < n) where
      more : left i ≡ slot i ∷ left (i + 1)
      more = slices_more session_width a n i h

      held_more : concat_map held (left i) ≡ concat_map held (slot i ∷ left (i + 1))
      held_more = ap (concat_map held) more

      pub through_more : (k : ℕ) (ws' : List ℕ) → test ws (slot i) ≡ true → k ≡ new_marks ws (held (slot i)) → ws' ≡ marks ws (held (slot i)) → k ≤ 24 → Through ws' (i + 1) (new + k)
      unfolding in_turn concat_map
      through_more k ws' t f w few =
          record {
            within = omega arith;
            few = omega (arith, p.few);
            long = ap length w ∙ length_marks ws (held (slot i)) ∙ p.long;
            keeps =
                ap (λ (v : List ℕ). in_turn test held v (left (i + 1))) w
                ∙ sym (ap (λ (b : Bool). b && in_turn test held (marks ws (held (slot i))) (left (i + 1))) t)
                ∙ ap (in_turn test held ws) (sym more) ∙ p.keeps;
            words =
                ap (λ (v : List ℕ). marks v (concat_map held (left (i + 1)))) w
                ∙ sym (marks_append ws (held (slot i)) (concat_map held (left (i + 1)))) ∙ ap (marks ws) (sym held_more) ∙ p.words;
            count =
                add_assoc new k (new_marks ws' (concat_map held (left (i + 1))))
                ∙ (λ j. new + (f j + new_marks (w j) (concat_map held (left (i + 1)))))
                ∙ ap (λ (x : ℕ). new + x) (sym (new_append ws (held (slot i)) (concat_map held (left (i + 1)))) ∙ ap (new_marks ws) (sym held_more))
                ∙ p.count;
          }

      pub through_stop : test ws (slot i) ≡ false → in_turn test held ws₀ slots ≡ false
      unfolding in_turn
      through_stop e = sym p.keeps ∙ ap (in_turn test held ws) more ∙ ap (λ (b : Bool). b && in_turn test held (marks ws (held (slot i))) (left (i + 1))) e

    pub through_all : n ≤ i → Whole ws₀ (concat_map held slots) (in_turn test held ws₀ slots) new ws
    unfolding in_turn slices concat_map marks new_marks
    through_all h =
        let e : n - i ≡ 0 = omega arith in
        let none_left : left i ≡ [] = rw e in
        record {
          yes' = sym p.keeps ∙ ap (in_turn test held ws) none_left;
          count = sym (sym p.count ∙ ap (λ (l : List (List ℕ)). new + new_marks ws (concat_map held l)) none_left ∙ add-zero new);
          words = ap (λ (l : List (List ℕ)). marks ws (concat_map held l)) (sym none_left) ∙ p.words;
        }
