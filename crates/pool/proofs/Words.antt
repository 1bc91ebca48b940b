-- The free offsets of one word, from one of its bits on. Assumes nothing.
use mathlib.Core.Path.{◌≡◌, ◌∙◌, ap}
use mathlib.Core.Logic.{◌≢◌}
use mathlib.Core.Bool.{false}
use mathlib.Core.List.{List}
use Prim.Native.Nat.{ℕ, ◌+◌, ◌-◌, ◌*◌, ◌/◌, ◌%◌, ◌^◌, ◌<◌}
use native.Mathlib.Omega.{arith}
use lib.ListN.{get_or}
use Rattle.octets.specs.Octets.{bit}
use Rattle.pool.specs.Map.{free_from}
use Rattle.pool.proofs.Bits.{open_from, first_open, open_none, open_before, open_within, open_first}
use Rattle.pool.proofs.Free.{free_run}
use Rattle.rules.specs.Sound.{marked}

-- an offset's bit, by its word and its place there
pub marked_in : (ws : List ℕ) (k b j : ℕ) → b + j < 64 → marked ws (64 * k + b + j) ≡ bit (b + j) (get_or ws k 0)
unfolding marked
marked_in ws k b j l =
    let word : (64 * k + b + j) / 64 ≡ k = omega arith in
    let place : (64 * k + b + j) % 64 ≡ b + j = omega arith in
    rw (word, place)

module _ (ws : List ℕ) (k b : ℕ) (fits : get_or ws k 0 < 2 ^ 64) where
  -- the word has no free offset from bit b on: the next word is where to look
  pub word_full : (size : ℕ) → b < 64 → open_from 64 b (get_or ws k 0) ≡ 0 → free_from ws (64 * k + b) size ≡ free_from ws (64 * (k + 1) + 0) size
  word_full size l e =
      let next : 64 * k + b + (64 - b) ≡ 64 * (k + 1) + 0 = omega arith in
      free_run ws (64 - b) (64 * k + b) size
      (λ j h. let i : b + j < 64 = omega arith in marked_in ws k b j i ∙ open_none 64 b (get_or ws k 0) fits e j i)
      ∙ ap (λ (i : ℕ). free_from ws i size) next

  -- it has one: the first is in the word, and those before it are passed over
  module _ (some : open_from 64 b (get_or ws k 0) ≢ 0) where
    pub word_within : b + first_open 64 b (get_or ws k 0) < 64
    word_within = open_within 64 b (get_or ws k 0) fits (omega (arith, some))

    pub word_first : marked ws (64 * k + b + first_open 64 b (get_or ws k 0)) ≡ false
    word_first = marked_in ws k b (first_open 64 b (get_or ws k 0)) word_within ∙ open_first 64 b (get_or ws k 0) fits (omega (arith, some))

    pub word_skip : (size : ℕ) → free_from ws (64 * k + b) size ≡ free_from ws (64 * k + b + first_open 64 b (get_or ws k 0)) size
    word_skip size =
        free_run ws (first_open 64 b (get_or ws k 0)) (64 * k + b) size
        (λ j h. let l = word_within in let i : b + j < 64 = omega arith in marked_in ws k b j i ∙ open_before 64 b (get_or ws k 0) fits j h i)
