-- What the map means: its bits are the TEIDs that records hold, and it is 01's map; the TEIDs at its free offsets are the free TEIDs,
-- the lowest first, and as many as 01's free count says; counting new marks counts the different TEIDs held.
-- Assumes nothing.
use Rattle.std.specs.Prelude.{Some, None}
use mathlib.Core.Path.{◌≡◌, refl, sym, ◌∙◌, ap}
use mathlib.Core.Bool.{Bool, true, false, not}
use mathlib.Core.List.{List, [], ◌∷◌, ◌++◌, map, append-nil}
use Prim.Native.Nat.{ℕ, zero, suc, ◌+◌, ◌-◌, ◌*◌, ◌/◌, ◌%◌, ◌^◌, ◌≤◌, ◌<◌}
use native.Mathlib.Nat.{pow-suc, add-zero}
use native.Mathlib.Decide.{ℕ_discrete}
use native.Mathlib.Omega.{arith}
use borrow.Author.Tests.{eq-eqb, ne_eqb}
use lib.Dec.{T, leb, ltb, eqb, leb→le, ltb→lt}
use lib.ListN.{length, replicate, length-replicate}
use Rattle.octets.specs.Choice.{pick, flag, head_or, rest}
use Rattle.octets.specs.Octets.{bit}
use Rattle.octets.specs.Lists.{member, distinct, range, without, keep, all}
use Rattle.octets.proofs.Tests.{and_left, and_right, all_head, all_tail}
use Rattle.rules.specs.Limits.{map_words}
use Rattle.rules.specs.Model.{Settings, Sessions, held_teids, free_teids}
use Rattle.rules.specs.Sound.{settings_allowed, in_pool, taken, taken_bits, taken_words, taken_map, marked}
use Rattle.laws.proofs.KeptSettings.{settings_kept}
use Rattle.pool.specs.Answer.{lowest}
use Rattle.pool.specs.Map.{mark, marks, new_marks, free_from, offsets, teids_from}
use Rattle.pool.proofs.Bits.{bit_low, bit_suc}
use Rattle.pool.proofs.Marks.{all_words, marked_mark, marked_zeros, length_mark, length_marks, words_map}
use Rattle.pool.proofs.Free.{lowest_at, lowest_full}
use Rattle.octets.proofs.Questions.{member_middle}
use Rattle.octets.proofs.Counting.{new_in, new_distinct}

-- ---- words

first_word : (w : ℕ) (ws : List ℕ) (j : ℕ) → j < 64 → bit j w ≡ marked (w ∷ ws) j
unfolding marked
first_word w ws j l =
    let a : j / 64 ≡ 0 = omega arith in
    let b : j % 64 ≡ j = omega arith in
    rw (a, b)

later_word : (w : ℕ) (ws : List ℕ) (k : ℕ) → marked ws k ≡ marked (w ∷ ws) (64 + k)
unfolding marked
later_word w ws k =
    let a : (64 + k) / 64 ≡ suc (k / 64) = omega arith in
    let b : (64 + k) % 64 ≡ k % 64 = omega arith in
    rw (a, b)

-- ---- bits and TEIDs

-- the words' bits are the TEIDs of a list
abbrev pub Means : ℕ → List ℕ → List ℕ → Type 0
Means first words held = (i : ℕ) → marked words i ≡ member (first + i) held

pub means_empty : (first n : ℕ) → Means first (replicate n 0) []
unfolding member
means_empty first n i = marked_zeros n i

-- a TEID's own bit
pub means_test : (first : ℕ) (ws held : List ℕ) (t : ℕ) → Means first ws held → first ≤ t → marked ws (t - first) ≡ member t held
means_test first ws held t h l = h (t - first) ∙ ap (λ (x : ℕ). member x held) (omega arith)

same_offset : (first t i : ℕ) → first ≤ t → eqb i (t - first) ≡ eqb (first + i) t
same_offset first t i l = go (ℕ_discrete i (t - first))
  where
    go : Dec (i ≡ t - first) → eqb i (t - first) ≡ eqb (first + i) t
    go (yes e) = eq-eqb i (t - first) e ∙ sym (eq-eqb (first + i) t (omega arith))
    go (no n) = ne_eqb i (t - first) n ∙ sym (ne_eqb (first + i) t (λ e. n (omega arith)))

-- marking a TEID's offset puts it into the list
pub means_mark : (first : ℕ) (ws held : List ℕ) (t : ℕ) → Means first ws held → first ≤ t → t - first < 64 * length ws → Means first (mark ws (t - first)) (t ∷ held)
unfolding member
means_mark first ws held t h l b i = marked_mark ws (t - first) i b ∙ rw (same_offset first t i l, h i)

module _ (s : Settings) where
  pub pool_from : (t : ℕ) → T (in_pool s t) → s.first ≤ t
  unfolding in_pool
  pool_from t h = leb→le s.first t (and_left (leb s.first t) (ltb t (s.first + s.size)) h)

  pub pool_below : (t : ℕ) → T (in_pool s t) → t < s.first + s.size
  unfolding in_pool
  pool_below t h = ltb→lt t (s.first + s.size) (and_right (leb s.first t) (ltb t (s.first + s.size)) h)

  -- the offset of a TEID of the pool has its bit in a map that has one for each of the pool
  pub pool_offset : (n t : ℕ) → s.size ≤ 64 * n → T (in_pool s t) → t - s.first < 64 * n
  pool_offset n t f h = omega (arith, pool_from t h, pool_below t h)

  -- 01's map has a bit for each offset of a pool that is allowed
  pub pool_fits : T (settings_allowed s) → s.size ≤ 64 * map_words
  pool_fits h = omega (arith, (settings_kept s h).pool.few)

  pub means_marks : (ws seen ts : List ℕ) → Means s.first ws seen → s.size ≤ 64 * length ws → T (all (in_pool s) ts) → Means s.first (marks ws (offsets s.first ts)) (ts ++ seen)
  unfolding marks offsets
  means_marks ws seen [] h f g i = h i
  means_marks ws seen (t ∷ ts) h f g i =
      let p = all_head (in_pool s) t ts g in
      let h' = means_mark s.first ws seen t h (pool_from t p) (pool_offset (length ws) t f p) in
      means_marks (mark ws (t - s.first)) (t ∷ seen) ts h' (rw length_mark f) (all_tail (in_pool s) t ts g) i
      ∙ member_middle (s.first + i) t ts seen ∙ sym (member_middle (s.first + i) t [] (ts ++ seen))

  -- the map of the TEIDs of a list means that list
  pub means_map : (n : ℕ) (ts : List ℕ) → s.size ≤ 64 * n → T (all (in_pool s) ts) → Means s.first (marks (replicate n 0) (offsets s.first ts)) ts
  means_map n ts f h i =
      means_marks (replicate n 0) [] ts (means_empty s.first n) (rw length-replicate f) h i
      ∙ ap (λ (l : List ℕ). member (s.first + i) l) (append-nil ts)

  -- ---- the words that a list of numbers makes

  module _ (held : List ℕ) where
    word_is : (n w i : ℕ) → w < 2 ^ n → ((j : ℕ) → j < n → bit j w ≡ taken s.first held (i + j)) → w ≡ taken_bits s.first held n i
    unfolding taken_bits
    word_is zero w i l h = omega arith
    word_is (suc n) w i l h =
        let l' = rw (pow-suc 2 n) at l in
        let half : w / 2 < 2 ^ n = omega arith in
        let low : flag (taken s.first held i) ≡ w % 2 = ap (λ (k : ℕ). flag (taken s.first held k)) (sym (add-zero i)) ∙ ap flag (sym (h 0 (omega arith))) ∙ bit_low w in
        let ih = word_is n (w / 2) (i + 1) half (λ j lj. sym (bit_suc w j) ∙ h (suc j) (omega arith) ∙ ap (taken s.first held) (omega arith)) in
        omega arith

    words_are : (ws : List ℕ) (i : ℕ) → T (all_words ws) → ((k : ℕ) → k < 64 * length ws → marked ws k ≡ taken s.first held (i + k)) → ws ≡ taken_words s.first held (length ws) i
    unfolding taken_words
    words_are [] i h g = refl
    words_are (w ∷ ws) i h g =
        let first : w ≡ taken_bits s.first held 64 i =
        word_is 64 w i (ltb→lt w (2 ^ 64) (all_head (λ x. ltb x (2 ^ 64)) w ws h)) (λ j l. first_word w ws j l ∙ g j (omega arith)) in
        let others : ws ≡ taken_words s.first held (length ws) (i + 64) =
        words_are ws (i + 64) (all_tail (λ x. ltb x (2 ^ 64)) w ws h) (λ k l. later_word w ws k ∙ g (64 + k) (omega arith) ∙ ap (taken s.first held) (omega arith)) in
        λ j. first j ∷ others j

    -- marking every held number in an empty map of n words, which has a bit for each of the pool, makes their words
    pub words_is : (n : ℕ) → s.size ≤ 64 * n → T (all (in_pool s) held) → marks (replicate n 0) (offsets s.first held) ≡ taken_words s.first held n 0
    unfolding taken
    words_is n f h =
        let ws = marks (replicate n 0) (offsets s.first held) in
        let long : length ws ≡ n = length_marks (replicate n 0) (offsets s.first held) ∙ length-replicate {A = ℕ} n 0 in
        words_are ws 0 (words_map n (offsets s.first held))
        (λ k l. means_map n held f h k ∙ ap (λ (x : ℕ). member (s.first + x) held) (omega arith))
        ∙ ap (λ (k : ℕ). taken_words s.first held k 0) long

    -- so these words mean the numbers held
    pub words_mean : (n : ℕ) → s.size ≤ 64 * n → T (all (in_pool s) held) → Means s.first (taken_words s.first held n 0) held
    words_mean n f h i = ap (λ (ws : List ℕ). marked ws i) (sym (words_is n f h)) ∙ means_map n held f h i

  -- 01's map: map_words words of the TEIDs held
  module _ (m : Sessions) where
    pub map_is : T (settings_allowed s) → T (all (in_pool s) (held_teids m)) → marks (replicate map_words 0) (offsets s.first (held_teids m)) ≡ taken_map s m
    unfolding taken_map
    map_is a h = words_is (held_teids m) map_words (pool_fits a) h

    pub map_means : T (settings_allowed s) → T (all (in_pool s) (held_teids m)) → Means s.first (taken_map s m) (held_teids m)
    unfolding taken_map
    map_means a h = words_mean (held_teids m) map_words (pool_fits a) h

-- ---- free TEIDs

free_range : (first : ℕ) (ws held : List ℕ) → Means first ws held → (n i : ℕ) → map (λ k. first + k) (keep (λ k. not (marked ws k)) (range i n)) ≡ without (range (first + i) n) held
unfolding keep range without
free_range first ws held h zero i = refl
free_range first ws held h (suc n) i =
    let e : first + (i + 1) ≡ first + i + 1 = omega arith in
    let ih = free_range first ws held h n (i + 1) ∙ ap (λ (k : ℕ). without (range k n) held) e in
    one (marked ws i) (member (first + i) held) (keep (λ k. not (marked ws k)) (range (i + 1) n)) (h i)
    ∙ ap (λ (l : List ℕ). pick (member (first + i) held) l ((first + i) ∷ l)) ih
  where
    one : (b c : Bool) (xs : List ℕ) → b ≡ c → map (λ k. first + k) (pick (not b) (i ∷ xs) xs) ≡ pick c (map (λ k. first + k) xs) ((first + i) ∷ map (λ k. first + k) xs)
    one true true xs e = refl
    one true false xs e = let z : ◌≡◌ {A = ℕ} 0 1 = cc in absurd (omega arith)
    one false true xs e = let z : ◌≡◌ {A = ℕ} 0 1 = cc in absurd (omega arith)
    one false false xs e = refl

-- by the map and by the list of TEIDs held
pub free_are : (first : ℕ) (ws held : List ℕ) → Means first ws held → (at size : ℕ) → teids_from first ws at size ≡ without (range (first + at) (size - at)) held
unfolding teids_from free_from
free_are first ws held h at size = free_range first ws held h (size - at) at

-- the free offsets by the map, each plus the first TEID, are the free TEIDs
pub free_teids_lem : (s : Settings) (m : Sessions) (ws : List ℕ) → Means s.first ws (held_teids m) → teids_from s.first ws 0 s.size ≡ free_teids s m
unfolding free_teids
free_teids_lem s m ws h =
    free_are s.first ws (held_teids m) h 0 s.size ∙ (let a : s.first + 0 ≡ s.first = omega arith in let b : s.size - 0 ≡ s.size = omega arith in rw (a, b))

-- the new marks of a list are its numbers that were not seen before
pub new_marks_lem : (s : Settings) (ws seen ts : List ℕ) → Means s.first ws seen → s.size ≤ 64 * length ws → T (all (in_pool s) ts) → new_marks ws (offsets s.first ts) ≡ new_in seen ts
unfolding new_marks new_in offsets
new_marks_lem s ws seen [] h f g = refl
new_marks_lem s ws seen (t ∷ ts) h f g =
    let p = all_head (in_pool s) t ts g in
    let h' = means_mark s.first ws seen t h (pool_from s t p) (pool_offset s (length ws) t f p) in
    let e = means_test s.first ws seen t h (pool_from s t p) in
    let ih = new_marks_lem s (mark ws (t - s.first)) (t ∷ seen) ts h' (rw length_mark f) (all_tail (in_pool s) t ts g) in
    λ j. flag (not (e j)) + ih j

-- counting while marking in an empty map counts the different TEIDs
pub new_marks_distinct : (s : Settings) (n : ℕ) (ts : List ℕ) → s.size ≤ 64 * n → T (all (in_pool s) ts) → new_marks (replicate n 0) (offsets s.first ts) ≡ distinct ts
new_marks_distinct s n ts f h = new_marks_lem s (replicate n 0) [] ts (means_empty s.first n) (rw length-replicate f) h ∙ new_distinct ts

-- ---- the lowest free TEID, and those after it

-- at or after an offset there is a free one: its TEID is the first, and the rest are those after it
pub record Next (first : ℕ) (ws : List ℕ) (at size i : ℕ) : Type 0 where
  pub from : at ≤ i
  pub below : i < size
  pub head : head_or 0 (teids_from first ws at size) ≡ first + i
  pub after : rest (teids_from first ws at size) ≡ teids_from first ws (i + 1) size

pub next_teid : (first : ℕ) (ws : List ℕ) (at size i : ℕ) → Some i ≡ lowest (free_from ws at size) → Next first ws at size i
unfolding teids_from
next_teid first ws at size i e =
    let f = lowest_at ws at size i e in
    record { from = f.from; below = f.below; head = rw f.is; after = rw f.is }

-- or there is none
pub no_teid : (first : ℕ) (ws : List ℕ) (at size : ℕ) → None ≡ lowest (free_from ws at size) → teids_from first ws at size ≡ []
unfolding teids_from
no_teid first ws at size e = rw (lowest_full (free_from ws at size) e)
