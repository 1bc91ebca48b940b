-- Which offsets are marked after marking, over the number of words. Assumes nothing.
use mathlib.Core.Path.{◌≡◌, refl, sym, ◌∙◌, ap}
use mathlib.Core.Bool.{Bool, true, false, ◌||◌}
use mathlib.Core.List.{List, [], ◌∷◌, ◌++◌}
use Prim.Native.Nat.{ℕ, zero, suc, ◌+◌, ◌-◌, ◌*◌, ◌/◌, ◌%◌, ◌^◌, ◌<◌}
use native.Mathlib.Decide.{ℕ_discrete}
use native.Mathlib.Omega.{arith}
use borrow.Author.Tests.{eq-eqb, ne_eqb}
use lib.Bits.{or_lt}
use lib.Dec.{T, eqb, ltb, ltb→lt, lt→ltb, lit<}
use lib.ListN.{length, get_or, set, replicate, length-set}
use lib.Pow.{pow-lt}
use lib.Seq.{get_or-set_same, get_or-set_other}
use Rattle.octets.specs.Lists.{all}
use Rattle.octets.proofs.Tests.{all_head, all_tail, all_cons}
use Rattle.pool.specs.Map.{mark, marks, new_marks, offsets}
use Rattle.pool.proofs.Bits.{or_set, bit_set_same, bit_set_other, bit_of_zero}
use Rattle.rules.specs.Sound.{marked}

-- ---- one mark

pub marked_mark : (ws : List ℕ) (t i : ℕ) → t < 64 * length ws → marked (mark ws t) i ≡ (eqb i t || marked ws i)
unfolding marked mark
marked_mark ws t i h = go (ℕ_discrete (i / 64) (t / 64)) (ℕ_discrete (t % 64) (i % 64))
  where
    in_words : t / 64 < length ws
    in_words = omega arith

    go : Dec (i / 64 ≡ t / 64) → Dec (t % 64 ≡ i % 64) → marked (mark ws t) i ≡ (eqb i t || marked ws i)
    go (no w) d = rw (get_or-set_other ws (t / 64) (i / 64) _ 0 w, ne_eqb i t (λ e. w (ap (λ (x : ℕ). x / 64) e)))
    go (yes w) (no b) =
        rw (w, get_or-set_same ws (t / 64) _ 0 in_words, bit_set_other _ _ _ b, ne_eqb i t (λ e. b (ap (λ (x : ℕ). x % 64) (sym e))))
    go (yes w) (yes b) =
        let e : i ≡ t = omega arith in
        rw (e, get_or-set_same ws (t / 64) _ 0 in_words, bit_set_same, eq-eqb t t refl)

pub length_mark : (ws : List ℕ) (t : ℕ) → length (mark ws t) ≡ length ws
unfolding mark
length_mark ws t = length-set ws (t / 64) _

-- a mark that is there changes nothing
set_same : (ws : List ℕ) (k v : ℕ) → v ≡ get_or ws k 0 → set ws k v ≡ ws
set_same [] k v e = refl
set_same (x ∷ ws) zero v e = ap (λ (y : ℕ). y ∷ ws) e
set_same (x ∷ ws) (suc k) v e = ap (λ (l : List ℕ). x ∷ l) (set_same ws k v e)

pub mark_there : (ws : List ℕ) (t : ℕ) → marked ws t ≡ true → mark ws t ≡ ws
unfolding marked mark
mark_there ws t e = set_same ws (t / 64) _ (or_set (t % 64) (get_or ws (t / 64) 0) e)

-- in a map of zeros nothing is marked
pub zeros_at : (n k : ℕ) → ◌≡◌ {A = ℕ} (get_or (replicate n 0) k 0) 0
zeros_at zero k = refl
zeros_at (suc n) zero = refl
zeros_at (suc n) (suc k) = zeros_at n k

pub marked_zeros : (n i : ℕ) → marked (replicate n 0) i ≡ false
unfolding marked
marked_zeros n i = rw (zeros_at n (i / 64)) (bit_of_zero (i % 64))

-- ---- a list of marks

pub marks_append : (ws ts us : List ℕ) → marks ws (ts ++ us) ≡ marks (marks ws ts) us
unfolding marks
marks_append ws [] us = refl
marks_append ws (t ∷ ts) us = marks_append (mark ws t) ts us

pub length_marks : (ws ts : List ℕ) → length (marks ws ts) ≡ length ws
unfolding marks
length_marks ws [] = refl
length_marks ws (t ∷ ts) = length_marks (mark ws t) ts ∙ length_mark ws t

pub new_append : (ws ts us : List ℕ) → new_marks ws (ts ++ us) ≡ new_marks ws ts + new_marks (marks ws ts) us
unfolding new_marks marks
new_append ws [] us = omega arith
new_append ws (t ∷ ts) us = let ih = new_append (mark ws t) ts us in omega arith

pub offsets_append : (first : ℕ) (ts us : List ℕ) → offsets first (ts ++ us) ≡ offsets first ts ++ offsets first us
unfolding offsets
offsets_append first [] us = refl
offsets_append first (t ∷ ts) us = ap (λ (l : List ℕ). (t - first) ∷ l) (offsets_append first ts us)

-- ---- words stay words

abbrev pub all_words : List ℕ → Bool
all_words ws = all (λ w. ltb w (2 ^ 64)) ws

words_zeros : (n : ℕ) → T (all_words (replicate n 0))
unfolding all
words_zeros zero = tt
words_zeros (suc n) = words_zeros n

words_at : (ws : List ℕ) (k : ℕ) → T (all_words ws) → get_or ws k 0 < 2 ^ 64
words_at [] k h = lit< tt
words_at (w ∷ ws) zero h = ltb→lt w (2 ^ 64) (all_head (λ x. ltb x (2 ^ 64)) w ws h)
words_at (w ∷ ws) (suc k) h = words_at ws k (all_tail (λ x. ltb x (2 ^ 64)) w ws h)

words_set : (ws : List ℕ) (k v : ℕ) → v < 2 ^ 64 → T (all_words ws) → T (all_words (set ws k v))
words_set [] k v l h = h
words_set (w ∷ ws) zero v l h = all_cons (λ x. ltb x (2 ^ 64)) v ws (lt→ltb v (2 ^ 64) l) (all_tail (λ x. ltb x (2 ^ 64)) w ws h)
words_set (w ∷ ws) (suc k) v l h =
    all_cons (λ x. ltb x (2 ^ 64)) w (set ws k v) (all_head (λ x. ltb x (2 ^ 64)) w ws h) (words_set ws k v l (all_tail (λ x. ltb x (2 ^ 64)) w ws h))

words_mark : (ws : List ℕ) (t : ℕ) → T (all_words ws) → T (all_words (mark ws t))
unfolding mark
words_mark ws t h =
    words_set ws (t / 64) _ (or_lt 64 (get_or ws (t / 64) 0) (2 ^ (t % 64)) (words_at ws (t / 64) h) (pow-lt {j = 64} (omega arith))) h

pub words_marks : (ws ts : List ℕ) → T (all_words ws) → T (all_words (marks ws ts))
unfolding marks
words_marks ws [] h = h
words_marks ws (t ∷ ts) h = words_marks (mark ws t) ts (words_mark ws t h)

pub words_map : (n : ℕ) (ts : List ℕ) → T (all_words (marks (replicate n 0) ts))
words_map n ts = words_marks (replicate n 0) ts (words_zeros n)
