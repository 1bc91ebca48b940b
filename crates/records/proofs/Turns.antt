-- The loops over records: what is left gives the same answer; and the answers, return by return.
-- Assumes nothing.
use mathlib.Core.Path.{◌≡◌, refl, sym, ap, ◌∙◌}
use Prim.Native.Nat.{ℕ, suc, ◌+◌, ◌-◌, ◌*◌, ◌≤◌, ◌<◌, zero-le}
use native.Mathlib.Numerals.{add-one}
use native.Mathlib.Omega.{arith}
use mathlib.Core.Bool.{Bool, true, false, ◌&&◌}
use mathlib.Core.List.{List, [], ◌∷◌, map}
use borrow.Author.Tests.{lt-ltb, le-ltb, le-leb, lt-leb, leb-true, leb-false}
use lib.ListN.{length, take, drop, get_or, drop_of_length-le, length-drop}
use lib.Seq.{drop-cons, drop-drop, take_all}
use lib.Dec.{leb, ltb}
use Rattle.rules.specs.Model.{Settings}
use Rattle.octets.specs.Octets.{part, number, octet_at, slices, all_zero}
use Rattle.octets.specs.Lists.{all, ascending}
use Rattle.octets.proofs.Bools.{and-false, and-true, and_four, and_assoc}
use Rattle.rules.specs.Layout.{pdr_width, endpoint_width, csid_width, pdr_count_at, endpoint_count_at, csid_count_at}
use Rattle.areas.specs.Records.{key_of, pair_key}
use Rattle.areas.proofs.LookupLaws.{keys, length_keys}
use Rattle.records.specs.Kept.{pdr_sound, endpoint_sound, csid_sound, endpoint_ids}
use Rattle.records.specs.Slot.{area_sound, head_sound, slot_tests, slot_sound, pdr_area, endpoint_area, csid_area}
use Rattle.areas.proofs.PairLaws.{pair_at}

-- ---- ascending keys

next : (ks : List ℕ) (i : ℕ) → i < length ks → drop i ks ≡ get_or ks i 0 ∷ drop (i + 1) ks
next ks i h = rw add-one (drop-cons ks i 0 h)

ascending_next : (ks : List ℕ) (i : ℕ) → i + 1 < length ks → ascending (drop i ks) ≡ (ltb (get_or ks i 0) (get_or ks (i + 1) 0) && ascending (drop (i + 1) ks))
unfolding ascending
ascending_next ks i h =
    let first = next ks i (omega arith) in
    let second = next ks (i + 1) h in
    ap ascending (first ∙ ap (λ (l : List ℕ). get_or ks i 0 ∷ l) second) ∙ ap (λ (l : List ℕ). ltb (get_or ks i 0) (get_or ks (i + 1) 0) && ascending l) (sym second)

-- What holds in the loop: the key before place i is the last one read, and what is left from there gives the same answer.
pub record Rising (ks : List ℕ) (n i last : ℕ) : Type 0 where
  pub size : length ks ≡ n
  pub some : 1 ≤ i
  pub within : i ≤ n
  pub at : last ≡ get_or ks (i - 1) 0
  pub rest : ascending (drop (i - 1) ks) ≡ ascending ks

module _ {ks : List ℕ} {n : ℕ} where
  pub rising_first : (last : ℕ) → length ks ≡ n → 0 < n → last ≡ get_or ks 0 0 → Rising ks n 1 last
  rising_first last e h q = record { size = e; some = omega arith; within = omega arith; at = q; rest = refl }

  module _ {i last key : ℕ} (r : Rising ks n i last) (h : i < n) (e : key ≡ get_or ks i 0) where
    here : ascending (drop (i - 1) ks) ≡ (ltb last key && ascending (drop i ks))
    here =
        let back : i - 1 + 1 ≡ i = omega (arith, r.some) in
        ascending_next ks (i - 1) (omega (arith, r.size, r.some)) ∙ rw (back, ← r.at, ← e)

    pub rising_more : last < key → Rising ks n (i + 1) key
    rising_more l =
        let next : i + 1 - 1 ≡ i = omega arith in
        record { size = r.size; some = omega arith; within = omega arith; at = rw next e; rest = rw next (sym (here ∙ rw (lt-ltb last key l)) ∙ r.rest) }

    pub rising_not : key ≤ last → false ≡ ascending ks
    rising_not l = sym (sym r.rest ∙ here ∙ rw (le-ltb last key l))

  pub rising_end : {i last : ℕ} → Rising ks n i last → n ≤ i → true ≡ ascending ks
  unfolding ascending
  rising_end {i} {last} r h =
      let end : drop (i - 1 + 1) ks ≡ [] = drop_of_length-le ks {i = i - 1 + 1} (omega (arith, r.size, r.within, r.some)) in
      sym (sym r.rest ∙ ap ascending (next ks (i - 1) (omega (arith, r.size, r.within, r.some)) ∙ ap (λ (l : List ℕ). get_or ks (i - 1) 0 ∷ l) end))

-- ---- one walk over an area: each record is tested, and its key compared with the least that it may be

-- the records from place i on
pub slices_more : (w : ℕ) (a : List ℕ) (n i : ℕ) → i < n → slices w (n - i) (drop (i * w) a) ≡ part (i * w) w a ∷ slices w (n - (i + 1)) (drop ((i + 1) * w) a)
unfolding slices
slices_more w a n i h =
    let e : n - i ≡ suc (n - (i + 1)) = omega arith in
    let step : i * w + w ≡ (i + 1) * w = omega arith in
    rw (e, drop-drop w (i * w) a, step)

-- keys of which the first is at least b, and each other one above the one before it
unfoldable pub rises_from : ℕ → List ℕ → Bool
rises_from b [] = true
rises_from b (x ∷ xs) = leb b x && rises_from (x + 1) xs

rises_after : (x : ℕ) (xs : List ℕ) → rises_from (x + 1) xs ≡ ascending (x ∷ xs)
unfolding rises_from ascending
rises_after x [] = refl
rises_after x (y ∷ ys) = let e : x + 1 ≡ suc x = add-one x in ap (λ (k : ℕ). leb k y && rises_from (y + 1) ys) e ∙ ap (λ (t : Bool). ltb x y && t) (rises_after y ys)

rises_all : (xs : List ℕ) → rises_from 0 xs ≡ ascending xs
unfolding rises_from ascending
rises_all [] = refl
rises_all (x ∷ xs) = rw (le-leb 0 x zero-le) (rises_after x xs)

module _ (p : List ℕ → Bool) (w k : ℕ) (a : List ℕ) (n : ℕ) where
  -- those from place i on pass their test, and their keys rise from b
  abbrev pub sound_from : ℕ → ℕ → Bool
  sound_from i b = all p (slices w (n - i) (drop (i * w) a)) && rises_from b (map (key_of k) (slices w (n - i) (drop (i * w) a)))

  -- What holds at the head of the loop: what is left, with keys from next on, gives the same answer.
  pub record Rows (i next : ℕ) : Type 0 where
    pub within : i ≤ n
    pub rest : sound_from i next ≡ (all p (slices w n a) && ascending (keys w k n a))

  pub rows_none : Rows 0 0
  rows_none =
      let e : n - 0 ≡ n = omega arith in
      let z : 0 * w ≡ 0 = omega arith in
      record { within = zero-le; rest = rw (e, z, rises_all (keys w k n a)) }

  -- an area whose records are not sound
  area_not : (all p (slices w n a) && ascending (keys w k n a)) ≡ false → area_sound p w k n a ≡ false
  unfolding area_sound
  area_not e = sym (and_assoc (all p (slices w n a)) (ascending (keys w k n a)) (all_zero (drop (n * w) a))) ∙ ap (λ (t : Bool). t && all_zero (drop (n * w) a)) e

  module _ {i next : ℕ} (r : Rows i next) (h : i < n) where
    turn : sound_from i next ≡ ((p (part (i * w) w a) && leb next (key_of k (part (i * w) w a))) && sound_from (i + 1) (key_of k (part (i * w) w a) + 1))
    unfolding all rises_from
    turn =
        let here : List ℕ = part (i * w) w a in
        let left : List (List ℕ) = slices w (n - (i + 1)) (drop ((i + 1) * w) a) in
        ap (λ (l : List (List ℕ)). all p l && rises_from next (map (key_of k) l)) (slices_more w a n i h)
        ∙ and_four (p here) (all p left) (leb next (key_of k here)) (rises_from (key_of k here + 1) (map (key_of k) left))

    pub rows_bad : p (part (i * w) w a) ≡ false → area_sound p w k n a ≡ false
    rows_bad e = area_not (sym r.rest ∙ turn ∙ rw e)

    module _ (key : ℕ) (q : key ≡ number (take k (part (i * w) w a))) where
      key_is : key_of k (part (i * w) w a) ≡ key
      unfolding key_of
      key_is = sym q

      pub rows_low : key < next → area_sound p w k n a ≡ false
      rows_low l = area_not (sym r.rest ∙ turn ∙ rw (key_is, lt-leb next key l, and-false (p (part (i * w) w a))))

      pub rows_more : next ≤ key → p (part (i * w) w a) ≡ true → Rows (i + 1) (key + 1)
      rows_more l e = record { within = omega arith; rest = sym (turn ∙ rw (key_is, e, le-leb next key l)) ∙ r.rest }

  -- the room after the records
  pub rows_room : {i next : ℕ} → Rows i next → n ≤ i → n * w ≤ length a → (z : Bool) → z ≡ all_zero (part (n * w) (length a - n * w) a) → z ≡ area_sound p w k n a
  unfolding area_sound all rises_from slices
  rows_room {i} {next} r h long z q =
      let e : n - i ≡ 0 = omega arith in
      let done : (all p (slices w n a) && ascending (keys w k n a)) ≡ true = sym r.rest ∙ rw e in
      let room : part (n * w) (length a - n * w) a ≡ drop (n * w) a = take_all (length a - n * w) (drop (n * w) a) (rw length-drop (omega arith)) in
      q ∙ ap all_zero room ∙ sym (sym (and_assoc (all p (slices w n a)) (ascending (keys w k n a)) (all_zero (drop (n * w) a))) ∙ ap (λ (t : Bool). t && all_zero (drop (n * w) a)) done)

-- a record as the code has it
pub record_read : (p : List ℕ → Bool) (w i : ℕ) (a : List ℕ) (b : Bool) → b ≡ p (take (i * w + w - i * w) (drop (i * w) a)) → b ≡ p (part (i * w) w a)
record_read p w i a b e = let span : i * w + w - i * w ≡ w = omega arith in rw span at e

pub ascends_none : (w k n : ℕ) (a : List ℕ) → n ≡ 0 → true ≡ ascending (keys w k n a)
unfolding slices ascending
ascends_none w k n a e = rw e

-- ---- keys of nine octets

pub rising_from : (w n : ℕ) (a : List ℕ) (y z : ℕ) → 9 ≤ w → n * w ≤ length a → 0 < n → y ≡ number (part 0 1 a) → z ≡ number (part 1 8 a) → Rising (keys w 9 n a) n 1 (pair_key y z)
rising_from w n a y z wide long h e f =
    let none : 0 * w ≡ 0 = omega arith in
    rising_first (pair_key y z) (length_keys w 9 n a) h (pair_at w n 0 a y z wide long h (rw none e) (rw none f))

module _ (w n i : ℕ) (a : List ℕ) (y z high last : ℕ) (wide : 9 ≤ w) (long : n * w ≤ length a) (r : Rising (keys w 9 n a) n i (pair_key high last)) (h : i < n)
    (e : y ≡ number (part (i * w) 1 a)) (f : z ≡ number (part (i * w + 1) 8 a)) (b : Bool) (q : b ≡ leb (pair_key y z) (pair_key high last)) where
  key : pair_key y z ≡ get_or (keys w 9 n a) i 0
  key = pair_at w n i a y z wide long h e f

  pub rising_pair : b ≡ false → Rising (keys w 9 n a) n (i + 1) (pair_key y z)
  rising_pair g = rising_more r h key (leb-false (pair_key y z) (pair_key high last) (sym q ∙ g))

  pub rising_pair_not : b ≡ true → false ≡ ascending (keys w 9 n a)
  rising_pair_not g = rising_not r h key (leb-true (pair_key y z) (pair_key high last) (sym q ∙ g))

-- ---- a slot

-- the head, then the areas
pub slot_areas : (s : Settings) (xs : List ℕ)
    → slot_sound s xs
    ≡ (head_sound xs
    && (area_sound (pdr_sound s (endpoint_ids (get_or xs endpoint_count_at 0) (endpoint_area xs))) pdr_width 2 (get_or xs pdr_count_at 0) (pdr_area xs)
    && (area_sound (endpoint_sound s) endpoint_width 1 (get_or xs endpoint_count_at 0) (endpoint_area xs) && area_sound csid_sound csid_width 1 (get_or xs csid_count_at 0) (csid_area xs))))
unfolding slot_sound slot_tests octet_at
slot_areas s xs = rw (and-true (area_sound csid_sound csid_width 1 (get_or xs csid_count_at 0) (csid_area xs)))
