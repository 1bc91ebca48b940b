-- What the calls inside each function leave, over plain lists: the part from a place to the end that is lent, and the count.
-- Assumes nothing.
use Rattle.std.specs.Prelude.{Result, Ok, Err}
use mathlib.Core.Path.{◌≡◌, refl, sym, ap, ◌∙◌}
use mathlib.Core.Bool.{Bool, true, false}
use mathlib.Core.List.{List, ◌++◌, map}
use Prim.Native.Nat.{ℕ, ◌+◌, ◌-◌, ◌*◌, ◌≤◌, ◌<◌}
use native.Mathlib.Nat.{mul-le-mul_right}
use native.Mathlib.Omega.{arith}
use borrow.Author.Tests.{lt-ltb, le-ltb, ltb-false}
use lib.Dec.{ltb}
use lib.ListN.{length, take, drop}
use Rattle.octets.specs.Choice.{pick}
use Rattle.octets.specs.Octets.{be, number, part, put, zeros, slices}
use Rattle.octets.proofs.Put.{put_lent, length_part}
use Rattle.octets.proofs.Numbers.{length_slices}
use Rattle.areas.specs.Records.{key_of, lookup, inserted, removed, replaced}
use Rattle.areas.proofs.Places.{found_within, absent_within}
use Rattle.areas.specs.declared.Area.{Area}
use Rattle.areas.specs.Counted.{Fits, count_in, area_in, place_in, inserted_in, removed_in, replaced_in, cleared_in, with_record, without_record}

-- the part that is lent, from a place to an end
abbrev pub between : ℕ → ℕ → List ℕ → List ℕ
between at end s = take (end - at) (drop at s)

module _ (a : Area) (s : List ℕ) where
  -- where the area ends
  abbrev pub End : ℕ → Type 0
  End end = end ≡ a.at + a.room * a.width

  exact : (end : ℕ) → End end → between a.at end s ≡ area_in a s
  unfolding area_in
  exact end e = ap (λ (n : ℕ). take n (drop a.at s)) (let k : end - a.at ≡ a.room * a.width = omega arith in k)

  pub length_area : Fits a (length s) → length (area_in a s) ≡ a.room * a.width
  unfolding area_in
  length_area f = length_part a.at (a.room * a.width) s f.records

  length_between : (end : ℕ) → End end → Fits a (length s) → length (between a.at end s) ≡ a.room * a.width
  length_between end e f = ap length (exact end e) ∙ length_area f

  -- lent, and come back as v
  lent_back : (end : ℕ) (v : List ℕ) → End end → Fits a (length s) → length v ≡ length (between a.at end s)
      → take a.at s ++ (v ++ drop (end - a.at) (drop a.at s)) ≡ put a.at v s
  lent_back end v e f k = put_lent a.at end s v (omega (arith, f.records)) (omega (arith, f.records)) k

  -- n records stand in the area
  pub room_from : (end n : ℕ) → End end → Fits a (length s) → n ≤ a.room → n * a.width ≤ length (between a.at end s)
  room_from end n e f h = rw (length_between end e f) (mul-le-mul_right a.width h)

  pub room_after : (end n w : ℕ) → End end → Fits a (length s) → n < a.room → w ≡ a.width → (n + 1) * w ≤ length (between a.at end s)
  room_after end n w e f h k = rw k (room_from end (n + 1) e f (omega arith))

  -- the same where n was counted
  pub room_counted : (end n : ℕ) → End end → Fits a (length s) → n ≡ count_in a s → count_in a s ≤ a.room → n * a.width ≤ length (between a.at end s)
  room_counted end n e f c h = room_from end n e f (rw c h)

  pub after_counted : (end n w : ℕ) → End end → Fits a (length s) → n ≡ count_in a s → count_in a s < a.room → w ≡ a.width → (n + 1) * w ≤ length (between a.at end s)
  after_counted end n w e f c h k = room_after end n w e f (rw c h) k

  pub place_none : (n x : ℕ) → n ≡ count_in a s → a.room < n → Err 0 ≡ place_in a x s
  unfolding place_in
  place_none n x e h = rw (← e, lt-ltb a.room n h)

  pub place_found : (end n x : ℕ) (p : Result ℕ ℕ) → End end → n ≡ count_in a s → n ≤ a.room → p ≡ lookup x (map (key_of a.key) (slices a.width n (between a.at end s)))
      → p ≡ place_in a x s
  unfolding place_in
  place_found end n x p d e h q = q ∙ rw (← e, le-ltb a.room n h, exact end d)

  -- a key of nine octets
  pub place_pair : (end n x : ℕ) (p : Result ℕ ℕ) → End end → n ≡ count_in a s → n ≤ a.room → a.key ≡ 9 → p ≡ lookup x (map (key_of 9) (slices a.width n (between a.at end s)))
      → p ≡ place_in a x s
  place_pair end n x p d e h k q = place_found end n x p d e h (q ∙ ap (λ (j : ℕ). lookup x (map (key_of j) (slices a.width n (between a.at end s)))) (sym k))

  pub pair_wide : Fits a (length s) → a.key ≡ 9 → 9 ≤ a.width
  pair_wide f k = let h = f.keyed in omega arith

  pub inserted_in_lem : (end n p : ℕ) (r lent done : List ℕ) → End end → Fits a (length s) → n ≡ count_in a s → length lent ≡ length (between a.at end s) → lent ≡ inserted n p r (between a.at end s)
      → done ≡ put a.count_at (be a.count_width (n + 1)) (take a.at s ++ (lent ++ drop (end - a.at) (drop a.at s)))
      → done ≡ inserted_in a p r s
  unfolding inserted_in
  inserted_in_lem end n p r lent done w h e k l d = d ∙ rw (lent_back end lent w h k, l, exact end w, e)

  pub removed_in_lem : (end n p : ℕ) (lent done : List ℕ) → End end → Fits a (length s) → n ≡ count_in a s → length lent ≡ length (between a.at end s) → lent ≡ removed a.width n p (between a.at end s)
      → done ≡ put a.count_at (be a.count_width (n - 1)) (take a.at s ++ (lent ++ drop (end - a.at) (drop a.at s)))
      → done ≡ removed_in a p s
  unfolding removed_in
  removed_in_lem end n p lent done w h e k l d = d ∙ rw (lent_back end lent w h k, l, exact end w, e)

  pub replaced_in_lem : (end p : ℕ) (r lent : List ℕ) → End end → Fits a (length s) → length lent ≡ length (between a.at end s) → lent ≡ replaced p r (between a.at end s)
      → take a.at s ++ (lent ++ drop (end - a.at) (drop a.at s)) ≡ replaced_in a p r s
  unfolding replaced_in
  replaced_in_lem end p r lent w h k l = lent_back end lent w h k ∙ rw (l, exact end w)

  pub cleared_in_lem : (mid done : List ℕ) → mid ≡ put a.at (zeros (a.room * a.width)) s → done ≡ put a.count_at (be a.count_width 0) mid → done ≡ cleared_in a s
  unfolding cleared_in
  cleared_in_lem mid done e d = d ∙ rw e

  -- a place that was found holds one of the records, and a place that was not is not past them
  pub found_room : (x p : ℕ) → place_in a x s ≡ Ok p → (p < count_in a s) × (count_in a s ≤ a.room)
  unfolding place_in
  found_room x p e = go (ltb a.room (count_in a s)) refl e
    where
      go : (b : Bool) → ltb a.room (count_in a s) ≡ b
          → pick b (Err 0) (lookup x (map (key_of a.key) (slices a.width (count_in a s) (area_in a s)))) ≡ Ok p
          → (p < count_in a s) × (count_in a s ≤ a.room)
      go true t q = absurd (let z : ◌≡◌ {A = ℕ} 0 1 = cc in omega arith)
      go false t q =
          (rw (← length_slices a.width (count_in a s) (area_in a s)) (found_within (key_of a.key) x p (slices a.width (count_in a s) (area_in a s)) q), ltb-false _ _ t)

  pub absent_room : (x p : ℕ) → place_in a x s ≡ Err p → p ≤ count_in a s
  unfolding place_in
  absent_room x p e = go (ltb a.room (count_in a s)) e
    where
      go : (b : Bool) → pick b (Err 0) (lookup x (map (key_of a.key) (slices a.width (count_in a s) (area_in a s)))) ≡ Err p → p ≤ count_in a s
      go true q = let z : 0 ≡ p = cc in omega arith
      go false q = rw (← length_slices a.width (count_in a s) (area_in a s)) (absent_within (key_of a.key) x p (slices a.width (count_in a s) (area_in a s)) q)

  -- the cases of putting a record in and taking one out
  module _ (x p : ℕ) (place : Result ℕ ℕ) (q : place ≡ place_in a x s) where
    pub put_over_found : (r done : List ℕ) → x ≡ number (part 0 a.key r) → place ≡ Ok p → done ≡ replaced_in a p r s → done ≡ with_record a r s
    unfolding with_record key_of
    put_over_found r done k e d = d ∙ rw (← k, ← q, e)

    pub put_in_absent : (n : ℕ) (r done : List ℕ) → x ≡ number (part 0 a.key r) → place ≡ Err p → n ≡ count_in a s → n < a.room → done ≡ inserted_in a p r s → done ≡ with_record a r s
    unfolding with_record key_of
    put_in_absent n r done k e c l d = d ∙ rw (← k, ← q, e, ← c, lt-ltb n a.room l)

    pub put_nowhere : (n : ℕ) (r : List ℕ) → x ≡ number (part 0 a.key r) → place ≡ Err p → n ≡ count_in a s → a.room ≤ n → s ≡ with_record a r s
    unfolding with_record key_of
    put_nowhere n r k e c l = rw (← k, ← q, e, ← c, le-ltb n a.room l)

    pub take_out_lem : (done : List ℕ) → place ≡ Ok p → done ≡ removed_in a p s → done ≡ without_record a x s
    unfolding without_record
    take_out_lem done e d = d ∙ rw (← q, e)

    pub take_none : place ≡ Err p → s ≡ without_record a x s
    unfolding without_record
    take_none e = rw (← q, e)
