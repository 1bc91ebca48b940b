-- An area of records of any type, as octets: each record passes the rules and the area is what the records are written as, exactly
-- when each slot is a record's, the keys ascend and the room is zero.
-- Assumes nothing.
use mathlib.Core.Path.{◌≡◌, refl, sym, ap, ap₂, subst, ◌∙◌}
use Prim.Native.Nat.{ℕ, zero, suc, ◌+◌, ◌-◌, ◌*◌, ◌≤◌}
use native.Mathlib.Nat.{mul-le-mul_right, zero-mul, suc-mul, add_comm}
use native.Mathlib.Omega.{arith}
use mathlib.Core.Bool.{Bool, ◌&&◌}
use mathlib.Core.List.{List, [], ◌∷◌, ◌++◌, map, append-nil}
use lib.ListN.{length, take, drop, length-map, length-drop}
use lib.Seq.{take_at, take-add, take-take, length-take-le}
use lib.Dec.{T}
use Rattle.octets.specs.Octets.{zeros, padded, concat_map, slices, same_octets, all_zero}
use Rattle.octets.specs.Lists.{all, ascending}
use Rattle.octets.proofs.Tests.{and_left, and_right, both, of_true, all_head, all_tail, all_cons}
use Rattle.octets.proofs.Numbers.{same_refl, same_eq, length_concat_map, length_slices}
use Rattle.octets.proofs.Put.{drop_take}
use Rattle.rules.specs.Layout.{area}
use Rattle.laws.proofs.LayoutLaws.{slices_area}
use Rattle.areas.specs.Records.{key_of}
use Rattle.records.specs.Kept.{kept}
use Rattle.records.proofs.Cells.{same_padded}
use Rattle.records.specs.Slot.{area_sound}

-- ---- slices

-- the first records of a front
pub slices_take : (w n m : ℕ) (s : List ℕ) → n * w ≤ m → slices w n (take m s) ≡ slices w n s
unfolding slices
slices_take w zero m s h = refl
slices_take w (suc n) m s h =
    let rows : suc n * w ≡ n * w + w = suc-mul n w in
    let split : m ≡ w + (m - w) = omega arith in
    ap₂ ◌∷◌ (take-take w m s (omega arith))
    (ap (λ (k : ℕ). slices w n (drop w (take k s))) split ∙ ap (slices w n) (drop_take w (m - w) s) ∙ slices_take w n (m - w) (drop w s) (omega arith))

-- the records one after the other
pub join_slices : (w n : ℕ) (s : List ℕ) → concat_map (λ x. x) (slices w n s) ≡ take (n * w) s
unfolding slices concat_map
join_slices w zero s = ap (λ (k : ℕ). take k s) (sym (zero-mul w))
join_slices w (suc n) s =
    ap (λ (l : List ℕ). take w s ++ l) (join_slices w n (drop w s))
    ∙ sym (take-add w (n * w) s)
    ∙ ap (λ (k : ℕ). take k s) (add_comm w (n * w) ∙ sym (suc-mul n w))

-- ---- slots that are just what they are read as

module _ {A : Type 0} (p : A → Bool) (f : A → List ℕ) (g : List ℕ → A) where
  kept_of : (x : List ℕ) → T (p (g x)) → f (g x) ≡ x → T (kept p f g x)
  unfolding kept
  kept_of x h e = both (p (g x)) (same_octets (f (g x)) x) h (of_true (ap (λ (y : List ℕ). same_octets y x) e ∙ same_refl x))

  pub kept_allowed : (x : List ℕ) → T (kept p f g x) → T (p (g x))
  unfolding kept
  kept_allowed x h = and_left (p (g x)) (same_octets (f (g x)) x) h

  pub kept_same : (x : List ℕ) → T (kept p f g x) → f (g x) ≡ x
  unfolding kept
  kept_same x h = same_eq (f (g x)) x (and_right (p (g x)) (same_octets (f (g x)) x) h)

  all_allowed : (ss : List (List ℕ)) → T (all (kept p f g) ss) → T (all p (map g ss))
  unfolding all
  all_allowed [] h = tt
  all_allowed (x ∷ ss) h = all_cons p (g x) (map g ss) (kept_allowed x (all_head (kept p f g) x ss h)) (all_allowed ss (all_tail (kept p f g) x ss h))

  all_same : (ss : List (List ℕ)) → T (all (kept p f g) ss) → concat_map f (map g ss) ≡ concat_map (λ x. x) ss
  unfolding concat_map
  all_same [] h = refl
  all_same (x ∷ ss) h = ap₂ ◌++◌ (kept_same x (all_head (kept p f g) x ss h)) (all_same ss (all_tail (kept p f g) x ss h))

  all_kept : (ss : List (List ℕ)) → T (all p (map g ss)) → ss ≡ map f (map g ss) → T (all (kept p f g) ss)
  unfolding all
  all_kept [] h e = tt
  all_kept (x ∷ ss) h e =
      let first : f (g x) ≡ x = cc in
      let rest : ss ≡ map f (map g ss) = cc in
      all_cons (kept p f g) x ss (kept_of x (all_head p (g x) (map g ss) h) first) (all_kept ss (all_tail p (g x) (map g ss) h) rest)

  -- ---- areas

  module _ (key : A → ℕ) (w k : ℕ) (fits : (a : A) → T (p a) → length (f a) ≡ w) (same : (x : List ℕ) → length x ≡ w → key (g x) ≡ key_of k x) where
    keys_same : (n : ℕ) (a : List ℕ) → n * w ≤ length a → map key (map g (slices w n a)) ≡ map (key_of k) (slices w n a)
    unfolding slices
    keys_same zero a h = refl
    keys_same (suc n) a h =
        let rows : suc n * w ≡ n * w + w = suc-mul n w in
        λ i. same (take w a) (length-take-le w a (omega arith)) i ∷ keys_same n (drop w a) (rw length-drop (omega arith)) i

    module _ (cap n : ℕ) (a : List ℕ) (long : length a ≡ cap * w) (few : n ≤ cap) where
      -- the records that the area's octets are read as
      abbrev pub records_of : List A
      records_of = map g (slices w n a)

      within : n * w ≤ length a
      within = omega (arith, mul-le-mul_right w few, long)

      count : length records_of ≡ n
      count = length-map (slices w n a) g ∙ length_slices w n a

      padded_same : concat_map f records_of ≡ take (n * w) a → same_octets (area f w cap records_of) a ≡ all_zero (drop (n * w) a)
      unfolding area
      padded_same e = (λ i. same_octets (padded (sym long i) (e i)) a) ∙ same_padded (n * w) a within

      pub area_from : T (area_sound (kept p f g) w k n a) → T (all p records_of) × T (ascending (map key records_of)) × (area f w cap records_of ≡ a)
      unfolding area_sound
      area_from h =
          let ss : List (List ℕ) = slices w n a in
          let records = and_left (all (kept p f g) ss) (ascending (map (key_of k) ss) && all_zero (drop (n * w) a)) h in
          let rest = and_right (all (kept p f g) ss) (ascending (map (key_of k) ss) && all_zero (drop (n * w) a)) h in
          let up = and_left (ascending (map (key_of k) ss)) (all_zero (drop (n * w) a)) rest in
          let room = and_right (ascending (map (key_of k) ss)) (all_zero (drop (n * w) a)) rest in (
            all_allowed ss records,
            subst (λ (ks : List ℕ). T (ascending ks)) (sym (keys_same n a within)) up,
            same_eq (area f w cap records_of) a (subst T (sym (padded_same (all_same ss records ∙ join_slices w n a))) room),
          )

      pub area_to : T (all p records_of) → T (ascending (map key records_of)) → area f w cap records_of ≡ a → T (area_sound (kept p f g) w k n a)
      unfolding area_sound
      area_to h up e =
          let ss : List (List ℕ) = slices w n a in
          let read : ss ≡ map f records_of = sym (λ i. slices w (count i) ((append-nil (area f w cap records_of) ∙ e) i)) ∙ slices_area f w p fits cap records_of h [] in
          let wide : length (concat_map f records_of) ≡ n * w = length_concat_map f w p fits records_of h ∙ ap (λ (m : ℕ). m * w) count in
          let front : concat_map f records_of ≡ take (n * w) a = sym (ap (take (n * w)) (sym e) ∙ taken wide) in
          both (all (kept p f g) ss) (ascending (map (key_of k) ss) && all_zero (drop (n * w) a)) (all_kept ss h read)
          (both (ascending (map (key_of k) ss)) (all_zero (drop (n * w) a)) (subst (λ (ks : List ℕ). T (ascending ks)) (keys_same n a within) up)
          (of_true (sym (padded_same front) ∙ ap (λ (l : List ℕ). same_octets l a) e ∙ same_refl a)))
        where
          taken : length (concat_map f records_of) ≡ n * w → take (n * w) (area f w cap records_of) ≡ concat_map f records_of
          taken l = unfold area padded in take_at (concat_map f records_of) (zeros (cap * w - length (concat_map f records_of))) (n * w) l
