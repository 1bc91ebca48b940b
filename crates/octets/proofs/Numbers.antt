-- Numbers in octets and lists of octets, each fact once over the width or the length.
-- Assumes nothing.
use mathlib.Core.Path.{◌≡◌, refl, sym, ap, ap₂, ◌∙◌}
use Prim.Native.Nat.{ℕ, zero, suc, ◌+◌, ◌-◌, ◌*◌, ◌/◌, ◌%◌, ◌^◌, ◌≤◌, ◌<◌}
use native.Mathlib.Nat.{zero-lt-suc, one-le-pow, pow-suc, mod-one, mod-lt, mod-eq_of_lt, mul_comm, add-sub_of_le, zero-mul, suc-mul, add_comm}
use native.Mathlib.Omega.{arith}
use mathlib.Core.Bool.{Bool, true, ◌&&◌}
use mathlib.Core.List.{List, [], ◌∷◌, ◌++◌, map, append_assoc}
use lib.ListN.{length, take, drop, length-append, length-replicate, replicate-append-replicate}
use lib.Dec.{T, ltb, eqb, eqb_refl, eqb→eq, lt→ltb}
use lib.Arith.{mod-mul}
use lib.Pow.{are_bytes}
use lib.Seq.{take_at, drop_at}
use Rattle.octets.specs.Lists.{all}
use Rattle.octets.specs.Octets.{be, number, zeros, same_octets, padded, concat_map, slices}
use Rattle.octets.proofs.Bools.{and_assoc}
use Rattle.octets.proofs.Tests.{and_left, and_right, both, is_true, all_head, all_tail}

-- ---- big-endian numbers

pub length_be : (w n : ℕ) → length (be w n) ≡ w
unfolding be
length_be zero n = refl
length_be (suc w) n = ap suc (length_be w n)

pub number_be_mod : (w n : ℕ) → number (be w n) ≡ n % (256 ^ w)
unfolding be number
number_be_mod zero n = sym (mod-one n)
number_be_mod (suc w) n =
    ap₂ (λ (k r : ℕ). n / (256 ^ w) % 256 * (256 ^ k) + r) (length_be w n) (number_be_mod w n)
    ∙ sym (mod-mul n {m = 256} {c = 256 ^ w} (zero-lt-suc 255) (one-le-pow w 256 (zero-lt-suc 255)))
    ∙ ap (λ (k : ℕ). n % k) (mul_comm 256 (256 ^ w) ∙ sym (pow-suc 256 w))

-- a number that fits is read back
pub number_be : (w n : ℕ) → n < 256 ^ w → number (be w n) ≡ n
number_be w n h = number_be_mod w n ∙ mod-eq_of_lt h

pub bytes_be : (w n : ℕ) → T (are_bytes (be w n))
unfolding be
bytes_be zero n = tt
bytes_be (suc w) n = both (ltb (n / (256 ^ w) % 256) 256) (are_bytes (be w n)) (lt→ltb _ _ (mod-lt (n / (256 ^ w)) (zero-lt-suc 255))) (bytes_be w n)

-- ---- comparing

pub same_refl : (xs : List ℕ) → same_octets xs xs ≡ true
unfolding same_octets
same_refl [] = refl
same_refl (x ∷ xs) = ap₂ ◌&&◌ (is_true (eqb x x) (eqb_refl x)) (same_refl xs)

pub same_eq : (xs ys : List ℕ) → T (same_octets xs ys) → xs ≡ ys
unfolding same_octets
same_eq [] [] h = refl
same_eq [] (y ∷ ys) h = absurd h
same_eq (x ∷ xs) [] h = absurd h
same_eq (x ∷ xs) (y ∷ ys) h = ap₂ ◌∷◌ (eqb→eq x y (and_left (eqb x y) (same_octets xs ys) h)) (same_eq xs ys (and_right (eqb x y) (same_octets xs ys) h))

-- ---- lengths

pub length_zeros : (n : ℕ) → length (zeros n) ≡ n
unfolding zeros
length_zeros n = length-replicate n 0

pub length_padded : (n : ℕ) (xs : List ℕ) → length xs ≤ n → length (padded n xs) ≡ n
unfolding padded
length_padded n xs h = length-append xs (zeros (n - length xs)) ∙ ap (λ (k : ℕ). length xs + k) (length_zeros (n - length xs)) ∙ add-sub_of_le h

-- records whose octets have one width, if they pass a test
module _ {A : Type 0} (f : A → List ℕ) (w : ℕ) (p : A → Bool) (fits : (a : A) → T (p a) → length (f a) ≡ w) where
  pub length_concat_map : (rs : List A) → T (all p rs) → length (concat_map f rs) ≡ length rs * w
  unfolding concat_map
  length_concat_map [] h = sym (zero-mul w)
  length_concat_map (r ∷ rs) h =
      length-append (f r) (concat_map f rs)
      ∙ ap₂ ◌+◌ (fits r (all_head p r rs h)) (length_concat_map rs (all_tail p r rs h))
      ∙ add_comm w (length rs * w)
      ∙ sym (suc-mul (length rs) w)

  -- their slices are the records' octets
  pub slices_concat_map : (rs : List A) → T (all p rs) → (rest : List ℕ) → slices w (length rs) (concat_map f rs ++ rest) ≡ map f rs
  unfolding concat_map slices
  slices_concat_map [] h rest = refl
  slices_concat_map (r ∷ rs) h rest =
      let fit = fits r (all_head p r rs h) in
      rw (append_assoc (f r) (concat_map f rs) rest)
      (ap₂ ◌∷◌ (take_at (f r) (concat_map f rs ++ rest) w fit)
      (ap (slices w (length rs)) (drop_at (f r) (concat_map f rs ++ rest) w fit) ∙ slices_concat_map rs (all_tail p r rs h) rest))

-- ---- slices

pub length_slices : (w n : ℕ) (s : List ℕ) → length (slices w n s) ≡ n
unfolding slices
length_slices w zero s = refl
length_slices w (suc n) s = ap suc (length_slices w n (drop w s))

pub slices_next : (w n : ℕ) (s : List ℕ) → 0 < n → slices w n s ≡ take w s ∷ slices w (n - 1) (drop w s)
unfolding slices
slices_next w zero s h = absurd (omega arith)
slices_next w (suc n) s h = let e : suc n - 1 ≡ n = omega arith in rw e

-- ---- zeros, and octets compared part by part

pub zeros_split : (n m : ℕ) → zeros (n + m) ≡ zeros n ++ zeros m
unfolding zeros
zeros_split n m = sym (replicate-append-replicate n m 0)

pub same_append : (a b x y : List ℕ) → length a ≡ length x → same_octets (a ++ b) (x ++ y) ≡ (same_octets a x && same_octets b y)
unfolding same_octets
same_append [] b [] y e = refl
same_append [] b (x ∷ xs) y e = absurd (omega arith)
same_append (a ∷ as') b [] y e = absurd (omega arith)
same_append (a ∷ as') b (x ∷ xs) y e =
    ap (λ (t : Bool). eqb a x && t) (same_append as' b xs y (omega arith)) ∙ sym (and_assoc (eqb a x) (same_octets as' xs) (same_octets b y))
