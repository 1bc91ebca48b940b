-- What a chain over rows gives, in the words of the rules: `any` and `keep` compute what std's `list_any` and `count_by` do, and a plan's rows
-- are its chunks. Assumes nothing.
use mathlib.Core.Path.{◌≡◌, refl, sym, ap, ◌∙◌}
use mathlib.Core.Bool.{Bool, true, false, cond, ◌||◌}
use mathlib.Core.List.{List, [], ◌∷◌}
use Prim.Native.Nat.{ℕ, zero, suc, ◌+◌, ◌≤◌}
use native.Mathlib.Omega.{arith}
use lib.ListN.{length, take, drop}
use Rattle.std.proofs.lemmas.List.Recursion.{is_count_by}
use denote.Ref.{Bor}
use denote.Param.Members.{Mut}
use Rattle.std.specs.Fn.{Called}
use Rattle.std.specs.Iterator.{ChecksAny}
use Rattle.std.specs.List.{list_any, count_by}
use Rattle.std.specs.Slice.Iter.{iter_rest}
use Rattle.std.specs.declared.slice.Iter.{Iter}
use Rattle.std.proofs.iter.Yields.{fronts}
use Rattle.std.proofs.lemmas.Iterator.{YieldsList-from_slice}
use Rattle.std.proofs.lemmas.Iterator.Search.{any_from_yields_List}
use Rattle.std.specs.Simd.{first_chunks}
use Rattle.octets.specs.Choice.{pick}
use Rattle.octets.specs.Octets.{slices}
use Rattle.octets.specs.Lists.{any, keep}

module _ {A : Type 0} (p : A → Bool) where
  any_is : (xs : List A) → any p xs ≡ list_any p xs
  unfolding any
  any_is [] = refl
  any_is (x ∷ xs) = ap (λ (b : Bool). p x || b) (any_is xs)

  pub kept : (xs : List A) → length (keep p xs) ≡ count_by p xs
  unfolding keep
  kept = is_count_by (λ (xs : List A). length (keep p xs)) p refl (λ x xs. one x (p x) (keep p xs))
    where
      one : (x : A) (b : Bool) (t : List A) → length (pick b (x ∷ t) t) ≡ cond b (1 + length t) (length t)
      one x true t = omega arith
      one x false t = refl

-- what `any` answered over a slice, where each call of its closure computed a test
pub any_ran : {A F : Type 0} {g : Mut F (Bor A × Unit {0}) Bool} {s : Iter A} {xs : List A} (test : A → Bool) (u : Iter A) (f : F) (r : Bool) → ChecksAny fronts g s f r u → iter_rest s ≡ xs
    → ((x : Bor A) (b : Bool) (q : F) → Called g f (x, tt) b q → (q ≡ f) × (b ≡ test x.now)) → r ≡ any test xs
any_ran {xs} test u f r ran from each = any_from_yields_List test u f r ran (YieldsList-from_slice xs from) each ∙ sym (any_is test xs)

-- the first n chunks of more, and of numbers as slices
pub chunks_taken : {A : Type 0} (w n m : ℕ) (xs : List A) → n ≤ m → take n (first_chunks w m xs) ≡ first_chunks w n xs
chunks_taken w zero m xs h = refl
chunks_taken w (suc n) zero xs h = absurd (omega arith)
chunks_taken {A} w (suc n) (suc m) xs h = ap (λ (t : List (List A)). take w xs ∷ t) (chunks_taken w n m (drop w xs) (omega arith))

pub chunks_slices : (w n : ℕ) (xs : List ℕ) → first_chunks w n xs ≡ slices w n xs
unfolding slices
chunks_slices w zero xs = refl
chunks_slices w (suc n) xs = ap (λ (t : List (List ℕ)). take w xs ∷ t) (chunks_slices w n (drop w xs))

pub length_chunks : {A : Type 0} (w n : ℕ) (xs : List A) → length (first_chunks w n xs) ≡ n
length_chunks w zero xs = refl
length_chunks w (suc n) xs = ap suc (length_chunks w n (drop w xs))
