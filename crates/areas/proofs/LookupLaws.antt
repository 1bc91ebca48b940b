-- Records read from octets, and the loop that looks for a key.
-- Assumes nothing.
use Rattle.std.specs.Prelude.{Ok, Err}
use mathlib.Core.Path.{◌≡◌, refl, sym, ap, ◌∙◌}
use mathlib.Core.List.{List, [], ◌∷◌, map}
use Prim.Native.Nat.{ℕ, zero, suc, ◌+◌, ◌*◌, ◌≤◌, ◌<◌}
use native.Mathlib.Nat.{zero-mul, suc-mul, add_comm}
use native.Mathlib.Numerals.{add-one}
use native.Mathlib.Omega.{arith}
use borrow.Author.Tests.{le-leb, lt-leb, eq-eqb, ne_eqb}
use lib.ListN.{length, take, drop, get_or, length-map, drop_of_length-le, get_or-map}
use lib.Seq.{drop-cons, drop-drop, take-nil, take-take}
use Rattle.octets.specs.Octets.{part, number, slices}
use Rattle.octets.proofs.Numbers.{length_slices}
use Rattle.areas.specs.Records.{key_of, lookup, lookup_from}

-- the ith record starts at i * w
pub get_d_slices : (w n i : ℕ) (s : List ℕ) → i < n → get_or (slices w n s) i [] ≡ part (i * w) w s
unfolding slices
get_d_slices w zero i s h = absurd (omega arith)
get_d_slices w (suc n) zero s h = rw zero-mul
get_d_slices w (suc n) (suc i) s h =
    get_d_slices w n i (drop w s) (omega arith)
    ∙ ap (take w) (drop-drop (i * w) w s ∙ ap (λ (m : ℕ). drop m s) (add_comm w (i * w) ∙ sym (suc-mul i w)))

-- the keys of the first n records, and the ith
abbrev pub keys : ℕ → ℕ → ℕ → List ℕ → List ℕ
keys w k n s = map (key_of k) (slices w n s)

pub length_keys : (w k n : ℕ) (s : List ℕ) → length (keys w k n s) ≡ n
length_keys w k n s = length-map (slices w n s) (key_of k) ∙ length_slices w n s

pub key_at : (w k n i : ℕ) (s : List ℕ) → k ≤ w → i < n → get_or (keys w k n s) i 0 ≡ number (part (i * w) k s)
unfolding key_of number
key_at w k n i s h l =
    let none : number (take k []) ≡ 0 = ap number (take-nil k) in
    ap (get_or (keys w k n s) i) (sym none)
    ∙ get_or-map (key_of k) (slices w n s) i []
    ∙ ap (key_of k) (get_d_slices w n i s l)
    ∙ ap number (take-take k w (drop (i * w) s) h)

-- What holds in a loop that looks for x in the n keys: those before i are below x.
pub record Looking (x : ℕ) (ks : List ℕ) (n i : ℕ) : Type 0 where
  pub size : length ks ≡ n
  pub within : i ≤ n
  pub rest : lookup x ks ≡ lookup_from i x (drop i ks)

module _ {x : ℕ} {ks : List ℕ} {n : ℕ} where
  pub looking_none : length ks ≡ n → Looking x ks n 0
  looking_none e = record { size = e; within = omega arith; rest = refl }

  module _ {i y : ℕ} (a : Looking x ks n i) (h : i < n) (e : y ≡ get_or ks i 0) where
    -- the key at i is y
    here : lookup x ks ≡ lookup_from i x (y ∷ drop (suc i) ks)
    here = a.rest ∙ ap (lookup_from i x) (drop-cons ks i 0 (omega arith) ∙ ap (λ (z : ℕ). z ∷ drop (suc i) ks) (sym e))

    pub looking_more : y < x → Looking x ks n (i + 1)
    unfolding lookup_from
    looking_more l = record { size = a.size; within = omega arith; rest = rw (add-one) (here ∙ simp (lt-leb x y l)) }

    pub looking_found : x ≤ y → y ≡ x → Ok i ≡ lookup x ks
    unfolding lookup_from
    looking_found l q = sym (here ∙ simp (le-leb x y l, eq-eqb y x q))

    pub looking_absent : x ≤ y → (y ≡ x → ⊥) → Err i ≡ lookup x ks
    unfolding lookup_from
    looking_absent l q = sym (here ∙ simp (le-leb x y l, ne_eqb y x q))

  pub looking_end : {i : ℕ} → Looking x ks n i → n ≤ i → Err n ≡ lookup x ks
  unfolding lookup_from
  looking_end {i} a h =
      let e : i ≡ n = omega arith in
      sym (a.rest ∙ ap (lookup_from i x) (drop_of_length-le ks {i = i} (omega arith)) ∙ ap Err e)
