-- Keys of nine octets in two numbers: compared part by part, and looked for. Assumes nothing.
use Rattle.std.specs.Prelude.{Ok, Err}
use mathlib.Core.Path.{◌≡◌, sym, ap, ◌∙◌}
use mathlib.Core.Bool.{Bool, true, false}
use mathlib.Core.List.{List}
use Prim.Native.Nat.{ℕ, ◌+◌, ◌*◌, ◌^◌, ◌≤◌, ◌<◌}
use native.Mathlib.Omega.{arith}
use native.Mathlib.Nat.{mul-le-mul_right}
use borrow.Author.Tests.{le-leb, lt-leb, eq-eqb, ne_eqb, leb-true, leb-false, eqb-true, eqb-false}
use lib.Dec.{leb, eqb, lit<}
use lib.ListN.{length, get_or}
use Rattle.octets.specs.Octets.{part, number}
use Rattle.octets.proofs.Parts.{part_first}
use Rattle.octets.proofs.Put.{length_part}
use Rattle.octets.proofs.FieldLaws.{octet_read}
use Rattle.octets.proofs.Ordered.{orders}
use Rattle.areas.specs.Records.{pair_key, lookup}
use Rattle.areas.proofs.LookupLaws.{keys, key_at, Looking, looking_more, looking_found, looking_absent}

-- ---- comparing

module _ (y z hi lo : ℕ) where
  pub pair_below : z < 2 ^ 64 → y < hi → false ≡ leb (pair_key hi lo) (pair_key y z)
  pair_below f h = sym (lt-leb (pair_key hi lo) (pair_key y z) (omega arith))

  pub pair_above : lo < 2 ^ 64 → hi < y → true ≡ leb (pair_key hi lo) (pair_key y z)
  pair_above f h = sym (le-leb (pair_key hi lo) (pair_key y z) (omega arith))

  pub pair_beside : hi ≤ y → y ≤ hi → leb lo z ≡ leb (pair_key hi lo) (pair_key y z)
  pair_beside h g =
      orders lo z (λ j. le-leb lo z j ∙ sym (le-leb (pair_key hi lo) (pair_key y z) (omega arith)))
      (λ j. lt-leb lo z j ∙ sym (lt-leb (pair_key hi lo) (pair_key y z) (omega arith)))

  pub pair_less : z < 2 ^ 64 → y < hi → false ≡ eqb (pair_key y z) (pair_key hi lo)
  pair_less f h = sym (ne_eqb (pair_key y z) (pair_key hi lo) (λ e. omega arith))

  pub pair_more : lo < 2 ^ 64 → hi < y → false ≡ eqb (pair_key y z) (pair_key hi lo)
  pair_more f h = sym (ne_eqb (pair_key y z) (pair_key hi lo) (λ e. omega arith))

  pub pair_equal : hi ≤ y → y ≤ hi → eqb z lo ≡ eqb (pair_key y z) (pair_key hi lo)
  pair_equal h g =
      orders z lo
      (λ j. orders lo z (λ k. same (omega arith)) (λ k. other (λ e. omega arith)))
      (λ j. other (λ e. omega arith))
    where
      same : z ≡ lo → eqb z lo ≡ eqb (pair_key y z) (pair_key hi lo)
      same e = eq-eqb z lo e ∙ sym (eq-eqb (pair_key y z) (pair_key hi lo) (omega arith))

      other : (z ≡ lo → ⊥) → eqb z lo ≡ eqb (pair_key y z) (pair_key hi lo)
      other n = ne_eqb z lo n ∙ sym (ne_eqb (pair_key y z) (pair_key hi lo) (λ e. n (omega arith)))

-- ---- reading

pub number_pair : (at : ℕ) (s : List ℕ) → at + 9 ≤ length s → number (part at 9 s) ≡ pair_key (number (part at 1 s)) (number (part (at + 1) 8 s))
unfolding number
number_pair at s h =
    ap number (part_first at 9 s (lit< tt) h)
    ∙ rw (length_part (at + 1) 8 s (omega arith), octet_read at s (omega arith))

-- the ith key, from its two numbers
pub pair_at : (w n i : ℕ) (s : List ℕ) (y z : ℕ) → 9 ≤ w → n * w ≤ length s → i < n → y ≡ number (part (i * w) 1 s) → z ≡ number (part (i * w + 1) 8 s)
    → pair_key y z ≡ get_or (keys w 9 n s) i 0
pair_at w n i s y z wide long h e f =
    let room = mul-le-mul_right w h in
    (λ j. pair_key (e j) (f j)) ∙ sym (number_pair (i * w) s (omega arith)) ∙ sym (key_at w 9 n i s wide h)

-- ---- looking

module _ {x : ℕ} {ks : List ℕ} {n i y : ℕ} (a : Looking x ks n i) (h : i < n) (e : y ≡ get_or ks i 0) where
  pub pair_next : (b : Bool) → b ≡ leb x y → b ≡ false → Looking x ks n (i + 1)
  pair_next b q f = looking_more a h e (leb-false x y (sym q ∙ f))

  pub pair_found : (b c : Bool) → b ≡ leb x y → b ≡ true → c ≡ eqb y x → c ≡ true → Ok i ≡ lookup x ks
  pair_found b c q f p g = looking_found a h e (leb-true x y (sym q ∙ f)) (eqb-true y x (sym p ∙ g))

  pub pair_absent : (b c : Bool) → b ≡ leb x y → b ≡ true → c ≡ eqb y x → c ≡ false → Err i ≡ lookup x ks
  pair_absent b c q f p g = looking_absent a h e (leb-true x y (sym q ∙ f)) (eqb-false y x (sym p ∙ g))

-- ---- a turn of the loop: what was read at i, and how it compares

module _ (w n i : ℕ) (s : List ℕ) (y z hi lo : ℕ) (wide : 9 ≤ w) (long : n * w ≤ length s) (a : Looking (pair_key hi lo) (keys w 9 n s) n i) (h : i < n)
    (e : y ≡ number (part (i * w) 1 s)) (f : z ≡ number (part (i * w + 1) 8 s)) (b : Bool) (q : b ≡ leb (pair_key hi lo) (pair_key y z)) where
  key : pair_key y z ≡ get_or (keys w 9 n s) i 0
  key = pair_at w n i s y z wide long h e f

  pub turn_next : b ≡ false → Looking (pair_key hi lo) (keys w 9 n s) n (i + 1)
  turn_next g = pair_next a h key b q g

  pub turn_found : (c : Bool) → b ≡ true → c ≡ eqb (pair_key y z) (pair_key hi lo) → c ≡ true → Ok i ≡ lookup (pair_key hi lo) (keys w 9 n s)
  turn_found c g p k = pair_found a h key b c q g p k

  pub turn_absent : (c : Bool) → b ≡ true → c ≡ eqb (pair_key y z) (pair_key hi lo) → c ≡ false → Err i ≡ lookup (pair_key hi lo) (keys w 9 n s)
  turn_absent c g p k = pair_absent a h key b c q g p k
