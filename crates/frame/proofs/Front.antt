-- The elements of octets by the one at the front, and lists of elements by their first one. Assumes nothing.
use mathlib.Core.Path.{◌≡◌, refl, sym, ap, ◌∙◌}
use Prim.Native.Nat.{ℕ, ◌+◌, ◌-◌, ◌≤◌, ◌<◌}
use native.Mathlib.Nat.{le_refl}
use native.Mathlib.Omega.{arith}
use mathlib.Core.Bool.{Bool, true, false}
use mathlib.Core.List.{List, [], ◌∷◌}
use lib.ListN.{length, take, drop, length-drop, drop_of_length-le}
use lib.Seq.{take_all}
use lib.Dec.{ltb}
use borrow.Author.Tests.{lt-ltb, le-ltb, eq-eqb, ne_eqb, ltb-true, ltb-false}
use Rattle.octets.specs.Choice.{pick}
use Rattle.octets.specs.Octets.{part, number, number_at}
use Rattle.octets.specs.Lists.{keep}
use Rattle.octets.proofs.Put.{part_from}
use Rattle.rules.specs.Message.{Element, element_type, element_length, elements_up_to, elements, has_type}
use Rattle.laws.proofs.MessageLaws.{el, elements_nil, shorter, elements_enough, counts_alike}
use Rattle.std.specs.Prelude.{Some, None}
use Rattle.std.proofs.lemmas.Option.{same_Some}
use Rattle.frame.specs.declared.Element as code
use Rattle.frame.specs.FirstOf.{there, first_of}

by_front : (at : ℕ) (s : List ℕ)
    → elements at s ≡ pick (ltb (length s) 4) [] (el at (element_type s) (part 4 (element_length s) s) ∷ elements (at + (4 + element_length s)) (drop (4 + element_length s) s))
unfolding elements elements_up_to
by_front at [] = refl
by_front at (x ∷ xs) =
    ap (λ (more : List Element). pick (ltb (length (x ∷ xs)) 4) [] (el at (element_type (x ∷ xs)) (part 4 (element_length (x ∷ xs)) (x ∷ xs)) ∷ more))
    (elements_enough (length xs) _ _ _ (shorter (element_length (x ∷ xs)) (length xs) (x ∷ xs) (le_refl _)) (le_refl _))

-- ---- the element at the front

-- the element takes 4 octets at least, lies within the octets, and is the first of their elements, at the place of their first octet
pub record Front (s : List ℕ) (t e : ℕ) : Type 0 where
  pub low : 4 ≤ e
  pub high : e ≤ length s
  pub less : length (take (length s - e) (drop e s)) < length s
  pub cons : (at : ℕ) → elements at s ≡ el at t (take (e - 4) (drop 4 s)) ∷ elements (at + e) (take (length s - e) (drop e s))

-- the type and the octets of what is there are those of one element
same_there : {t e u f : ℕ} → there t e ≡ there u f → (t ≡ u) × (e ≡ f)
same_there h = let s = same_Some _ _ h in (ap (λ (x : code.Element). x.kind) s, ap (λ (x : code.Element). x.end) s)

pub none_left : (at : ℕ) (s : List ℕ) → None ≡ first_of s → elements at s ≡ []
unfolding first_of
none_left at s = go (ltb (length s) 4) (ltb (length s) (4 + element_length s)) refl
  where
    go : (a b : Bool) → ltb (length s) 4 ≡ a → None ≡ pick a None (pick b (there (element_type s) (length s)) (there (element_type s) (4 + element_length s))) → elements at s ≡ []
    go true b p h = by_front at s ∙ rw p
    go false true p h = let z : ◌≡◌ {A = ℕ} 0 1 = cc in absurd (omega arith)
    go false false p h = let z : ◌≡◌ {A = ℕ} 0 1 = cc in absurd (omega arith)

front_at : (s : List ℕ) (t e : ℕ) → 4 ≤ e → e ≤ length s → t ≡ element_type s → part 4 (element_length s) s ≡ take (e - 4) (drop 4 s)
    → ((at : ℕ) → elements (at + (4 + element_length s)) (drop (4 + element_length s) s) ≡ elements (at + e) (drop e s)) → Front s t e
front_at s t e low high p q r = record {
  low = low;
  high = high;
  less = rw (part_from e s, length-drop) (omega arith);
  cons = λ at. by_front at s ∙ rw (le-ltb (length s) 4 (omega arith), q, r at, ← p, part_from e s);
}

front_there : (s : List ℕ) (t e : ℕ) → there t e ≡ first_of s → Front s t e
unfolding first_of
front_there s t e = go (ltb (length s) 4) (ltb (length s) (4 + element_length s)) refl refl
  where
    none_after : (at i : ℕ) → length s ≤ i → elements at (drop i s) ≡ []
    none_after at i h = ap (elements at) (drop_of_length-le s {i = i} h) ∙ elements_nil at

    go : (a b : Bool) → ltb (length s) 4 ≡ a → ltb (length s) (4 + element_length s) ≡ b
        → there t e ≡ pick a None (pick b (there (element_type s) (length s)) (there (element_type s) (4 + element_length s))) → Front s t e
    go true b p q h = let z : ◌≡◌ {A = ℕ} 0 1 = cc in absurd (omega arith)
    go false true p q h =
        let m : t ≡ element_type s = (same_there h).0 in
        let n : e ≡ length s = (same_there h).1 in
        let low : 4 ≤ length s = ltb-false (length s) 4 p in
        let over : length s < 4 + element_length s = ltb-true (length s) (4 + element_length s) q in
        front_at s t e (omega arith) (omega arith) m
        (take_all (element_length s) (drop 4 s) (rw length-drop (omega arith)) ∙ sym (take_all (e - 4) (drop 4 s) (rw length-drop (omega arith))))
        (λ at. none_after (at + (4 + element_length s)) (4 + element_length s) (omega arith) ∙ sym (none_after (at + e) e (omega arith)))
    go false false p q h =
        let m : t ≡ element_type s = (same_there h).0 in
        let n : e ≡ 4 + element_length s = (same_there h).1 in
        let low : 4 ≤ length s = ltb-false (length s) 4 p in
        let whole : 4 + element_length s ≤ length s = ltb-false (length s) (4 + element_length s) q in
        let k : element_length s ≡ e - 4 = omega arith in
        front_at s t e (omega arith) (omega arith) m (ap (λ (i : ℕ). take i (drop 4 s)) k) (λ at. ap (λ (i : ℕ). elements (at + i) (drop i s)) (sym n))

pub front : (s : List ℕ) (x : code.Element) → Some x ≡ first_of s → Front s x.kind x.end
front s x h = front_there s x.kind x.end h

-- the octets after the element at the front
abbrev pub behind : List ℕ → ℕ → List ℕ
behind s e = take (length s - e) (drop e s)

-- how many elements pass a test; have a type
abbrev pub count_by : (Element → Bool) → List Element → ℕ
count_by p es = length (keep p es)

abbrev pub count_of : ℕ → List Element → ℕ
count_of kind es = count_by (has_type kind) es

module _ (p : Element → Bool) (e : Element) (es : List Element) where
  count_yes : p e ≡ true → count_by p (e ∷ es) ≡ count_by p es + 1
  unfolding keep
  count_yes h = rw h (omega arith)

  count_no : p e ≡ false → count_by p (e ∷ es) ≡ count_by p es
  unfolding keep
  count_no h = rw h

pub count_none : (p : Element → Bool) → count_by p [] ≡ 0
unfolding keep
count_none p = refl

module _ (kind at t : ℕ) (v : List ℕ) where
  type_same : t ≡ kind → has_type kind (el at t v) ≡ true
  unfolding has_type
  type_same h = eq-eqb t kind h

  type_other : (t ≡ kind → ⊥) → has_type kind (el at t v) ≡ false
  unfolding has_type
  type_other h = ne_eqb t kind h

-- ---- the laws of the functions

pub first_short : (s : List ℕ) → length s < 4 → None ≡ first_of s
unfolding first_of
first_short s h = rw (lt-ltb (length s) 4 h)

module _ (s : List ℕ) (long : 4 ≤ length s) (t n : ℕ) (type : t ≡ number (part 0 2 s)) (size : n ≡ number (part 2 2 s)) where
  pub first_over : length s < 4 + n → there t (length s) ≡ first_of s
  unfolding first_of element_type element_length number_at
  first_over h = rw (le-ltb (length s) 4 long, ← size, lt-ltb (length s) (4 + n) h, type)

  pub first_whole : 4 + n ≤ length s → there t (4 + n) ≡ first_of s
  unfolding first_of element_type element_length number_at
  first_whole h = rw (le-ltb (length s) 4 long, ← size, le-ltb (length s) (4 + n) h, type)

-- a turn of a loop over the elements, wherever they stand
module _ {s : List ℕ} {t e : ℕ} (f : Front s t e) (kind : ℕ) where
  turn : count_of kind (elements 0 s) ≡ count_of kind (el 0 t (take (e - 4) (drop 4 s)) ∷ elements (0 + e) (behind s e))
  turn = ap (count_of kind) (f.cons 0)

  pub counted : {a : ℕ} (n : ℕ) → a ≡ n + count_of kind (elements 0 s) → t ≡ kind → a ≡ n + 1 + count_of kind (elements 0 (behind s e))
  counted {a} n h q =
      let k : count_of kind (elements 0 s) ≡ count_of kind (elements (0 + e) (behind s e)) + 1 = turn ∙ count_yes (has_type kind) _ _ (type_same kind 0 t _ q) in
      let l = counts_alike kind (0 + e) 0 (behind s e) in
      omega arith

  pub uncounted : {a : ℕ} (n : ℕ) → a ≡ n + count_of kind (elements 0 s) → (t ≡ kind → ⊥) → a ≡ n + count_of kind (elements 0 (behind s e))
  uncounted {a} n h q =
      let k : count_of kind (elements 0 s) ≡ count_of kind (elements (0 + e) (behind s e)) = turn ∙ count_no (has_type kind) _ _ (type_other kind 0 t _ q) in
      let l = counts_alike kind (0 + e) 0 (behind s e) in
      omega arith
