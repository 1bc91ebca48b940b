-- The list of grants as it is filled, and as the groups of one kind are written from it.
-- Assumes nothing.
use mathlib.Core.Path.{◌≡◌, refl, sym, ap, ap₂, ◌∙◌}
use mathlib.Core.Bool.{true}
use mathlib.Core.List.{List, [], ◌∷◌, ◌++◌, map, map-append, append_assoc}
use Prim.Native.Nat.{ℕ, zero, suc, ◌+◌, ◌≤◌, ◌<◌}
use native.Mathlib.Numerals.{add-one}
use native.Mathlib.Omega.{arith}
use lib.ListN.{length, take, drop, get_or, set, length-append, take-append-drop}
use lib.Seq.{drop-cons, set_at, append_snoc, take_at, take-suc, take_all}
use Rattle.octets.specs.Lists.{all}
use Rattle.octets.proofs.FieldLaws.{both}
use Rattle.rules.specs.Model.{Settings}
use Rattle.rules.specs.Grants.{Kind}
use Rattle.created.specs.declared.Grant.{Grant as Entry}
use Rattle.created.specs.Groups.{Told, groups, id_fits}
use Rattle.created.specs.Entries.{no_entry, told_of, row_told, listed, entry_at, told_at, tolds_at, firsts, filled}
use Rattle.created.proofs.GroupSteps.{groups_more, groups_none}

-- ---- the list as it is filled

module _ {X : Type 0} where
  pub length_firsts : (f : ℕ → X) (n : ℕ) → length (firsts f n) ≡ n
  unfolding firsts
  length_firsts f zero = refl
  length_firsts f (suc i) = length-append (firsts f i) (f i ∷ []) ∙ omega (arith, length_firsts f i)

  pub filled_none : (f : ℕ → X) (l : List X) → filled f 0 l ≡ l
  unfolding firsts
  filled_none f l = refl

  pub filled_more : (f : ℕ → X) (i : ℕ) (l : List X) → i < length l → set (filled f i l) i (f i) ≡ filled f (i + 1) l
  unfolding firsts
  filled_more f i l h = rw (add-one, drop-cons l i (f i), set_at (firsts f i) _ _ _ i (length_firsts f i), append_snoc)

  pub take_filled : (f : ℕ → X) (n : ℕ) (l : List X) → take n (filled f n l) ≡ firsts f n
  take_filled f n l = take_at (firsts f n) (drop n l) n (length_firsts f n)

  firsts_cons : (f : ℕ → X) (n : ℕ) → firsts f (suc n) ≡ f 0 ∷ firsts (λ i. f (suc i)) n
  unfolding firsts
  firsts_cons f zero = refl
  firsts_cons f (suc n) = ap (λ (l : List X). l ++ (f (suc n) ∷ [])) (firsts_cons f n)

-- the entries of all places tell what the rows at them tell
firsts_told : (plan places : List ℕ) → map told_of (firsts (entry_at plan places) (length places)) ≡ tolds_at plan places
unfolding told_at row_told
firsts_told plan [] = unfold firsts in refl
firsts_told plan (p ∷ places) =
    ap (map told_of) (firsts_cons (entry_at plan (p ∷ places)) (length places))
    ∙ ap₂ (λ (g : Told) (gs : List Told). g ∷ gs) refl (firsts_told plan places)

pub listed_filled : (plan places : List ℕ) (l : List Entry) → listed (length places) (filled (entry_at plan places) (length places) l) ≡ tolds_at plan places
listed_filled plan places l = ap (map told_of) (take_filled (entry_at plan places) (length places) l) ∙ firsts_told plan places

-- what a whole list tells
pub listed_all : (es : List Entry) → listed (length es) es ≡ map told_of es
listed_all es = ap (map told_of) (take_all (length es) es (omega arith))

-- ---- the groups of one kind, entry after entry

groups_append : (k : Kind) (s : Settings) (xs ys : List Told) → groups k s (xs ++ ys) ≡ groups k s xs ++ groups k s ys
groups_append k s [] ys = sym (ap (λ (l : List ℕ). l ++ groups k s ys) (groups_none k s))
groups_append k s (g ∷ gs) ys =
    groups_more k s g (gs ++ ys) ∙ ap (λ (l : List ℕ). groups k s (g ∷ []) ++ l) (groups_append k s gs ys)
    ∙ sym (append_assoc (groups k s (g ∷ [])) (groups k s gs) (groups k s ys)) ∙ ap (λ (l : List ℕ). l ++ groups k s ys) (sym (groups_more k s g gs))

-- the IDs of all entries fit
pub id_at : (es : List Entry) (i : ℕ) → i < length es → all id_fits (map told_of es) ≡ true → id_fits (told_of (get_or es i no_entry)) ≡ true
unfolding all
id_at [] i h a = absurd (omega arith)
id_at (e ∷ es) zero h a = (both _ _ a).0
id_at (e ∷ es) (suc i) h a = id_at es i (omega arith) (both _ _ a).1

module _ (k : Kind) (s : Settings) (es : List Entry) where
  -- what is written once i entries are behind
  abbrev pub wrote : ℕ → List ℕ
  wrote i = groups k s (listed i es)

  -- and of the i-th one
  abbrev pub writes : ℕ → List ℕ
  writes i = groups k s (told_of (get_or es i no_entry) ∷ [])

  listed_more : (i : ℕ) → i < length es → listed (i + 1) es ≡ listed i es ++ (told_of (get_or es i no_entry) ∷ [])
  listed_more i h = rw (add-one, take-suc es i no_entry h) (map-append told_of (take i es) (get_or es i no_entry ∷ []))

  pub wrote_none : wrote 0 ≡ []
  wrote_none = groups_none k s

  pub wrote_more : (i : ℕ) → i < length es → wrote (i + 1) ≡ wrote i ++ writes i
  wrote_more i h = ap (groups k s) (listed_more i h) ∙ groups_append k s (listed i es) (told_of (get_or es i no_entry) ∷ [])

  pub wrote_next : (i : ℕ) → i < length es → length (wrote i) + length (writes i) ≡ length (wrote (i + 1))
  wrote_next i h = sym (ap length (wrote_more i h) ∙ length-append (wrote i) (writes i))

  -- all of it, once every entry is behind
  pub wrote_all : (i : ℕ) → length es ≤ i → wrote i ≡ groups k s (map told_of es)
  wrote_all i h = rw (take_all i es h)

  -- what is written of the first entries fits where all does
  pub wrote_fits : (i : ℕ) → length (wrote i) ≤ length (groups k s (map told_of es))
  wrote_fits i =
      let e : map told_of es ≡ listed i es ++ map told_of (drop i es) = ap (map told_of) (sym (take-append-drop i es)) ∙ map-append told_of (take i es) (drop i es) in
      rw (e, groups_append k s (listed i es) (map told_of (drop i es))) (omega (arith, length-append (wrote i) (groups k s (map told_of (drop i es)))))
