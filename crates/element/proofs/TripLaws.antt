-- Answers of readers, and what a writer leaves by its contract: the inverse of each element by that of its rules. Assumes nothing.
use Rattle.std.specs.Prelude.{Some, None}
use mathlib.Core.Bool.{Bool, true, false}
use mathlib.Core.List.{List, ◌++◌}
use mathlib.Core.Option.{Option, none, some}
use mathlib.Core.Path.{◌≡◌, refl, sym, ap, ap₂, ◌∙◌}
use Prim.Native.Nat.{ℕ, ◌+◌, ◌≤◌}
use native.Mathlib.Omega.{arith}
use borrow.Author.Tests.{le-leb}
use lib.Dec.{T, leb}
use lib.ListN.{length, take, drop}
use lib.Seq.{take_at}
use Rattle.octets.specs.Choice.{pick, map_option}
use Rattle.octets.specs.Octets.{put}
use Rattle.octets.proofs.Tests.{of_true, is_true}
use Rattle.rules.specs.Elements as rules
use Rattle.rules.specs.Elements.{Written, write_if, value, refuse, Refusal}
use Rattle.std.specs.Prelude as std
use Rattle.element.specs.Answers.{left, write_meant}
use Rattle.element.specs.Trips.{Inverse, CodeInverse}
use Rattle.element.proofs.AnswerLaws.{none_is_not_some, some_same}

-- ---- answers

-- a reader that gave a value did not refuse
pub refused_is_not : {A B : Type 0} {r : Refusal} {v : A} → ◌≡◌ {A = rules.Answer A} (refuse r) (value v) → B
refused_is_not e = let z : ◌≡◌ {A = ℕ} 0 1 = cc in absurd (omega arith)

pub not_refused : {A : Type 0} (t : Bool) (r : Refusal) (a : rules.Answer A) (v : A) → pick t (refuse r) a ≡ value v → (t ≡ false) × (a ≡ value v)
not_refused true r a v e = refused_is_not e
not_refused false r a v e = (refl, e)

pub value_same : {A : Type 0} {v w : A} → value v ≡ value w → v ≡ w
value_same e = cc

-- an answer that means a value
pub map_value : {A : Type 0} (o : Option A) (x : A) → map_option value o ≡ some (value x) → o ≡ some x
map_value none x e = none_is_not_some e
map_value (some y) x e = ap some (value_same (some_same e))

-- what a writer leaves tells its cases apart
pub left_octets : (r : std.Option ℕ) (n : ℕ) (after t : List ℕ) → left r after ≡ record { count = some n; space = t } → (r ≡ Some n) × (after ≡ t)
left_octets (Some m) n after t e = (ap Some (some_same (ap (λ (w : Written). w.count) e)), ap (λ (w : Written). w.space) e)
left_octets None n after t e = none_is_not_some (ap (λ (w : Written). w.count) e)

-- ---- what a writer leaves, by its contract: o the value that the struct means, `after` the space at exit

pub record Wrote {A : Type 0} (allowed : A → Bool) (octets_of : A → List ℕ) (o : Option A) (n : ℕ) (after : List ℕ) : Type 0 where
  pub meant : A
  pub is : o ≡ some meant
  pub ok : T (allowed meant)
  pub there : take n after ≡ octets_of meant

module _ {A : Type 0} (allowed : A → Bool) (octets_of : A → List ℕ) (space after : List ℕ) where
  -- n octets were written: those of an allowed value
  pub wrote : (n : ℕ) (o : Option A) → left (Some n) after ≡ write_meant (λ v s. write_if (allowed v) (octets_of v) s) o space → Wrote allowed octets_of o n after
  unfolding write_if put
  wrote n none e = none_is_not_some (sym (ap (λ (w : Written). w.count) e))
  wrote n (some x) e = by (allowed x) refl (leb (length (octets_of x)) (length space)) refl
    where
      by : (a : Bool) → allowed x ≡ a → (b : Bool) → leb (length (octets_of x)) (length space) ≡ b → Wrote allowed octets_of (some x) n after
      by true p true q =
          let g : left (Some n) after ≡ record { count = some (length (octets_of x)); space = octets_of x ++ drop (0 + length (octets_of x)) space } = rw (p, q) at e in
          record {
            meant = x;
            is = refl;
            ok = of_true p;
            there =
                ap₂ take (some_same (ap (λ (w : Written). w.count) g)) (ap (λ (w : Written). w.space) g)
                ∙ take_at (octets_of x) (drop (0 + length (octets_of x)) space) (length (octets_of x)) refl;
          }
      by true p false q =
          let g : left (Some n) after ≡ record { count = none; space = space } = rw (p, q) at e in
          none_is_not_some (sym (ap (λ (w : Written). w.count) g))
      by false p b q =
          let g : left (Some n) after ≡ record { count = none; space = space } = rw p at e in
          none_is_not_some (sym (ap (λ (w : Written). w.count) g))

  -- the octets s of an allowed value are written, where there is room
  pub written : (r : std.Option ℕ) (s : List ℕ) (o : Option A) (y : rules.Answer A) → map_option value o ≡ some y
      → ((x : A) → y ≡ value x → (octets_of x ≡ s) × T (allowed x)) → length s ≤ length space
      → left r after ≡ write_meant (λ v s. write_if (allowed v) (octets_of v) s) o space → (r ≡ Some (length s)) × (after ≡ put 0 s space)
  unfolding write_if
  written r s none y e f l g = none_is_not_some e
  written r s (some x) y e f l g =
      let p = f x (sym (some_same e)) in
      left_octets r (length s) after (put 0 s space) (rw (is_true (allowed x) p.1, p.0, le-leb (length s) (length space) l) at g)

-- ---- the inverse of the code: a struct's answer is its meaning's, and one struct means a value

pub code_inverse : {A S R : Type 0} {read : List ℕ → rules.Answer A} {Whole : List ℕ → Type 0} (allowed : A → Bool) (octets_of : A → List ℕ)
    (meant : S → Option A) (answer_of : R → Option (rules.Answer A)) (struct : S → R)
    → ((v : S) → answer_of (struct v) ≡ map_option value (meant v))
    → ((v : S) (x : A) (a : R) → meant v ≡ some x → answer_of a ≡ some (value x) → a ≡ struct v)
    → Inverse read Whole allowed octets_of → CodeInverse read Whole (λ v s. write_if (allowed v) (octets_of v) s) meant answer_of struct
code_inverse {read = read} allowed octets_of meant answer_of struct value_is one inverse = record {
  back = λ v n space after rest a c d.
      let w = wrote allowed octets_of space after n (meant v) c in
      one v w.meant a w.is
      (d ∙ ap (λ (l : List ℕ). some (read (l ++ rest))) w.there ∙ ap some (inverse.back w.meant rest w.ok));
  again = λ s v r space after o p h l c.
      written allowed octets_of space after r s (meant v) (read s) (sym (value_is v) ∙ h) (λ x q. inverse.again s x o q p) l c;
}
