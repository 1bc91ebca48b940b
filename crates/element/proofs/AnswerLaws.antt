-- What a reader answers and what a writer leaves, by cases. Assumes nothing.
use mathlib.Core.Bool.{Bool, true, false, false≢true}
use mathlib.Core.List.{List}
use mathlib.Core.Option.{Option, none, some}
use mathlib.Core.Path.{◌≡◌, refl, sym, ap, ◌∙◌}
use Prim.Native.Nat.{ℕ, ◌+◌, ◌≤◌, ◌<◌}
use native.Mathlib.Nat.{zero-add}
use borrow.Author.Tests.{le-leb, lt-leb}
use lib.Dec.{T}
use lib.ListN.{length}
use Rattle.octets.specs.Choice.{pick, is_some, map_option}
use Rattle.octets.specs.Octets.{put}
use Rattle.octets.specs.Fields.{width_of, field_octets}
use Rattle.octets.proofs.FieldLaws.{length_field_octets}
use Rattle.rules.specs.Elements as rules
use Rattle.rules.specs.Elements.{value, write_if}
use Rattle.element.specs.Answers.{write_meant, allowed_in}

module _ {A : Type 0} where
  pub none_is_not_some : {B : Type 0} {x : A} → ◌≡◌ {A = Option A} none (some x) → B
  none_is_not_some e = absurd (false≢true (ap is_some e))

  pub some_same : {x y : A} → some x ≡ some y → x ≡ y
  some_same e = cc

  -- a value that is there if a test holds
  pub picked : (t : Bool) (y x : A) → pick t (some y) none ≡ some x → T t × (x ≡ y)
  picked true y x e = (tt, sym (some_same e))
  picked false y x e = none_is_not_some e

  -- such a value, if it is allowed
  pub allowed_picked : (allowed : A → Bool) (t : Bool) (y : A) → T (allowed_in allowed (pick t (some y) none)) → T t × T (allowed y)
  allowed_picked allowed true y h = (tt, h)
  allowed_picked allowed false y h = absurd h

-- a reader's answer that is a struct: it means a value, which the rules answer
pub record ReadAs {A : Type 0} (o : Option A) (answer : rules.Answer A) : Type 0 where
  pub meant : A
  pub is : o ≡ some meant
  pub answered : answer ≡ value meant

pub read_as : {A : Type 0} (o : Option A) (answer : rules.Answer A) → map_option value o ≡ some answer → ReadAs o answer
read_as none answer e = none_is_not_some e
read_as (some x) answer e = record { meant = x; is = refl; answered = sym (some_same e) }

pub never : (b : Bool) → (T b → ⊥) → b ≡ false
never true f = absurd (f tt)
never false f = refl

-- a writer of values that are allowed, with their octets, into the space s
module _ {A : Type 0} (allowed : A → Bool) (octets_of : A → List ℕ) (s : List ℕ) where
  pub not_allowed : (v : Option A) → allowed_in allowed v ≡ false → record { count = none; space = s } ≡ write_meant (λ v space. write_if (allowed v) (octets_of v) space) v s
  unfolding write_if
  not_allowed none e = refl
  not_allowed (some v) e = rw e

  -- the octets of the value that a struct means are those of the numbers vs at the widths ws; us and xs are these as the code has them
  pub allowed_fields : (v : Option A) (ws vs us xs : List ℕ) {w : rules.Written} → ((x : A) → v ≡ some x → octets_of x ≡ field_octets ws vs)
      → allowed_in allowed v ≡ true → us ≡ ws → xs ≡ vs → w ≡ write_if true (field_octets us xs) s
      → w ≡ write_meant (λ v space. write_if (allowed v) (octets_of v) space) v s
  allowed_fields none ws vs us xs is ok p q e = absurd (false≢true ok)
  allowed_fields (some v) ws vs us xs is ok p q e = e ∙ rw (is v refl, ok, p, q)

-- what `write_fields` leaves: k the width as the code has it
module _ (ws vs s : List ℕ) (k : ℕ) (same : length ws ≡ length vs) (e : k ≡ width_of ws) where
  length_fields : length (field_octets ws vs) ≡ k
  length_fields = length_field_octets ws vs (sym same) ∙ sym e

  pub fields_no_room : length s < k → record { count = none; space = s } ≡ write_if true (field_octets ws vs) s
  unfolding write_if
  fields_no_room l = rw (lt-leb (length (field_octets ws vs)) (length s) (rw length_fields l))

  pub fields_done : (n : ℕ) (t : List ℕ) → k ≤ length s → (n ≡ 0 + width_of ws) × (t ≡ put 0 (field_octets ws vs) s)
      → record { count = some n; space = t } ≡ write_if true (field_octets ws vs) s
  unfolding write_if
  fields_done n t l q =
      let c : n ≡ length (field_octets ws vs) = q.0 ∙ zero-add (width_of ws) ∙ sym (length_fields ∙ e) in
      rw (le-leb (length (field_octets ws vs)) (length s) (rw length_fields l), c, q.1)
