-- An answer on an element at a place, taken apart. Assumes nothing.
use mathlib.Core.Path.{◌≡◌, refl}
use Prim.Native.Nat.{ℕ}
use Rattle.std.specs.Prelude.{Result, Ok, Err}
use Rattle.rules.specs.Elements.{cause_of}
use Rattle.element.specs.declared.Refusal.{Refusal}
use Rattle.element.specs.Answers.{refusal_of}
use Rattle.reading.specs.declared.Fault.{Fault}
use Rattle.reading.specs.Verdicts.{answer_at}

-- the refusal that is passed up as a fault
pub record RefusedAt {T : Type 0} (t p : ℕ) (a : Result T Refusal) (f : Fault) : Type 0 where
  pub refusal : Refusal
  pub answer : a ≡ Err refusal
  pub fault : f ≡ record { cause = cause_of (refusal_of refusal); kind = t; place = p }

module _ {T : Type 0} (t p : ℕ) where
  pub refused_at : {r : Result T Fault} {f : Fault} (a : Result T Refusal) → r ≡ answer_at t p a → r ≡ Err f → RefusedAt t p a f
  refused_at (Ok x) h e = absurd cc
  refused_at (Err q) h e = record { refusal = q; answer = refl; fault = cc }

  pub value_at : {r : Result T Fault} {x : T} (a : Result T Refusal) → r ≡ answer_at t p a → r ≡ Ok x → a ≡ Ok x
  value_at (Ok y) h e = cc
  value_at (Err q) h e = absurd cc
