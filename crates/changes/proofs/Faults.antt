-- The verdict where stage 2 or 3 refuses.
-- Assumes nothing.
use Rattle.std.specs.Prelude.{Some}
use mathlib.Core.Path.{◌≡◌, sym, ap, ◌∙◌}
use mathlib.Core.Option.{none, some}
use mathlib.Core.List.{List}
use Prim.Native.Nat.{ℕ, ◌<◌}
use native.Mathlib.Omega.{arith}
use Rattle.rules.specs.Layout.{view_settings, view_sessions}
use Rattle.rules.specs.Elements.{Refusal, missing, conditional, too_short, incorrect, cause_of}
use Rattle.rules.specs.Message.{Spot, frame_fault}
use Rattle.rules.specs.Stages as rules
use Rattle.rules.specs.Reading.{Fault, faulty, read, fault_in, read_fault}
use Rattle.rules.specs.Causes as why
use Rattle.changes.specs.Answers.{Live, verdict_on, Answers, Replies, Refusing}
use Rattle.changes.proofs.VerdictSteps.{not_framed, not_read}

-- a refusal's cause is one octet and not 1
small_cause : (f : Refusal) → (cause_of f < 256) × (cause_of f ≡ 1 → ⊥)
unfolding cause_of
small_cause missing = (omega arith, λ e. omega arith)
small_cause conditional = (omega arith, λ e. omega arith)
small_cause too_short = (omega arith, λ e. omega arith)
small_cause incorrect = (omega arith, λ e. omega arith)

-- the verdict of a fault: what refusing asks, and its place
pub record Faulted (t : List ℕ) (who : ℕ) (msg out : List ℕ) (c k p : ℕ) : Type 0 where
  pub refusing : Refusing t who msg out c (Some k)
  pub placed : p ≡ (verdict_on t who msg).place

-- the reply and the place
pub replies_fault : {t : List ℕ} {who : ℕ} {msg out : List ℕ} {c k p used : ℕ} {out' : List ℕ} → Faulted t who msg out c k p → Answers t who msg out used out' t → Replies t who msg out used p out' t
replies_fault f a = record { answers = a; placed = f.placed }

module _ (t : List ℕ) (who : ℕ) (msg out : List ℕ) (live : Live t who msg) where
  faulted : (c k p : ℕ) → verdict_on t who msg ≡ record { cause = c; offending = some k; place = p } → c < 256 → (c ≡ 1 → ⊥) → Faulted t who msg out c k p
  faulted c k p e small other =
      record { refusing = record { place = p; verdict = e; small = small; other = other }; placed = sym (ap (λ (v : rules.Verdict). v.place) e) }

  -- stage 2
  pub not_framed_refuses : (f : Spot) → frame_fault msg ≡ some f → Faulted t who msg out why.wrong_length f.type f.place
  not_framed_refuses f e = faulted why.wrong_length f.type f.place (not_framed (view_settings t) who (view_sessions t) msg live f e) (omega arith) (λ z. omega arith)

  -- stage 3
  pub not_read_refuses : frame_fault msg ≡ none → (x : Fault) → read msg ≡ faulty x → (c k p : ℕ) → cause_of x.cause ≡ c → x.type ≡ k → x.place ≡ p → Faulted t who msg out c k p
  unfolding read_fault fault_in
  not_read_refuses fr x e c k p ec ek ep =
      let s = small_cause x.cause in
      faulted c k p (not_read (view_settings t) who (view_sessions t) msg live fr x (ap fault_in e) ∙ (λ i. record { cause = ec i; offending = some (ek i); place = ep i }))
      (rw ec at s.0) (λ z. s.1 (ec ∙ z))
