-- The verdict where stage 2 or 3 refuses a deletion or a set deletion, from what the code's readers answer.
-- Assumes nothing.
use mathlib.Core.Path.{◌≡◌, refl, sym, ap, ◌∙◌}
use mathlib.Core.Option.{none}
use mathlib.Core.List.{List}
use Prim.Native.Nat.{ℕ}
use native.Mathlib.Omega.{arith}
use Rattle.rules.specs.Elements.{cause_of}
use Rattle.rules.specs.Message.{spot, frame_fault}
use Rattle.rules.specs.Reading.{Reading, faulty, done, read, fault_in, read_fault, read_request}
use Rattle.rules.specs.Request.{Request}
use Rattle.rules.specs.Causes as why
use Rattle.frame.specs.Framed as frame
use Rattle.reading.specs.Verdicts.{stopped, got, numbered, outcome, fine}
use Rattle.changes.specs.Answers.{Live, Answers, Replies, Refusing}
use Rattle.changes.proofs.Faults.{Faulted, replies_fault, not_framed_refuses, not_read_refuses}
use Rattle.std.specs.Prelude.{Some, Result, Ok, Err}
use Rattle.frame.specs.declared.Spot.{Spot}
use Rattle.reading.specs.declared.Fault.{Fault}

module _ (t : List ℕ) (who : ℕ) (msg out : List ℕ) (live : Live t who msg) where
  -- stage 2
  pub frame_refuses : (f : Result (Unit {0}) Spot) (x : Spot) → frame.framing_fault f ≡ frame_fault msg → f ≡ Err x → Faulted t who msg out why.wrong_length x.kind x.place
  frame_refuses f x e q = not_framed_refuses t who msg out live (spot x.kind x.place) (sym e ∙ ap frame.framing_fault q)

  pub framed : (f : Result (Unit {0}) Spot) → frame.framing_fault f ≡ frame_fault msg → f ≡ Ok tt → frame_fault msg ≡ none
  framed f e q = sym e ∙ ap frame.framing_fault q

  pub read_fine : (v : Result (Unit {0}) Fault) → outcome v (read_request msg) ≡ numbered (read msg) → v ≡ fine → read_fault msg ≡ none
  unfolding read_fault
  read_fine v e q = go (read msg) (sym e ∙ ap (λ (w : Result (Unit {0}) Fault). outcome w (read_request msg)) q)
    where
      go : (o : Reading Request) → numbered o ≡ got (read_request msg) → fault_in o ≡ none
      go (done r) g = unfold fault_in in refl
      go (faulty x) g = absurd (let z : ◌≡◌ {A = ℕ} 0 1 = cc in omega arith)

  -- stage 3 after stage 2
  pub then_refuses : (f : Result (Unit {0}) Spot) (v : Result (Unit {0}) Fault) (y : Fault) → frame.framing_fault f ≡ frame_fault msg → f ≡ Ok tt → outcome v (read_request msg) ≡ numbered (read msg) → v ≡ Err y → Faulted t who msg out y.cause y.kind y.place
  then_refuses f v y fe fq e q = go (read msg) refl (sym e ∙ ap (λ (w : Result (Unit {0}) Fault). outcome w (read_request msg)) q)
    where
      go : (o : Reading Request) → read msg ≡ o → numbered o ≡ stopped y.cause y.kind y.place → Faulted t who msg out y.cause y.kind y.place
      go (done q) r g = absurd (let z : ◌≡◌ {A = ℕ} 0 1 = cc in omega arith)
      go (faulty x) r g =
          let ec : cause_of x.cause ≡ y.cause = cc in
          let ek : x.type ≡ y.kind = cc in
          let ep : x.place ≡ y.place = cc in
          not_read_refuses t who msg out live (framed f fe fq) x r y.cause y.kind y.place ec ek ep

  -- what the code asks of `refuse`, and what it replies then
  pub frame_asks : (f : Result (Unit {0}) Spot) (x : Spot) → frame.framing_fault f ≡ frame_fault msg → f ≡ Err x → Refusing t who msg out why.wrong_length (Some x.kind)
  frame_asks f x e q = (frame_refuses f x e q).refusing

  pub frame_replies : (f : Result (Unit {0}) Spot) (x : Spot) (used : ℕ) (out' : List ℕ) → frame.framing_fault f ≡ frame_fault msg → f ≡ Err x → Answers t who msg out used out' t → Replies t who msg out used x.place out' t
  frame_replies f x used out' e q a' = replies_fault (frame_refuses f x e q) a'

  pub then_asks : (f : Result (Unit {0}) Spot) (v : Result (Unit {0}) Fault) (y : Fault) → frame.framing_fault f ≡ frame_fault msg → f ≡ Ok tt → outcome v (read_request msg) ≡ numbered (read msg) → v ≡ Err y → Refusing t who msg out y.cause (Some y.kind)
  then_asks f v y fe fq e q = (then_refuses f v y fe fq e q).refusing

  pub then_replies : (f : Result (Unit {0}) Spot) (v : Result (Unit {0}) Fault) (y : Fault) (used : ℕ) (out' : List ℕ) → frame.framing_fault f ≡ frame_fault msg → f ≡ Ok tt → outcome v (read_request msg) ≡ numbered (read msg) → v ≡ Err y
      → Answers t who msg out used out' t → Replies t who msg out used y.place out' t
  then_replies f v y used out' fe fq e q a' = replies_fault (then_refuses f v y fe fq e q) a'
