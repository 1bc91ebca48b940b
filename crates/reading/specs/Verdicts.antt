-- What the answers of stage 3 mean: 01's cause with the type at fault and its place, or what was read.
-- Assumes nothing.
use Rattle.std.specs.Prelude.{ℕ, Result, Ok, Err}
use Rattle.rules.specs.Elements.{cause_of}
use Rattle.rules.specs.Reading.{Reading, faulty, done}
use Rattle.rules.specs.Causes as why
use Rattle.element.specs.declared.Refusal.{Refusal}
use Rattle.element.specs.Answers.{refusal_of}
use Rattle.frame.specs.declared.Spot.{Spot}
use Rattle.reading.specs.declared.Fault.{Fault}

-- a cause by its number with the type that Offending IE names and its place, or a value
pub data Outcome (A : Type 0) : Type 0 where
  stopped : ℕ → ℕ → ℕ → Outcome A
  got : A → Outcome A

-- the rules' reading, its cause by 01's number
abbrev pub numbered : {A : Type 0} → Reading A → Outcome A
numbered (faulty f) = stopped (cause_of f.cause) f.type f.place
numbered (done a) = got a

-- a refusal with these numbers, and an answer without one
abbrev pub fault : {A : Type 0} → ℕ → ℕ → ℕ → Result A Fault
fault c t p = Err (record { cause = c; kind = t; place = p })

abbrev pub fine : Result (Unit {0}) Fault
fine = Ok tt

-- a verdict, and the value where it is no refusal
abbrev pub outcome : {A B : Type 0} → Result B Fault → A → Outcome A
outcome (Ok b) a = got a
outcome (Err f) a = stopped f.cause f.kind f.place

-- a fault of the framing
abbrev pub framing : Spot → Fault
framing s = record { cause = why.wrong_length; kind = s.kind; place = s.place }

-- the answer on an element of type t at a place
abbrev pub answer_at : {T : Type 0} → ℕ → ℕ → Result T Refusal → Result T Fault
answer_at t p (Ok x) = Ok x
answer_at t p (Err r) = fault (cause_of (refusal_of r)) t p
