-- What the header's answer means for the call: outcomes 3 to 5, or the answer to a request. Assumes nothing.
use mathlib.Core.Path.{◌≡◌, sym, ap, ◌∙◌}
use Prim.Native.Nat.{ℕ, ◌≤◌}
use native.Mathlib.Omega.{arith}
use mathlib.Core.Bool.{Bool, true, false, not}
use mathlib.Core.List.{List}
use lib.ListN.{length}
use lib.Dec.{ltb, eqb}
use borrow.Author.Tests.{le-ltb}
use Rattle.octets.specs.Choice.{pick}
use Rattle.rules.specs.Limits.{max_message, min_space}
use Rattle.rules.specs.Model.{Settings, Sessions}
use Rattle.rules.specs.Message.{kind_of, header_seid, header_allowed, served, set_deletion}
use Rattle.rules.specs.Serve.{unserved, answer, serve_sound}
use Rattle.frame.specs.HeaderOf.{outcome, request, header_of, sets}
use Rattle.octets.proofs.Tests.{is_true}
use Rattle.frame.proofs.HeaderLaws.{Opens}

module _ (msg : List ℕ) (s : Settings) (who : ℕ) (m : Sessions) (t space : List ℕ) (room : min_space ≤ length space) where
  by_header : serve_sound s who m t msg space
      ≡ pick (ltb max_message (length msg)) (unserved 3 space t) (pick (not (header_allowed msg)) (unserved 4 space t) (pick (not (served (kind_of msg))) (unserved 5 space t) (answer s who m msg space t)))
  unfolding serve_sound
  by_header = rw (le-ltb (length space) min_space room)

  pub header_outcome : (n : ℕ) → outcome n ≡ header_of msg → serve_sound s who m t msg space ≡ unserved n space t
  unfolding header_of
  header_outcome n h = by_header ∙ by_tests (ltb max_message (length msg)) (header_allowed msg) (served (kind_of msg)) (eqb (kind_of msg) set_deletion) h
    where
      by_tests : (a b c d : Bool) → outcome n ≡ pick a (outcome 3) (pick (not b) (outcome 4) (pick (not c) (outcome 5) (pick d sets (request (kind_of msg) (header_seid msg)))))
          → pick a (unserved 3 space t) (pick (not b) (unserved 4 space t) (pick (not c) (unserved 5 space t) (answer s who m msg space t))) ≡ unserved n space t
      by_tests true b c d h = let e : n ≡ 3 = cc in ap (λ (k : ℕ). unserved k space t) (sym e)
      by_tests false false c d h = let e : n ≡ 4 = cc in ap (λ (k : ℕ). unserved k space t) (sym e)
      by_tests false true false d h = let e : n ≡ 5 = cc in ap (λ (k : ℕ). unserved k space t) (sym e)
      by_tests false true true true h = let z : ◌≡◌ {A = ℕ} 0 1 = cc in absurd (omega arith)
      by_tests false true true false h = let z : ◌≡◌ {A = ℕ} 0 1 = cc in absurd (omega arith)

  -- a request or a set deletion is answered
  pub header_answered : Opens msg → serve_sound s who m t msg space ≡ answer s who m msg space t
  header_answered o = by_header ∙ rw (le-ltb max_message (length msg) o.short, is_true (header_allowed msg) o.header, o.kind)
