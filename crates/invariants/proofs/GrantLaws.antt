-- The CHOOSE IDs seen and those that have a TEID; and an accepted request has TEIDs enough.
-- Assumes nothing.
use mathlib.Core.Path.{◌≡◌, refl, sym, ap, ap₂, ◌∙◌, subst}
use Prim.Native.Nat.{ℕ, ◌+◌, ◌≤◌}
use native.Mathlib.Omega.{arith}
use mathlib.Core.Bool.{Bool, true, false, ◌||◌}
use mathlib.Core.Option.{some}
use mathlib.Core.List.{List, [], ◌∷◌}
use lib.ListN.{length}
use lib.Dec.{T, eqb, eqb→eq}
use Rattle.octets.specs.Choice.{pick, is_some, head_or, rest}
use Rattle.octets.specs.Lists.{member, all, find_by}
use Rattle.octets.proofs.Tests.{all_head, all_tail}
use Rattle.octets.proofs.Bools.{eqb_turn}
use Rattle.rules.specs.Model.{Settings, Sessions, free_count, free_teids, is_peer}
use Rattle.rules.specs.Reading.{read_request}
use Rattle.rules.specs.Grants.{Chosen, is_choice, need}
use Rattle.rules.specs.Stages.{needed}
use Rattle.invariants.proofs.VerdictLaws.{Passed}
use Rattle.invariants.proofs.PoolLaws.{free_enough}
use Rattle.rules.specs.Sound.{sessions_allowed}
use Rattle.laws.proofs.PeerLaws.{known_peers}
use Rattle.laws.proofs.KeptRules.{sessions_kept}
use Rattle.invariants.proofs.Totals.{both_hold}

-- the CHOOSE IDs seen are those that have a TEID
abbrev pub Matches : List ℕ → List Chosen → Type 0
Matches seen cs = (i : ℕ) → member i seen ≡ is_some (find_by (is_choice i) cs)

pub matches_new : (seen : List ℕ) (cs : List Chosen) (i t : ℕ) → Matches seen cs → Matches (i ∷ seen) (record { choose_id = i; teid = t } ∷ cs)
unfolding member find_by is_choice
matches_new seen cs i t h j = ap₂ ◌||◌ (eqb_turn j i) (h j) ∙ one (eqb i j)
  where
    one : (b : Bool) → (b || is_some (find_by (is_choice j) cs)) ≡ is_some (pick b (some (record { choose_id = i; teid = t })) (find_by (is_choice j) cs))
    one true = refl
    one false = refl

pub matches_old : (seen : List ℕ) (cs : List Chosen) (i : ℕ) → Matches seen cs → is_some (find_by (is_choice i) cs) ≡ true → Matches (i ∷ seen) cs
unfolding member
matches_old seen cs i h there j = one (eqb j i) refl
  where
    one : (b : Bool) → eqb j i ≡ b → (b || member j seen) ≡ is_some (find_by (is_choice j) cs)
    one true e = sym (ap (λ (k : ℕ). is_some (find_by (is_choice k) cs)) (eqb→eq j i (subst T (sym e) tt)) ∙ there)
    one false e = h j

module _ (p : ℕ → Bool) where
  -- the next free TEID, where one is needed
  pub next_ok : (free : List ℕ) (n : ℕ) → 1 + n ≤ length free → T (all p free) → T (p (head_or 0 free)) × T (all p (rest free)) × (n ≤ length (rest free))
  next_ok [] n h k = absurd (omega arith)
  next_ok (t ∷ ts) n h k = (all_head p t ts k, all_tail p t ts k, omega arith)

-- as many TEIDs are free as an accepted request needs
module _ {s : Settings} {who : ℕ} {m : Sessions} {msg : List ℕ} (hw : T (is_peer who)) (hm : T (sessions_allowed s m)) (passed : Passed s who m msg) where
  pub enough : need (read_request msg) ≤ length (free_teids s m)
  unfolding free_count needed
  enough =
      let a = passed.room.pool in
      let k = sessions_kept s m hm in
      let b = both_hold s who hw m (known_peers s m k.sessions) k.separate in
      let c = free_enough s m in
      omega arith
