-- How many grants there are, and what `grant` leaves from what its calls leave. Assumes nothing.
use mathlib.Core.Path.{◌≡◌, sym, ap, ◌∙◌}
use mathlib.Core.List.{List, [], ◌++◌, map}
use Prim.Native.Nat.{ℕ, ◌+◌, ◌≤◌}
use native.Mathlib.Omega.{arith}
use lib.ListN.{length, take, drop, length-map}
use lib.Seq.{sets, sets-eq}
use Rattle.rules.specs.Grants.{grant_teid}
use Rattle.pool.specs.Map.{teids_from}
use Rattle.grants.specs.Choosing.{places, choice_at, chosen_grants, teids_at, stores, Granted}
use Rattle.grants.proofs.StoreLaws.{stores_front}
use Rattle.laws.proofs.GrantLaws.{grants_length}

-- a TEID for each place
length_teids : (first : ℕ) (words : List ℕ) (size : ℕ) (plan ps : List ℕ) → length (teids_at first words size plan ps) ≡ length ps
unfolding teids_at chosen_grants
length_teids first words size plan ps =
    length-map (chosen_grants first words size plan ps) grant_teid
    ∙ grants_length [] (teids_from first words 0 size) (map (choice_at plan) ps)
    ∙ length-map ps (choice_at plan)

pub granted_steps : (n first : ℕ) (words : List ℕ) (size : ℕ) (plan ts : List ℕ) {m : ℕ} {places' ts' plan' : List ℕ}
    → take m places' ≡ places n plan → length (take m places') ≡ m → m ≤ length ts
    → ts' ≡ sets ts 0 (teids_at first words size plan (take m places')) → plan' ≡ stores plan (take m places') ts' → Granted n first words size plan m plan' places'
granted_steps n first words size plan ts {m} {places'} {ts'} {plan'} e l h f g =
    let ps : List ℕ = take m places' in
    let given : List ℕ = teids_at first words size plan ps in
    let many = length_teids first words size plan ps in
    let front : ts' ≡ given ++ drop (0 + length given) ts = f ∙ sets-eq given ts 0 (omega arith) in
    let stored : plan' ≡ stores plan ps given = g ∙ ap (λ (xs : List ℕ). stores plan ps xs) front ∙ stores_front plan ps given (drop (0 + length given) ts) (omega arith) in
    record { count = sym l ∙ ap length e; listed = e; stored = stored ∙ (λ j. stores plan (e j) (teids_at first words size plan (e j))) }
