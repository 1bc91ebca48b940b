-- One TEID given, as the code finds it. Assumes nothing.
use Rattle.std.specs.Prelude.{Some, None}
use mathlib.Core.Path.{◌≡◌, sym, ◌∙◌}
use mathlib.Core.Bool.{true, false}
use mathlib.Core.List.{List}
use Prim.Native.Nat.{ℕ, ◌+◌, ◌-◌}
use borrow.Author.Tests.{eq-eqb, ne_eqb}
use lib.Dec.{eqb}
use lib.ListN.{get_or, set}
use Rattle.rules.specs.Grants.{teid_for, free_after}
use Rattle.pool.specs.Answer.{lowest}
use Rattle.pool.specs.Map.{free_from}
use Rattle.pool.proofs.TakenLaws.{next_teid, no_teid}
use Rattle.grants.specs.Steps.{Gives}

-- ---- a TEID

module _ (first : ℕ) (words : List ℕ) (from size : ℕ) (known : List ℕ) (i : ℕ) where
  -- the CHOOSE ID has its TEID
  pub gives_kept : (has : ℕ) → has ≡ get_or known i 0 → (has ≡ 0 → ⊥) → Gives first words from size known i (record { teid = has - 1; next = from }) known
  unfolding teid_for free_after
  gives_kept has e n =
      let z : eqb (get_or known i 0) 0 ≡ false = ne_eqb (get_or known i 0) 0 (λ f. n (e ∙ f)) in
      record { teid = rw (z, e); free = rw z; knows = rw z }

  module _ (has : ℕ) (e : has ≡ get_or known i 0) (z : has ≡ 0) where
    unknown : eqb (get_or known i 0) 0 ≡ true
    unknown = eq-eqb (get_or known i 0) 0 (sym e ∙ z)

    -- none is free
    pub gives_none : (known' : List ℕ) → None ≡ lowest (free_from words from size) → known' ≡ set known i 1
        → Gives first words from size known i (record { teid = 0; next = from }) known'
    unfolding teid_for free_after
    gives_none known' f g =
        let n = no_teid first words from size f in
        record { teid = rw (unknown, n); free = rw (unknown, n); knows = rw unknown g }

    -- the next free one
    pub gives_next : (known' : List ℕ) (k : ℕ) → Some k ≡ lowest (free_from words from size) → known' ≡ set known i (first + k + 1)
        → Gives first words from size known i (record { teid = first + k; next = k + 1 }) known'
    unfolding teid_for free_after
    gives_next known' k f g =
        let n = next_teid first words from size k f in
        record { teid = rw unknown (sym n.head); free = rw unknown (sym n.after); knows = rw unknown g }
