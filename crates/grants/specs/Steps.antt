-- One TEID given: what is known of CHOOSE IDs and what is free, before and after.
-- Assumes nothing.
use Rattle.std.specs.Prelude.{ℕ, ◌+◌, ◌-◌, ◌≡◌, List, get_or, set, eqb}
use Rattle.std.proofs.Math.Option.{Option, none, some}
use Rattle.octets.specs.Choice.{pick}
use Rattle.rules.specs.Grants.{teid_for, free_after}
use Rattle.pool.specs.Map.{teids_from}
use Rattle.grants.specs.declared.Given.{Given}

-- a word that keeps a TEID: one more than it, or 0 for none
abbrev pub kept_teid : ℕ → Option ℕ
kept_teid w = pick (eqb w 0) none (some (w - 1))

-- a TEID for CHOOSE ID i of which word i of `known` keeps the TEID: the one kept, else the first that is free, which the word then keeps
pub record Gives (first : ℕ) (words : List ℕ) (from size : ℕ) (known : List ℕ) (i : ℕ) (g : Given) (known' : List ℕ) : Type 0 where
  pub teid : g.teid ≡ teid_for (kept_teid (get_or known i 0)) (teids_from first words from size)
  pub free : teids_from first words g.next size ≡ free_after (kept_teid (get_or known i 0)) (teids_from first words from size)
  pub knows : known' ≡ pick (eqb (get_or known i 0) 0) (set known i (g.teid + 1)) known
