-- `sets::has_csid` meets its contract: one of the pairs of octets is the CSID's. Assumes nothing.
use Rattle.std.proofs.Common.{rules, ◌∙◌}
use Prim.Native.Nat.{ℕ}
use mathlib.Core.List.{List}
use lib.Dec.{eqb}
use Rattle.octets.specs.Octets.{number}
use Rattle.plan.proofs.ChainLaws.{any_ran}
use Rattle.sets.proofs.CoverLaws.{member_pairs}
use Rattle.sets.proofs.has_csid.Goals as goal

pub returns : goal.returns
returns c =
    let a = c.args in
    any_ran (λ (two : List ℕ). eqb a.csid (number two)) _ _ c.any.result c.any.ensures.ran (search rules) (λ x b q k. search rules) ∙ member_pairs _ _ _
