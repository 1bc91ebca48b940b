-- `writing::unit_families` meets its contract. Assumes nothing.
use Rattle.std.proofs.Common.{sym, ◌∙◌}
use Rattle.writing.proofs.ElementSteps.{families_without, families_with}
use Rattle.writing.proofs.unit_families.Goals as goal
use Rattle.writing.proofs.unit_families.Goals.{then-is_some, else-is_some}

pub returns : goal.returns
returns c =
    elim c.if-is_some.branch [
      | then-is_some w ↦ rw w.result-is (families_with c.args.u c.args.families (sym c.is_some.ensures ∙ w.if-is_some.true))
      | else-is_some w ↦ rw w.result-is (families_without c.args.u c.args.families (sym c.is_some.ensures ∙ w.if-is_some.false))
    ]
