-- `plan::counts` meets its contract. Assumes nothing.
use Rattle.std.proofs.Common.{rules, sym, ap, ◌∙◌}
use borrow.Author.Tests.{tests}
use Rattle.plan.proofs.ChainLaws.{any_ran}
use mathlib.Core.Bool.{not}
use Rattle.plan.specs.RowRules.{same_teid, counted}
use Rattle.plan.proofs.counts.Goals as goal

pub returns-then-restored : goal.returns-then-restored
unfolding counted
returns-then-restored c =
    let later = any_ran (same_teid c.args.row.now) _ _ c.any.result c.any.ensures.ran (search rules) (λ x b q k. search (rules, tests)) in
    rw (sym c.chooses.ensures ∙ c.if-chooses.false, sym c.restored.ensures ∙ c.if-restored.true) (ap not later)
