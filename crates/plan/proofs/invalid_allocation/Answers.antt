-- `plan::invalid_allocation` meets its contract. Assumes nothing.
use Rattle.std.proofs.Common.{rules, sym, ◌∙◌}
use borrow.Author.Tests.{tests}
use Rattle.plan.proofs.ChainLaws.{any_ran}
use Rattle.rules.specs.Stages.{allocation_wrong}
use Rattle.plan.specs.RowRules.{of_fteid}
use Rattle.plan.proofs.RequestLaws.{invalid_rows}
use Rattle.plan.proofs.invalid_allocation.Goals as goal

pub returns : goal.returns
returns c = any_ran (of_fteid (allocation_wrong c.args.restoring)) _ _ c.any.result c.any.ensures.ran (search rules) (λ x b q k. search (rules, tests)) ∙ sym (invalid_rows _ _ _ _)
