-- `plan::shared_later` meets its contract. Assumes nothing.
use Rattle.std.proofs.Common.{rules, sym, ◌∙◌}
use borrow.Author.Tests.{tests}
use Rattle.plan.proofs.ChainLaws.{any_ran}
use Rattle.plan.specs.RowRules.{shares_choice}
use Rattle.plan.proofs.AloneLaws.{unshared}
use Rattle.plan.proofs.shared_later.Goals as goal

pub returns-then-with_id : goal.returns-then-with_id
returns-then-with_id c = any_ran (shares_choice c.args.row.now) _ _ _ c.any.ensures.ran (search rules) (λ x b q k. search (rules, tests))

pub returns-else-with_id : goal.returns-else-with_id
returns-else-with_id c = c.if-with_id.false ∙ sym (unshared _ _ (sym c.with_id.ensures ∙ c.if-with_id.false))
