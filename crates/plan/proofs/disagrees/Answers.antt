-- `plan::disagrees` meets its contract. Assumes nothing.
use Rattle.std.proofs.Common.{rules, sym, ◌∙◌}
use borrow.Author.Tests.{tests}
use Rattle.plan.proofs.ChainLaws.{any_ran}
use Rattle.plan.specs.RowRules.{same_id, disagree}
use Rattle.plan.proofs.AloneLaws.{alone}
use Rattle.plan.proofs.disagrees.Goals as goal

pub returns-then-stands_alone : goal.returns-then-stands_alone
returns-then-stands_alone c =
    any_ran (same_id c.args.row.now) _ _ c.any.result c.any.ensures.ran (search rules) (λ x b q k. search (rules, tests)) ∙ alone _ _ (sym c.stands_alone.ensures ∙ c.if-stands_alone.true)

pub returns : goal.returns
returns c = any_ran (disagree c.args.row.now) _ _ _ c.any-2.ensures.ran (search rules) (λ x b q k. search (rules, tests))
