-- `plan::named` meets its contract. Assumes nothing.
use Rattle.std.proofs.Common.{rules, sym, ◌∙◌}
use borrow.Author.Tests.{tests}
use Rattle.plan.proofs.ChainLaws.{any_ran}
use Rattle.plan.proofs.RowTests.{is_named, member_column}
use Rattle.plan.proofs.named.Goals as goal

pub returns : goal.returns
returns c =
    let a = c.args in
    any_ran (is_named a.tag a.field a.x) _ _ c.any.result c.any.ensures.ran (search rules) (λ x b q k. search (rules, tests)) ∙ sym (member_column _ _ _ _)
