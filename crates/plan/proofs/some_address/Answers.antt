-- `plan::some_address` meets its contract. Assumes nothing.
use Rattle.std.proofs.Common.{rules}
use borrow.Author.Tests.{tests}
use Rattle.plan.proofs.ChainLaws.{any_ran}
use Rattle.plan.specs.RowRules.{of_ue_kind}
use Rattle.plan.proofs.some_address.Goals as goal

pub returns : goal.returns
returns c = any_ran (of_ue_kind c.args.choose) _ _ _ c.any.ensures.ran (search rules) (λ x b q k. search (rules, tests))
