-- `sets::remove_one` meets its contract. Assumes nothing.
use borrow.Author.Rules.{rules}
use native.Mathlib.Omega.{arith}
use Rattle.sets.proofs.GoneLaws.{stays_one, goes_one}
use borrow.Author.Tests.{not-true, not-false}
use Rattle.sets.proofs.remove_one.Goals as goal

pub goes-requires : goal.goes-requires
goes-requires c = (search rules, omega arith, search rules, search rules)

pub returns-then-not-goes : goal.returns-then-not-goes
returns-then-not-goes c = search (stays_one, not-true)

pub remove-requires : goal.remove-requires
remove-requires c = (omega arith, search rules, search rules)

pub returns : goal.returns
returns c = search (goes_one, not-false)
