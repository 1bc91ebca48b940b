-- `element::cause_of` meets its contract, by the arms of its match. Assumes nothing.
use borrow.Author.Rules.{rules}
use Rattle.rules.specs.Elements.{cause_of}
use Rattle.element.proofs.cause_of.Goals as goal

pub returns-in-TooShort : goal.returns-in-TooShort
unfolding cause_of
returns-in-TooShort c = search rules

pub returns-in-Incorrect : goal.returns-in-Incorrect
unfolding cause_of
returns-in-Incorrect c = search rules
