-- `grants::set_word` meets its contract. Assumes nothing.
use borrow.Author.Rules.{rules}
use lib.Seq.{set_out}
use Rattle.grants.proofs.set_word.Goals as goal

pub returns-else-i-words : goal.returns-else-i-words
returns-else-i-words c = search (rules, set_out)
