-- `store::clear` meets its contract. Assumes nothing.
use Rattle.store.proofs.KeepLaws.{not_emptied, emptied}
use Rattle.store.proofs.clear.Goals as goal

pub returns-then-s-ne-LENGTH : goal.returns-then-s-ne-LENGTH
returns-then-s-ne-LENGTH c = not_emptied _ c.if-s-ne-LENGTH.true

pub returns : goal.returns
returns c = emptied _ _ c.if-s-ne-LENGTH.false c.clear.ensures
