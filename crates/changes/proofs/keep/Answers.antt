-- `changes::keep` meets its contract.
-- Assumes nothing.
use Rattle.changes.proofs.Acceptance.{kept_place, kept_session}
use borrow.Author.Rules.{rules}
use Rattle.changes.proofs.keep.Goals as goal

pub save-requires : goal.save-requires
save-requires c =
    let b = rw c.rows.ensures at c.build.ensures in
    (search rules, search rules, kept_place _ _ _ _ _ _ _ _ b c.requires.3)

pub returns : goal.returns
returns c = kept_session _ _ _ _ _ _ _ _ (rw c.rows.ensures at c.build.ensures) c.save.ensures
