-- `changes::accept` meets its contract.
-- Assumes nothing.
use Rattle.changes.proofs.Acceptance.{give_asks, places_within, places_part, told_few, told_inside, told_ids, keep_long, keep_rows, keep_place, accepted_answers}
use borrow.Author.Rules.{rules}
use Rattle.changes.proofs.accept.Goals as goal

pub give-n-requires : goal.give-n-requires
give-n-requires c = search give_asks

pub slice_bounds-places-end : goal.slice_bounds-places-end
slice_bounds-places-end c = search places_within

pub slice_bounds-accepted-end : goal.slice_bounds-accepted-end
slice_bounds-accepted-end c = search places_part

pub accepted-used-requires : goal.accepted-used-requires
accepted-used-requires c = (search rules, search rules, search told_few, search told_inside, search told_ids, search rules)

pub keep-requires : goal.keep-requires
keep-requires c = (search keep_long, search rules, search keep_rows, search keep_place)

pub returns : goal.returns
returns c = search accepted_answers
