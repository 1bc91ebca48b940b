use mathlib.Core.Path.{◌≡◌}
use lib.ListN.{length}
use Rattle.session.proofs.Steps.{csids_fit_lem, csids_key, csid_set, csid_removed, csids_cleared, csids_kept, csid_wide}
use borrow.Author.Rules.{rules}
use Rattle.rules.specs.Layout.{csid_width}
use Rattle.session.proofs.follow_csid.Goals as goal

pub put_record-requires : goal.put_record-requires
put_record-requires c =
    let n : length c.csid-rec.result ≡ csid_width = search rules in
    (search csids_fit_lem, csid_wide _ _ c.csids-a.ensures n, csids_key _ c.csids-a.ensures)

pub returns-then-verb-eq1 : goal.returns-then-verb-eq1
returns-then-verb-eq1 c = search csid_set

pub drop_record-requires : goal.drop_record-requires
drop_record-requires c = (search csids_fit_lem, search csids_key)

pub returns-then-verb-eq2 : goal.returns-then-verb-eq2
returns-then-verb-eq2 c = search csid_removed

pub clear-requires : goal.clear-requires
clear-requires c = search csids_fit_lem

pub returns-then-verb-eq3 : goal.returns-then-verb-eq3
returns-then-verb-eq3 c = search csids_cleared

pub returns-else-verb-eq3 : goal.returns-else-verb-eq3
returns-else-verb-eq3 c = search csids_kept
