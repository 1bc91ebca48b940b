use Rattle.session.proofs.Steps.{pdrs_fit_lem, pdrs_key, update_none, update_place, update_found}
use borrow.Author.Rules.{rules}
use Rattle.session.proofs.update_pdr.Goals as goal

pub find-place-requires : goal.find-place-requires
find-place-requires c = (search pdrs_fit_lem, search pdrs_key)

pub returns-in_default : goal.returns-in_default
returns-in_default c = search update_none

pub update_at-requires : goal.update_at-requires
update_at-requires c = (search rules, search update_place)

pub returns : goal.returns
returns c = search update_found
