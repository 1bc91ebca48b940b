use Rattle.session.proofs.Steps.{endpoints_fit_lem, endpoints_key, row_130, row_127, row_1, row_9, row_65, row_none, put_there}
use Rattle.session.proofs.apply_row.Goals as goal

pub drop_record-requires : goal.drop_record-requires
drop_record-requires c = (search endpoints_fit_lem, search endpoints_key)

pub returns-in-130 : goal.returns-in-130
returns-in-130 c = search row_130

pub returns-in-127 : goal.returns-in-127
returns-in-127 c = search (row_127, put_there)

pub returns-in-1 : goal.returns-in-1
returns-in-1 c = search (row_1, put_there)

pub returns-in-9 : goal.returns-in-9
returns-in-9 c = search row_9

pub returns-in-65 : goal.returns-in-65
returns-in-65 c = search row_65

pub returns-in_default : goal.returns-in_default
returns-in_default c = row_none _ _ c.in_default.in_default-own.rest.0.0.0.0.1 c.in_default.in_default-own.rest.0.0.0.1 c.in_default.in_default-own.rest.0.0.1 c.in_default.in_default-own.rest.0.1 c.in_default.in_default-own.rest.1
