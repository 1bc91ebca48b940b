-- `kind_of` meets its contract, by the arms of its match. Assumes nothing.
use mathlib.Core.Path.{sym, ap}
use Rattle.reading.specs.Rows.{ue_kind_in}
use Rattle.reading.proofs.members.kind_of.Goals as goal

pub returns-in-Given : goal.returns-in-Given
returns-in-Given c = sym (ap ue_kind_in c.in-Given.is)

pub returns-in-Choose : goal.returns-in-Choose
returns-in-Choose c = sym (ap ue_kind_in c.in-Choose.is)

pub returns-in-Other : goal.returns-in-Other
returns-in-Other c = sym (ap ue_kind_in c.in-Other.is)
