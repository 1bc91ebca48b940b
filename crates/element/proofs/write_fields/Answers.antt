-- `element::write_fields` meets its contract, by the test of the space. Assumes nothing.
use Rattle.element.proofs.AnswerLaws.{fields_no_room, fields_done}
use Rattle.element.proofs.write_fields.Goals as goal

pub returns-then-out-width : goal.returns-then-out-width
returns-then-out-width c = search fields_no_room

pub returns : goal.returns
returns c = search fields_done
