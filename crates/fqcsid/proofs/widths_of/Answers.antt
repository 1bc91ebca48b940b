-- `fqcsid::widths_of` meets its contract, by the test at each return. Assumes nothing.
use Rattle.fqcsid.proofs.ValueLaws.{widths_long, widths_small}
use Rattle.fqcsid.proofs.widths_of.Goals as goal

pub returns-then-id_type-eq1 : goal.returns-then-id_type-eq1
returns-then-id_type-eq1 c =
    widths_long _ _ _ _ _ _ c.if-id_type-eq1.true c.word_width-a.ensures c.word_width-b.ensures c.word_width-c.ensures c.word_width-d.ensures

pub returns : goal.returns
returns c =
    widths_small _ _ _ _ _ _ c.if-id_type-eq1.false c.word_width-a.ensures c.word_width-b.ensures c.word_width-c.ensures c.word_width-d.ensures
