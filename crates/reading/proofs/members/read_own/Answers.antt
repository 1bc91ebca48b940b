-- `read_own` meets its contract: each return picks a case of `own_read`. Assumes nothing.
use mathlib.Core.Path.{sym, ◌∙◌}
use native.Mathlib.Omega.{arith}
use Rattle.reading.proofs.MemberLaws.{has_words, own_skipped, own_repeat, own_value}
use Rattle.reading.proofs.members.read_own.Goals as goal

pub returns-then-not-is_member : goal.returns-then-not-is_member
returns-then-not-is_member c = own_skipped _ _ _ _ _ c.requires (sym c.if-not-is_member.true ∙ c.is_member.ensures)

pub offset_bounds-row-at : goal.offset_bounds-row-at
offset_bounds-row-at c = omega arith

pub bounds-row-at : goal.bounds-row-at
bounds-row-at c = omega arith

pub returns-then-row-at-ne0 : goal.returns-then-row-at-ne0
returns-then-row-at-ne0 c = own_repeat _ _ _ _ _ c.requires (sym c.if-not-is_member.false ∙ c.is_member.ensures) c.column_of-at.ensures.0 c.if-row-at-ne0.true

pub read_value-requires : goal.read_value-requires
read_value-requires c = (c.requires, has_words _ _ (sym c.if-not-is_member.false ∙ c.is_member.ensures))

pub returns : goal.returns
returns c = own_value _ _ _ _ _ c.requires (sym c.if-not-is_member.false ∙ c.is_member.ensures) c.column_of-at.ensures.0 c.if-row-at-ne0.false c.read_value.ensures
