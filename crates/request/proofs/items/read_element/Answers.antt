-- `read_element` meets its contract. Assumes nothing.
use native.Mathlib.Omega.{arith}
use mathlib.Core.Path.{sym, ◌∙◌}
use Rattle.rules.specs.Message.{body_place, elements}
use Rattle.rules.specs.Reading.{alone_in}
use Rattle.request.proofs.ElementSteps.{element_skipped, element_seid, element_flags, element_csid, element_note, acted_group, element_group}
use Rattle.request.proofs.items.read_element.Goals as goal

pub returns-then-not-is_acted : goal.returns-then-not-is_acted
returns-then-not-is_acted c = element_skipped c.args.message (alone_in (elements body_place c.args.s.now)) c.args.kind c.args.place c.args.v.now c.args.nodes.now c.args.words.now c.args.d (sym c.if-not-is_acted.true ∙ c.is_acted.ensures)

pub read_csid-requires : goal.read_csid-requires
read_csid-requires c = c.requires.0

pub read_group-requires : goal.read_group-requires
read_group-requires c = let p = c.requires in (acted_group c.args.message (alone_in (elements body_place c.args.s.now)) c.args.kind c.args.place c.args.v.now c.args.nodes.now c.args.words.now c.args.d (sym c.if-not-is_acted.false ∙ c.is_acted.ensures) (grind arith) (grind arith) (grind arith) (grind arith), p.0.row, p.0.few, p.1)

pub returns-in-57 : goal.returns-in-57
returns-in-57 c = element_seid c.args.message (alone_in (elements body_place c.args.s.now)) c.args.kind c.args.place c.args.v.now c.args.nodes.now c.args.words.now c.args.d (sym c.if-not-is_acted.false ∙ c.is_acted.ensures) c.in-57.is c.read_seid.ensures

pub returns-in-186 : goal.returns-in-186
returns-in-186 c = element_flags c.args.message (alone_in (elements body_place c.args.s.now)) c.args.kind c.args.place c.args.v.now c.args.nodes.now c.args.words.now c.args.d (sym c.if-not-is_acted.false ∙ c.is_acted.ensures) c.in-186.is c.read_flags.ensures

pub returns-in-65 : goal.returns-in-65
returns-in-65 c = element_csid c.args.message (alone_in (elements body_place c.args.s.now)) c.args.kind c.args.place c.args.v.now c.args.nodes.now c.args.words.now c.args.d (sym c.if-not-is_acted.false ∙ c.is_acted.ensures) c.in-65.is c.read_csid.ensures

pub returns-in-129 : goal.returns-in-129
returns-in-129 c = element_note c.args.message (alone_in (elements body_place c.args.s.now)) c.args.kind c.args.place c.args.v.now c.args.nodes.now c.args.words.now c.args.d (sym c.if-not-is_acted.false ∙ c.is_acted.ensures) c.in-129.is c.note.ensures

pub returns-in_default : goal.returns-in_default
returns-in_default c = element_group c.args.message (alone_in (elements body_place c.args.s.now)) c.args.kind c.args.place c.args.v.now c.args.nodes.now c.args.words.now c.args.d (sym c.if-not-is_acted.false ∙ c.is_acted.ensures) (grind arith) (grind arith) (grind arith) (grind arith) c.read_group.ensures
