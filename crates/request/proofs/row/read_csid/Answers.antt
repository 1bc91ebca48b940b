-- `read_csid` meets its contract. Assumes nothing.
use mathlib.Core.Path.{refl, sym, ap, ◌∙◌}
use native.Mathlib.Omega.{arith}
use Rattle.rules.specs.Message.{body_place, elements}
use Rattle.rules.specs.Reading.{alone_in}
use Rattle.fqcsid.specs.Meaning.{fqcsid_answer}
use Rattle.std.proofs.lemmas.Result.{err_from_is_err_and}
use Rattle.reading.proofs.Faults.{refused_at, value_at}
use Rattle.request.proofs.CsidSteps.{csid_clears, csid_refused_lem, node_small, csid_count_lem, csid_repeat, csid_taken_lem}
use Rattle.request.proofs.row.read_csid.Goals as goal

pub put_csid-requires : goal.put_csid-requires
put_csid-requires c = let p = c.requires in (p.row, p.few)

pub returns-then-is_clearing : goal.returns-then-is_clearing
returns-then-is_clearing c = csid_clears c.args.message (alone_in (elements body_place c.args.s.now)) c.args.place c.args.v.now c.args.nodes.now c.args.words.now c.args.d (sym c.if-is_clearing.true ∙ c.is_clearing.ensures) c.requires.row c.bare.ensures c.put_csid.ensures

pub returns-in_err-x : goal.returns-in_err-x
returns-in_err-x c =
    let p = err_from_is_err_and c.from_residual.result c.from_residual.ensures.1 in
    let r = refused_at _ _ _ c.answer_at.ensures c.in_err-x.was in
    rw (p.1, p.2, r.fault)
    (csid_refused_lem c.args.message (alone_in (elements body_place c.args.s.now)) c.args.place c.args.v.now c.args.nodes.now c.args.words.now c.args.d (sym c.if-is_clearing.false ∙ c.is_clearing.ensures) _
    (ap fqcsid_answer (sym r.answer) ∙ c.read.ensures) refl)

pub returns-then-not-is_count_allowed : goal.returns-then-not-is_count_allowed
returns-then-not-is_count_allowed c = csid_count_lem c.args.message (alone_in (elements body_place c.args.s.now)) c.args.place c.args.v.now c.args.nodes.now c.args.words.now c.args.d (sym c.if-is_clearing.false ∙ c.is_clearing.ensures) c.in_ok-x.x (ap fqcsid_answer (sym (value_at _ _ _ c.answer_at.ensures c.in_ok-x.was)) ∙ c.read.ensures) (sym c.if-not-is_count_allowed.true ∙ c.is_count_allowed.ensures)

pub offset_bounds-nodes-node : goal.offset_bounds-nodes-node
offset_bounds-nodes-node c = let h = node_small c.args.message (alone_in (elements body_place c.args.s.now)) c.args.place c.args.v.now c.args.nodes.now c.args.words.now c.args.d (sym c.if-is_clearing.false ∙ c.is_clearing.ensures) c.in_ok-x.x (ap fqcsid_answer (sym (value_at _ _ _ c.answer_at.ensures c.in_ok-x.was)) ∙ c.read.ensures) in omega arith

pub bounds-nodes-node : goal.bounds-nodes-node
bounds-nodes-node c = let h = node_small c.args.message (alone_in (elements body_place c.args.s.now)) c.args.place c.args.v.now c.args.nodes.now c.args.words.now c.args.d (sym c.if-is_clearing.false ∙ c.is_clearing.ensures) c.in_ok-x.x (ap fqcsid_answer (sym (value_at _ _ _ c.answer_at.ensures c.in_ok-x.was)) ∙ c.read.ensures) in omega (arith, c.requires.wide)

pub returns-then-nodes-node-ne0 : goal.returns-then-nodes-node-ne0
returns-then-nodes-node-ne0 c = csid_repeat c.args.message (alone_in (elements body_place c.args.s.now)) c.args.place c.args.v.now c.args.nodes.now c.args.words.now c.args.d (sym c.if-is_clearing.false ∙ c.is_clearing.ensures) c.in_ok-x.x (ap fqcsid_answer (sym (value_at _ _ _ c.answer_at.ensures c.in_ok-x.was)) ∙ c.read.ensures) (sym c.if-not-is_count_allowed.false ∙ c.is_count_allowed.ensures) c.if-nodes-node-ne0.true

pub offset_bounds-nodes-node-2 : goal.offset_bounds-nodes-node-2
offset_bounds-nodes-node-2 c = let h = node_small c.args.message (alone_in (elements body_place c.args.s.now)) c.args.place c.args.v.now c.args.nodes.now c.args.words.now c.args.d (sym c.if-is_clearing.false ∙ c.is_clearing.ensures) c.in_ok-x.x (ap fqcsid_answer (sym (value_at _ _ _ c.answer_at.ensures c.in_ok-x.was)) ∙ c.read.ensures) in omega arith

pub bounds-nodes-node-2 : goal.bounds-nodes-node-2
bounds-nodes-node-2 c = let h = node_small c.args.message (alone_in (elements body_place c.args.s.now)) c.args.place c.args.v.now c.args.nodes.now c.args.words.now c.args.d (sym c.if-is_clearing.false ∙ c.is_clearing.ensures) c.in_ok-x.x (ap fqcsid_answer (sym (value_at _ _ _ c.answer_at.ensures c.in_ok-x.was)) ∙ c.read.ensures) in omega (arith, c.requires.wide)

pub put_csid-requires-2 : goal.put_csid-requires-2
put_csid-requires-2 c = let p = c.requires in (p.row, p.few)

pub returns : goal.returns
returns c = csid_taken_lem c.args.message (alone_in (elements body_place c.args.s.now)) c.args.place c.args.v.now c.args.nodes.now c.args.words.now c.args.d (sym c.if-is_clearing.false ∙ c.is_clearing.ensures) c.in_ok-x.x (ap fqcsid_answer (sym (value_at _ _ _ c.answer_at.ensures c.in_ok-x.was)) ∙ c.read.ensures) (sym c.if-not-is_count_allowed.false ∙ c.is_count_allowed.ensures) c.if-nodes-node-ne0.false c.requires.wide c.requires.row c.csid_from.ensures c.put_csid-2.ensures
