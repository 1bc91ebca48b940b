-- `marking::addresses::claim_all` meets its contract.
-- Assumes nothing.
use Rattle.std.proofs.lemmas.Result.{err_from_is_err_and}
use Rattle.std.proofs.Common.{le_refl, arith, rules}
use Rattle.areas.proofs.Rows.{row_within_lem}
use Rattle.unit.specs.Meaning.{settings_of}
use Rattle.marking.proofs.AddressAreas.{there_at, claiming_none, claiming_here, claiming_clash, claiming_more, claiming_all}
use Rattle.marking.proofs.addresses.claim_all.Goals as goal

pub loop-i-init : goal.loop-i-init
unfolding settings_of
loop-i-init c =
    let g = c.args in
    claiming_none (settings_of g.u) g.w g.at g.a.now g.n g.turn g.holders.now g.words.now c.requires.6

pub overflow_mul-start : goal.overflow_mul-start
overflow_mul-start c =
    let g = c.args in
    omega (arith, row_within_lem g.w g.w c.loop-i-test.true c.requires.0 (le_refl g.w))

pub overflow_add-start : goal.overflow_add-start
overflow_add-start c =
    let g = c.args in
    omega (arith, row_within_lem g.w g.w c.loop-i-test.true c.requires.0 (le_refl g.w))

pub slice_bounds-holder_of-end : goal.slice_bounds-holder_of-end
slice_bounds-holder_of-end c =
    let g = c.args in
    omega (arith, row_within_lem g.w g.w c.loop-i-test.true c.requires.0 (le_refl g.w))

pub holder_of-p-requires : goal.holder_of-p-requires
holder_of-p-requires c =
    let start = c in
    let g = c.args in
    (search rules, c.requires.2, there_at (settings_of g.u) g.w g.at g.a.now g.n c.requires.7 c.loop-i.i c.loop-i-test.true)

pub claim-requires : goal.claim-requires
unfolding settings_of
claim-requires c =
    let start = c in
    let g = c.args in
    let held = c.holder_of-p in
    claiming_here (settings_of g.u) g.w g.at g.a.now g.n g.turn g.holders.now g.words.now c.requires.4 c.requires.5 c.requires.3 c.loop-i.invariant c.loop-i-test.true held.result held.ensures

pub returns-in_err-new : goal.returns-in_err-new
unfolding settings_of
returns-in_err-new c =
    let start = c in
    let g = c.args in
    let held = c.holder_of-p in
    let t = c.claim in
    rw (err_from_is_err_and c.from_residual.result c.from_residual.ensures.1).1 (claiming_clash (settings_of g.u) g.w g.at g.a.now g.n g.turn g.holders.now g.words.now c.requires.4 c.requires.5 c.requires.3 c.loop-i.invariant c.loop-i-test.true held.result held.ensures t.result t.new.holders t.new.words t.ensures c.in_err-new.was)

pub overflow_add-new : goal.overflow_add-new
unfolding settings_of
overflow_add-new c =
    let start = c in
    let g = c.args in
    let held = c.holder_of-p in
    let t = c.claim in
    let next = claiming_more (settings_of g.u) g.w g.at g.a.now g.n g.turn g.holders.now g.words.now c.requires.4 c.requires.5 c.requires.3 c.loop-i.invariant c.loop-i-test.true held.result held.ensures t.result t.new.holders t.new.words t.ensures c.in_ok-new.field-0 c.in_ok-new.was in
    omega (arith, next.few, c.loop-i-test.true)

pub loop-i-preserved : goal.loop-i-preserved
unfolding settings_of
loop-i-preserved c =
    let start = c in
    let g = c.args in
    let held = c.holder_of-p in
    let t = c.claim in
    claiming_more (settings_of g.u) g.w g.at g.a.now g.n g.turn g.holders.now g.words.now c.requires.4 c.requires.5 c.requires.3 c.loop-i.invariant c.loop-i-test.true held.result held.ensures t.result t.new.holders t.new.words t.ensures c.in_ok-new.field-0 c.in_ok-new.was

pub returns : goal.returns
unfolding settings_of
returns c =
    let g = c.args in
    claiming_all (settings_of g.u) g.w g.at g.a.now g.n g.turn g.holders.now g.words.now c.loop-i.invariant c.loop-i-test.false
