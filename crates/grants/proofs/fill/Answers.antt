-- `grants::fill` meets its contract: the TEIDs of the places that are left, stored after those done, make all. Assumes nothing.
use Rattle.std.proofs.Common.{◌∙◌, ap, ℕ, List}
use Rattle.octets.specs.Choice.{value_or}
use Rattle.created.proofs.EntryLaws.{row_inside}
use Rattle.grants.specs.Choosing.{choose_id_in}
use Rattle.grants.proofs.FillLaws.{filling_none, filling_more, filling_all}
use Rattle.grants.proofs.fill.Goals as goal

pub loop-i-init : goal.loop-i-init
loop-i-init c = let s = c.args in filling_none s.plan.now s.places.now s.words.now s.u.first s.u.size s.teids.now

pub row_at-requires : goal.row_at-requires
row_at-requires c = row_inside c.args.plan.now c.args.places.now c.loop-i.i c.loop-i-test.true c.requires.0

pub loop-i-preserved : goal.loop-i-preserved
loop-i-preserved c =
    let s = c.args in
    let id = c.choose_id-id.ensures ∙ ap (λ (row : List ℕ). value_or 256 (choose_id_in row)) c.row_at.ensures in
    filling_more s.plan.now s.places.now s.words.now s.u.first s.u.size s.teids.now c.loop-i.invariant c.loop-i-test.true id c.teid_for-given.ensures

pub returns : goal.returns
returns c = let s = c.args in filling_all s.plan.now s.places.now s.words.now s.u.first s.u.size s.teids.now c.loop-i.invariant c.loop-i-test.false
