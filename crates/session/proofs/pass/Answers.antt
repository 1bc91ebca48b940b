-- `session::pass` meets its contract: to pass over the rows that are left passes over all. Assumes nothing.
use Rattle.std.proofs.Common.{◌∙◌, sym}
use Rattle.std.proofs.lemmas.List.{drop_all}
use Rattle.session.specs.Build.{passed}
use Rattle.session.proofs.Steps.{passed_hit, passed_miss}
use Rattle.session.proofs.pass.Goals as goal
use Rattle.session.proofs.pass.Goals.{then-row-kind, else-row-kind}

pub loop-row-preserved : goal.loop-row-preserved
loop-row-preserved c =
    let l = c.loop-row in
    elim c.if-row-kind.branch [
      | then-row-kind w ↦ rw (w.slot-is, w.apply_row.ensures) (sym (passed_hit c.args.kind c.args.rows.now l.slot l.row-index c.loop-row-test.true w.if-row-kind.true) ∙ l.invariant)
      | else-row-kind w ↦ rw w.slot-is (sym (passed_miss c.args.kind c.args.rows.now l.slot l.row-index c.loop-row-test.true w.if-row-kind.false) ∙ l.invariant)
    ]

pub returns : goal.returns
unfolding passed
returns c = rw (drop_all c.loop-row.row-index c.args.rows.now c.loop-row-test.false) at c.loop-row.invariant
