-- `session::drop_pdrs` meets its contract: to take out those that are left takes out all. Assumes nothing.
use Rattle.std.proofs.Common.{◌∙◌, sym, arith}
use Rattle.std.proofs.lemmas.List.{drop_all}
use Rattle.session.specs.Build.{without_pdrs}
use Rattle.session.proofs.Steps.{pdrs_fit_lem, pdrs_key, without_more}
use Rattle.session.proofs.drop_pdrs.Goals as goal

pub drop_record-requires : goal.drop_record-requires
drop_record-requires c = (pdrs_fit_lem _ _ c.pdrs.ensures (omega arith), pdrs_key _ c.pdrs.ensures)

pub loop-id-preserved : goal.loop-id-preserved
loop-id-preserved c =
    let l = c.loop-id in
    rw (c.drop_record.ensures, c.pdrs.ensures) (sym (without_more c.args.ids.now l.slot l.id-index c.loop-id-test.true) ∙ l.invariant)

pub returns : goal.returns
unfolding without_pdrs
returns c = rw (drop_all c.loop-id.id-index c.args.ids.now c.loop-id-test.false) at c.loop-id.invariant
