-- `stages::session::removed` meets its contract. Assumes nothing.
use Rattle.std.proofs.Common.{◌≡◌, ◌∙◌, sym, ap₂, get_or, add-zero, arith, length, length-set}
use Rattle.octets.proofs.Loops.{sets_more}
use Rattle.rules.specs.Layout.{pdr_count_at, pdrs_at}
use Rattle.plan.proofs.ChainLaws.{length_chunks}
use Rattle.stages.proofs.SlotLaws.{gone_in, gone_none, gone_hit, gone_miss, gone_slot, area_records}
use Rattle.stages.proofs.session.removed.Goals as goal
use Rattle.stages.proofs.session.removed.Goals.{then-goes, else-goes}

pub bounds-out-k : goal.bounds-out-k
bounds-out-k c =
    let e : length c.arrays-pdrs.result.now ≡ get_or c.args.slot.now pdr_count_at 0 = rw (c.arrays-pdrs.ensures, length_chunks) in
    omega (arith, e, c.requires.0.pdrs, c.requires.2)

pub loop-pdr-preserved : goal.loop-pdr-preserved
loop-pdr-preserved c =
    let l = c.loop-pdr in
    elim c.if-goes.branch [
      | then-goes w ↦
          let e = gone_hit c.rows-rows.result.now c.arrays-pdrs.result.now l.pdr-index c.loop-pdr-test.true (sym c.goes.ensures ∙ w.if-goes.true) in (
            omega arith,
            rw w.out-is (rw length-set l.invariant.1),
            rw (w.k-is, ← l.invariant.2, e) (omega arith),
            rw (w.out-is, w.k-is, ← l.invariant.3, e, sets_more, ← w.read.ensures.0),
          )
      | else-goes w ↦
          let e = gone_miss c.rows-rows.result.now c.arrays-pdrs.result.now l.pdr-index c.loop-pdr-test.true (sym c.goes.ensures ∙ w.if-goes.false) in (
            omega arith,
            rw w.out-is l.invariant.1,
            rw (w.k-is, ← l.invariant.2, e),
            rw (w.out-is, w.k-is, ← l.invariant.3, e),
          )
    ]

pub returns : goal.returns
returns c =
    let l = c.loop-pdr in
    let e = gone_none c.rows-rows.result.now c.arrays-pdrs.result.now l.pdr-index c.loop-pdr-test.false in
    let all = ap₂ gone_in c.rows-rows.ensures (c.arrays-pdrs.ensures ∙ area_records _ _ pdrs_at c.args.slot.now) ∙ gone_slot _ c.args.slot.now in
    (rw (← all, ← l.invariant.2, e) (sym (add-zero l.k)), rw (← all, ← l.invariant.3, e))
