-- `grants::store_address` meets its contract: what is written and what is to come are the plan with all of it. Assumes nothing.
use Rattle.std.proofs.Common.{◌≡◌, ◌<◌, ◌+◌, ◌-◌, ◌*◌, ◌∙◌, sym, ap, arith}
use Rattle.plan.specs.Rows.{row_width}
use Rattle.grants.specs.Choosing.{chooses_address}
use Rattle.grants.proofs.AddressLaws.{writing_skip, writing_more, writing_all}
use Rattle.grants.proofs.store_address.Goals as goal
use Rattle.grants.proofs.store_address.Goals.{then-chooses_address, else-chooses_address}

pub loop-i-preserved : goal.loop-i-preserved
loop-i-preserved c =
    let l = c.loop-i in
    let left : 0 < c.args.n - l.i = omega (arith, c.loop-i-test.true) in
    let at : (l.i + 1) * row_width ≡ l.i * row_width + row_width = omega arith in
    let rest : c.args.n - (l.i + 1) ≡ c.args.n - l.i - 1 = omega arith in
    let row = c.chooses_address.ensures ∙ ap chooses_address c.row_at.ensures in
    rw (at, rest)
    (elim c.if-chooses_address.branch [
      | then-chooses_address w ↦ rw w.plan-is (writing_more _ l.invariant left (sym w.if-chooses_address.true ∙ row))
      | else-chooses_address w ↦ rw w.plan-is (writing_skip _ l.invariant left (sym w.if-chooses_address.false ∙ row))
    ])

pub returns : goal.returns
returns c = writing_all _ c.loop-i.invariant (omega (arith, c.loop-i-test.false))
