-- `grants::find_places` meets its contract. Assumes nothing.
use Rattle.std.proofs.Common.{sym, ◌∙◌}
use Rattle.grants.proofs.PlaceLaws.{finding_skip, finding_more, finding_all}
use Rattle.grants.proofs.find_places.Goals as goal
use Rattle.grants.proofs.find_places.Goals.{then-chooses+else-found-places, else-chooses}

pub loop-i-preserved : goal.loop-i-preserved
loop-i-preserved c =
    let l = c.loop-i in
    elim c.if-chooses.branch [
      | then-chooses+else-found-places w ↦
          rw (w.places-is, w.found-is) (finding_more l.invariant c.loop-i-test.true (sym c.chooses.ensures ∙ w.if-chooses.true) w.if-found-places.false)
      | else-chooses w ↦ rw (w.places-is, w.found-is) (finding_skip l.invariant c.loop-i-test.true (sym c.chooses.ensures ∙ w.if-chooses.false))
    ]

pub returns : goal.returns
returns c = finding_all c.loop-i.invariant c.loop-i-test.false
