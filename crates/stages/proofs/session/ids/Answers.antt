-- `stages::session::ids` meets its contract. Assumes nothing.
use Rattle.std.proofs.Common.{◌∙◌, length-set}
use Rattle.octets.specs.Octets.{number_at}
use Rattle.stages.proofs.SlotLaws.{sets_left}
use Rattle.stages.proofs.session.ids.Goals as goal

pub loop-k-preserved : goal.loop-k-preserved
unfolding number_at
loop-k-preserved g c =
    let l = c.loop-k in
    (rw length-set l.invariant.0, sets_left (number_at 0 c.args.octets) _ l.k l.out c.index-records-k.result _ c.loop-k-test.true c.index-records-k.is c.read.ensures.0 ∙ l.invariant.1)
