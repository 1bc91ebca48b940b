-- `reply::write_front` meets its contract: two elements, one after the other.
-- Assumes nothing.
use Rattle.reply.proofs.ReplySteps.{front_room, front_steps}
use Rattle.reply.proofs.write_front.Goals as goal

pub write_cause-requires : goal.write_cause-requires
write_cause-requires c =
    let s = c in
    let n = c.write_node_id-next in
    front_room c.args.home c.args.kind c.args.cause c.args.at c.args.out.now c.requires n.ensures n.auto.out

pub returns : goal.returns
returns c = search front_steps
