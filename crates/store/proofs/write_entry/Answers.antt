-- `store::write_entry` meets its contract. Assumes nothing.
use Rattle.std.proofs.Common.{arith}
use Rattle.rules.specs.Store.{entry}
use Rattle.store.proofs.EntryLaws.{length_entry}
use Rattle.store.proofs.KeepLaws.{entry_written}
use Rattle.store.proofs.write_entry.Goals as goal

pub write-requires : goal.write-requires
write-requires c = omega (arith, length_entry (entry c.args.msg.now c.args.reply.now), c.requires)

pub copy-requires : goal.copy-requires
copy-requires c = omega (arith, length_entry (entry c.args.msg.now c.args.reply.now), c.requires, c.write.auto.s)

pub overflow_add-end-2 : goal.overflow_add-end-2
overflow_add-end-2 c = omega (arith, length_entry (entry c.args.msg.now c.args.reply.now), c.requires)

pub write-requires-2 : goal.write-requires-2
write-requires-2 c = omega (arith, length_entry (entry c.args.msg.now c.args.reply.now), c.requires, c.write.auto.s, c.copy.auto.s)

pub overflow_add-end-3 : goal.overflow_add-end-3
overflow_add-end-3 c = omega (arith, length_entry (entry c.args.msg.now c.args.reply.now), c.requires)

pub copy-requires-2 : goal.copy-requires-2
copy-requires-2 c = omega (arith, length_entry (entry c.args.msg.now c.args.reply.now), c.requires, c.write.auto.s, c.copy.auto.s, c.write-2.auto.s)

pub returns : goal.returns
returns c = entry_written _ _ _ _ _ _ _ _ c.requires c.write.ensures c.copy.ensures c.write-2.ensures c.copy-2.ensures
