-- `store::push` meets its contract. Assumes nothing.
use Rattle.std.proofs.Common.{arith, ◌∙◌}
use Rattle.store.proofs.HeldLaws.{store_long, count_is}
use Rattle.store.proofs.KeepLaws.{forgotten_sound, room_again, pushed_few, pushed_full}
use Rattle.store.proofs.push.Goals as goal
use Rattle.store.proofs.push.Goals.{then-s-ge-ENTRIES, else-s-ge-ENTRIES}

pub bounds-s-0 : goal.bounds-s-0
bounds-s-0 c = omega (arith, store_long _ c.requires.store)

pub forget-requires : goal.forget-requires
forget-requires c = (c.requires.store, omega (arith, count_is _ c.requires.store))

pub add-requires : goal.add-requires
add-requires c =
    elim c.if-s-ge-ENTRIES.branch [
      | then-s-ge-ENTRIES w ↦
          rw w.s-is (record { store = (forgotten_sound _ _ c.requires.store w.forget.ensures).0; entry = c.requires.entry }, room_again _ _ c.requires.store w.forget.ensures)
      | else-s-ge-ENTRIES w ↦ rw w.s-is (c.requires, omega (arith, count_is _ c.requires.store))
    ]

pub returns : goal.returns
returns c =
    elim c.if-s-ge-ENTRIES.branch [
      | then-s-ge-ENTRIES w ↦ pushed_full _ _ c.requires.store _ _ w.if-s-ge-ENTRIES.true (w.s-is ∙ w.forget.ensures) c.add.ensures
      | else-s-ge-ENTRIES w ↦ pushed_few _ _ c.requires.store _ w.if-s-ge-ENTRIES.false (rw w.s-is at c.add.ensures)
    ]
