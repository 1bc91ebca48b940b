-- `grants::grant_address` meets its contract: the lowest free address, or 0 where none is free. Assumes nothing.
use Rattle.std.proofs.Common.{◌<◌, ◌∙◌, sym, arith}
use Rattle.pool.proofs.Free.{lowest_at}
use Rattle.grants.proofs.AddressLaws.{address_none, address_next}
use Rattle.grants.proofs.grant_address.Goals as goal
use Rattle.grants.proofs.grant_address.Goals.{in-Some, in-None}

pub overflow_add-address : goal.overflow_add-address
overflow_add-address c =
    let a = c.args in
    let below : c.in-Some.i < a.u.addresses = (lowest_at a.words.now 0 a.u.addresses _ (sym c.in-Some.is ∙ c.next_free.ensures)).below in
    omega (arith, below)

pub returns : goal.returns
returns c =
    let a = c.args in
    elim c.match-next_free.branch [
      | in-Some w ↦ address_next a.u.first_address a.words.now a.u.addresses a.n a.plan.now _ (sym w.in-Some.is ∙ c.next_free.ensures) (rw w.address-is at c.store_address.ensures)
      | in-None w ↦ address_none a.u.first_address a.words.now a.u.addresses a.n a.plan.now (sym w.in-None.is ∙ c.next_free.ensures) (rw w.address-is at c.store_address.ensures)
    ]
