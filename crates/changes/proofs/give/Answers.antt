-- `changes::give` meets its contract: TEIDs, the address, and the places of what is reported.
-- Assumes nothing.
use native.Mathlib.Omega.{arith}
use Rattle.changes.proofs.Acceptance.{gives_all}
use Rattle.changes.proofs.give.Goals as goal

pub grant-requires : goal.grant-requires
grant-requires c = let p = c.requires in (p.rows, p.wide, p.size, p.first, p.room)

pub grant_address-requires : goal.grant_address-requires
grant_address-requires c =
    let p = c.requires in
    (omega (arith, p.rows, c.grant.auto.plan), p.wide_addresses, p.addresses, p.first_address)

pub reported-requires : goal.reported-requires
reported-requires c =
    let p = c.requires in
    let g = c.grant.auto in
    (omega (arith, p.rows, g.plan, c.grant_address.auto.plan), omega (arith, p.room, g.places))

pub returns : goal.returns
returns c =
    gives_all c.grant.ensures c.grant_address.ensures c.reported.ensures
