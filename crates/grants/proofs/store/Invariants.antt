-- `grants::store` meets its contract: storing at the places that are left gives what storing at all gives. Assumes nothing.
use Rattle.std.proofs.Common.{◌≡◌, ◌≤◌, length, T}
use Rattle.created.specs.Entries.{within}
use Rattle.grants.specs.Choosing.{stores}
use Rattle.grants.proofs.store.Given as goal

abbrev pub invariant-loop-place : goal.invariant-loop-place
invariant-loop-place l =
    let places = l.place-iterator.a.rest.now in
    let teids = l.place-iterator.b.rest.now in
    (length l.plan ≡ length l.initial.plan)
    × T (within l.initial.plan places)
    × (length places ≤ length teids)
    × (stores l.plan places teids ≡ stores l.initial.plan l.places l.teids)
