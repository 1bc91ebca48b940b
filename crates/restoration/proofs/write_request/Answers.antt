-- `restoration::write_request` meets its contract: the elements, and the header before them.
-- Assumes nothing.
use mathlib.Core.Path.{refl}
use native.Mathlib.Omega.{arith}
use Rattle.table.proofs.SoundSlots.{table_long_lem, few_sessions_lem, within_limit}
use Rattle.restoration.proofs.SoundSlots.{place_fits}
use Rattle.restoration.proofs.RequestSteps.{elements_room, request_steps}
use Rattle.restoration.proofs.write_request.Goals as goal

pub read-u-requires : goal.read-u-requires
read-u-requires c = let s = c in omega (arith, table_long_lem c.args.t.now c.requires.0.sound)

pub overflow_mul-at : goal.overflow_mul-at
overflow_mul-at c =
    let s = c in
    let f = few_sessions_lem c.args.t.now c.requires.0.sound in
    omega (arith, c.requires.0.live)

pub overflow_add-at : goal.overflow_add-at
overflow_add-at c =
    let s = c in
    let f = few_sessions_lem c.args.t.now c.requires.0.sound in
    omega (arith, c.requires.0.live)

pub overflow_add-at-2 : goal.overflow_add-at-2
overflow_add-at-2 c =
    let s = c in
    let f = few_sessions_lem c.args.t.now c.requires.0.sound in
    omega (arith, c.requires.0.live)

pub slice_bounds-write_elements-end : goal.slice_bounds-write_elements-end
slice_bounds-write_elements-end c =
    let s = c in
    let f = within_limit c.args.t.now c.requires.0.sound in
    omega (arith, c.requires.0.live, table_long_lem c.args.t.now c.requires.0.sound)

pub write_elements-end-requires : goal.write_elements-end-requires
write_elements-end-requires c =
    let s = c in
    let a = c.args in
    let r = c.requires.0 in (
      place_fits a.t.now r.sound a.place r.live,
      rw c.read-u.ensures (omega (arith, c.requires.1, elements_room a.t.now a.place a.ipv4.now a.ipv6.now r)),
    )

pub overflow_add-place : goal.overflow_add-place
overflow_add-place c =
    let s = c in
    let f = few_sessions_lem c.args.t.now c.requires.0.sound in
    omega (arith, c.requires.0.live)

pub write_header-requires : goal.write_header-requires
write_header-requires c =
    let s = c in
    let a = c.args in
    let w = c.write_elements-end in
    (c.write.auto.s, omega (arith, rw c.read-u.ensures at w.ensures.ends, elements_room a.t.now a.place a.ipv4.now a.ipv6.now c.requires.0), omega (arith, c.requires.1, w.auto.out))

pub returns : goal.returns
returns c =
    let s = c in
    let a = c.args in
    request_steps a.t.now a.place a.ipv4.now a.ipv6.now c.requires.0 a.out.now _ _ c.requires.1 refl (rw c.read-u.ensures at c.write_elements-end.ensures) c.write.ensures c.write_header.ensures
