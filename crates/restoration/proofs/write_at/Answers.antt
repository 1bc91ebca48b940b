-- `restoration::write_at` meets its contract: too little space, or the request copied to its front.
-- Assumes nothing.
use native.Mathlib.Omega.{arith}
use lib.ListN.{length-take}
use Rattle.rules.specs.Layout.{view_sessions}
use Rattle.rules.specs.Restoring.{session_at, restoration_at}
use Rattle.restoration.proofs.SoundSlots.{request_short}
use Rattle.restoration.proofs.RequestSteps.{into_short, into_written}
use Rattle.restoration.proofs.write_at.Goals as goal

pub returns-then-space-used : goal.returns-then-space-used
returns-then-space-used c =
    let a = c.args in
    into_short (session_at (view_sessions a.t.now) a.place).peer (restoration_at a.t.now a.place a.ipv4.now a.ipv6.now) a.space.now c.write_request-used.ensures c.if-space-used.true

pub slice_bounds-request-end : goal.slice_bounds-request-end
slice_bounds-request-end c =
    let s = c in
    let a = c.args in
    let r = c.requires in
    let w = c.write_request-used in
    let h = request_short a.t.now r.sound a.place r.live a.ipv4.now a.ipv6.now r.address in
    let e = w.ensures.ends in
    let l = w.auto.out in
    omega arith

pub slice_bounds-copy-end : goal.slice_bounds-copy-end
slice_bounds-copy-end c =
    let s = c in
    let a = c.args in
    let r = c.requires in
    let w = c.write_request-used in
    let h = request_short a.t.now r.sound a.place r.live a.ipv4.now a.ipv6.now r.address in
    let e = w.ensures.ends in
    let l = w.auto.out in
    omega (arith, length-take w.result w.new.out)

pub copy-requires : goal.copy-requires
copy-requires c =
    let s = c in
    let a = c.args in
    let r = c.requires in
    let w = c.write_request-used in
    let h = request_short a.t.now r.sound a.place r.live a.ipv4.now a.ipv6.now r.address in
    let e = w.ensures.ends in
    let l = w.auto.out in
    omega (arith, c.if-space-used.false, length-take w.result w.new.out)

pub peer_at-requires : goal.peer_at-requires
peer_at-requires c = let r = c.requires in (r.sound, r.live)

pub returns : goal.returns
returns c =
    let a = c.args in
    into_written (session_at (view_sessions a.t.now) a.place).peer (restoration_at a.t.now a.place a.ipv4.now a.ipv6.now) a.space.now c.write_request-used.ensures _ _ c.if-space-used.false c.copy.ensures c.peer_at.ensures
