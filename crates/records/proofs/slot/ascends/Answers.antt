-- `records::slot::ascends` meets its contract.
-- Assumes nothing.
use Prim.Native.Nat.{◌+◌, ◌<◌, ◌≤◌}
use native.Mathlib.Omega.{arith}
use native.Mathlib.Nat.{mul-le-mul_right}
use Rattle.records.proofs.Turns.{rising_from, rising_pair, rising_pair_not, rising_end, ascends_none}
use Rattle.records.proofs.slot.ascends.Goals as goal

pub returns-then-n-eq0 : goal.returns-then-n-eq0
returns-then-n-eq0 c = search ascends_none

pub read-high-requires : goal.read-high-requires
read-high-requires c =
    let s = c in
    let some : 1 ≤ c.args.n = omega (arith, c.if-n-eq0.false) in
    omega (arith, mul-le-mul_right c.args.w some)

pub read-last-requires : goal.read-last-requires
read-last-requires c =
    let s = c in
    let some : 1 ≤ c.args.n = omega (arith, c.if-n-eq0.false) in
    omega (arith, mul-le-mul_right c.args.w some)

pub loop-i-init : goal.loop-i-init
loop-i-init c =
    let s = c in
    let some : 0 < c.args.n = omega (arith, c.if-n-eq0.false) in
    rising_from c.args.w c.args.n c.args.a.now _ _ c.requires.1 c.requires.0 some c.read-high.ensures.0 c.read-last.ensures.0

pub overflow_mul-at : goal.overflow_mul-at
overflow_mul-at c =
    let s = c in
    let next : c.loop-i.i + 1 ≤ c.args.n = omega arith in
    omega (arith, mul-le-mul_right c.args.w next)

pub read-y-requires : goal.read-y-requires
read-y-requires c =
    let s = c in
    let next : c.loop-i.i + 1 ≤ c.args.n = omega arith in
    omega (arith, mul-le-mul_right c.args.w next)

pub overflow_add-at : goal.overflow_add-at
overflow_add-at c =
    let s = c in
    let next : c.loop-i.i + 1 ≤ c.args.n = omega arith in
    omega (arith, mul-le-mul_right c.args.w next)

pub read-z-requires : goal.read-z-requires
read-z-requires c =
    let s = c in
    let next : c.loop-i.i + 1 ≤ c.args.n = omega arith in
    omega (arith, mul-le-mul_right c.args.w next)

pub returns-then-reaches : goal.returns-then-reaches
returns-then-reaches c = search rising_pair_not

pub loop-i-preserved : goal.loop-i-preserved
loop-i-preserved c = search rising_pair

pub returns : goal.returns
returns c = rising_end c.loop-i.invariant c.loop-i-test.false
