-- `areas::slots::find_pair` meets its contract. Assumes nothing.
use native.Mathlib.Nat.{mul-le-mul_right}
use native.Mathlib.Omega.{arith}
use Rattle.areas.proofs.LookupLaws.{length_keys, looking_none, looking_end}
use Rattle.areas.proofs.PairLaws.{turn_next, turn_found, turn_absent}
use Rattle.areas.proofs.slots.find_pair.Goals as goal

pub loop-i-init : goal.loop-i-init
loop-i-init c =
    let a = c.args in
    looking_none (length_keys a.w 9 a.n a.s.now)

pub overflow_mul-at : goal.overflow_mul-at
overflow_mul-at c = omega (arith, mul-le-mul_right c.args.w c.loop-i-test.true)

pub read-y-requires : goal.read-y-requires
read-y-requires c = omega (arith, mul-le-mul_right c.args.w c.loop-i-test.true)

pub overflow_add-at : goal.overflow_add-at
overflow_add-at c = omega (arith, mul-le-mul_right c.args.w c.loop-i-test.true)

pub read-z-requires : goal.read-z-requires
read-z-requires c = omega (arith, mul-le-mul_right c.args.w c.loop-i-test.true)

pub returns-then-is_pair : goal.returns-then-is_pair
returns-then-is_pair c = search turn_found

pub returns-then-reaches : goal.returns-then-reaches
returns-then-reaches c = search turn_absent

pub overflow_step-i : goal.overflow_step-i
overflow_step-i c = omega arith

pub loop-i-smaller : goal.loop-i-smaller
loop-i-smaller c = omega arith

pub loop-i-preserved : goal.loop-i-preserved
loop-i-preserved c = search turn_next

pub returns : goal.returns
returns c = looking_end c.loop-i.invariant c.loop-i-test.false
