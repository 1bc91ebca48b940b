-- `areas::slots::find` meets its contract. Assumes nothing.
use mathlib.Core.Path.{◌≡◌, sym, ◌∙◌}
use native.Mathlib.Nat.{mul-le-mul_right}
use lib.ListN.{get_or}
use native.Mathlib.Omega.{arith}
use Rattle.areas.proofs.LookupLaws.{keys, length_keys, key_at, looking_none, looking_more, looking_found, looking_absent, looking_end}
use Rattle.areas.proofs.slots.find.Goals as goal

pub loop-i-init : goal.loop-i-init
loop-i-init c =
    let a = c.args in
    looking_none (length_keys a.w a.k a.n a.s.now)

pub overflow_mul-i : goal.overflow_mul-i
overflow_mul-i c = omega (arith, mul-le-mul_right c.args.w c.loop-i-test.true)

pub read-y-requires : goal.read-y-requires
read-y-requires c = omega (arith, mul-le-mul_right c.args.w c.loop-i-test.true)

pub returns-then-y-x : goal.returns-then-y-x
returns-then-y-x c =
    let the_key : let a = c.args in c.read-y.result ≡ get_or (keys a.w a.k a.n a.s.now) c.loop-i.i 0 = let start = c in
    let a = c.args in
    c.read-y.ensures.0 ∙ sym (key_at a.w a.k a.n c.loop-i.i a.s.now c.requires.1 c.loop-i-test.true) in
    let r = c in
    looking_found c.loop-i.invariant c.loop-i-test.true the_key c.if-x-y.true c.if-y-x.true

pub returns-then-x-y : goal.returns-then-x-y
returns-then-x-y c =
    let the_key : let a = c.args in c.read-y.result ≡ get_or (keys a.w a.k a.n a.s.now) c.loop-i.i 0 = let start = c in
    let a = c.args in
    c.read-y.ensures.0 ∙ sym (key_at a.w a.k a.n c.loop-i.i a.s.now c.requires.1 c.loop-i-test.true) in
    let r = c in
    looking_absent c.loop-i.invariant c.loop-i-test.true the_key c.if-x-y.true c.if-y-x.false

pub overflow_step-i : goal.overflow_step-i
overflow_step-i c = omega arith

pub loop-i-smaller : goal.loop-i-smaller
loop-i-smaller c = omega arith

pub loop-i-preserved : goal.loop-i-preserved
loop-i-preserved c =
    let the_key : let a = c.args in c.read-y.result ≡ get_or (keys a.w a.k a.n a.s.now) c.loop-i.i 0 = let start = c in
    let a = c.args in
    c.read-y.ensures.0 ∙ sym (key_at a.w a.k a.n c.loop-i.i a.s.now c.requires.1 c.loop-i-test.true) in
    let r = c in
    looking_more c.loop-i.invariant c.loop-i-test.true the_key c.if-x-y.false

pub returns : goal.returns
returns c = looking_end c.loop-i.invariant c.loop-i-test.false
