-- `pool::next_free` meets its contract: the free offsets from bit b of word k on are those from `at` on. Assumes nothing.
use mathlib.Core.Path.{◌≡◌, sym, ◌∙◌}
use Prim.Native.Nat.{◌+◌, ◌*◌, ◌/◌, ◌%◌, ◌≤◌}
use native.Mathlib.Omega.{arith}
use borrow.Author.Rules.{rules}
use Rattle.pool.proofs.Free.{free_first, free_end}
use Rattle.pool.proofs.Words.{word_full, word_within, word_first, word_skip}
use Rattle.pool.proofs.next_free.Goals as goal

pub returns-then-size-at : goal.returns-then-size-at
returns-then-size-at c = rw (free_end _ _ _ c.if-size-at.true)

pub loop-k-init : goal.loop-k-init
loop-k-init c = let at = c.args.at in let same : 64 * (at / 64) + at % 64 ≡ at = omega arith in (search rules, rw same)

pub overflow_cast-i : goal.overflow_cast-i
overflow_cast-i c = omega (arith, word_within c.args.words.now c.loop-k.k _ (c.type_inv.words c.loop-k.k).fits c.if-open-ne0.true)

pub overflow_add-i-then-open-ne0 : goal.overflow_add-i-then-open-ne0
overflow_add-i-then-open-ne0 c = omega (arith, word_within c.args.words.now c.loop-k.k _ (c.type_inv.words c.loop-k.k).fits c.if-open-ne0.true)

pub returns-then-i-size : goal.returns-then-i-size
returns-then-i-size c =
    let fits = (c.type_inv.words c.loop-k.k).fits in
    let some = c.if-open-ne0.true in
    rw (← c.loop-k.invariant.1, word_skip _ _ _ fits some, free_first _ _ _ c.if-i-size.true (word_first _ _ _ fits some))

pub returns-then-open-ne0 : goal.returns-then-open-ne0
returns-then-open-ne0 c =
    let fits = (c.type_inv.words c.loop-k.k).fits in
    rw (← c.loop-k.invariant.1, word_skip _ _ _ fits c.if-open-ne0.true, free_end _ _ _ c.if-i-size.false)

pub loop-k-preserved : goal.loop-k-preserved
loop-k-preserved c =
    let fits = (c.type_inv.words c.loop-k.k).fits in
    (search rules, sym (word_full _ _ _ fits _ c.loop-k.invariant.0 c.if-open-ne0.false) ∙ c.loop-k.invariant.1)

pub returns : goal.returns
returns c =
    let past : c.args.size ≤ 64 * c.loop-k.k + c.loop-k.b = omega arith in
    rw (← c.loop-k.invariant.1, free_end _ _ _ past)
