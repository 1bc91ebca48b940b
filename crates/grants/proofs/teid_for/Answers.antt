-- `grants::teid_for` meets its contract: the TEID that the CHOOSE ID has, the next free one, or none. Assumes nothing.
use mathlib.Core.Path.{sym, ◌∙◌}
use Prim.Native.Nat.{◌<◌}
use native.Mathlib.Omega.{arith}
use Rattle.pool.proofs.Free.{lowest_at}
use Rattle.grants.proofs.StepLaws.{gives_kept, gives_none, gives_next}
use Rattle.grants.proofs.teid_for.Goals as goal

pub returns-then-has-ne0 : goal.returns-then-has-ne0
returns-then-has-ne0 c =
    let s = c.args in
    gives_kept s.u.first s.words.now s.from s.u.size s.known.now s.id c.word_at-has.result c.word_at-has.ensures c.if-has-ne0.true

pub returns-in_default : goal.returns-in_default
returns-in_default c =
    let s = c.args in
    let w = c.word_at-has in
    gives_none s.u.first s.words.now s.from s.u.size s.known.now s.id w.result w.ensures c.if-has-ne0.false _
    (sym c.in_default.is ∙ c.next_free.ensures) c.set_word.ensures

pub overflow_add-teid : goal.overflow_add-teid
overflow_add-teid c =
    let below : c.in-Some.i < c.args.u.size = let s = c.args in (lowest_at s.words.now s.from s.u.size _ (sym c.in-Some.is ∙ c.next_free.ensures)).below in
    omega (arith, below)

pub overflow_add-teid-2 : goal.overflow_add-teid-2
overflow_add-teid-2 c =
    let below : c.in-Some.i < c.args.u.size = let s = c.args in (lowest_at s.words.now s.from s.u.size _ (sym c.in-Some.is ∙ c.next_free.ensures)).below in
    omega (arith, below)

pub overflow_add-result : goal.overflow_add-result
overflow_add-result c =
    let below : c.in-Some.i < c.args.u.size = let s = c.args in (lowest_at s.words.now s.from s.u.size _ (sym c.in-Some.is ∙ c.next_free.ensures)).below in
    omega (arith, below)

pub returns : goal.returns
returns c =
    let s = c.args in
    let w = c.word_at-has in
    gives_next s.u.first s.words.now s.from s.u.size s.known.now s.id w.result w.ensures c.if-has-ne0.false _ _
    (sym c.in-Some.is ∙ c.next_free.ensures) c.set_word-2.ensures
