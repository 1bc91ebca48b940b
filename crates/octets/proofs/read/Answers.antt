-- `octets::read` meets its contract: the number of the octets so far. Assumes nothing.
use Rattle.std.proofs.Common.{ℕ, ◌≡◌, ◌<◌, ◌≤◌, ◌+◌, ◌-◌, ◌∙◌, sym, ap, get_or, length, arith, lit<, List, add-one, Fits, w8}
use Rattle.std.proofs.lemmas.List.{take_all}
use Rattle.octets.specs.Octets.{part, number}
use Rattle.octets.proofs.Digits.{number_none, number_more, grows, grows_fits}
use Rattle.octets.proofs.Put.{length_part, get_d_part}
use Rattle.octets.proofs.read.Goals as goal

-- an octet of the part is one of the slice
below : (at n i : ℕ) (s : List ℕ) → i < n → ((k : ℕ) → Fits w8 (get_or s k 0)) → get_or (part at n s) i 0 < 256
below at n i s h f = let o = f (at + i) in rw (get_d_part at n i s h) (omega arith)

-- a turn is not past the part's end
within : (at n i : ℕ) (s : List ℕ) → at + n ≤ length s → i < length (part at (at + n - at) s) → i < at + n - at
within at n i s h l = omega (arith, length_part at (at + n - at) s (omega arith))

pub loop-x-init : goal.loop-x-init
loop-x-init c = (sym number_none, lit< tt)

pub overflow_mul-value : goal.overflow_mul-value
overflow_mul-value c =
    let l = c.loop-x in
    let a = c.args in
    let h = within a.at a.n l.x-index a.s.now c.requires.0 c.loop-x-test.true in
    omega (arith, grows_fits l.value 0 l.x-index l.invariant.1 (lit< tt) (omega arith))

pub overflow_add-value : goal.overflow_add-value
overflow_add-value c =
    let l = c.loop-x in
    let a = c.args in
    let h = within a.at a.n l.x-index a.s.now c.requires.0 c.loop-x-test.true in
    let o : c.from.result < 256 = rw c.from.ensures (below a.at _ l.x-index a.s.now h c.type_inv.s) in
    omega (arith, grows_fits l.value c.from.result l.x-index l.invariant.1 o (omega arith))

pub loop-x-preserved : goal.loop-x-preserved
loop-x-preserved c =
    let l = c.loop-x in
    let a = c.args in
    let h = within a.at a.n l.x-index a.s.now c.requires.0 c.loop-x-test.true in
    let o : c.from.result < 256 = rw c.from.ensures (below a.at _ l.x-index a.s.now h c.type_inv.s) in
    let t = number_more (part a.at (a.at + a.n - a.at) a.s.now) l.x-index c.loop-x-test.true in
    (cc, rw add-one (grows l.value c.from.result l.x-index l.invariant.1 o))

pub returns : goal.returns
returns c =
    let l = c.loop-x in
    let a = c.args in
    let p = part a.at (a.at + a.n - a.at) a.s.now in
    let i-is : l.x-index ≡ a.n = omega (arith, length_part a.at (a.at + a.n - a.at) a.s.now (omega arith)) in
    (l.invariant.0 ∙ ap number (take_all l.x-index p c.loop-x-test.false) ∙ ap (λ (k : ℕ). number (part a.at k a.s.now)) (omega arith), rw i-is at l.invariant.1)
