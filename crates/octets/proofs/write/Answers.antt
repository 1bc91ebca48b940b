-- `octets::write` meets its contract. A turn stores the last octet that is left.
-- Assumes nothing.
use mathlib.Core.Path.{sym, ◌∙◌}
use Prim.Native.Nat.{◌%◌}
use native.Mathlib.Omega.{arith}
use Rattle.octets.proofs.Put.{put_none, put_turn}
use Rattle.octets.proofs.Digits.{be_last}
use Rattle.octets.proofs.Numbers.{length_be}
use Rattle.octets.proofs.write.Goals as goal

pub loop-i-preserved : goal.loop-i-preserved
loop-i-preserved c =
    let a = c.args in
    let l = c.loop-i in
    put_turn a.at l.i _ _ (l.rest % 256) l.s _ (be_last l.i l.rest (omega arith)) (length_be _ _) (omega arith) (omega arith) l.invariant

pub returns : goal.returns
returns c =
    let l = c.loop-i in
    sym (put_none c.args.at _ l.s (omega (arith, length_be l.i l.rest))) ∙ l.invariant
