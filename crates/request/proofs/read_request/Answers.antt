-- `read_request` meets its contract. Assumes nothing.
use Prim.Native.Nat.{ℕ, ◌≤◌}
use Rattle.frame.proofs.HeaderLaws.{read_kind}
use Rattle.request.proofs.ReadingLaws.{message_room, not_framed, read_refused, read_whole}
use native.Mathlib.Omega.{arith}
use Rattle.std.proofs.lemmas.Result.{err_from_is_err_and}
use Rattle.request.proofs.read_request.Goals as goal

eight : {n : ℕ} → 16 ≤ n → 8 ≤ n
eight h = omega arith

pub returns-in_err-frame_fault : goal.returns-in_err-frame_fault
returns-in_err-frame_fault c =
    let p = err_from_is_err_and c.from_residual.result c.from_residual.ensures.1 in
    rw (p.1, p.2) (not_framed _ _ c.frame_fault.ensures _ c.in_err-frame_fault.was)

pub read-message-requires : goal.read-message-requires
read-message-requires c = let p = c.requires in let l = p.0.long in omega arith

pub read_elements-requires : goal.read_elements-requires
read_elements-requires c = let p = c.requires in message_room c.args.msg.now p.0 p.1 p.2

pub returns-in_err-d : goal.returns-in_err-d
returns-in_err-d c =
    let p = err_from_is_err_and c.from_residual-in_err-d.result c.from_residual-in_err-d.ensures.1 in
    let q = c.requires in
    rw (p.1, p.2) (read_refused _ q.0 (read_kind _ (eight q.0.long) _ c.read-message.ensures.0) _ c.read_elements.ensures _ c.frame_fault.ensures c.in_ok-frame_fault.was _ c.in_err-d.was)

pub returns : goal.returns
returns c = let p = c.requires in read_whole _ p.0 (read_kind _ (eight p.0.long) _ c.read-message.ensures.0) _ c.read_elements.ensures _ c.frame_fault.ensures c.in_ok-frame_fault.was _ c.in_ok-d.was c.conclude.ensures
