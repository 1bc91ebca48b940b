-- `repeats::serve_peer` meets its contract: each way is a case of `request_once`. Assumes nothing.
use mathlib.Core.Path.{refl, sym, ◌∙◌}
use borrow.Author.Tests.{not-true, not-false}
use Rattle.octets.proofs.Tests.{of_true}
use Rattle.repeats.proofs.OnceLaws.{once_broken, once_other, reply_short, once_again, once_dropped, once_renewed}
use Rattle.repeats.proofs.serve_peer.Goals as goal

pub returns-then-not-is_sound : goal.returns-then-not-is_sound
returns-then-not-is_sound c = once_broken _ _ c.requires _ _ _ _ _ _ _ c.is_sound.ensures (not-true _ c.if-not-is_sound.true-raw) (refl, refl, refl)

pub returns-then-not-is_request : goal.returns-then-not-is_request
returns-then-not-is_request c = once_other c.args.t.now c.args.peer c.requires c.args.store.now c.args.msg.now c.args.out.now _ c.is_sound.ensures (not-false _ c.if-not-is_sound.false-raw) _ c.is_request.ensures (not-true _ c.if-not-is_request.true-raw) _ _ _ _ _ c.serve.ensures

pub recall-requires : goal.recall-requires
recall-requires c = (of_true (sym c.is_sound.ensures ∙ not-false _ c.if-not-is_sound.false-raw))

pub repeat-requires : goal.repeat-requires
repeat-requires c = reply_short c.args.t.now c.args.peer c.requires c.args.store.now c.args.msg.now c.args.out.now _ c.is_sound.ensures (not-false _ c.if-not-is_sound.false-raw) _ c.is_request.ensures (not-false _ c.if-not-is_request.false-raw) _ c.in-Some.ensures.means

pub returns-in-Some : goal.returns-in-Some
returns-in-Some c = once_again c.args.t.now c.args.peer c.requires c.args.store.now c.args.msg.now c.args.out.now _ c.is_sound.ensures (not-false _ c.if-not-is_sound.false-raw) _ c.is_request.ensures (not-false _ c.if-not-is_request.false-raw) _ c.in-Some.ensures.means _ _ _ _ c.repeat.ensures

pub takes-requires : goal.takes-requires
takes-requires c = ((of_true (sym c.is_sound.ensures ∙ not-false _ c.if-not-is_sound.false-raw)), (of_true (sym c.is_request.ensures ∙ not-false _ c.if-not-is_request.false-raw)))

pub returns-then-not-takes : goal.returns-then-not-takes
returns-then-not-takes c = once_dropped c.args.t.now c.args.peer c.requires c.args.store.now c.args.msg.now c.args.out.now _ c.is_sound.ensures (not-false _ c.if-not-is_sound.false-raw) _ c.is_request.ensures (not-false _ c.if-not-is_request.false-raw) c.in_default.ensures _ c.takes.ensures (not-true _ c.if-not-takes.true-raw) _ _ _ c.drop_old.ensures

pub renew-requires : goal.renew-requires
renew-requires c = (of_true (sym c.is_sound.ensures ∙ not-false _ c.if-not-is_sound.false-raw))

pub returns : goal.returns
returns c = once_renewed c.args.t.now c.args.peer c.requires c.args.store.now c.args.msg.now c.args.out.now _ c.is_sound.ensures (not-false _ c.if-not-is_sound.false-raw) _ c.is_request.ensures (not-false _ c.if-not-is_request.false-raw) c.in_default.ensures _ c.takes.ensures (not-false _ c.if-not-takes.false-raw) _ c.renew.ensures
