-- `repeats::renew` meets its contract. Assumes nothing.
use mathlib.Core.Path.{refl, sym}
use lib.Seq.{length-take-le}
use Rattle.std.proofs.lemmas.Result.{err_from_is_err_and}
use Rattle.repeats.proofs.OnceLaws.{nonzero, serves_as, renew_none, reply_fits, keepable, renew_some}
use Rattle.repeats.proofs.renew.Goals as goal

pub returns-in_err-replied : goal.returns-in_err-replied
returns-in_err-replied c =
    let p = err_from_is_err_and c.from_residual.result c.from_residual.ensures.1 in
    rw (p.1, p.2) (renew_none _ _ _ _ _ _ _ _ _ _ (serves_as _ _ _ _ c.in_err-replied.was c.serve.ensures) (nonzero _))

pub slice_bounds-push-end : goal.slice_bounds-push-end
slice_bounds-push-end c = reply_fits _ _ c.args.store.now _ _ _ _ _ _ _ (serves_as _ _ _ _ c.in_ok-replied.was c.serve.ensures) refl

pub slice_bounds-push-end-2 : goal.slice_bounds-push-end-2
slice_bounds-push-end-2 c = sym (length-take-le _ _ (reply_fits _ _ c.args.store.now _ _ _ _ _ _ _ (serves_as _ _ _ _ c.in_ok-replied.was c.serve.ensures) refl))

pub push-requires : goal.push-requires
push-requires c = keepable _ _ _ _ _ _ _ _ _ _ (serves_as _ _ _ _ c.in_ok-replied.was c.serve.ensures) refl c.requires

pub returns : goal.returns
returns c = renew_some _ _ _ _ _ _ _ _ _ _ (serves_as _ _ _ _ c.in_ok-replied.was c.serve.ensures) refl _ c.push.ensures
