-- `fteid::is_allowed` meets its contract, by the test at each return. Assumes nothing.
use mathlib.Core.Path.{sym, ◌∙◌}
use native.Mathlib.Omega.{arith}
use Rattle.fteid.proofs.ValueLaws.{fteid_allowed_lem, fteid_too_large, fteid_fits}
use Rattle.fteid.proofs.is_allowed.Goals as goal

pub returns-then-flags-gt15 : goal.returns-then-flags-gt15
returns-then-flags-gt15 c = sym (fteid_too_large c.args.endpoint c.args.v (omega arith))

pub returns-then-wrong_flags : goal.returns-then-wrong_flags
returns-then-wrong_flags c =
    let a = c.args in
    sym (fteid_allowed_lem a.endpoint a.v (omega arith) ∙ rw (sym c.wrong_flags.ensures ∙ c.if-wrong_flags.true))

pub returns : goal.returns
returns c = search fteid_fits
