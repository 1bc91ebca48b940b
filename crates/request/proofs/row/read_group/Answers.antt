-- `read_group` meets its contract. Assumes nothing.
use mathlib.Core.Path.{refl}
use native.Mathlib.Omega.{arith}
use Rattle.std.proofs.lemmas.Result.{err_from_is_err_and}
use Rattle.request.proofs.GroupSteps.{tidy_start, group_refused, group_taken}
use borrow.Author.Rules.{rules}
use Rattle.request.proofs.row.read_group.Goals as goal

pub read_group-requires : goal.read_group-requires
read_group-requires c = (tidy_start, search rules)

pub returns-in_err-read_group : goal.returns-in_err-read_group
returns-in_err-read_group c =
    let p = err_from_is_err_and c.from_residual.result c.from_residual.ensures.1 in
    rw (p.1, p.2) (group_refused c.args.kind c.requires.0 c.args.place c.args.v.now c.read_group.new.row c.read_group.result c.args.d c.args.words.now c.read_group.ensures c.in_err-read_group.was refl)

pub overflow_mul-d : goal.overflow_mul-d
overflow_mul-d c = let h = c.requires.1 in omega arith

pub put_words-requires : goal.put_words-requires
put_words-requires c = let h = c.requires.1 in omega arith

pub with_row-requires : goal.with_row-requires
with_row-requires c = c.requires.2

pub returns : goal.returns
returns c = group_taken c.args.kind c.requires.0 c.args.place c.args.v.now c.read_group.new.row c.read_group.result c.args.d c.args.words.now c.read_group.ensures c.in_ok-read_group.was c.requires.1 c.with_row.ensures c.put_words.ensures
