-- `areas::put_at` meets its contract. Assumes nothing.
use Rattle.std.proofs.Common.{sym, refl, ◌∙◌, arith}
use Rattle.areas.specs.Records.{key_of}
use Rattle.areas.proofs.Steps.{found_room, absent_room, put_over_found, put_in_absent, put_nowhere}
use Rattle.areas.proofs.put_at.Goals as goal

pub replace-requires : goal.replace-requires
replace-requires c =
    let f = found_room c.args.a c.args.s.now _ c.in-Ok.p (c.requires.2 ∙ c.in-Ok.is) in
    (c.requires.0, omega arith, c.requires.1)

pub insert-requires : goal.insert-requires
insert-requires c =
    let f = absent_room c.args.a c.args.s.now _ c.in-Err.p (c.requires.2 ∙ c.in-Err.is) in
    (c.requires.0, f, omega arith, c.requires.1)

pub returns-in-Ok : goal.returns-in-Ok
unfolding key_of
returns-in-Ok c = put_over_found c.args.a c.args.s.now _ c.in-Ok.p c.args.place (sym c.requires.2) c.args.r.now _ refl c.in-Ok.is c.replace.ensures

pub returns-then-count-a : goal.returns-then-count-a
unfolding key_of
returns-then-count-a c =
    put_in_absent c.args.a c.args.s.now _ c.in-Err.p c.args.place (sym c.requires.2) _ c.args.r.now _ refl c.in-Err.is c.count.ensures c.if-count-a.true c.insert.ensures

pub returns-else-count-a : goal.returns-else-count-a
unfolding key_of
returns-else-count-a c = put_nowhere c.args.a c.args.s.now _ c.in-Err.p c.args.place (sym c.requires.2) _ c.args.r.now refl c.in-Err.is c.count.ensures c.if-count-a.false
