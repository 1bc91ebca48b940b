-- `areas::drop_record` meets its contract. Assumes nothing.
use Rattle.std.proofs.Common.{sym, ◌∙◌}
use Rattle.areas.proofs.Steps.{found_room, take_none, take_out_lem}
use Rattle.areas.proofs.drop_record.Goals as goal

pub remove-requires : goal.remove-requires
remove-requires c =
    let f = found_room c.args.a c.args.s.now _ c.in-Ok.p (sym c.find-place.ensures ∙ c.in-Ok.is) in
    (c.requires.0, f.0, f.1)

pub returns-in-Ok : goal.returns-in-Ok
returns-in-Ok c = search take_out_lem

pub returns-in_default : goal.returns-in_default
returns-in_default c = search take_none
