use mathlib.Core.Path.{◌≡◌, refl}
use lib.ListN.{length}
use Rattle.session.proofs.Steps.{pdrs_fit_lem, updated_at_lem, pdr_wide, pdr_room_lem}
use borrow.Author.Rules.{rules}
use Rattle.rules.specs.Layout.{pdr_width}
use Rattle.session.proofs.update_at.Goals as goal

pub replace-requires : goal.replace-requires
replace-requires c =
    let n : length c.set_far.new.rec ≡ pdr_width = search rules in
    (search pdrs_fit_lem, search pdr_room_lem, pdr_wide _ _ c.pdrs.ensures n)

pub returns : goal.returns
returns c =
    let s = c in
    updated_at_lem c.args.row.now c.args.slot.now _ c.copy.new.s c.set_precedence.new.rec c.set_far.new.rec c.replace.new.s c.args.p _ c.pdrs.result
    c.requires.0 c.requires.1 c.pdrs.ensures refl refl c.copy.ensures c.set_precedence.ensures c.set_far.ensures c.replace.ensures
