-- `grants::reported` meets its contract: two searches, endpoints' rows and then PDRs'. Assumes nothing.
use mathlib.Core.Path.{◌≡◌}
use borrow.Author.Rules.{rules}
use native.Mathlib.Omega.{arith}
use lib.ListN.{length}
use Rattle.grants.proofs.PlaceLaws.{found_reports}
use Rattle.grants.proofs.reported.Goals as goal

pub returns : goal.returns
returns c =
    let first_length : length c.find_places-k.new.places ≡ 24 = search rules in
    let t = c in
    let f = c in
    let s = c in
    (omega (arith, c.find_places.ensures.0, first_length), found_reports c.args.plan.now c.args.n c.rows-rows.result.now c.rows-rows.ensures c.args.places.now _ _ c.find_places-k.result c.find_places.result c.requires.1 first_length c.find_places-k.ensures c.find_places.ensures)
