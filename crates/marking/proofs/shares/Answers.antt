-- `marking::shares` meets its contract.
-- Assumes nothing.
use Rattle.std.proofs.Common.{◌≡◌, ℕ, ◌&&◌, List, rules, ◌∙◌}
use borrow.Author.Tests.{tests}
use Rattle.std.proofs.lemmas.Iterator.Search.{any_from_yields_List}
use Rattle.std.proofs.lemmas.Iterator.Adapters.{YieldsList-from_rev_slice}
use Rattle.std.specs.Prelude.{reverse}
use Rattle.std.specs.List.{list_any}
use Rattle.marking.specs.Marking.{holds_teid, alike}
use Rattle.marking.proofs.Looking.{looked}
use Rattle.marking.proofs.shares.Goals as goal

pub returns : goal.returns
returns c =
    let found : c.any.result ≡ list_any (λ (row : List ℕ). holds_teid row c.read-teid.result && alike row c.args.slot.now) (reverse c.args.earlier.now) =
    any_from_yields_List (λ (row : List ℕ). holds_teid row c.read-teid.result && alike row c.args.slot.now) _ _ c.any.result c.any.ensures.ran (YieldsList-from_rev_slice c.args.earlier.now cc) (λ x b q k. search (rules, tests)) in
    found ∙ looked c.args.earlier.now c.args.slot.now c.read-teid.result c.read-teid.ensures.0
