-- `finding::endpoints_hold` meets its contract.
-- Assumes nothing.
use Rattle.std.proofs.Common.{◌≡◌, ℕ, ◌≤◌, List, eqb, length, take, ◌∙◌, arith, rules}
use borrow.Author.Tests.{tests}
use Rattle.std.specs.List.{list_any}
use Rattle.std.proofs.lemmas.Iterator.{YieldsList-from_slice}
use Rattle.std.proofs.lemmas.Iterator.Search.{any_from_yields_List}
use Rattle.octets.specs.Octets.{part, number}
use Rattle.rules.specs.Layout.{endpoint_width, endpoint_teid_at}
use Rattle.records.proofs.Chunks.{rows_before}
use Rattle.finding.proofs.HoldLaws.{endpoints_looked}
use Rattle.finding.proofs.endpoints_hold.Goals as goal

pub returns : goal.returns
returns c =
    let g = c.args in
    let enough : g.n ≤ length c.as_chunks.result.0.now = omega (arith, c.requires, c.as_chunks.ensures.front_len) in
    let found : c.any.result ≡ list_any (λ (row : List ℕ). eqb (number (part endpoint_teid_at 4 row)) g.teid) (take g.n c.as_chunks.result.0.now) =
    any_from_yields_List (λ (row : List ℕ). eqb (number (part endpoint_teid_at 4 row)) g.teid) _ _ c.any.result c.any.ensures.ran (YieldsList-from_slice (take g.n c.as_chunks.result.0.now) cc) (λ x b q k. search (rules, tests)) in
    found ∙ endpoints_looked g.teid g.n g.ends.now _ (rows_before endpoint_width g.n _ g.ends.now _ c.as_chunks.ensures.front enough)
