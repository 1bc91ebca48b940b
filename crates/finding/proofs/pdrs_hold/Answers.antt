-- `finding::pdrs_hold` meets its contract.
-- Assumes nothing.
use Rattle.std.proofs.Common.{◌≡◌, ℕ, ◌≤◌, List, length, take, ◌∙◌, arith, rules}
use borrow.Author.Tests.{tests}
use Rattle.std.specs.List.{list_any}
use Rattle.std.proofs.lemmas.Iterator.{YieldsList-from_slice}
use Rattle.std.proofs.lemmas.Iterator.Search.{any_from_yields_List}
use Rattle.rules.specs.Layout.{pdr_width}
use Rattle.records.proofs.Chunks.{rows_before}
use Rattle.marking.specs.Marking.{holds_teid}
use Rattle.finding.proofs.HoldLaws.{pdrs_looked}
use Rattle.finding.proofs.pdrs_hold.Goals as goal

pub returns : goal.returns
returns c =
    let g = c.args in
    let enough : g.n ≤ length c.as_chunks.result.0.now = omega (arith, c.requires, c.as_chunks.ensures.front_len) in
    let found : c.any.result ≡ list_any (λ (row : List ℕ). holds_teid row g.teid) (take g.n c.as_chunks.result.0.now) =
    any_from_yields_List (λ (row : List ℕ). holds_teid row g.teid) _ _ c.any.result c.any.ensures.ran (YieldsList-from_slice (take g.n c.as_chunks.result.0.now) cc) (λ x b q k. search (rules, tests)) in
    found ∙ pdrs_looked g.teid g.n g.pdrs.now _ (rows_before pdr_width g.n _ g.pdrs.now _ c.as_chunks.ensures.front enough)
