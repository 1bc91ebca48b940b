-- `octets::fields::width` meets its contract: the sum of the widths, each at most 8. Assumes nothing.
use Rattle.std.proofs.Common.{◌≡◌, ◌<◌, ◌^◌, ◌∙◌, sum, arith, rules}
use Rattle.std.proofs.iter.runs.Made.{chains}
use Rattle.octets.proofs.FieldLaws.{sum_width, narrow_width}
use Rattle.octets.proofs.fields.width.Goals as goal

pub sum-requires-clause-fits : goal.sum-requires-clause-fits
sum-requires-clause-fits c =
    let ws = c.args.ws.now in
    let b : sum ws < 2 ^ 64 = omega (arith, sum_width ws, narrow_width ws c.requires) in
    search (rules, chains)

pub returns : goal.returns
returns c =
    let ws = c.args.ws.now in
    let b : sum ws < 2 ^ 64 = omega (arith, sum_width ws, narrow_width ws c.requires) in
    let e : c.sum.result ≡ sum ws = search (rules, chains) in
    e ∙ sum_width ws
