-- `records::names_endpoint` meets its contract.
-- Assumes nothing.
use Rattle.std.proofs.Common.{◌≡◌, [], drop, sym, ◌∙◌}
use Rattle.std.proofs.Math.ListN.{drop_of_length-le}
use Rattle.octets.specs.Lists.{member}
use Rattle.octets.proofs.Bools.{or-false}
use Rattle.records.specs.Kept.{ids_of}
use Rattle.records.proofs.Answers.{found_more}
use Rattle.records.proofs.names_endpoint.Goals as goal

pub loop-end-preserved : goal.loop-end-preserved
loop-end-preserved c = found_more c.args.ends.now c.loop-end.end-index c.args.id c.loop-end.found _ c.loop-end-test.true c.loop-end.invariant

pub returns : goal.returns
unfolding ids_of member
returns c = let none : drop c.loop-end.end-index c.args.ends.now ≡ [] = drop_of_length-le c.args.ends.now {i = c.loop-end.end-index} c.loop-end-test.false in sym (or-false c.loop-end.found) ∙ rw none at c.loop-end.invariant
