-- `stages::judge` meets its contract. Assumes nothing.
use Rattle.std.proofs.Common.{refl, arith}
use Rattle.unit.proofs.FieldLaws.{size_is, addresses_is}
use Rattle.stages.proofs.VerdictLaws.{chain, verdict_is}
use Rattle.stages.proofs.judge.Goals as goal

pub breaks_rule-requires : goal.breaks_rule-requires
breaks_rule-requires c =
    (omega (arith, c.requires.wide, size_is c.args.k.u _ refl), c.requires.place, rw c.rows-rows.ensures c.requires.removed, omega (arith, c.requires.wide_addresses, addresses_is c.args.k.u _ refl))

pub returns-then-already_live : goal.returns-then-already_live
unfolding chain
returns-then-already_live c = let v = verdict_is c.requires in grind (arith, v)

pub returns-then-invalid_allocation : goal.returns-then-invalid_allocation
unfolding chain
returns-then-invalid_allocation c = let v = verdict_is c.requires in grind (arith, v)

pub returns-then-unsupported : goal.returns-then-unsupported
unfolding chain
returns-then-unsupported c = let v = verdict_is c.requires in grind (arith, v)

pub returns-then-breaks_rule : goal.returns-then-breaks_rule
unfolding chain
returns-then-breaks_rule c = let v = verdict_is c.requires in grind (arith, v)

pub returns-then-no_room : goal.returns-then-no_room
unfolding chain
returns-then-no_room c = let v = verdict_is c.requires in grind (arith, v)

pub returns-then-no_address : goal.returns-then-no_address
unfolding chain
returns-then-no_address c = let v = verdict_is c.requires in grind (arith, v)

pub returns : goal.returns
unfolding chain
returns c = let v = verdict_is c.requires in grind (arith, v)
