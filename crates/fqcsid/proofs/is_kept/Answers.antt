-- `fqcsid::is_kept` meets its contract, by the arms of its match. Assumes nothing.
use mathlib.Core.Path.{sym}
use native.Mathlib.Omega.{arith}
use borrow.Author.Tests.{lt-ltb, le-ltb}
use Rattle.rules.specs.Elements.{node_type_kept}
use Rattle.fqcsid.proofs.is_kept.Goals as goal

pub returns-in-0-to-5 : goal.returns-in-0-to-5
unfolding node_type_kept
returns-in-0-to-5 c = sym (lt-ltb c.args.node_type 6 (omega arith))

pub returns-in-6-to-15 : goal.returns-in-6-to-15
unfolding node_type_kept
returns-in-6-to-15 c = sym (le-ltb c.args.node_type 6 (omega arith))

pub returns-in_default : goal.returns-in_default
unfolding node_type_kept
returns-in_default c = sym (le-ltb c.args.node_type 6 (omega arith))
