-- `sets::covers_session` meets its contract: it covers one of the slot's FQ-CSIDs. Assumes nothing.
use Rattle.std.proofs.Common.{rules, refl, ◌∙◌}
use native.Mathlib.Omega.{arith}
use Prim.Native.Nat.{ℕ}
use mathlib.Core.List.{List}
use lib.ListN.{length-drop}
use Rattle.rules.specs.Apply.{covers}
use Rattle.rules.specs.Layout.{view_csid}
use Rattle.sets.specs.Listed.{listed_in}
use Rattle.octets.specs.Octets.{octet_at}
use Rattle.octets.specs.Lists.{any}
use Rattle.octets.proofs.Put.{part_from}
use Rattle.plan.proofs.ChainLaws.{any_ran}
use Rattle.sets.proofs.CoverLaws.{covers_any}
use Rattle.sets.proofs.covers_session.Goals as goal

pub arrays-csids-requires : goal.arrays-csids-requires
unfolding octet_at
arrays-csids-requires c = (omega arith, (omega arith, rw (part_from, length-drop) (omega (arith, c.requires.1, c.requires.2))))

pub returns-then-n-eq0 : goal.returns-then-n-eq0
unfolding octet_at any
returns-then-n-eq0 c = covers_any c.args.v.now c.args.slot.now 0 (omega arith)

pub returns : goal.returns
returns c =
    let a = c.args in
    any_ran (λ (csid : List ℕ). covers (listed_in a.v.now) (view_csid csid)) _ _ c.any.result c.any.ensures.ran (search rules) (λ x b q k. search rules) ∙ covers_any _ _ _ refl
