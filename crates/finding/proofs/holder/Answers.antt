-- `finding::holder` meets its contract: what is left of the sessions gives the same answer.
-- Assumes nothing.
use mathlib.Core.Path.{refl}
use native.Mathlib.Omega.{arith}
use borrow.Author.Rules.{rules}
use Rattle.rules.specs.Finding.{holder_place}
use Rattle.table.proofs.SoundSlots.{table_long_lem, within_limit, few_sessions_lem}
use Rattle.finding.proofs.Steps.{slot_counted, holder_here, holder_later, holder_none}
use Rattle.finding.proofs.holder.Goals as goal

pub loop-i-init : goal.loop-i-init
unfolding holder_place
loop-i-init c =
    let s = c in
    let t = c.args.t.now in
    (omega arith, omega (arith, few_sessions_lem t c.requires.0, c.requires.1), omega (arith, within_limit t c.requires.0, c.requires.1), table_long_lem t c.requires.0, refl)

pub slot_holds-requires : goal.slot_holds-requires
slot_holds-requires c = search slot_counted

pub returns-then-slot_holds : goal.returns-then-slot_holds
returns-then-slot_holds c = search holder_here

pub loop-i-preserved : goal.loop-i-preserved
loop-i-preserved c = (omega arith, search rules, search rules, search rules, search holder_later)

pub returns : goal.returns
returns c = search holder_none
