-- `restoration::write_far` meets its contract: nothing, or the FAR ID.
-- Assumes nothing.
use lib.Dec.{T}
use native.Mathlib.Omega.{arith}
use Rattle.rules.specs.Layout.{far_id_at}
use Rattle.octets.specs.Octets.{octets}
use Rattle.octets.proofs.Digits.{octets_known}
use Rattle.restoration.proofs.RecordSteps.{far_some, far_none_steps, far_some_steps}
use Rattle.writing.proofs.PlacedLaws.{length_element}
use Rattle.octets.specs.Octets.{part}
use Rattle.rules.specs.Types as ie
use Rattle.restoration.proofs.write_far.Goals as goal

pub returns-then-pdr-eq0 : goal.returns-then-pdr-eq0
returns-then-pdr-eq0 c = search far_none_steps

pub write_value-requires : goal.write_value-requires
write_value-requires c =
    let s = c in
    let xs = c.args.pdr.now in
    let o : T (octets xs) = octets_known xs (λ i. (c.type_inv.pdr i).fits) in
    omega (arith, rw (far_some xs c.requires.0 c.args.at c.args.out.now o c.if-pdr-eq0.false) at c.requires.1, length_element ie.far_id (part far_id_at 4 xs))

pub returns : goal.returns
returns c =
    let s = c in
    let o : T (octets c.args.pdr.now) = octets_known c.args.pdr.now (λ i. (c.type_inv.pdr i).fits) in
    search far_some_steps
