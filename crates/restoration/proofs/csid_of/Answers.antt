-- `restoration::csid_of` meets its contract: the numbers of the slot's fields. Assumes nothing.
use native.Mathlib.Omega.{arith}
use lib.Dec.{T}
use Rattle.rules.specs.Layout.{csid_id_type_at}
use Rattle.octets.specs.Octets.{octets}
use Rattle.octets.proofs.Digits.{octets_known}
use Rattle.restoration.proofs.RecordSteps.{low_narrow, csid_of_lem}
use Rattle.restoration.proofs.csid_of.Goals as goal

pub overflow_cast-id_type : goal.overflow_cast-id_type
overflow_cast-id_type c = omega (arith, c.type_inv.csid csid_id_type_at)

pub overflow_mul-half : goal.overflow_mul-half
overflow_mul-half c = omega (arith, c.address_length-n.ensures.1)

pub read-high-requires : goal.read-high-requires
read-high-requires c = (omega (arith, c.requires.0, c.address_length-n.ensures.1), omega (arith, c.address_length-n.ensures.1))

pub read-low-requires : goal.read-low-requires
read-low-requires c =
    let n = c.address_length-n.ensures in
    (omega (arith, c.requires.0, n.1), low_narrow _ _ n.0)

pub overflow_cast-result : goal.overflow_cast-result
overflow_cast-result c = omega (arith, c.type_inv.csid 0)

pub returns : goal.returns
returns c =
    let s = c in
    let known = c.type_inv.csid in
    let o : T (octets c.args.csid.now) = octets_known c.args.csid.now (λ i. (known i).fits) in
    csid_of_lem c.args.csid.now c.requires.0 o _ _ _ _ (known 0).fits c.requires.1 c.address_length-n.ensures.0 c.read-high.ensures.0 c.read-low.ensures.0 c.read-one.ensures.0
