-- `restoration::has_address` meets its contract: whole addresses, and one at least.
-- Assumes nothing.
use Rattle.std.proofs.Common.{sym, ◌∙◌}
use Rattle.octets.proofs.Digits.{octets_known}
use Rattle.restoration.proofs.KindLaws.{address_v4, address_v6, address_one}
use Rattle.restoration.proofs.has_address.Goals as goal
use Rattle.restoration.proofs.has_address.Goals.{then-address_fits, else-address_fits}

pub returns-then-address_fits-2 : goal.returns-then-address_fits-2
returns-then-address_fits-2 c =
    let p = octets_known c.args.ipv4.now (λ i. (c.type_inv.ipv4 i).fits) in
    let q = octets_known c.args.ipv6.now (λ i. (c.type_inv.ipv6 i).fits) in
    elim c.if-address_fits.branch [
      | then-address_fits w ↦
          address_one _ _ p q _ c.address_fits.ensures w.if-address_fits.true _ w.address_fits-then-address_fits.ensures (sym w.value-is ∙ c.if-address_fits-2.true)
      | else-address_fits w ↦ cc
    ]

pub returns-else-address_fits-2 : goal.returns-else-address_fits-2
returns-else-address_fits-2 c =
    let p = octets_known c.args.ipv4.now (λ i. (c.type_inv.ipv4 i).fits) in
    let q = octets_known c.args.ipv6.now (λ i. (c.type_inv.ipv6 i).fits) in
    elim c.if-address_fits.branch [
      | then-address_fits w ↦ c.if-address_fits-2.false ∙ address_v6 _ _ p q _ c.address_fits.ensures w.if-address_fits.true _ w.address_fits-then-address_fits.ensures (sym w.value-is ∙ c.if-address_fits-2.false)
      | else-address_fits w ↦ c.if-address_fits-2.false ∙ address_v4 _ _ p q _ c.address_fits.ensures w.if-address_fits.false
    ]
