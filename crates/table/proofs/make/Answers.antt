-- `table::make` meets its contract.
-- Assumes nothing.
use mathlib.Core.Path.{refl, ap, ◌∙◌}
use lib.Dec.{T}
use lib.ListN.{length}
use Rattle.octets.specs.Octets.{octets}
use Rattle.octets.proofs.Numbers.{length_zeros}
use Rattle.octets.proofs.Digits.{octets_known}
use Rattle.rules.specs.Model.{Settings}
use Rattle.rules.specs.Layout.{settings_width}
use Rattle.unit.specs.Meaning.{peer_from}
use Rattle.table.proofs.MakeLaws.{make_length, make_address, address_good, make_settings, make_made, front_cleared, encoded_empty}
use Rattle.table.proofs.make.Goals as goal

pub returns-then-t-n : goal.returns-then-t-n
returns-then-t-n c =
    let g = c.args in
    let o : T (octets g.ipv6.now) = octets_known g.ipv6.now (λ i. (c.type_inv.ipv6 i).fits) in
    make_length g.ipv4 g.first g.size g.address g.count g.limit (peer_from g.peer1) (peer_from g.peer2) g.ipv6.now g.t.now o c.if-t-n.true

pub returns-then-not-address_fits : goal.returns-then-not-address_fits
returns-then-not-address_fits c =
    let g = c.args in
    let o : T (octets g.ipv6.now) = octets_known g.ipv6.now (λ i. (c.type_inv.ipv6 i).fits) in
    make_address g.ipv4 g.first g.size g.address g.count g.limit (peer_from g.peer1) (peer_from g.peer2) g.ipv6.now g.t.now o c.address_fits.result c.address_fits.ensures c.if-not-address_fits.true-raw

pub given-u-requires : goal.given-u-requires
given-u-requires c =
    let g = c.args in
    let o : T (octets g.ipv6.now) = octets_known g.ipv6.now (λ i. (c.type_inv.ipv6 i).fits) in
    address_good g.ipv4 g.first g.size g.address g.count g.limit (peer_from g.peer1) (peer_from g.peer2) g.ipv6.now g.t.now o c.address_fits.result c.address_fits.ensures c.if-not-address_fits.false-raw

pub returns-then-not-allowed : goal.returns-then-not-allowed
returns-then-not-allowed c =
    let g = c.args in
    let o : T (octets g.ipv6.now) = octets_known g.ipv6.now (λ i. (c.type_inv.ipv6 i).fits) in
    make_settings g.ipv4 g.first g.size g.address g.count g.limit (peer_from g.peer1) (peer_from g.peer2) g.ipv6.now g.t.now o _ c.given-u.ensures c.allowed.result c.allowed.ensures c.if-not-allowed.true-raw

pub write-requires : goal.write-requires
write-requires c =
    let g = c.args in
    let zero = front_cleared g.limit _ g.t.now c.clear.new.s refl c.if-t-n.false c.clear.ensures in
    (zero, ap length zero ∙ length_zeros settings_width)

pub returns : goal.returns
returns c =
    let g = c.args in
    let o : T (octets g.ipv6.now) = octets_known g.ipv6.now (λ i. (c.type_inv.ipv6 i).fits) in
    let long = c.if-t-n.false in
    make_made g.ipv4 g.first g.size g.address g.count g.limit (peer_from g.peer1) (peer_from g.peer2) g.ipv6.now g.t.now o _ c.given-u.ensures c.allowed.result c.allowed.ensures c.if-not-allowed.false-raw long _
    (encoded_empty g.limit _ g.t.now c.clear.new.s refl long c.clear.ensures _ c.write.new.slot
    (ap (λ (x : Settings). x.limit) c.given-u.ensures) c.write.ensures)
