-- `sets::same_address` meets its contract: octets are the same where their numbers are. Assumes nothing.
use Rattle.std.proofs.Common.{◌∙◌, T, sym, arith}
use Rattle.octets.specs.Octets.{octets}
use Rattle.octets.proofs.Digits.{octets_known}
use Rattle.rules.specs.Layout.{csid_address_at}
use Rattle.sets.proofs.CoverLaws.{address_of, address_later, address_front, address_four}
use Rattle.sets.proofs.same_address.Goals as goal

pub returns-then-read : goal.returns-then-read
returns-then-read c =
    let s = c.args.slot.now in
    let v = c.args.v.now in
    let os : T (octets s) = octets_known s (λ i. (c.type_inv.slot i).fits) in
    let ov : T (octets v) = octets_known v (λ i. (c.type_inv.v i).fits) in
    let n = c.if-n-eq16.true in
    rw (c.read-then-read.ensures.0, c.read-then-read-2.ensures.0, n)
    (address_later s v os ov csid_address_at 1 (omega arith) (omega arith) (sym c.read.ensures.0 ∙ c.if-read.true ∙ c.read-then-n-eq16.ensures.0))

pub returns-else-read : goal.returns-else-read
returns-else-read c =
    let s = c.args.slot.now in
    let v = c.args.v.now in
    let os : T (octets s) = octets_known s (λ i. (c.type_inv.slot i).fits) in
    let ov : T (octets v) = octets_known v (λ i. (c.type_inv.v i).fits) in
    let n = c.if-n-eq16.true in
    rw (c.read.ensures.0, c.read-then-n-eq16.ensures.0, n)
    (address_front s v os ov csid_address_at 1 (omega arith) (omega arith) (λ e. c.if-read.false (c.read.ensures.0 ∙ e ∙ sym c.read-then-n-eq16.ensures.0)))

pub returns-else-n-eq16 : goal.returns-else-n-eq16
returns-else-n-eq16 c =
    let s = c.args.slot.now in
    let v = c.args.v.now in
    let os : T (octets s) = octets_known s (λ i. (c.type_inv.slot i).fits) in
    let ov : T (octets v) = octets_known v (λ i. (c.type_inv.v i).fits) in
    let n = address_four c.args.n c.if-n-eq16.false c.requires.0 in
    rw (c.read-else-n-eq16.ensures.0, c.read-else-n-eq16-2.ensures.0, n)
    (address_of s v os ov csid_address_at 1 4 (omega arith) (omega arith))
