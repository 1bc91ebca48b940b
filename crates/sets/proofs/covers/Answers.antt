-- `sets::covers` meets its contract: each test in turn. Assumes nothing.
use mathlib.Core.Path.{refl}
use native.Mathlib.Omega.{arith}
use lib.Dec.{T}
use borrow.Author.Tests.{not-true, not-false}
use Rattle.octets.specs.Octets.{octets}
use Rattle.octets.proofs.Digits.{octets_known}
use Rattle.sets.proofs.CoverLaws.{address_octets, other_node_lem, other_type, other_address_lem, by_csid}
use Rattle.sets.proofs.covers.Goals as goal

pub overflow_cast-v : goal.overflow_cast-v
overflow_cast-v c = omega (arith, c.type_inv.v 0)

pub bounds-v-a : goal.bounds-v-a
bounds-v-a c = let l = c.requires.0.long in let e = c.address_length-a.ensures.0 in omega arith

pub returns-then-v-a : goal.returns-then-v-a
returns-then-v-a c = let o : T (octets c.args.slot.now) = octets_known c.args.slot.now (λ i. (c.type_inv.slot i).fits) in other_node_lem c.args.v.now c.args.slot.now c.requires.1 o _ c.address_length-a.ensures.0 c.if-v-a.true

pub returns-then-v-slot : goal.returns-then-v-slot
returns-then-v-slot c = let o : T (octets c.args.slot.now) = octets_known c.args.slot.now (λ i. (c.type_inv.slot i).fits) in other_type c.args.v.now c.args.slot.now c.requires.1 o _ c.address_length-a.ensures.0 c.if-v-a.false c.if-v-slot.true

pub same_address-requires : goal.same_address-requires
same_address-requires c = let l = c.requires.0.long in let e = c.address_length-a.ensures in (address_octets _ _ c.address_length-a.ensures.0, omega arith, omega arith)

pub returns-then-not-same_address : goal.returns-then-not-same_address
returns-then-not-same_address c = let o : T (octets c.args.slot.now) = octets_known c.args.slot.now (λ i. (c.type_inv.slot i).fits) in other_address_lem c.args.v.now c.args.slot.now c.requires.1 o _ c.address_length-a.ensures.0 c.if-v-a.false c.if-v-slot.false _ c.same_address.ensures (not-true _ c.if-not-same_address.true-raw)

pub slice_bounds-has_csid-count : goal.slice_bounds-has_csid-count
slice_bounds-has_csid-count c = let l = c.requires.0.long in let e = c.address_length-a.ensures.0 in omega arith

pub slice_bounds-has_csid-start : goal.slice_bounds-has_csid-start
slice_bounds-has_csid-start c = let l = c.requires.0.long in let e = c.address_length-a.ensures.0 in omega arith

pub has_csid-requires : goal.has_csid-requires
has_csid-requires c = let l = c.requires.0.long in let e = c.address_length-a.ensures.0 in omega arith

pub returns : goal.returns
returns c = let o : T (octets c.args.slot.now) = octets_known c.args.slot.now (λ i. (c.type_inv.slot i).fits) in by_csid c.args.v.now c.args.slot.now c.requires.1 o _ c.address_length-a.ensures.0 c.if-v-a.false c.if-v-slot.false _ c.same_address.ensures (not-false _ c.if-not-same_address.false-raw) _ _ _ refl c.read.ensures.0 refl c.has_csid.ensures
