-- `restoration::write_elements` meets its contract: the F-SEID, the flags and the records, one after the other.
-- Assumes nothing.
use mathlib.Core.Path.{◌∙◌}
use mathlib.Core.List.{[], ◌∷◌}
use native.Mathlib.Omega.{arith}
use Rattle.rules.specs.Layout.{view_session}
use Rattle.unit.specs.Meaning.{settings_of}
use Rattle.rules.specs.Types as ie
use Rattle.restoration.proofs.SlotSteps.{length_own, length_content, content_steps, slot_seid}
use Rattle.writing.proofs.PlacedLaws.{length_element}
use Rattle.restoration.proofs.write_elements.Goals as goal

pub write_fseid-own-requires : goal.write_fseid-own-requires
write_fseid-own-requires c =
    let s = c in
    let a = c.args in
    let l = length_content (settings_of a.u) (view_session a.slot.now) a.ipv4.now a.ipv6.now in
    let m = length_own c.read-seid.result a.ipv4.now a.ipv6.now in
    omega (arith, c.requires.1)

pub write_value-next-requires : goal.write_value-next-requires
write_value-next-requires c =
    let s = c in
    let a = c.args in
    let l = length_content (settings_of a.u) (view_session a.slot.now) a.ipv4.now a.ipv6.now in
    let m = length_own c.read-seid.result a.ipv4.now a.ipv6.now in
    let w = c.write_fseid-own in
    omega (arith, c.requires.1, w.ensures.ends, w.auto.out)

pub write_records-requires : goal.write_records-requires
write_records-requires c =
    let s = c in
    let a = c.args in
    let l = length_content (settings_of a.u) (view_session a.slot.now) a.ipv4.now a.ipv6.now in
    let m = length_own c.read-seid.result a.ipv4.now a.ipv6.now in
    let w = c.write_fseid-own in
    let v = c.write_value-next in
    (c.requires.0, omega (arith, c.requires.1, w.ensures.ends, v.ensures.ends, w.auto.out, v.auto.out, length_element ie.session_flags (1 ∷ [])))

pub returns : goal.returns
returns c =
    let s = c in
    let a = c.args in
    let w = c.write_fseid-own in
    content_steps (settings_of a.u) (view_session a.slot.now) a.ipv4.now a.ipv6.now c.read-seid.result a.out.now c.requires.1 (c.read-seid.ensures.0 ∙ slot_seid a.slot.now) w.ensures c.write_value-next.ensures c.write_records.ensures w.auto.out
