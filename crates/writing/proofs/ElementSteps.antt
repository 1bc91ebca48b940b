-- What the writers of single elements leave: for each, from what its calls and stores leave. Assumes nothing.
use Rattle.std.specs.Prelude.{Option, Some, None}
use Rattle.std.specs.Option as std
use Rattle.unit.specs.declared.Ipv6.{Ipv6}
use Rattle.unit.proofs.FieldLaws.{ipv6_there}
use mathlib.Core.Path.{◌≡◌, refl, sym, ap, ap₂, ◌∙◌}
use mathlib.Core.Bool.{Bool, true, false, not, ◌&&◌, ◌||◌}
use mathlib.Core.Option.{some}
use mathlib.Core.List.{List, [], ◌∷◌, ◌++◌, append_assoc}
use Prim.Native.Nat.{ℕ, zero, suc, ◌+◌, ◌-◌, ◌*◌, ◌/◌, ◌%◌, ◌≤◌, ◌<◌}
use native.Mathlib.Omega.{arith}
use borrow.Author.Tests.{eq-eqb, ne_eqb}
use lib.Dec.{eqb}
use lib.ListN.{length, set, length-append}
use Rattle.octets.specs.Choice.{pick, flag, is_nil}
use Rattle.octets.specs.Octets.{put, be, bit}
use Rattle.octets.specs.Fields.{width_of, field_octets}
use Rattle.octets.proofs.Numbers.{length_be}
use Rattle.octets.proofs.Put.{set_put, put_front, next_put, next_set, put_whole}
use Rattle.octets.proofs.FieldLaws.{length_field_octets}
use Rattle.element.proofs.FlagLaws.{bit_number, bit_first}
use Rattle.rules.specs.Model.{Settings}
use Rattle.rules.specs.Elements.{given, fteid_octets, unit_fteid, ue_given, ue_octets, fseid_octets}
use Rattle.rules.specs.Reply.{element, message, node_id_element, offending_element, unit_fseid, unit_element, address_part, list_message}
use Rattle.rules.specs.Types as ie
use Rattle.rules.specs.Message.{establishment, set_deletion, first_with_seid, first_without_seid, counted_place, body_place, list_place}
use Rattle.fteid.specs.Meaning.{fteid_widths}
use Rattle.fteid.proofs.ValueLaws.{six, octets_given}
use Rattle.ue_ip.proofs.ValueLaws.{length_given}
use Rattle.fseid.proofs.ValueLaws.{length_fseid}
use Rattle.unit.specs.declared.Settings.{Settings as Unit}
use Rattle.unit.specs.Meaning.{ipv6_octets, settings_of}
use Rattle.writing.specs.Families.{families_written, unit_addresses, tunnel_in}
use Rattle.writing.specs.Placed.{Placed}
use Rattle.writing.specs.Heads.{message_head, list_head}
use Rattle.writing.proofs.PlacedLaws.{length_element, placed_none, placed_element}

pub head_steps : (kind n at : ℕ) (s : List ℕ) {s₁ s₂ : List ℕ} → at + 4 ≤ length s → s₁ ≡ put at (be 2 kind) s → s₂ ≡ put (at + 2) (be 2 n) s₁
    → s₂ ≡ put at (be 2 kind ++ be 2 n) s
head_steps kind n at s h p q = next_put at (at + 2) (be 2 kind) (be 2 n) s p q (omega (arith, length_be 2 kind)) (omega arith)

-- ---- elements of given octets, and of a number

module _ (kind at : ℕ) (s : List ℕ) {s₁ s₂ : List ℕ} where
  pub value_steps : (v : List ℕ) → at + 4 + length v ≤ length s → s₁ ≡ put (at + 4) v s → s₂ ≡ put at (be 2 kind ++ be 2 (length v)) s₁
      → Placed s at (element kind v) (at + 4 + length v) s₂
  value_steps v h p q = placed_element kind at (at + 4) (length v) (at + 4 + length v) v s refl (omega arith) refl refl p q

  pub number_steps : (w n : ℕ) → at + 4 + w ≤ length s → s₁ ≡ put (at + 4) (be w n) s → s₂ ≡ put at (be 2 kind ++ be 2 w) s₁
      → Placed s at (element kind (be w n)) (at + 4 + w) s₂
  number_steps w n h p q =
      let l = length_be w n in
      placed_element kind at (at + 4) w (at + 4 + w) (be w n) s refl (omega arith) (omega arith) (sym l) p q

pub offending_steps : (t at e : ℕ) (s : List ℕ) {s₁ : List ℕ} → Placed s at (element ie.offending_ie (be 2 t)) e s₁ → Placed s at (offending_element (some t)) e s₁
unfolding offending_element
offending_steps t at e s p = p

-- ---- F-SEID

pub fseid_steps : (seid at e : ℕ) (a b s : List ℕ) {s₁ s₂ : List ℕ} → at + 13 + length a + length b ≤ length s → e ≡ at + 4 + 9 + length a + length b
    → s₁ ≡ put (at + 4) (fseid_octets seid a b) s → s₂ ≡ put at (be 2 ie.fseid ++ be 2 (e - (at + 4))) s₁
    → Placed s at (element ie.fseid (fseid_octets seid a b)) e s₂
fseid_steps seid at e a b s h g p q =
    let l = length_fseid seid a b in
    placed_element ie.fseid at (at + 4) (e - (at + 4)) e (fseid_octets seid a b) s refl (omega arith) (omega arith) (omega arith) p q

-- ---- elements with the peer's signalling address

module _ (kind at home : ℕ) (s : List ℕ) where
  pub node_not : {b : Bool} → b ≡ (eqb kind establishment || eqb kind set_deletion) → b ≡ false → Placed s at (node_id_element kind home) at s
  unfolding node_id_element
  node_not e n = rw (← e, n) (placed_none s at)

  pub own_not : (seid : ℕ) → (kind ≡ establishment → ⊥) → Placed s at (unit_fseid kind home seid) at s
  unfolding unit_fseid
  own_not seid k = rw (ne_eqb kind establishment k) (placed_none s at)

  abbrev ipv4 : List ℕ
  ipv4 = be 4 home

  pub node_steps : {b : Bool} → b ≡ (eqb kind establishment || eqb kind set_deletion) → b ≡ true → (a : List ℕ) {e : ℕ} {s₁ : List ℕ} → a ≡ put 1 ipv4 (0 ∷ 0 ∷ 0 ∷ 0 ∷ 0 ∷ [])
      → Placed s at (element ie.node_id a) e s₁ → Placed s at (node_id_element kind home) e s₁
  unfolding node_id_element put be
  node_steps e y a q p = rw (← e, y, ← q) p

  pub own_steps : kind ≡ establishment → (seid : ℕ) (a₀ a : List ℕ) {e : ℕ} {s₁ : List ℕ} → length a₀ ≡ 4 → a ≡ put 0 ipv4 a₀ → Placed s at (element ie.fseid (fseid_octets seid a [])) e s₁ → Placed s at (unit_fseid kind home seid) e s₁
  unfolding unit_fseid
  own_steps k seid a₀ a l q p = rw (eq-eqb kind establishment k, ← put_whole ipv4 a₀ (omega (arith, length_be 4 home)), ← q) p

-- ---- F-TEID

-- how many octets an F-TEID with a TEID takes
widths_of_lem : (f : ℕ) → f < 4 → width_of (fteid_widths f) ≡ 5 + (4 * (f % 2) + 16 * (f / 2))
unfolding fteid_widths bit
widths_of_lem zero h = refl
widths_of_lem (suc zero) h = refl
widths_of_lem (suc (suc zero)) h = refl
widths_of_lem (suc (suc (suc zero))) h = refl
widths_of_lem (suc (suc (suc (suc f)))) h = let no : ⊥ = omega arith in absurd no

-- with the unit's addresses: which there are, by their flags
module _ (v : Unit) (families : ℕ) where
  abbrev st : Settings
  st = settings_of v

  six_there : (not (is_nil st.ipv6)) ≡ std.is_some v.ipv6
  six_there = ipv6_there v

  pub families_without : std.is_some v.ipv6 ≡ false → (families % 2 ≡ families_written st families) × (families % 2 < 4)
  unfolding families_written settings_of be
  families_without z = (rw (six_there, z) (plain (bit 0 families) (bit 1 families) (bit_first families)), omega arith)
    where
      plain : (p q : Bool) → flag p ≡ families % 2 → families % 2 ≡ flag (p && true) + 2 * flag (q && false)
      plain true true e = sym e
      plain true false e = sym e
      plain false true e = sym e
      plain false false e = sym e

  pub families_with : std.is_some v.ipv6 ≡ true → (families % 4 ≡ families_written st families) × (families % 4 < 4)
  unfolding families_written settings_of be
  families_with z = (rw (six_there, z) (plain (bit 0 families) (bit 1 families) (bit_first families) (bit_number 1 families)), omega arith)
    where
      plain : (p q : Bool) → flag p ≡ families % 2 → flag q ≡ families / 2 % 2 → families % 4 ≡ flag (p && true) + 2 * flag (q && true)
      plain true true e g = omega arith
      plain true false e g = omega arith
      plain false true e g = omega arith
      plain false false e g = omega arith

  abbrev has : ℕ
  has = families_written st families

  has_small : has < 4
  unfolding families_written
  has_small = by (bit 0 families && not (is_nil st.ipv4)) (bit 1 families && not (is_nil st.ipv6))
    where
      by : (p q : Bool) → flag p + 2 * flag q < 4
      by true true = omega arith
      by true false = omega arith
      by false true = omega arith
      by false false = omega arith

  module _ (teid : ℕ) where
    -- the address, zeros where there is none
    abbrev six_of : Option Ipv6 → Ipv6
    six_of z = std.unwrap_or z (record { high = 0; low = 0 })

    abbrev high : ℕ
    high = (six_of v.ipv6).high

    abbrev low : ℕ
    low = (six_of v.ipv6).low

    -- the value's octets are the fields of the unit's numbers
    unit_value : fteid_octets (unit_fteid st (tunnel_in teid families)) ≡ field_octets (fteid_widths has) (has ∷ teid ∷ v.ipv4 ∷ high ∷ low ∷ 0 ∷ [])
    unfolding unit_fteid tunnel_in families_written settings_of be fteid_widths bit
    unit_value = by (bit 0 families) (bit 1 families) v.ipv6
      where
        by : (p q : Bool) (z : Option Ipv6) → fteid_octets (given teid (pick p (be 4 v.ipv4) []) (pick q (ipv6_octets z) []))
            ≡ field_octets (fteid_widths (flag (p && true) + 2 * flag (q && not (is_nil (ipv6_octets z)))))
            ((flag (p && true) + 2 * flag (q && not (is_nil (ipv6_octets z)))) ∷ teid ∷ v.ipv4 ∷ (six_of z).high ∷ (six_of z).low ∷ 0 ∷ [])
        by true true (Some a) = octets_given true true 3 teid v.ipv4 a.high a.low 0 refl
        by true true None = octets_given true false 1 teid v.ipv4 0 0 0 refl
        by true false z = octets_given true false 1 teid v.ipv4 (six_of z).high (six_of z).low 0 refl
        by false true (Some a) = octets_given false true 2 teid v.ipv4 a.high a.low 0 refl
        by false true None = octets_given false false 0 teid v.ipv4 0 0 0 refl
        by false false z = octets_given false false 0 teid v.ipv4 (six_of z).high (six_of z).low 0 refl

    length_value : length (fteid_octets (unit_fteid st (tunnel_in teid families))) ≡ 5 + unit_addresses st families
    length_value =
        ap length unit_value ∙ length_field_octets (fteid_widths has) (has ∷ teid ∷ v.ipv4 ∷ high ∷ low ∷ 0 ∷ []) (sym (six has)) ∙ widths_of_lem has has_small

    pub length_unit : length (unit_element st (tunnel_in teid families)) ≡ 9 + unit_addresses st families
    unfolding unit_element
    length_unit = rw (length_element, length_value) (omega arith)

    -- f the families as the code has them
    module _ (f : ℕ) (is : f ≡ has) where
      pub fteid_room : (at n : ℕ) → at + 9 + unit_addresses st families ≤ n → at + 4 + width_of (fteid_widths f) ≤ n
      fteid_room at n h = omega (arith, ap (λ (k : ℕ). width_of (fteid_widths k)) is ∙ widths_of_lem has has_small)

      pub fteid_steps : (at e : ℕ) (s : List ℕ) {s₁ s₂ : List ℕ} (a : Ipv6) → a ≡ six_of v.ipv6 → at + 9 + unit_addresses st families ≤ length s → e ≡ at + 4 + width_of (fteid_widths f)
          → s₁ ≡ put (at + 4) (field_octets (fteid_widths f) (f ∷ teid ∷ v.ipv4 ∷ a.high ∷ a.low ∷ 0 ∷ [])) s → s₂ ≡ put at (be 2 ie.fteid ++ be 2 (e - (at + 4))) s₁
          → Placed s at (unit_element st (tunnel_in teid families)) e s₂
      unfolding unit_element
      fteid_steps at e s {s₁} a is_six h g p q =
          let x : List ℕ = fteid_octets (unit_fteid st (tunnel_in teid families)) in
          let l : length x ≡ width_of (fteid_widths f) = length_value ∙ sym (ap (λ (k : ℕ). width_of (fteid_widths k)) is ∙ widths_of_lem has has_small) in
          let w : s₁ ≡ put (at + 4) x s = rw (unit_value, ← is) (rw is_six at p) in
          placed_element ie.fteid at (at + 4) (e - (at + 4)) e x s refl (omega arith) (omega arith) (omega arith) w q

-- ---- UE IP Address

pub length_ue : (address : ℕ) → length (address_part (some address)) ≡ 9
unfolding address_part
length_ue address = rw length_element (omega (arith, length_given address))

pub ue_steps : (address at e : ℕ) (s : List ℕ) {s₁ s₂ : List ℕ} → at + 9 ≤ length s → e ≡ at + 4 + 5 → s₁ ≡ put (at + 4) (ue_octets (ue_given address)) s
    → s₂ ≡ put at (be 2 ie.ue_ip_address ++ be 2 (e - (at + 4))) s₁ → Placed s at (address_part (some address)) e s₂
unfolding address_part
ue_steps address at e s h g p q =
    let l = length_given address in
    placed_element ie.ue_ip_address at (at + 4) (e - (at + 4)) e (ue_octets (ue_given address)) s refl (omega arith) (omega arith) (omega arith) p q

-- ---- a message's header

-- version and flags, kind and length
module _ (flags kind n : ℕ) (out : List ℕ) {out₁ : List ℕ} (room : 8 ≤ length out) (p : out₁ ≡ put 2 (be 2 n) (set (set out 0 flags) 1 kind)) where
  abbrev front : List ℕ
  front = flags ∷ kind ∷ be 2 n

  four : length front ≡ 4
  four = ap (λ (k : ℕ). suc (suc k)) (length_be 2 n)

  front_steps : out₁ ≡ put 0 front out
  front_steps =
      next_put 0 2 (flags ∷ kind ∷ []) (be 2 n) out (next_set 0 1 (flags ∷ []) kind out (set_put 0 flags out (omega arith)) refl (omega arith)) p refl (omega arith)

pub header_steps : (kind seid n : ℕ) (q out : List ℕ) {out₁ out₂ out₃ : List ℕ} → length q ≡ 3 → body_place ≤ length out
    → out₁ ≡ put 2 (be 2 (body_place - counted_place + n)) (set (set out 0 first_with_seid) 1 kind) → out₂ ≡ put counted_place (be 8 seid) out₁ → out₃ ≡ put 12 q out₂
    → set out₃ 15 0 ≡ put 0 (message_head kind seid q n) out
unfolding message_head
header_steps kind seid n q out three room p r w =
    let a : List ℕ = first_with_seid ∷ kind ∷ be 2 (body_place - counted_place + n) in
    let l : length a ≡ 4 = four first_with_seid kind (body_place - counted_place + n) out (omega arith) p in
    let eight = length_be 8 seid in
    let first = next_put 0 4 a (be 8 seid) out (front_steps first_with_seid kind (body_place - counted_place + n) out (omega arith) p) r (omega arith) (omega arith) in
    let m : length (a ++ be 8 seid) ≡ 12 = length-append a (be 8 seid) ∙ omega arith in
    let second = next_put 0 12 (a ++ be 8 seid) q out first w (omega arith) (omega arith) in
    let k : length ((a ++ be 8 seid) ++ q) ≡ 15 = length-append (a ++ be 8 seid) q ∙ omega arith in
    next_set 0 15 ((a ++ be 8 seid) ++ q) 0 out second (omega arith) (omega arith) ∙ ap (λ (xs : List ℕ). put 0 xs out) (simp append_assoc)

-- a message is its header and its elements
pub message_headed : (kind seid : ℕ) (q xs : List ℕ) → message kind seid q xs ≡ message_head kind seid q (length xs) ++ xs
unfolding message message_head
message_headed kind seid q xs = simp append_assoc

pub length_head : (kind seid : ℕ) (q : List ℕ) (n : ℕ) → length q ≡ 3 → length (message_head kind seid q n) ≡ body_place
unfolding message_head
length_head kind seid q n e =
    omega (arith, length-append (be 2 (body_place - counted_place + n)) (be 8 seid ++ (q ++ 0 ∷ [])), length-append (be 8 seid) (q ++ 0 ∷ []), length-append q (0 ∷ []), length_be 2 (body_place - counted_place + n), length_be 8 seid)

-- elements from octet 16 on with the header before them are the message
pub placed_message : (kind seid : ℕ) (q xs out : List ℕ) {out₁ out₂ : List ℕ} {end : ℕ} → length q ≡ 3 → body_place + length xs ≤ length out
    → Placed out body_place xs end out₁ → out₂ ≡ put 0 (message_head kind seid q (end - body_place)) out₁ → Placed out 0 (message kind seid q xs) end out₂
placed_message kind seid q xs out {out₁} {out₂} {end} three room p r =
    let ends = p.ends in
    let n : end - body_place ≡ length xs = omega arith in
    let head : List ℕ = message_head kind seid q (length xs) in
    let l : length head ≡ body_place = length_head kind seid q (length xs) three in
    let place : body_place ≡ 0 + length head = omega arith in
    rw (message_headed kind seid q xs)
    (record {
      ends = let k = length-append head xs in omega arith;
      holds =
          r ∙ ap₂ (λ (m : ℕ) (o : List ℕ). put 0 (message_head kind seid q m) o) n (p.holds ∙ ap (λ (m : ℕ). put m xs out) place)
          ∙ put_front 0 head xs out (omega arith);
    })

-- ---- the same without a SEID

pub list_steps : (kind n : ℕ) (q out : List ℕ) {out₁ out₂ : List ℕ} → length q ≡ 3 → list_place ≤ length out
    → out₁ ≡ put 2 (be 2 (list_place - counted_place + n)) (set (set out 0 first_without_seid) 1 kind) → out₂ ≡ put counted_place q out₁
    → set out₂ 7 0 ≡ put 0 (list_head kind q n) out
unfolding list_head
list_steps kind n q out three room p r =
    let a : List ℕ = first_without_seid ∷ kind ∷ be 2 (list_place - counted_place + n) in
    let l : length a ≡ 4 = four first_without_seid kind (list_place - counted_place + n) out room p in
    let first = next_put 0 4 a q out (front_steps first_without_seid kind (list_place - counted_place + n) out room p) r (omega arith) (omega arith) in
    let m : length (a ++ q) ≡ 7 = length-append a q ∙ omega arith in
    next_set 0 7 (a ++ q) 0 out first (omega arith) (omega arith) ∙ ap (λ (xs : List ℕ). put 0 xs out) (simp append_assoc)

list_headed : (kind : ℕ) (q xs : List ℕ) → list_message kind q xs ≡ list_head kind q (length xs) ++ xs
unfolding list_message list_head
list_headed kind q xs = simp append_assoc

length_list_head : (kind : ℕ) (q : List ℕ) (n : ℕ) → length q ≡ 3 → length (list_head kind q n) ≡ list_place
unfolding list_head
length_list_head kind q n e = omega (arith, length-append (be 2 (list_place - counted_place + n)) (q ++ 0 ∷ []), length-append q (0 ∷ []), length_be 2 (list_place - counted_place + n))

-- elements from octet 8 on with the header before them are the message
pub placed_list : (kind : ℕ) (q xs out : List ℕ) {out₁ out₂ : List ℕ} {end : ℕ} → length q ≡ 3 → list_place + length xs ≤ length out
    → Placed out list_place xs end out₁ → out₂ ≡ put 0 (list_head kind q (end - list_place)) out₁ → Placed out 0 (list_message kind q xs) end out₂
placed_list kind q xs out {out₁} {out₂} {end} three room p r =
    let ends = p.ends in
    let n : end - list_place ≡ length xs = omega arith in
    let head : List ℕ = list_head kind q (length xs) in
    let l : length head ≡ list_place = length_list_head kind q (length xs) three in
    let place : list_place ≡ 0 + length head = omega arith in
    rw (list_headed kind q xs)
    (record {
      ends = let k = length-append head xs in omega arith;
      holds =
          r ∙ ap₂ (λ (m : ℕ) (o : List ℕ). put 0 (list_head kind q m) o) n (p.holds ∙ ap (λ (m : ℕ). put m xs out) place)
          ∙ put_front 0 head xs out (omega arith);
    })
