-- What the writers of created groups leave: one group, the group of one grant, and a turn of the pass over the rows.
-- Assumes nothing.
use mathlib.Core.Path.{◌≡◌, refl, sym, ap, ◌∙◌}
use mathlib.Core.Bool.{Bool, true, false}
use mathlib.Core.Option.{some}
use mathlib.Core.List.{List, [], ◌∷◌, ◌++◌, map, append-nil, append_assoc}
use Prim.Native.Nat.{ℕ, ◌+◌, ◌-◌, ◌/◌, ◌%◌, ◌≤◌, ◌<◌}
use native.Mathlib.Omega.{arith}
use borrow.Author.Tests.{eq-eqb, ne_eqb, ltb-true}
use lib.ListN.{length, length-append}
use Rattle.octets.specs.Choice.{pick}
use Rattle.octets.specs.Octets.{put, be, bit, concat_map}
use Rattle.octets.specs.Lists.{keep}
use Rattle.octets.proofs.Numbers.{length_be}
use Rattle.octets.proofs.Digits.{be_one}
use Rattle.rules.specs.Model.{Settings}
use Rattle.rules.specs.Grants.{Kind, same_kind}
use Rattle.rules.specs.Reply.{Report, element, unit_element, tunnel_part, address_part, chosen_elements, created_pdr_element, created_pdr_content, created_endpoint_element, created_endpoint_content, created}
use Rattle.unit.specs.declared.Settings.{Settings as Unit}
use Rattle.unit.specs.Meaning.{settings_of}
use Rattle.created.specs.declared.Grant.{Grant as Entry}
use Rattle.writing.specs.Placed.{Placed}
use Rattle.writing.specs.Families.{tunnel_in, unit_addresses}
use Rattle.created.specs.Groups.{Told, report_in, kind_in, is_told, reports_of, all_reports, group, groups, id_fits}
use Rattle.created.specs.Entries.{granted_tunnel, granted_address, told_of}
use Rattle.writing.proofs.PlacedLaws.{length_element, placed_none, placed_then, placed_group}
use Rattle.writing.proofs.ElementSteps.{length_unit, length_ue}

-- ---- what was granted

module _ (v : Unit) (g : Entry) (out : List ℕ) (at : ℕ) where
  pub tunnel_not : (g.flags / 4 % 2 ≡ 1 → ⊥) → Placed out at (tunnel_part (settings_of v) (granted_tunnel g)) at out
  unfolding tunnel_part granted_tunnel bit
  tunnel_not n = rw (ne_eqb (g.flags / 4 % 2) 1 n) (placed_none out at)

  module _ (e : g.flags / 4 % 2 ≡ 1) where
    tunnel_is : tunnel_part (settings_of v) (granted_tunnel g) ≡ unit_element (settings_of v) (tunnel_in g.teid g.flags)
    unfolding tunnel_part granted_tunnel bit
    tunnel_is = rw (eq-eqb (g.flags / 4 % 2) 1 e)

    pub tunnel_steps : {out₁ : List ℕ} {r : ℕ} → Placed out at (unit_element (settings_of v) (tunnel_in g.teid g.flags)) r out₁ → Placed out at (tunnel_part (settings_of v) (granted_tunnel g)) r out₁
    tunnel_steps p = rw tunnel_is p

    pub tunnel_room : at + length (tunnel_part (settings_of v) (granted_tunnel g)) ≤ length out → at + 9 + unit_addresses (settings_of v) g.flags ≤ length out
    tunnel_room h = omega (arith, ap length tunnel_is, length_unit v g.flags g.teid)

module _ (g : Entry) (out : List ℕ) (at : ℕ) where
  pub address_not : (g.ue ≡ 2 → ⊥) → Placed out at (address_part (granted_address g)) at out
  unfolding address_part granted_address
  address_not n = rw (ne_eqb g.ue 2 n) (placed_none out at)

  module _ (e : g.ue ≡ 2) where
    address_is : address_part (granted_address g) ≡ address_part (some g.address)
    unfolding granted_address
    address_is = rw (eq-eqb g.ue 2 e)

    pub address_steps : {out₁ : List ℕ} {r : ℕ} → Placed out at (address_part (some g.address)) r out₁ → Placed out at (address_part (granted_address g)) r out₁
    address_steps p = rw address_is p

    pub address_room : at + length (address_part (granted_address g)) ≤ length out → at + 9 ≤ length out
    address_room h = omega (arith, ap length address_is, length_ue g.address)

-- ---- one group

pub length_number : (member width id : ℕ) → length (element member (be width id)) ≡ 4 + width
length_number member width id = length_element member (be width id) ∙ ap (λ (k : ℕ). 4 + k) (length_be width id)

module _ (v : Unit) (g : Entry) where
  abbrev tunnel : List ℕ
  tunnel = tunnel_part (settings_of v) (granted_tunnel g)

  abbrev address : List ℕ
  address = address_part (granted_address g)

  abbrev chosen : List ℕ
  chosen = chosen_elements (settings_of v) (told_of g).report

  chosen_is : chosen ≡ tunnel ++ address
  unfolding chosen_elements told_of
  chosen_is = refl

  pub length_group : (kind member width id : ℕ) → length (element kind (element member (be width id) ++ chosen)) ≡ 8 + width + length tunnel + length address
  length_group kind member width id =
      let a : List ℕ = element member (be width id) in
      rw (length_element, chosen_is) (omega (arith, length-append a (tunnel ++ address), length-append tunnel address, length_number member width id))

  pub group_steps : (kind member width id at : ℕ) (s : List ℕ) {s₁ s₂ s₃ s₄ : List ℕ} {k m e : ℕ}
      → at + 8 + width + length tunnel + length address ≤ length s
      → Placed s (at + 4) (element member (be width id)) k s₁
      → Placed s₁ k tunnel m s₂
      → Placed s₂ m address e s₃
      → s₄ ≡ put at (be 2 kind ++ be 2 (e - (at + 4))) s₃
      → Placed s at (element kind (element member (be width id) ++ chosen)) e s₄
  group_steps kind member width id at s {s₁} {s₂} {s₃} {s₄} {k} {m} {e} h p t u w =
      let a : List ℕ = element member (be width id) in
      let la : length a ≡ 4 + width = length_number member width id in
      let front : Placed s (at + 4) (a ++ tunnel) m s₂ = placed_then p t (omega arith) in
      let whole : Placed s (at + 4) ((a ++ tunnel) ++ address) e s₃ = placed_then front u (omega (arith, length-append a tunnel)) in
      rw (chosen_is, ← append_assoc a tunnel address)
      (placed_group kind at (at + 4) ((a ++ tunnel) ++ address) s refl (omega arith) whole w)

-- ---- the group of one grant, in the pass for records of a kind

module _ (v : Unit) (kind : ℕ) (g : Entry) where
  abbrev st : Settings
  st = settings_of v

  abbrev of_kind : List ℕ
  of_kind = groups (kind_in kind) st (told_of g ∷ [])

  -- a grant of the other kind
  module _ (out : List ℕ) (at : ℕ) where
    pub pdr_not : kind ≡ 1 → (g.kind ≡ 1 → ⊥) → Placed out at of_kind at out
    unfolding groups reports_of keep is_told same_kind kind_in told_of concat_map
    pdr_not e n = rw (eq-eqb kind 1 e, ne_eqb g.kind 1 n) (placed_none out at)

    pub endpoint_not : (kind ≡ 1 → ⊥) → g.kind ≡ 1 → Placed out at of_kind at out
    unfolding groups reports_of keep is_told same_kind kind_in told_of concat_map
    endpoint_not e n = rw (ne_eqb kind 1 e, eq-eqb g.kind 1 n) (placed_none out at)

  -- of this kind: the group that is written
  pdr_group : kind ≡ 1 → g.kind ≡ 1 → of_kind ≡ element 8 (element 56 (be 2 g.id) ++ chosen_elements st (told_of g).report)
  unfolding groups group reports_of keep is_told same_kind kind_in told_of concat_map created_pdr_element created_pdr_content
  pdr_group e n = rw (eq-eqb kind 1 e, eq-eqb g.kind 1 n) (append-nil _)

  endpoint_group : (kind ≡ 1 → ⊥) → (g.kind ≡ 1 → ⊥) → id_fits (told_of g) ≡ true
      → of_kind ≡ element 128 (element 131 (be 1 g.id) ++ chosen_elements st (told_of g).report)
  unfolding groups group reports_of keep is_told same_kind kind_in told_of concat_map created_endpoint_element created_endpoint_content id_fits
  endpoint_group e n f =
      let h : g.id < 256 = ltb-true g.id 256 (rw (ne_eqb g.kind 1 n) at f) in
      rw (ne_eqb kind 1 e, ne_eqb g.kind 1 n, be_one g.id h) (append-nil _)

  pub pdr_steps : {out out₁ : List ℕ} {at e : ℕ} → kind ≡ 1 → g.kind ≡ 1
      → Placed out at (element 8 (element 56 (be 2 g.id) ++ chosen_elements st (told_of g).report)) e out₁ → Placed out at of_kind e out₁
  pdr_steps e k p = rw (pdr_group e k) p

  pub endpoint_steps : {out out₁ : List ℕ} {at e : ℕ} → (kind ≡ 1 → ⊥) → (g.kind ≡ 1 → ⊥) → id_fits (told_of g) ≡ true
      → Placed out at (element 128 (element 131 (be 1 g.id) ++ chosen_elements st (told_of g).report)) e out₁ → Placed out at of_kind e out₁
  endpoint_steps e k f p = rw (endpoint_group e k f) p

  -- and the room that it wants
  module _ (at n : ℕ) (room : at + length of_kind ≤ n) where
    pub pdr_room_lem : kind ≡ 1 → g.kind ≡ 1 → at + 8 + 2 + length (tunnel_part st (granted_tunnel g)) + length (address_part (granted_address g)) ≤ n
    pdr_room_lem e k = omega (arith, ap length (pdr_group e k), length_group v g 8 56 2 g.id)

    pub endpoint_room_lem : (kind ≡ 1 → ⊥) → (g.kind ≡ 1 → ⊥) → id_fits (told_of g) ≡ true → at + 8 + 1 + length (tunnel_part st (granted_tunnel g)) + length (address_part (granted_address g)) ≤ n
    endpoint_room_lem e k f = omega (arith, ap length (endpoint_group e k f), length_group v g 128 131 1 g.id)

-- ---- the groups of one kind

groups_pick : (f : Report → List ℕ) (b : Bool) (g : Told) (gs : List Told) → concat_map f (map report_in (pick b (g ∷ gs) gs)) ≡ concat_map f (map report_in (pick b (g ∷ []) [])) ++ concat_map f (map report_in gs)
unfolding concat_map
groups_pick f true g gs = ap (λ (xs : List ℕ). xs ++ concat_map f (map report_in gs)) (sym (append-nil (f g.report)))
groups_pick f false g gs = refl

pub groups_more : (k : Kind) (s : Settings) (g : Told) (gs : List Told) → groups k s (g ∷ gs) ≡ groups k s (g ∷ []) ++ groups k s gs
unfolding groups reports_of keep
groups_more k s g gs = groups_pick (group k s) (is_told k g) g (keep (is_told k) gs)

pub groups_none : (k : Kind) (s : Settings) → groups k s [] ≡ []
unfolding groups reports_of keep concat_map
groups_none k s = refl

-- ---- both passes

module _ (s : Settings) (gs : List Told) where
  pub created_two : created s (all_reports gs) ≡ groups (kind_in 1) s gs ++ groups (kind_in 127) s gs
  unfolding created groups group kind_in
  created_two = refl

  pub length_created : length (created s (all_reports gs)) ≡ length (groups (kind_in 1) s gs) + length (groups (kind_in 127) s gs)
  length_created = ap length created_two ∙ length-append (groups (kind_in 1) s gs) (groups (kind_in 127) s gs)
