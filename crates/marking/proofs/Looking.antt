-- A PDR's hold by its octets, and the look back over the PDRs passed.
-- Assumes nothing.
use Rattle.std.proofs.Common.{◌≡◌, ℕ, zero, suc, ◌+◌, ◌*◌, ◌/◌, ◌%◌, ◌^◌, ◌<◌, Bool, true, false, ◌&&◌, ◌||◌, eqb, List, [], ◌∷◌, ◌++◌, map, get_or, take, drop, sym, refl, ap, ◌∙◌, ap₂, mod-lt, suc-mul, add_comm, zero-mul, arith, lit<, eqb→eq, drop-drop}
use mathlib.Core.Option.{Option, none, some}
use mir.Facts.{yes_eqb}
use Rattle.octets.specs.Choice.{pick, map_option, same_bool, cons_option}
use Rattle.octets.specs.Octets.{part, number, octet_at, bit, slices}
use Rattle.octets.specs.Lists.{collect}
use Rattle.octets.proofs.Tests.{and_left, and_right, both}
use Rattle.octets.proofs.Bools.{both_ways, and_assoc, same_bit}
use Rattle.rules.specs.Model.{neither, tunnel, endpoint, Pdr, Holding, tunnel_holding, matched_tunnel, pdr_holding}
use Rattle.rules.specs.Layout.{tunnel_read, match_read, view_pdr, source_at, match_at, teid_at, families_at, named_endpoint_at}
use Rattle.laws.proofs.LayoutLaws.{pdr_view}
use Rattle.std.specs.List.{list_any}
use Rattle.std.specs.Prelude.{reverse}
use Rattle.std.proofs.lemmas.List.Sorted.{list_any-IsPermutation, IsPermutation-reverse}
use Rattle.marking.proofs.Joining.{joins_append}
use Rattle.marking.specs.Walk.{joins}
use Rattle.marking.proofs.RecordWalk.{look_none, look_some}
use Rattle.marking.specs.Marking.{holds_teid, alike, held_by, holds_in}

-- ---- a PDR's hold

pub hold_of_lem : (xs : List ℕ) → pdr_holding (view_pdr xs) ≡ pick (eqb (get_or xs match_at 0) 1) (some (held_by xs)) none
hold_of_lem xs = rw (pdr_view xs) (unfold pdr_holding match_read in (go (eqb (get_or xs match_at 0) 1) (eqb (get_or xs match_at 0) 2)))
  where
    go : (b c : Bool)
        → map_option (tunnel_holding true (get_or xs source_at 0)) (matched_tunnel (pick b (tunnel (tunnel_read (number (part teid_at 4 xs)) (get_or xs families_at 0))) (pick c (endpoint (get_or xs named_endpoint_at 0)) neither)))
        ≡ pick b (some (held_by xs)) none
    go true c = unfold matched_tunnel held_by octet_at in refl
    go false true = unfold matched_tunnel in refl
    go false false = unfold matched_tunnel in refl

-- ---- families

low_two : (f : ℕ) → f % 4 ≡ f / (2 ^ 0) % 2 + 2 * (f / (2 ^ 1) % 2)
low_two f = omega arith

digits : (a b c d : ℕ) → a < 2 → c < 2 → a + 2 * b ≡ c + 2 * d → (a ≡ c) × (b ≡ d)
digits a b c d h k e = (omega arith, omega arith)

two_bits : (f g : ℕ) → (same_bool (bit 0 f) (bit 0 g) && same_bool (bit 1 f) (bit 1 g)) ≡ eqb (f % 4) (g % 4)
unfolding bit
two_bits f g =
    (λ i. same_bit (f / (2 ^ 0) % 2) (g / (2 ^ 0) % 2) (omega arith) (omega arith) i && same_bit (f / (2 ^ 1) % 2) (g / (2 ^ 1) % 2) (omega arith) (omega arith) i)
    ∙ both_ways (eqb (f / (2 ^ 0) % 2) (g / (2 ^ 0) % 2) && eqb (f / (2 ^ 1) % 2) (g / (2 ^ 1) % 2)) (eqb (f % 4) (g % 4))
    (λ h.
    let a = eqb→eq (f / (2 ^ 0) % 2) (g / (2 ^ 0) % 2) (and_left (eqb (f / (2 ^ 0) % 2) (g / (2 ^ 0) % 2)) (eqb (f / (2 ^ 1) % 2) (g / (2 ^ 1) % 2)) h) in
    let b = eqb→eq (f / (2 ^ 1) % 2) (g / (2 ^ 1) % 2) (and_right (eqb (f / (2 ^ 0) % 2) (g / (2 ^ 0) % 2)) (eqb (f / (2 ^ 1) % 2) (g / (2 ^ 1) % 2)) h) in
    yes_eqb (low_two f ∙ ap₂ (λ (x y : ℕ). x + 2 * y) a b ∙ sym (low_two g)))
    (λ h.
    let e = eqb→eq (f % 4) (g % 4) h in
    let d = digits (f / (2 ^ 0) % 2) (f / (2 ^ 1) % 2) (g / (2 ^ 0) % 2) (g / (2 ^ 1) % 2) (mod-lt (f / (2 ^ 0)) (lit< tt)) (mod-lt (g / (2 ^ 0)) (lit< tt)) (sym (low_two f) ∙ e ∙ low_two g) in
    both (eqb (f / (2 ^ 0) % 2) (g / (2 ^ 0) % 2)) (eqb (f / (2 ^ 1) % 2) (g / (2 ^ 1) % 2)) (yes_eqb d.0) (yes_eqb d.1))

kinds_alike : (xs ys : List ℕ)
    → (same_bool (held_by xs).v4 (held_by ys).v4 && (same_bool (held_by xs).v6 (held_by ys).v6 && eqb (held_by xs).source (held_by ys).source)) ≡ alike xs ys
unfolding held_by tunnel_holding tunnel_read alike
kinds_alike xs ys =
    sym (and_assoc (same_bool (bit 0 (octet_at xs families_at)) (bit 0 (octet_at ys families_at))) (same_bool (bit 1 (octet_at xs families_at)) (bit 1 (octet_at ys families_at))) (eqb (octet_at xs source_at) (octet_at ys source_at)))
    ∙ rw (two_bits (octet_at xs families_at) (octet_at ys families_at))

pub teid_of_lem : (xs : List ℕ) → (held_by xs).teid ≡ number (part teid_at 4 xs)
unfolding held_by tunnel_holding tunnel_read
teid_of_lem xs = refl

-- ---- the look back

-- the last of a number of records
pub slices_snoc : (w i : ℕ) (a : List ℕ) → slices w (suc i) a ≡ slices w i a ++ (part (i * w) w a ∷ [])
unfolding slices
slices_snoc w zero a = rw zero-mul
slices_snoc w (suc i) a =
    ap (λ (l : List (List ℕ)). take w a ∷ l) (slices_snoc w i (drop w a))
    ∙ ap (λ (l : List ℕ). take w a ∷ (slices w i (drop w a) ++ (take w l ∷ []))) (drop-drop (i * w) w a ∙ ap (λ (k : ℕ). drop k a) (add_comm w (i * w) ∙ sym (suc-mul i w)))

pub map_snoc : (xs : List (List ℕ)) (x : List ℕ) → map view_pdr (xs ++ (x ∷ [])) ≡ map view_pdr xs ++ (view_pdr x ∷ [])
map_snoc [] x = refl
map_snoc (y ∷ xs) x = ap (λ (l : List Pdr). view_pdr y ∷ l) (map_snoc xs x)

-- one PDR: it holds the TEID, with the same use
look_one : (xs ys : List ℕ) → joins (cons_option (pdr_holding (view_pdr xs)) []) (held_by ys) ≡ (holds_teid xs (number (part teid_at 4 ys)) && alike xs ys)
unfolding holds_teid octet_at
look_one xs ys = ap (λ (o : Option Holding). joins (cons_option o []) (held_by ys)) (hold_of_lem xs) ∙ go (eqb (get_or xs match_at 0) 1)
  where
    go : (b : Bool) → joins (cons_option (pick b (some (held_by xs)) none) []) (held_by ys) ≡ ((b && eqb (number (part teid_at 4 xs)) (number (part teid_at 4 ys))) && alike xs ys)
    go false = look_none (held_by ys)
    go true = look_some (held_by ys) (held_by xs) (unfold held_by tunnel_holding in refl) (unfold held_by tunnel_holding in refl) ∙ (λ i. eqb (teid_of_lem xs i) (teid_of_lem ys i) && kinds_alike xs ys i)

-- the PDRs before it, looked through from the last on
any_holds : (ys : List ℕ) (t : ℕ) → t ≡ number (part teid_at 4 ys) → (rows : List (List ℕ)) → list_any (λ row. holds_teid row t && alike row ys) rows ≡ joins (holds_in rows) (held_by ys)
unfolding holds_in collect
any_holds ys t q [] = sym (look_none (held_by ys))
any_holds ys t q (row ∷ rows) =
    (λ i. (holds_teid row (q i) && alike row ys) || any_holds ys t q rows i)
    ∙ ap (λ (b : Bool). b || joins (collect pdr_holding (map view_pdr rows)) (held_by ys)) (sym (look_one row ys))
    ∙ apart (pdr_holding (view_pdr row))
  where
    apart : (o : Option Holding) → (joins (cons_option o []) (held_by ys) || joins (collect pdr_holding (map view_pdr rows)) (held_by ys)) ≡ joins (cons_option o (collect pdr_holding (map view_pdr rows))) (held_by ys)
    apart none = rw (look_none (held_by ys))
    apart (some h) = sym (joins_append (held_by ys) (h ∷ []) (collect pdr_holding (map view_pdr rows)))

pub looked : (rows : List (List ℕ)) (ys : List ℕ) (t : ℕ) → t ≡ number (part teid_at 4 ys) → list_any (λ row. holds_teid row t && alike row ys) (reverse rows) ≡ joins (holds_in rows) (held_by ys)
looked rows ys t q = sym (list_any-IsPermutation (λ row. holds_teid row t && alike row ys) rows (reverse rows) (IsPermutation-reverse rows)) ∙ any_holds ys t q rows
