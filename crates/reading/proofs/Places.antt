-- The tables of 01's Places by the keys of the arms that hold them. Assumes nothing.
use mathlib.Core.Path.{◌≡◌, refl, sym, ap, subst, ◌∙◌}
use mathlib.Core.Logic.{inl, inr}
use Prim.Native.Nat.{ℕ}
use native.Mathlib.Omega.{arith}
use mathlib.Core.Bool.{Bool, true, false, ◌&&◌, ◌||◌}
use mathlib.Core.List.{List, [], ◌∷◌}
use lib.Dec.{T, eqb}
use borrow.Author.Tests.{eq-eqb, ne_eqb, eqb-true}
use Rattle.octets.specs.Lists.{member, all_in}
use Rattle.octets.proofs.Tests.{is_true, and_left, and_right}
use Rattle.rules.specs.Message.{places_of, number_width}
use Rattle.rules.specs.Types as ie
use Rattle.frame.proofs.Among.{OneOf}
use Rattle.reading.specs.Rows.{is_pdi}

-- the keys of an arm are in a list; none of them is, so that all of the list is among the keys
pub keys_in : (t a : ℕ) (bs ls : List ℕ) → T (all_in (a ∷ bs) ls) → OneOf t a bs → member t ls ≡ true
unfolding all_in
keys_in t a [] ls h e = ap (λ (k : ℕ). member k ls) e ∙ is_true (member a ls) (and_left (member a ls) true h)
keys_in t a (b ∷ bs) ls h (inl e) = ap (λ (k : ℕ). member k ls) e ∙ is_true (member a ls) (and_left (member a ls) (all_in (b ∷ bs) ls) h)
keys_in t a (b ∷ bs) ls h (inr e) = keys_in t b bs ls (and_right (member a ls) (all_in (b ∷ bs) ls) h) e

pub one_of : (t a : ℕ) (bs : List ℕ) → T (member t (a ∷ bs)) → OneOf t a bs
unfolding member
one_of t a [] h = by_test (eqb t a) (eqb-true t a) h
  where
    by_test : (b : Bool) → (b ≡ true → t ≡ a) → T (b || false) → t ≡ a
    by_test true e h = e refl
    by_test false e h = absurd h
one_of t a (b ∷ bs) h = by_test (eqb t a) (eqb-true t a) (λ k. one_of t b bs k) h
  where
    by_test : (x : Bool) → (x ≡ true → t ≡ a) → (T (member t (b ∷ bs)) → OneOf t b bs) → T (x || member t (b ∷ bs)) → OneOf t a (b ∷ bs)
    by_test true e f h = inl (e refl)
    by_test false e f h = inr (f h)

pub keys_out : (t a : ℕ) (bs ls : List ℕ) → T (all_in ls (a ∷ bs)) → (OneOf t a bs → ⊥) → member t ls ≡ false
unfolding all_in member
keys_out t a bs [] h n = refl
keys_out t a bs (l ∷ ls) h n =
    let k : T (member l (a ∷ bs)) = and_left (member l (a ∷ bs)) (all_in ls (a ∷ bs)) h in
    rw (ne_eqb t l (λ e. n (one_of t a bs (subst (λ (i : ℕ). T (member i (a ∷ bs))) (sym e) k))))
    (keys_out t a bs ls (and_right (member l (a ∷ bs)) (all_in ls (a ∷ bs)) h) n)

-- the keys of two arms, the second with one key
pub keys_out_2 : (t a x : ℕ) (bs ls : List ℕ) → T (all_in ls (x ∷ a ∷ bs)) → (OneOf t a bs → ⊥) → (t ≡ x → ⊥) → member t ls ≡ false
keys_out_2 t a x bs ls h m n = keys_out t x (a ∷ bs) ls h none_of
  where
    none_of : OneOf t x (a ∷ bs) → ⊥
    none_of (inl e) = n e
    none_of (inr e) = m e

-- membership in a list that is known
pub in_place : {b : Bool} (t : ℕ) (ps qs : List ℕ) → qs ≡ ps → member t ps ≡ b → b ≡ member t qs
in_place t ps qs e h = sym (ap (member t) e ∙ h)

module _ (g : ℕ) where
  pub in_pdr : OneOf g ie.create_pdr (ie.update_pdr ∷ []) → places_of g ≡ ie.pdr_id ∷ ie.precedence ∷ ie.pdi ∷ ie.far_id ∷ []
  unfolding places_of
  in_pdr (inl e) = rw e
  in_pdr (inr e) = rw e

  pub in_pdi : g ≡ ie.pdi → places_of g ≡ ie.source_interface ∷ ie.fteid ∷ ie.endpoint_id ∷ ie.ue_ip_address ∷ []
  unfolding places_of
  in_pdi e = rw e

  pub in_endpoint : g ≡ ie.create_endpoint → places_of g ≡ ie.endpoint_id ∷ ie.fteid ∷ ie.ue_ip_address ∷ []
  unfolding places_of
  in_endpoint e = rw e

  pub in_removal : g ≡ ie.remove_pdr → places_of g ≡ ie.pdr_id ∷ []
  unfolding places_of
  in_removal e = rw e

  pub in_other : (OneOf g ie.create_pdr (ie.update_pdr ∷ []) → ⊥) → (g ≡ ie.pdi → ⊥) → (g ≡ ie.create_endpoint → ⊥) → (g ≡ ie.remove_pdr → ⊥) → places_of g ≡ ie.endpoint_id ∷ []
  unfolding places_of
  in_other a b d e = rw (ne_eqb g ie.create_pdr (λ h. a (inl h)), ne_eqb g ie.update_pdr (λ h. a (inr h)), ne_eqb g ie.pdi b, ne_eqb g ie.create_endpoint d, ne_eqb g ie.remove_pdr e)

module _ (t : ℕ) where
  pub two_octets : t ≡ ie.pdr_id → 2 ≡ number_width t
  unfolding number_width
  two_octets e = rw e

  pub four_octets_lem : OneOf t ie.precedence (ie.far_id ∷ []) → 4 ≡ number_width t
  unfolding number_width
  four_octets_lem (inl e) = rw e
  four_octets_lem (inr e) = rw e

  pub one_octet : (t ≡ ie.pdr_id → ⊥) → (OneOf t ie.precedence (ie.far_id ∷ []) → ⊥) → 1 ≡ number_width t
  unfolding number_width
  one_octet a b = rw (ne_eqb t ie.pdr_id a, ne_eqb t ie.precedence (λ h. b (inl h)), ne_eqb t ie.far_id (λ h. b (inr h)))

module _ (g t : ℕ) where
  pub not_create : (g ≡ ie.create_pdr → ⊥) → false ≡ is_pdi g t
  unfolding is_pdi
  not_create h = rw (ne_eqb g ie.create_pdr h)

  pub in_create : g ≡ ie.create_pdr → eqb t ie.pdi ≡ is_pdi g t
  unfolding is_pdi
  in_create h = rw (eq-eqb g ie.create_pdr h)

pub pdi_in_create : (g t : ℕ) → true ≡ is_pdi g t → g ≡ ie.create_pdr
unfolding is_pdi
pdi_in_create g t h = by_test (eqb g ie.create_pdr) (eqb-true g 1) h
  where
    by_test : (b : Bool) → (b ≡ true → g ≡ ie.create_pdr) → true ≡ (b && eqb t ie.pdi) → g ≡ ie.create_pdr
    by_test true e h = e refl
    by_test false e h = let z : ◌≡◌ {A = ℕ} 0 1 = cc in absurd (omega arith)

pub pdi_type : (g t : ℕ) → true ≡ is_pdi g t → t ≡ ie.pdi
unfolding is_pdi
pdi_type g t h = by_tests (eqb g ie.create_pdr) (eqb t ie.pdi) (eqb-true t 2) h
  where
    by_tests : (a b : Bool) → (b ≡ true → t ≡ ie.pdi) → true ≡ (a && b) → t ≡ ie.pdi
    by_tests true true e h = e refl
    by_tests true false e h = let z : ◌≡◌ {A = ℕ} 0 1 = cc in absurd (omega arith)
    by_tests false b e h = let z : ◌≡◌ {A = ℕ} 0 1 = cc in absurd (omega arith)
