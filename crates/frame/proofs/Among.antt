-- The keys of a `match` arm, `3 | 7 =>`, and membership in a list. Assumes nothing.
use Prim.Native.Nat.{ℕ}
use mathlib.Core.Path.{◌≡◌, refl, sym, ◌∙◌}
use mathlib.Core.Logic.{◌⊎◌, inl, inr}
use mathlib.Core.Bool.{Bool, true, false, ◌||◌}
use mathlib.Core.List.{List, [], ◌∷◌}
use lib.Dec.{eqb}
use borrow.Author.Tests.{eq-eqb, ne_eqb}
use Rattle.octets.specs.Choice.{pick}
use Rattle.octets.specs.Lists.{member}
use Rattle.octets.proofs.Bools.{or-true}
use Rattle.rules.specs.Message.{opened_at_top, opened_in, establishment, modification}
use Rattle.rules.specs.Types as ie

-- what an arm's keys say: x is a, or one of bs
abbrev pub OneOf : ℕ → ℕ → List ℕ → Type 0
OneOf x a [] = x ≡ a
OneOf x a (b ∷ bs) = (x ≡ a) ⊎ OneOf x b bs

pub among_yes : (x a : ℕ) (bs : List ℕ) → OneOf x a bs → member x (a ∷ bs) ≡ true
unfolding member
among_yes x a [] h = rw (eq-eqb x a h)
among_yes x a (b ∷ bs) (inl h) = rw (eq-eqb x a h)
among_yes x a (b ∷ bs) (inr h) = rw (among_yes x b bs h) (or-true (eqb x a))

pub among_no : (x a : ℕ) (bs : List ℕ) → (OneOf x a bs → ⊥) → member x (a ∷ bs) ≡ false
unfolding member
among_no x a [] h = rw (ne_eqb x a h)
among_no x a (b ∷ bs) h = rw (ne_eqb x a (λ e. h (inl e))) (among_no x b bs (λ k. h (inr k)))

pub member_pick : (t : ℕ) (b : Bool) (xs ys : List ℕ) → member t (pick b xs ys) ≡ pick b (member t xs) (member t ys)
member_pick t true xs ys = refl
member_pick t false xs ys = refl

pub pick_same : {A : Type 0} (b : Bool) (a : A) → pick b a a ≡ a
pick_same true a = refl
pick_same false a = refl

-- ---- the groups that are opened, by their type

-- a group of some messages, and a PDI in some groups
abbrev placed : ℕ → ℕ → Bool → Bool → Bool → Bool
placed m g a b d = pick (eqb g 0) (pick (eqb m establishment) a (pick (eqb m modification) b false)) (pick (eqb g ie.create_pdr || eqb g ie.update_pdr) d false)

by_place : (m g t : ℕ) → member t (opened_in m g) ≡ placed m g (member t (ie.create_pdr ∷ ie.create_endpoint ∷ [])) (member t (ie.create_pdr ∷ ie.create_endpoint ∷ ie.update_pdr ∷ ie.remove_pdr ∷ ie.remove_endpoint ∷ [])) (member t (ie.pdi ∷ []))
unfolding opened_in opened_at_top member
by_place m g t = rw (member_pick t (eqb g 0), member_pick t (eqb m establishment), member_pick t (eqb m modification), member_pick t (eqb g ie.create_pdr || eqb g ie.update_pdr))

by_any : (m g t : ℕ) → OneOf t ie.create_pdr (ie.create_endpoint ∷ []) → member t (opened_in m g) ≡ placed m g true true false
unfolding member
by_any m g t (inl e) = rw (e, by_place m g 1)
by_any m g t (inr e) = rw (e, by_place m g ie.create_endpoint)

by_change : (m g t : ℕ) → OneOf t ie.update_pdr (ie.remove_pdr ∷ ie.remove_endpoint ∷ []) → member t (opened_in m g) ≡ placed m g false true false
unfolding member
by_change m g t (inl e) = rw (e, by_place m g 9)
by_change m g t (inr (inl e)) = rw (e, by_place m g 15)
by_change m g t (inr (inr e)) = rw (e, by_place m g ie.remove_endpoint)

by_pdi : (m g t : ℕ) → t ≡ ie.pdi → member t (opened_in m g) ≡ placed m g false false true
unfolding member
by_pdi m g t e = rw (e, by_place m g 2)

-- a group that is not the message, and is no PDR
placed_inside : (m g : ℕ) (a b : Bool) → (g ≡ 0 → ⊥) → placed m g a b false ≡ false
placed_inside m g a b n = rw (ne_eqb g 0 n) (pick_same (eqb g ie.create_pdr || eqb g ie.update_pdr) false)

module _ (m g t : ℕ) where
  pub any_open : OneOf t ie.create_pdr (ie.create_endpoint ∷ []) → g ≡ 0 → OneOf m establishment (modification ∷ []) → true ≡ member t (opened_in m g)
  any_open h e (inl f) = sym (by_any m g t h ∙ rw (e, f))
  any_open h e (inr f) = sym (by_any m g t h ∙ rw (e, f))

  pub any_shut : OneOf t ie.create_pdr (ie.create_endpoint ∷ []) → g ≡ 0 → (OneOf m establishment (modification ∷ []) → ⊥) → false ≡ member t (opened_in m g)
  any_shut h e n = sym (by_any m g t h ∙ rw (e, ne_eqb m establishment (λ f. n (inl f)), ne_eqb m modification (λ f. n (inr f))))

  pub any_inside : OneOf t ie.create_pdr (ie.create_endpoint ∷ []) → (g ≡ 0 → ⊥) → false ≡ member t (opened_in m g)
  any_inside h n = sym (by_any m g t h ∙ placed_inside m g true true n)

  pub change_open : OneOf t ie.update_pdr (ie.remove_pdr ∷ ie.remove_endpoint ∷ []) → g ≡ 0 → m ≡ modification → true ≡ member t (opened_in m g)
  change_open h e f = sym (by_change m g t h ∙ rw (e, f))

  pub change_shut : OneOf t ie.update_pdr (ie.remove_pdr ∷ ie.remove_endpoint ∷ []) → g ≡ 0 → (m ≡ modification → ⊥) → false ≡ member t (opened_in m g)
  change_shut h e n = sym (by_change m g t h ∙ rw (e, ne_eqb m modification n) (pick_same (eqb m establishment) false))

  pub change_inside : OneOf t ie.update_pdr (ie.remove_pdr ∷ ie.remove_endpoint ∷ []) → (g ≡ 0 → ⊥) → false ≡ member t (opened_in m g)
  change_inside h n = sym (by_change m g t h ∙ placed_inside m g false true n)

  pub pdi_open : t ≡ ie.pdi → OneOf g ie.create_pdr (ie.update_pdr ∷ []) → true ≡ member t (opened_in m g)
  pdi_open h (inl e) = sym (by_pdi m g t h ∙ rw e)
  pdi_open h (inr e) = sym (by_pdi m g t h ∙ rw e)

  pub pdi_shut : t ≡ ie.pdi → (OneOf g ie.create_pdr (ie.update_pdr ∷ []) → ⊥) → false ≡ member t (opened_in m g)
  pdi_shut h n =
      sym (by_pdi m g t h ∙ rw (ne_eqb g ie.create_pdr (λ f. n (inl f)), ne_eqb g ie.update_pdr (λ f. n (inr f)), pick_same (eqb m modification) false, pick_same (eqb m establishment) false) (pick_same (eqb g 0) false))

  pub none_open : (OneOf t ie.create_pdr (ie.create_endpoint ∷ []) → ⊥) → (OneOf t ie.update_pdr (ie.remove_pdr ∷ ie.remove_endpoint ∷ []) → ⊥) → (t ≡ ie.pdi → ⊥) → false ≡ member t (opened_in m g)
  none_open a b d =
      sym (by_place m g t
      ∙ rw (among_no t 1 (ie.create_endpoint ∷ []) a, all_five, among_no t 2 [] d, pick_same (eqb m modification) false, pick_same (eqb m establishment) false, pick_same (eqb g ie.create_pdr || eqb g ie.update_pdr) false) (pick_same (eqb g 0) false))
    where
      none_of : OneOf t ie.create_pdr (ie.create_endpoint ∷ ie.update_pdr ∷ ie.remove_pdr ∷ ie.remove_endpoint ∷ []) → ⊥
      none_of (inl e) = a (inl e)
      none_of (inr (inl e)) = a (inr e)
      none_of (inr (inr h)) = b h

      all_five : member t (ie.create_pdr ∷ ie.create_endpoint ∷ ie.update_pdr ∷ ie.remove_pdr ∷ ie.remove_endpoint ∷ []) ≡ false
      all_five = among_no t 1 (ie.create_endpoint ∷ ie.update_pdr ∷ ie.remove_pdr ∷ ie.remove_endpoint ∷ []) none_of
