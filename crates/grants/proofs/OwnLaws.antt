-- Grants of records with different IDs: each is the one that is looked up by its kind and ID. Assumes nothing.
use mathlib.Core.Path.{◌≡◌, refl, sym, ap, ◌∙◌}
use mathlib.Core.Bool.{Bool, true, false, ◌&&◌, ◌||◌}
use mathlib.Core.List.{List, [], ◌∷◌, ◌++◌, map}
use Prim.Native.Nat.{ℕ}
use native.Mathlib.Omega.{arith}
use borrow.Author.Tests.{eq-eqb}
use lib.Dec.{eqb}
use Rattle.octets.specs.Choice.{pick}
use Rattle.octets.specs.Lists.{member, has_repeat, any, keep, find_by}
use Rattle.octets.proofs.Bools.{eqb_turn}
use Rattle.rules.specs.Grants.{Kind, of_pdr, of_endpoint, Choice, Chosen, Grant, same_kind, chosen_teid, teid_for, chosen_after, free_after, grant_from, grant_of, grant_teid, is_grant_for, granted_teid}

-- ---- of general use

or-false : (a b : Bool) → (a || b) ≡ false → (a ≡ false) × (b ≡ false)
or-false true b e = let z : ◌≡◌ {A = ℕ} 0 1 = cc in absurd (omega arith)
or-false false b e = (refl, e)

module _ {A : Type 0} (key : A → ℕ) (p : A → Bool) where
  member_keep : (x : ℕ) (xs : List A) → member x (map key xs) ≡ false → member x (map key (keep p xs)) ≡ false
  unfolding member keep
  member_keep x [] e = refl
  member_keep x (y ∷ xs) e =
      let o = or-false (eqb x (key y)) (member x (map key xs)) e in
      one (p y) (member_keep x xs o.1) o.0
    where
      one : (b : Bool) → member x (map key (keep p xs)) ≡ false → eqb x (key y) ≡ false → member x (map key (pick b (y ∷ keep p xs) (keep p xs))) ≡ false
      one true ih f = unfold member in rw (f, ih)
      one false ih f = ih

  -- keys of some elements do not repeat if those of all do not
  pub repeat_keep : (xs : List A) → has_repeat (map key xs) ≡ false → has_repeat (map key (keep p xs)) ≡ false
  unfolding has_repeat keep
  repeat_keep [] e = refl
  repeat_keep (y ∷ xs) e =
      let o = or-false (member (key y) (map key xs)) (has_repeat (map key xs)) e in
      one (p y) (repeat_keep xs o.1) (member_keep (key y) xs o.0)
    where
      one : (b : Bool) → has_repeat (map key (keep p xs)) ≡ false → member (key y) (map key (keep p xs)) ≡ false → has_repeat (map key (pick b (y ∷ keep p xs) (keep p xs))) ≡ false
      one true ih f = unfold has_repeat in rw (f, ih)
      one false ih f = ih

-- ---- records with different IDs

-- a kind and ID that a choice has
abbrev same_as : Kind → ℕ → Choice → Bool
same_as k i c = same_kind k c.kind && eqb c.id i

-- no choice has the kind and ID of one before it
abbrev pub Apart : List Choice → Type 0
Apart [] = Unit {0}
Apart (c ∷ cs) = (any (same_as c.kind c.id) cs ≡ false) × Apart cs

abbrev pub id_of : Choice → ℕ
id_of c = c.id

-- every choice is of a kind
abbrev pub Of : Kind → List Choice → Type 0
Of k [] = Unit {0}
Of k (c ∷ cs) = (c.kind ≡ k) × Of k cs

same_refl : (k : Kind) → same_kind k k ≡ true
unfolding same_kind
same_refl of_pdr = refl
same_refl of_endpoint = refl

same_sym : (k l : Kind) → same_kind k l ≡ same_kind l k
unfolding same_kind
same_sym of_pdr of_pdr = refl
same_sym of_pdr of_endpoint = refl
same_sym of_endpoint of_pdr = refl
same_sym of_endpoint of_endpoint = refl

any_member : (k : Kind) (i : ℕ) (cs : List Choice) → Of k cs → any (same_as k i) cs ≡ member i (map id_of cs)
unfolding any member
any_member k i [] o = refl
any_member k i (c ∷ cs) o = rw (o.0, same_refl k, eqb_turn c.id i, any_member k i cs o.1)

pub apart_kind : (k : Kind) (cs : List Choice) → Of k cs → has_repeat (map id_of cs) ≡ false → Apart cs
unfolding has_repeat
apart_kind k [] o e = tt
apart_kind k (c ∷ cs) o e =
    let f = or-false (member c.id (map id_of cs)) (has_repeat (map id_of cs)) e in
    (rw o.0 (any_member k c.id cs o.1 ∙ f.0), apart_kind k cs o.1 f.1)

any_other : (i : ℕ) (cs : List Choice) → Of of_pdr cs → any (same_as of_endpoint i) cs ≡ false
unfolding any same_kind
any_other i [] o = refl
any_other i (c ∷ cs) o = rw o.0 (any_other i cs o.1)

any_append : {A : Type 0} (p : A → Bool) (xs ys : List A) → any p xs ≡ false → any p ys ≡ false → any p (xs ++ ys) ≡ false
unfolding any
any_append p [] ys e f = f
any_append p (x ∷ xs) ys e f = let o = or-false (p x) (any p xs) e in rw (o.0, any_append p xs ys o.1 f)

-- endpoints' choices and PDRs' are of different kinds
pub apart_both : (es ps : List Choice) → Of of_endpoint es → Of of_pdr ps → Apart es → Apart ps → Apart (es ++ ps)
apart_both [] ps o q a b = b
apart_both (c ∷ es) ps o q a b =
    (any_append (same_as c.kind c.id) es ps a.0 (rw o.0 (any_other c.id ps q)), apart_both es ps o.1 q a.1 b)

-- ---- looked up

-- what is asked of the grants' kinds and IDs is asked of the choices'
pub grants_map : (h : Kind → ℕ → ℕ) (cs : List Chosen) (free : List ℕ) (xs : List Choice)
    → map (λ (g : Grant). h g.kind g.id) (grant_from cs free xs) ≡ map (λ (c : Choice). h c.kind c.id) xs
unfolding grant_from grant_of
grants_map h cs free [] = refl
grants_map h cs free (c ∷ xs) =
    let o = chosen_teid cs c.choose_id in
    ap (λ (l : List ℕ). h c.kind c.id ∷ l) (grants_map h (chosen_after o cs c.choose_id free) (free_after o free) xs)

any_grants : (k : Kind) (i : ℕ) (cs : List Chosen) (free : List ℕ) (xs : List Choice) → any (is_grant_for k i) (grant_from cs free xs) ≡ any (same_as k i) xs
unfolding grant_from grant_of any is_grant_for
any_grants k i cs free [] = refl
any_grants k i cs free (c ∷ xs) =
    let o = chosen_teid cs c.choose_id in
    ap (λ (b : Bool). (same_kind k c.kind && eqb c.id i) || b) (any_grants k i (chosen_after o cs c.choose_id free) (free_after o free) xs)

module _ (g : Grant) (gs : List Grant) where
  own_first : granted_teid (g ∷ gs) g.kind g.id ≡ g.local.teid
  unfolding granted_teid find_by is_grant_for
  own_first = rw (same_refl g.kind, eq-eqb g.id g.id refl)

  own_other : (x : Grant) → is_grant_for g.kind g.id x ≡ false → granted_teid (g ∷ gs) x.kind x.id ≡ granted_teid gs x.kind x.id
  unfolding granted_teid find_by is_grant_for
  own_other x e =
      let f : (same_kind x.kind g.kind && eqb g.id x.id) ≡ false = (λ j. same_sym x.kind g.kind j && eqb_turn g.id x.id j) ∙ e in
      rw f

  own_others : (xs : List Grant) → any (is_grant_for g.kind g.id) xs ≡ false
      → map (λ (x : Grant). granted_teid (g ∷ gs) x.kind x.id) xs ≡ map (λ (x : Grant). granted_teid gs x.kind x.id) xs
  unfolding any
  own_others [] e = refl
  own_others (x ∷ xs) e =
      let o = or-false (is_grant_for g.kind g.id x) (any (is_grant_for g.kind g.id) xs) e in
      let here = own_other x o.0 in
      let more = own_others xs o.1 in
      λ j. here j ∷ more j

-- each grant's TEID is the one that its kind and ID have
pub own_teids : (cs : List Chosen) (free : List ℕ) (xs : List Choice) → Apart xs
    → map grant_teid (grant_from cs free xs) ≡ map (λ (g : Grant). granted_teid (grant_from cs free xs) g.kind g.id) (grant_from cs free xs)
unfolding grant_from
own_teids cs free [] a = refl
own_teids cs free (c ∷ xs) a =
    let o = chosen_teid cs c.choose_id in
    let cs' = chosen_after o cs c.choose_id free in
    let free' = free_after o free in
    let g = grant_of c (teid_for o free) in
    let gs = grant_from cs' free' xs in
    let none_more : any (is_grant_for g.kind g.id) gs ≡ false = unfold grant_of in any_grants c.kind c.id cs' free' xs ∙ a.0 in
    let here = sym (own_first g gs) in
    let more = own_teids cs' free' xs a.1 ∙ sym (own_others g gs gs none_more) in
    λ j. here j ∷ more j
