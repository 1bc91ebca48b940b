-- An element of a message by its type. Assumes nothing.
use mathlib.Core.Path.{◌≡◌, refl, sym, ap, subst, ◌∙◌}
use mathlib.Core.Logic.{inl, inr}
use Prim.Native.Nat.{ℕ}
use mathlib.Core.Bool.{Bool, true, false}
use mathlib.Core.List.{List, [], ◌∷◌}
use lib.Dec.{eqb}
use borrow.Author.Tests.{ne_eqb}
use Rattle.octets.specs.Choice.{pick}
use Rattle.octets.specs.Lists.{member}
use Rattle.octets.proofs.Tests.{of_true}
use Rattle.rules.specs.Message.{acted_on, establishment, modification, set_deletion}
use Rattle.rules.specs.Request as rules
use Rattle.rules.specs.Reading.{Reading, done, seid_read, flags_read, csid_read, acted_read, element_read}
use Rattle.rules.specs.Request.{updates_endpoint, with_item}
use Rattle.rules.specs.Types as ie
use Rattle.frame.proofs.Among.{OneOf}
use Rattle.reading.proofs.Places.{one_of}
use Rattle.request.specs.Items.{Steps, Follows, Passes, Puts, with_note, group_types, group_at, element_at}
use Rattle.request.specs.declared.items.Draft.{Draft}
use Rattle.request.proofs.DraftLaws.{went, note_added}
use Rattle.std.specs.Prelude.{Result, Ok}
use Rattle.reading.specs.declared.Fault.{Fault}

-- ---- an element by its type

module _ (kind : ℕ) (alone : Bool) (t p : ℕ) (v nodes words : List ℕ) (c : Draft) where
  pub element_skipped : false ≡ member t (acted_on kind) → Follows (element_at kind alone t p v) c nodes words (Ok c) nodes words
  unfolding element_read
  element_skipped h = record { follows = λ d m. went d (rw (← h)) m }

  module _ (on : true ≡ member t (acted_on kind)) where
    acted_is : (d : rules.Draft) → element_at kind alone t p v d ≡ acted_read kind alone t p v d
    unfolding element_read
    acted_is d = rw (← on)

    acted : (f : rules.Draft → Reading rules.Draft) {r : Result Draft Fault} {nodes' words' : List ℕ} → ((d : rules.Draft) → acted_read kind alone t p v d ≡ f d) → Follows f c nodes words r nodes' words' → Follows (element_at kind alone t p v) c nodes words r nodes' words'
    acted f {r} {nodes'} {words'} e h = record { follows = λ d m. subst (λ (x : Reading rules.Draft). Steps x r nodes' words') (sym (acted_is d ∙ e d)) (h.follows d m) }

    pub element_seid : {r : Result Draft Fault} → t ≡ ie.fseid → Passes (seid_read p v) c r → Follows (element_at kind alone t p v) c nodes words r nodes words
    unfolding acted_read
    element_seid e h = acted (seid_read p v) (λ d. rw e) (h.passes nodes words)

    pub element_flags : {r : Result Draft Fault} → t ≡ ie.session_flags → Passes (flags_read p v) c r → Follows (element_at kind alone t p v) c nodes words r nodes words
    unfolding acted_read
    element_flags e h = acted (flags_read p v) (λ d. rw e) (h.passes nodes words)

    pub element_csid : {r : Result Draft Fault} {nodes' words' : List ℕ} → t ≡ ie.fqcsid → Follows (csid_read kind alone p v) c nodes words r nodes' words' → Follows (element_at kind alone t p v) c nodes words r nodes' words'
    unfolding acted_read
    element_csid e h = acted (csid_read kind alone p v) (λ d. rw e) h

    pub element_note : {b : Draft} → t ≡ ie.update_endpoint → b ≡ with_note c → Follows (element_at kind alone t p v) c nodes words (Ok b) nodes words
    unfolding acted_read
    element_note e i = rw i (acted (λ d. done (with_item updates_endpoint d)) (λ d. rw e) (record { follows = λ d m. went (with_item updates_endpoint d) refl (note_added m) }))

    module _ (a : t ≡ ie.fseid → ⊥) (b : t ≡ ie.session_flags → ⊥) (f : t ≡ ie.fqcsid → ⊥) (g : t ≡ ie.update_endpoint → ⊥) where
      pub acted_group : member t group_types ≡ true
      unfolding acted_on member
      acted_group = go (eqb kind establishment) (eqb kind modification) (eqb kind set_deletion) (sym on)
        where
          is : (k : ℕ) → t ≡ k → member k group_types ≡ true → member t group_types ≡ true
          is k e h = ap (λ (j : ℕ). member j group_types) e ∙ h

          established : OneOf t ie.fseid (ie.session_flags ∷ ie.create_pdr ∷ ie.create_endpoint ∷ ie.fqcsid ∷ []) → member t group_types ≡ true
          established (inl e) = absurd (a e)
          established (inr (inl e)) = absurd (b e)
          established (inr (inr (inl e))) = is 1 e (unfold member in refl)
          established (inr (inr (inr (inl e)))) = is ie.create_endpoint e (unfold member in refl)
          established (inr (inr (inr (inr e)))) = absurd (f e)

          modified : OneOf t ie.create_pdr (ie.create_endpoint ∷ ie.update_pdr ∷ ie.remove_pdr ∷ ie.remove_endpoint ∷ ie.fqcsid ∷ ie.update_endpoint ∷ []) → member t group_types ≡ true
          modified (inl e) = is 1 e (unfold member in refl)
          modified (inr (inl e)) = is ie.create_endpoint e (unfold member in refl)
          modified (inr (inr (inl e))) = is 9 e (unfold member in refl)
          modified (inr (inr (inr (inl e)))) = is 15 e (unfold member in refl)
          modified (inr (inr (inr (inr (inl e))))) = is ie.remove_endpoint e (unfold member in refl)
          modified (inr (inr (inr (inr (inr (inl e)))))) = absurd (f e)
          modified (inr (inr (inr (inr (inr (inr e)))))) = absurd (g e)

          go : (x y z : Bool) → member t (pick x (ie.fseid ∷ ie.session_flags ∷ ie.create_pdr ∷ ie.create_endpoint ∷ ie.fqcsid ∷ []) (pick y (ie.create_pdr ∷ ie.create_endpoint ∷ ie.update_pdr ∷ ie.remove_pdr ∷ ie.remove_endpoint ∷ ie.fqcsid ∷ ie.update_endpoint ∷ []) (pick z (ie.fqcsid ∷ []) []))) ≡ true → member t group_types ≡ true
          go true y z h = established (one_of t ie.fseid (ie.session_flags ∷ ie.create_pdr ∷ ie.create_endpoint ∷ ie.fqcsid ∷ []) (of_true h))
          go false true z h = modified (one_of t 1 (ie.create_endpoint ∷ ie.update_pdr ∷ ie.remove_pdr ∷ ie.remove_endpoint ∷ ie.fqcsid ∷ ie.update_endpoint ∷ []) (of_true h))
          go false false true h = absurd (f (one_of t 65 [] (of_true h)))
          go false false false h = absurd (of_true h)

      pub element_group : {r : Result Draft Fault} {words' : List ℕ} → Puts (group_at t p v) c words r words' → Follows (element_at kind alone t p v) c nodes words r nodes words'
      unfolding acted_read
      element_group h = acted (group_at t p v) (λ d. rw (ne_eqb t ie.fseid a, ne_eqb t ie.session_flags b, ne_eqb t ie.fqcsid f, ne_eqb t ie.update_endpoint g)) (h.puts nodes)

-- ---- tables

module _ (m : ℕ) where
  pub in_establishment : m ≡ establishment → acted_on m ≡ ie.fseid ∷ ie.session_flags ∷ 1 ∷ ie.create_endpoint ∷ 65 ∷ []
  unfolding acted_on
  in_establishment e = rw e

  pub in_modification : m ≡ modification → acted_on m ≡ 1 ∷ ie.create_endpoint ∷ 9 ∷ 15 ∷ ie.remove_endpoint ∷ 65 ∷ ie.update_endpoint ∷ []
  unfolding acted_on
  in_modification e = rw e

  pub in_set_deletion : m ≡ set_deletion → acted_on m ≡ 65 ∷ []
  unfolding acted_on
  in_set_deletion e = rw e

  pub in_others : (m ≡ establishment → ⊥) → (m ≡ modification → ⊥) → (m ≡ set_deletion → ⊥) → acted_on m ≡ []
  unfolding acted_on
  in_others a b d = rw (ne_eqb m establishment a, ne_eqb m modification b, ne_eqb m set_deletion d)
