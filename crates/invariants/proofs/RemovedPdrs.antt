-- The PDRs that a request removes, by the IDs of those that go: each ID is live and stands once, the PDRs that stay do not go, and so name no
-- removed endpoint.
-- Assumes nothing.
use mathlib.Core.Path.{◌≡◌, refl, sym, subst}
use Prim.Native.Nat.{ℕ, suc, ◌+◌, ◌≤◌}
use native.Mathlib.Omega.{arith}
use mathlib.Core.Bool.{Bool, true, false, not, ◌||◌}
use mathlib.Core.Option.{Option, none, some}
use mathlib.Core.List.{List, [], ◌∷◌, map}
use lib.ListN.{length, length-map}
use lib.Dec.{T}
use Rattle.octets.specs.Choice.{pick}
use Rattle.octets.specs.Lists.{member, all_in, has_repeat, ascending, all, keep}
use Rattle.octets.proofs.Tests.{both, all_head, all_tail, all_cons}
use Rattle.octets.proofs.ListLaws.{or_right, on_some, all_imply, all_join, all_map}
use Rattle.octets.proofs.Ordered.{keep_all, keep_passes, keep_ascending}
use Rattle.octets.proofs.MemberLaws.{all_members, kept_key}
use Rattle.octets.proofs.Bools.{not_or}
use Rattle.invariants.proofs.InsertLaws.{ascending_once}
use Rattle.rules.specs.Model.{Pdr, pdr_id, pdr_endpoint}
use Rattle.rules.specs.Request.{Request}
use Rattle.rules.specs.Stages.{names_one_of, goes_pdr, removed_pdrs}

-- ---- elements that go by a test, by their keys

in_all : (xs ys : List ℕ) → T (all (λ n. member n ys) xs) → T (all_in xs ys)
unfolding all_in
in_all [] ys h = tt
in_all (x ∷ xs) ys h = both (member x ys) (all_in xs ys) (all_head (λ n. member n ys) x xs h) (in_all xs ys (all_tail (λ n. member n ys) x xs h))

module _ {A : Type 0} (key : A → ℕ) (goes : A → Bool) where
  -- the keys of those that go
  abbrev keys_gone : List A → List ℕ
  keys_gone xs = map key (keep goes xs)

  keys_live : (xs : List A) → T (all_in (keys_gone xs) (map key xs))
  keys_live xs =
      in_all (keys_gone xs) (map key xs)
      (subst T (sym (all_map key (λ n. member n (map key xs)) (keep goes xs)))
      (keep_all goes (λ a. member (key a) (map key xs)) xs (subst T (all_map key (λ n. member n (map key xs)) xs) (all_members (map key xs)))))

  -- one that goes has its key among them
  named : (ys : List ℕ) (xs : List A) → T (all (λ n. member n ys) (keys_gone xs)) → T (all (λ a. member (key a) ys || not (goes a)) xs)
  unfolding keep all
  named ys [] h = tt
  named ys (x ∷ xs) h = one (goes x) refl h (λ g. named ys xs g)
    where
      test : A → Bool
      test a = member (key a) ys || not (goes a)

      by : (b m : Bool) → goes x ≡ b → (T b → T m) → T (m || not (goes x))
      by true true e k = tt
      by true false e k = absurd (k tt)
      by false true e k = tt
      by false false e k = subst (λ (c : Bool). T (not c)) (sym e) tt

      one : (b : Bool) → goes x ≡ b → T (all (λ n. member n ys) (map key (pick b (x ∷ keep goes xs) (keep goes xs)))) → (T (all (λ n. member n ys) (keys_gone xs)) → T (all test xs)) → T (all test (x ∷ xs))
      one true e g ih =
          all_cons test x xs (by true (member (key x) ys) e (λ t. all_head (λ n. member n ys) (key x) (keys_gone xs) g))
          (ih (all_tail (λ n. member n ys) (key x) (keys_gone xs) g))
      one false e g ih = all_cons test x xs (by false (member (key x) ys) e (λ t. absurd t)) (ih g)

  named_own : (xs : List A) → T (all (λ a. member (key a) (keys_gone xs) || not (goes a)) xs)
  named_own xs = named (keys_gone xs) xs (all_members (keys_gone xs))

  -- those whose key is not among them do not go
  stay_not : (xs : List A) → T (all (λ a. not (goes a)) (keep (kept_key key (keys_gone xs)) xs))
  stay_not xs =
      let kept = kept_key key (keys_gone xs) in
      all_join kept (λ a. member (key a) (keys_gone xs) || not (goes a)) (λ a. not (goes a)) (λ a k h. or_right (member (key a) (keys_gone xs)) (not (goes a)) h k)
      (keep kept xs) (keep_passes kept xs) (keep_all kept (λ a. member (key a) (keys_gone xs) || not (goes a)) xs (named_own xs))

  -- those that stay and those that go are no more than there were
  few : (ys : List ℕ) (xs : List A) → T (all (λ a. member (key a) ys || not (goes a)) xs) → length (keep (kept_key key ys) xs) + length (keep goes xs) ≤ length xs
  unfolding keep all
  few ys [] h = omega arith
  few ys (x ∷ xs) h = one (member (key x) ys) (goes x) (all_head test x xs h) (few ys xs (all_tail test x xs h))
    where
      test : A → Bool
      test a = member (key a) ys || not (goes a)

      one : (m g : Bool) → T (m || not g) → length (keep (kept_key key ys) xs) + length (keep goes xs) ≤ length xs
          → length (pick (not m) (x ∷ keep (kept_key key ys) xs) (keep (kept_key key ys) xs)) + length (pick g (x ∷ keep goes xs) (keep goes xs)) ≤ suc (length xs)
      one true true t e = omega arith
      one true false t e = omega arith
      one false true t e = absurd t
      one false false t e = omega arith

-- ---- PDRs

module _ (r : Request) (ps : List Pdr) where
  pub removed_live : T (all_in (removed_pdrs r ps) (map pdr_id ps))
  unfolding removed_pdrs
  removed_live = keys_live pdr_id (goes_pdr r) ps

  pub removed_once : T (ascending (map pdr_id ps)) → T (not (has_repeat (removed_pdrs r ps)))
  unfolding removed_pdrs
  removed_once up = ascending_once (removed_pdrs r ps) (keep_ascending (goes_pdr r) pdr_id ps up)

  pub removed_few : length (keep (kept_key pdr_id (removed_pdrs r ps)) ps) + length (removed_pdrs r ps) ≤ length ps
  unfolding removed_pdrs
  removed_few =
      let a = few pdr_id (goes_pdr r) (removed_pdrs r ps) ps (named_own pdr_id (goes_pdr r) ps) in
      let b = length-map (keep (goes_pdr r) ps) pdr_id in
      omega arith

  -- a PDR that stays names no removed endpoint
  pub stays_named : T (all (λ p. on_some (λ n. not (member n r.gone_endpoints)) (pdr_endpoint p)) (keep (kept_key pdr_id (removed_pdrs r ps)) ps))
  unfolding removed_pdrs goes_pdr
  stays_named =
      all_imply (λ p. not (goes_pdr r p)) (λ p. on_some (λ n. not (member n r.gone_endpoints)) (pdr_endpoint p))
      (λ p h. one (pdr_endpoint p) (not_or (member p.id r.gone_pdrs) (names_one_of r.gone_endpoints (pdr_endpoint p)) h).1)
      (keep (kept_key pdr_id (removed_pdrs r ps)) ps) (stay_not pdr_id (goes_pdr r) ps)
    where
      one : (o : Option ℕ) → T (not (names_one_of r.gone_endpoints o)) → T (on_some (λ n. not (member n r.gone_endpoints)) o)
      one none h = tt
      one (some e) h = unfold names_one_of in h
