-- Elements that were written are read back: framed without a fault, and the same elements again.
-- Assumes nothing.
use mathlib.Core.Path.{◌≡◌, refl, sym, ap, ap₂, ◌∙◌, subst}
use Prim.Native.Nat.{ℕ, zero, suc, ◌+◌, ◌-◌, ◌*◌, ◌^◌, ◌≤◌, ◌<◌, zero-le}
use native.Mathlib.Nat.{le_refl, le_trans, le_of_eq, not-suc-le-zero, suc-mul}
use native.Mathlib.Omega.{arith}
use mathlib.Core.Bool.{Bool, true, false, not}
use mathlib.Core.Option.{Option, none, some}
use mathlib.Core.List.{List, [], ◌∷◌, ◌++◌, append_assoc, append-nil}
use lib.ListN.{length, take, drop, length-append, length-drop}
use lib.Dec.{T, ltb}
use mir.Facts.{no_ltb}
use lib.Seq.{take_at, drop_at, drop-drop}
use Rattle.octets.specs.Choice.{pick, or_else, is_nil}
use Rattle.octets.specs.Octets.{be, part, number_at, concat_map}
use Rattle.octets.specs.Lists.{member, all, keep}
use Rattle.octets.proofs.Tests.{pick_no, all_head, all_tail}
use Rattle.octets.proofs.Numbers.{number_be}
use Rattle.rules.specs.Message.{inside, Element, element_type, element_length, elements_up_to, elements, has_type, opened_in, Spot, spot, inner_fault, frame_up_to, frame}
use Rattle.rules.specs.Reply.{element}

-- ---- one element

-- an element's type and length have two octets each
unfoldable pub Fits : ℕ → List ℕ → Type 0
Fits t v = (t < 256 ^ 2) × (length v < 256 ^ 2)

module _ (t : ℕ) (v rest : List ℕ) (fits : Fits t v) where
  pub read_type : element_type (element t v ++ rest) ≡ t
  unfolding element_type element number_at be Fits
  read_type = number_be 2 t fits.0

  pub read_length : element_length (element t v ++ rest) ≡ length v
  unfolding element_length element number_at be Fits
  read_length = number_be 2 (length v) fits.1

  pub read_content : part 4 (element_length (element t v ++ rest)) (element t v ++ rest) ≡ v
  read_content = ap (λ (n : ℕ). take n (drop 4 (element t v ++ rest))) read_length ∙ front
    where
      front : take (length v) (drop 4 (element t v ++ rest)) ≡ v
      front = unfold element be in (take_at v rest (length v) refl)

  pub read_rest : drop (4 + element_length (element t v ++ rest)) (element t v ++ rest) ≡ rest
  read_rest = ap (λ (n : ℕ). drop (4 + n) (element t v ++ rest)) read_length ∙ sym (drop-drop (length v) 4 (element t v ++ rest)) ∙ back
    where
      back : drop (length v) (drop 4 (element t v ++ rest)) ≡ rest
      back = unfold element be in (drop_at v rest (length v) refl)

  pub length_element : length (element t v ++ rest) ≡ 4 + (length v + length rest)
  unfolding element be
  length_element = ap (λ (n : ℕ). suc (suc (suc (suc n)))) (length-append v rest) ∙ four_more (length v + length rest)
    where
      four_more : (n : ℕ) → suc (suc (suc (suc n))) ≡ 4 + n
      four_more n = omega arith

abbrev pub el : ℕ → ℕ → List ℕ → Element
el p t v = record { type = t; content = v; place = p }

-- the place after an element at place p with the value v
abbrev pub after : ℕ → List ℕ → ℕ
after p v = p + (4 + length v)

-- ---- any count that is large enough gives the same

pub shorter : (e n : ℕ) (xs : List ℕ) → length xs ≤ suc n → length (drop (4 + e) xs) ≤ n
shorter e n xs h = le_trans (le_of_eq (length-drop (4 + e) xs)) (omega arith)

pub elements_enough : (n k at : ℕ) (xs : List ℕ) → length xs ≤ n → length xs ≤ k → elements_up_to n at xs ≡ elements_up_to k at xs
unfolding elements_up_to
elements_enough zero zero at xs h g = refl
elements_enough zero (suc k) at [] h g = refl
elements_enough zero (suc k) at (x ∷ xs) h g = absurd (not-suc-le-zero h)
elements_enough (suc n) zero at [] h g = refl
elements_enough (suc n) zero at (x ∷ xs) h g = absurd (not-suc-le-zero g)
elements_enough (suc n) (suc k) at xs h g =
    ap (λ (more : List Element). pick (ltb (length xs) 4) [] (el at (element_type xs) (part 4 (element_length xs) xs) ∷ more))
    (elements_enough n k (at + (4 + element_length xs)) (drop (4 + element_length xs) xs) (shorter (element_length xs) n xs h) (shorter (element_length xs) k xs g))

module _ (inner : Spot → ℕ → List ℕ → Option Spot) (kind : ℕ) (group : Spot) where
  pub frame_enough : (n k at : ℕ) (xs : List ℕ) → length xs ≤ n → length xs ≤ k → frame_up_to inner kind group n at xs ≡ frame_up_to inner kind group k at xs
  unfolding frame_up_to
  frame_enough zero zero at xs h g = refl
  frame_enough zero (suc k) at [] h g = refl
  frame_enough zero (suc k) at (x ∷ xs) h g = absurd (not-suc-le-zero h)
  frame_enough (suc n) zero at [] h g = refl
  frame_enough (suc n) zero at (x ∷ xs) h g = absurd (not-suc-le-zero g)
  frame_enough (suc n) (suc k) at xs h g =
      ap (λ (more : Option Spot). pick (is_nil xs) none
      (pick (ltb (length xs) 4) (some group)
      (pick (ltb (length xs) (4 + element_length xs)) (some (spot (element_type xs) at)) (or_else (inner_fault inner kind group at xs) more))))
      (frame_enough n k (at + (4 + element_length xs)) (drop (4 + element_length xs) xs) (shorter (element_length xs) n xs h) (shorter (element_length xs) k xs g))

-- ---- how many elements have a type does not depend on their place

counts_up_to : (t n p q : ℕ) (xs : List ℕ) → length (keep (has_type t) (elements_up_to n p xs)) ≡ length (keep (has_type t) (elements_up_to n q xs))
unfolding elements_up_to
counts_up_to t zero p q xs = refl
counts_up_to t (suc n) p q xs = one (counts_up_to t n _ _ _) (ltb (length xs) 4)
  where
    rest : List ℕ
    rest = drop (4 + element_length xs) xs

    e : ℕ → Element
    e k = el k (element_type xs) (part 4 (element_length xs) xs)

    more : ℕ → List Element
    more k = elements_up_to n (k + (4 + element_length xs)) rest

    Same : Type 0
    Same = length (keep (has_type t) (more p)) ≡ length (keep (has_type t) (more q))

    first : Same → (b : Bool) → length (pick b (e p ∷ keep (has_type t) (more p)) (keep (has_type t) (more p))) ≡ length (pick b (e q ∷ keep (has_type t) (more q)) (keep (has_type t) (more q)))
    first h true = ap (λ (k : ℕ). suc k) h
    first h false = h

    one : Same → (b : Bool) → length (keep (has_type t) (pick b [] (e p ∷ more p))) ≡ length (keep (has_type t) (pick b [] (e q ∷ more q)))
    one h true = refl
    one h false = unfold keep has_type in (first h (has_type t (e p)))

pub counts_alike : (t p q : ℕ) (xs : List ℕ) → length (keep (has_type t) (elements p xs)) ≡ length (keep (has_type t) (elements q xs))
unfolding elements
counts_alike t p q xs = counts_up_to t (length xs) p q xs

-- ---- elements in front of others

suc_length : (xs : List ℕ) → 4 ≤ length xs → length xs ≡ suc (length xs - 1)
suc_length xs h = omega arith

not_nil : (xs : List ℕ) → 4 ≤ length xs → T (not (is_nil xs))
not_nil [] h = absurd (not-suc-le-zero h)
not_nil (x ∷ xs) h = tt

module _ (t : ℕ) (v rest : List ℕ) (fits : Fits t v) where
  all_of_it : List ℕ
  all_of_it = element t v ++ rest

  four_at_least : 4 ≤ length all_of_it
  unfolding all_of_it
  four_at_least = le_trans (omega arith) (le_of_eq (sym (length_element t v rest fits)))

  whole : 4 + element_length all_of_it ≤ length all_of_it
  unfolding all_of_it
  whole = le_trans (le_trans (le_of_eq (ap (λ (n : ℕ). 4 + n) (read_length t v rest fits))) (omega arith)) (le_of_eq (sym (length_element t v rest fits)))

  room : length rest ≤ length all_of_it - 1
  unfolding all_of_it
  room = let e = length_element t v rest fits in omega arith

  -- one more element, then the others
  pub elements_cons : (at : ℕ) → elements at (element t v ++ rest) ≡ el at t v ∷ elements (after at v) rest
  unfolding elements elements_up_to all_of_it
  elements_cons at =
      ap (λ (n : ℕ). elements_up_to n at all_of_it) (suc_length all_of_it four_at_least)
      ∙ pick_no (ltb (length all_of_it) 4) _ _ (no_ltb four_at_least)
      ∙ (λ i. el at (read_type t v rest fits i) (read_content t v rest fits i)
      ∷ (ap₂ (λ (k : ℕ) (xs : List ℕ). elements_up_to (length all_of_it - 1) (at + (4 + k)) xs) (read_length t v rest fits) (read_rest t v rest fits)
      ∙ elements_enough (length all_of_it - 1) (length rest) (after at v) rest room (le_refl (length rest))) i)

  module _ (inner : Spot → ℕ → List ℕ → Option Spot) (kind : ℕ) (group : Spot) (at : ℕ) where
    inner_read : inner_fault inner kind group at all_of_it ≡ pick (member t (opened_in kind group.type)) (inner (spot t at) (inside at) v) none
    unfolding inner_fault all_of_it
    inner_read =
        λ i. pick (member (read_type t v rest fits i) (opened_in kind group.type)) (inner (spot (read_type t v rest fits i) at) (inside at) (read_content t v rest fits i)) none

    -- the element is whole; what is left is inside it, and after it
    pub frame_cons : frame_up_to inner kind group (length (element t v ++ rest)) at (element t v ++ rest)
        ≡ or_else (pick (member t (opened_in kind group.type)) (inner (spot t at) (inside at) v) none) (frame_up_to inner kind group (length rest) (after at v) rest)
    unfolding frame_up_to all_of_it
    frame_cons =
        ap (λ (n : ℕ). frame_up_to inner kind group n at all_of_it) (suc_length all_of_it four_at_least)
        ∙ pick_no (is_nil all_of_it) _ _ (not_nil all_of_it four_at_least)
        ∙ pick_no (ltb (length all_of_it) 4) _ _ (no_ltb four_at_least)
        ∙ pick_no (ltb (length all_of_it) (4 + element_length all_of_it)) _ _ (no_ltb whole)
        ∙ ap₂ or_else inner_read
        (ap₂ (λ (k : ℕ) (xs : List ℕ). frame_up_to inner kind group (length all_of_it - 1) (at + (4 + k)) xs) (read_length t v rest fits) (read_rest t v rest fits)
        ∙ frame_enough inner kind group (length all_of_it - 1) (length rest) (after at v) rest room (le_refl (length rest)))

-- ---- elements at the end, and framing without a fault

pub elements_nil : (at : ℕ) → elements at [] ≡ []
unfolding elements elements_up_to
elements_nil at = refl

pub elements_last : (at t : ℕ) (v : List ℕ) → Fits t v → elements at (element t v) ≡ el at t v ∷ []
elements_last at t v fits =
    ap (elements at) (sym (append-nil (element t v))) ∙ elements_cons t v [] fits at ∙ ap (λ (es : List Element). el at t v ∷ es) (elements_nil (after at v))

-- octets without a fault, wherever they stand, in a group of type g
unfoldable pub Framed : ℕ → ℕ → ℕ → List ℕ → Type 0
Framed d kind g xs = (p at : ℕ) → frame d kind (spot g p) at xs ≡ none

-- no fault inside an element: it is not opened here, or it is framed itself
unfoldable pub Inside : ℕ → ℕ → ℕ → ℕ → List ℕ → Type 0
Inside d kind g t v = (p at : ℕ) → pick (member t (opened_in kind g)) (frame d kind (spot t p) at v) none ≡ none

pub framed_nil : (d kind g : ℕ) → Framed (suc d) kind g []
unfolding frame frame_up_to Framed
framed_nil d kind g p at = refl

pub framed_cons : (d kind g t : ℕ) (v rest : List ℕ) → Fits t v → Inside d kind g t v → Framed (suc d) kind g rest → Framed (suc d) kind g (element t v ++ rest)
unfolding frame Framed Inside
framed_cons d kind g t v rest fits clear more p at =
    frame_cons t v rest fits (frame d kind) kind (spot g p) at ∙ ap₂ or_else (clear at (inside at)) (more p (after at v))

pub framed_last : (d kind g t : ℕ) (v : List ℕ) → Fits t v → Inside d kind g t v → Framed (suc d) kind g (element t v)
framed_last d kind g t v fits clear = subst (Framed (suc d) kind g) (append-nil (element t v)) (framed_cons d kind g t v [] fits clear (framed_nil d kind g))

pub length_one : (t : ℕ) (v : List ℕ) → length (element t v) ≡ 4 + length v
unfolding element be
length_one t v = four_on (length v)
  where
    four_on : (n : ℕ) → suc (suc (suc (suc n))) ≡ 4 + n
    four_on n = omega arith

-- ---- an element for each record of a list

module _ {A : Type 0} (t : ℕ) (g : A → List ℕ) (p : A → Bool) where
  -- the record's element, as octets and as read
  unfoldable pub written : A → List ℕ
  written a = element t (g a)

  unfoldable pub as_element : ℕ → A → Element
  as_element at a = el at t (g a)

  -- one after the other from a place on, and the place after them
  unfoldable pub as_elements : ℕ → List A → List Element
  as_elements at [] = []
  as_elements at (r ∷ rs) = as_element at r ∷ as_elements (after at (g r)) rs

  unfoldable pub after_all : ℕ → List A → ℕ
  after_all at [] = at
  after_all at (r ∷ rs) = after_all (after at (g r)) rs

  pub elements_map : ((a : A) → T (p a) → Fits t (g a)) → (rs : List A) → T (all p rs) → (at : ℕ) (rest : List ℕ)
      → elements at (concat_map written rs ++ rest) ≡ as_elements at rs ++ elements (after_all at rs) rest
  unfolding concat_map written as_element as_elements after_all
  elements_map fits [] h at rest = refl
  elements_map fits (r ∷ rs) h at rest =
      ap (elements at) (append_assoc (element t (g r)) (concat_map written rs) rest)
      ∙ elements_cons t (g r) (concat_map written rs ++ rest) (fits r (all_head p r rs h)) at
      ∙ ap (λ (es : List Element). el at t (g r) ∷ es) (elements_map fits rs (all_tail p r rs h) (after at (g r)) rest)

  pub framed_map : (d kind group : ℕ) → ((a : A) → T (p a) → Fits t (g a)) → ((a : A) → T (p a) → Inside d kind group t (g a))
      → (rs : List A) → T (all p rs) → (rest : List ℕ) → Framed (suc d) kind group rest → Framed (suc d) kind group (concat_map written rs ++ rest)
  unfolding concat_map written
  framed_map d kind group fits clear [] h rest more = more
  framed_map d kind group fits clear (r ∷ rs) h rest more =
      subst (Framed (suc d) kind group) (sym (append_assoc (element t (g r)) (concat_map written rs) rest))
      (framed_cons d kind group t (g r) (concat_map written rs ++ rest) (fits r (all_head p r rs h)) (clear r (all_head p r rs h))
      (framed_map d kind group fits clear rs (all_tail p r rs h) rest more))

  -- at most 4 + k octets for each
  pub short_map : (k : ℕ) → ((a : A) → T (p a) → length (g a) ≤ k) → (rs : List A) → T (all p rs) → length (concat_map written rs) ≤ length rs * (4 + k)
  unfolding concat_map written
  short_map k short [] h = zero-le
  short_map k short (r ∷ rs) h =
      let a = length-append (element t (g r)) (concat_map written rs) in
      let b = length_one t (g r) in
      let c = short r (all_head p r rs h) in
      let d = short_map k short rs (all_tail p r rs h) in
      let e = suc-mul (length rs) (4 + k) in
      omega arith
