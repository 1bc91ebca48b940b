-- A message that would get none of outcomes 3 to 5, by what its header says; and octets that are equal. Assumes nothing.
use Rattle.std.proofs.Common.{◌≡◌, ℕ, ◌≤◌, Bool, true, false, not, ◌&&◌, T, eqb, ltb, leb, List, [], ◌∷◌, length, refl, ap, nat_eq, ltb-false, ltb-true, le-leb, ◌∙◌}
use Rattle.std.specs.Cmp.Lexicographic.{pointwise}
use borrow.Author.Tests.{lt-leb}
use Rattle.octets.specs.Choice.{pick}
use Rattle.octets.specs.Octets.{same_octets}
use Rattle.octets.proofs.Tests.{and_left, and_right}
use Rattle.laws.proofs.HeaderLaws.{header_long}
use Rattle.rules.specs.Limits.{max_message}
use Rattle.rules.specs.Message.{header_allowed, served, kind_of, header_seid, set_deletion, header_length}
use Rattle.frame.specs.HeaderOf.{Opening, outcome, request, sets, header_of}
use Rattle.rules.specs.Store.{request_allowed}
use Rattle.std.specs.Prelude.{Result, Ok, Err, is_ok}
use Rattle.frame.specs.HeaderOf.{opened}
use Rattle.frame.specs.declared.header.Header.{Header}
use Rattle.frame.specs.declared.header.Header.TheVariants.{Request, Sets}
use Rattle.frame.specs.declared.header.Unserved.{Unserved}
use Rattle.frame.specs.declared.header.Unserved.TheVariants.{TooLong, Malformed, NotServed}

-- an answer of the header's that is no outcome
abbrev pub passes : Opening → Bool
passes (outcome n) = false
passes (request k n) = true
passes sets = true

by_header : (msg : List ℕ) → passes (header_of msg) ≡ request_allowed msg
unfolding header_of request_allowed
by_header msg = go (ltb max_message (length msg)) refl
  where
    others : (b c d : Bool) → passes (pick (not b) (outcome 4) (pick (not c) (outcome 5) (pick d sets (request (kind_of msg) (header_seid msg))))) ≡ (b && c)
    others true true true = refl
    others true true false = refl
    others true false d = refl
    others false c d = refl

    go : (a : Bool) → ltb max_message (length msg) ≡ a
        → passes (pick a (outcome 3) (pick (not (header_allowed msg)) (outcome 4) (pick (not (served (kind_of msg))) (outcome 5) (pick (eqb (kind_of msg) set_deletion) sets (request (kind_of msg) (header_seid msg))))))
        ≡ (leb (length msg) max_message && header_allowed msg && served (kind_of msg))
    go true p = rw (lt-leb (length msg) max_message (ltb-true max_message (length msg) p))
    go false p = rw (le-leb (length msg) max_message (ltb-false max_message (length msg) p)) (others (header_allowed msg) (served (kind_of msg)) (eqb (kind_of msg) set_deletion))

-- what an answer of the header's says
pub told : (msg : List ℕ) (o : Opening) → o ≡ header_of msg → passes o ≡ request_allowed msg
told msg o e = ap passes e ∙ by_header msg

-- a header is a request's where it is read
pub read_tells : (msg : List ℕ) (r : Result Header Unserved) → opened r ≡ header_of msg → is_ok r ≡ request_allowed msg
read_tells msg r e = by_case r ∙ told msg (opened r) e
  where
    by_case : (r : Result Header Unserved) → is_ok r ≡ passes (opened r)
    by_case (Ok (Request kind seid)) = refl
    by_case (Ok Sets) = refl
    by_case (Err TooLong) = refl
    by_case (Err Malformed) = refl
    by_case (Err NotServed) = refl

-- what `==` says of two slices
pub same_is : (a b : List ℕ) → pointwise nat_eq a b ≡ same_octets a b
unfolding same_octets
same_is [] [] = refl
same_is [] (y ∷ ys) = refl
same_is (x ∷ xs) [] = refl
same_is (x ∷ xs) (y ∷ ys) = ap (λ (t : Bool). eqb x y && t) (same_is xs ys)

-- its header is whole
pub request_header : (msg : List ℕ) → T (request_allowed msg) → header_length msg ≤ length msg
unfolding request_allowed
request_header msg h =
    header_long msg (and_right (leb (length msg) max_message) (header_allowed msg) (and_left (leb (length msg) max_message && header_allowed msg) (served (kind_of msg)) h))
