-- What is written one piece after the other is written at once: for every writer of a reply. Of general use.
-- Assumes nothing.
use mathlib.Core.Path.{◌≡◌, sym, ap, ◌∙◌}
use Prim.Native.Nat.{ℕ, ◌+◌, ◌-◌, ◌≤◌}
use native.Mathlib.Nat.{add_assoc, add-zero}
use native.Mathlib.Omega.{arith}
use mathlib.Core.List.{List, [], ◌++◌, append_assoc}
use lib.ListN.{length, length-append}
use Rattle.octets.specs.Octets.{put, be}
use Rattle.octets.proofs.Numbers.{length_be}
use Rattle.octets.proofs.Put.{put_nil, put_front, put_behind}
use Rattle.rules.specs.Reply.{element}
use Rattle.writing.specs.Placed.{Placed}

pub length_element : (kind : ℕ) (v : List ℕ) → length (element kind v) ≡ 4 + length v
unfolding element be
length_element kind v = omega arith

-- ---- what was placed

pub placed_none : (s : List ℕ) (at : ℕ) → Placed s at [] at s
placed_none s at = record { ends = sym (add-zero at); holds = sym (put_nil at s) }

pub placed_then : {s s₁ s₂ : List ℕ} {at m e : ℕ} {xs ys : List ℕ} → Placed s at xs m s₁ → Placed s₁ m ys e s₂ → at + length xs ≤ length s → Placed s at (xs ++ ys) e s₂
placed_then {s} {s₁} {s₂} {at} {m} {e} {xs} {ys} p q h = record {
  ends = q.ends ∙ ap (λ (k : ℕ). k + length ys) p.ends ∙ add_assoc at (length xs) (length ys) ∙ ap (λ (k : ℕ). at + k) (sym (length-append xs ys));
  holds = q.holds ∙ ap (λ (k : ℕ). put k ys s₁) p.ends ∙ ap (put (at + length xs) ys) p.holds ∙ put_behind at xs ys s h;
}

-- an element: its content from place q on, then its type and length n before it
pub placed_element : (kind at q n e : ℕ) (xs s : List ℕ) {s₁ s₂ : List ℕ} → q ≡ at + 4 → q ≤ length s → e ≡ q + length xs → n ≡ length xs
    → s₁ ≡ put q xs s → s₂ ≡ put at (be 2 kind ++ be 2 n) s₁ → Placed s at (element kind xs) e s₂
unfolding element
placed_element kind at q n e xs s {s₁} f h g m p w =
    let head : List ℕ = be 2 kind ++ be 2 (length xs) in
    let l : length head ≡ 4 = simp (length-append, length_be) in
    let b : q ≡ at + length head = omega arith in
    record {
      ends = let k = length_element kind xs in omega arith;
      holds =
          w ∙ ap (λ (k : ℕ). put at (be 2 kind ++ be 2 k) s₁) m ∙ ap (put at head) (p ∙ ap (λ (k : ℕ). put k xs s) b)
          ∙ put_front at head xs s (omega arith) ∙ ap (λ (ys : List ℕ). put at ys s) (append_assoc (be 2 kind) (be 2 (length xs)) xs);
    }

-- the same, of what was placed
pub placed_group : (kind at front : ℕ) (xs s : List ℕ) {s₁ s₂ : List ℕ} {e : ℕ} → front ≡ at + 4 → front ≤ length s
    → Placed s front xs e s₁ → s₂ ≡ put at (be 2 kind ++ be 2 (e - front)) s₁ → Placed s at (element kind xs) e s₂
placed_group kind at front xs s {s₁} {s₂} {e} f h p q =
    let k = p.ends in
    placed_element kind at front (e - front) e xs s f h p.ends (omega arith) p.holds q
