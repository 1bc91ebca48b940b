-- The laws of `put` and `part`: a store at either end of what is put makes it one octet longer, two puts side by side are one,
-- and what holds in a loop that writes from the front. Assumes nothing.
use mathlib.Core.Path.{◌≡◌, refl, sym, ap, ap₂, ◌∙◌}
use mathlib.Core.List.{List, [], ◌∷◌, ◌++◌, append_assoc, append-nil}
use Prim.Native.Nat.{ℕ, zero, suc, ◌+◌, ◌-◌, ◌≤◌, ◌<◌}
use native.Mathlib.Nat.{not-suc-le-zero, add-zero, zero-add, suc-add, add_assoc}
use native.Mathlib.Numerals.{add-one}
use native.Mathlib.Omega.{arith}
use lib.ListN.{length, take, drop, get_or, set, length-append, length-drop, take-append-drop, length-set, drop_of_length-le}
use lib.Seq.{paste, take-add, take-nil, take-set-le, drop-set-lt, get_or-set_same, set_split, take-append-le, take-take, take_at, drop_at, drop-drop, length-take-le, take_all, take-suc, drop-cons, set_at, get_or-take, get_or-drop}
use Rattle.octets.specs.Octets.{put, part}

pub put_nil : (at : ℕ) (s : List ℕ) → put at [] s ≡ s
unfolding put
put_nil at s = rw add-zero (take-append-drop at s)

pub length_put : (at : ℕ) (v s : List ℕ) → at + length v ≤ length s → length (put at v s) ≡ length s
unfolding put
length_put at v s h = simp (length-append, length-drop, length-take-le at s (omega arith)) (omega arith)

-- a store just after what was put
put_snoc : (at : ℕ) (v s : List ℕ) (x : ℕ) → at + length v < length s → set (put at v s) (at + length v) x ≡ put at (v ++ (x ∷ [])) s
unfolding put
put_snoc at v s x h =
    let n : ℕ = at + length v in
    let p : List ℕ = take at s ++ v in
    let long : length p ≡ n = length-append (take at s) v ∙ ap (λ (k : ℕ). k + length v) (length-take-le at s (omega arith)) in
    ap (λ (l : List ℕ). set (take at s ++ (v ++ l)) n x) (drop-cons s n 0 h)
    ∙ ap (λ (l : List ℕ). set l n x) (sym (append_assoc (take at s) v (get_or s n 0 ∷ drop (suc n) s)))
    ∙ set_at p (get_or s n 0) (drop (suc n) s) x n long
    ∙ simp (append_assoc, length-append, ← add_assoc, add-one)

module _ (at : ℕ) (v s : List ℕ) (fits : at + length v ≤ length s) where
  -- one turn of a loop that writes v from its front
  pub put_up : (i : ℕ) → i < length v → set (put at (take i v) s) (at + i) (get_or v i 0) ≡ put at (take (i + 1) v) s
  put_up i h =
      let long : length (take i v) ≡ i = length-take-le i v (omega arith) in
      ap (λ (n : ℕ). set (put at (take i v) s) (at + n) (get_or v i 0)) (sym long)
      ∙ put_snoc at (take i v) s (get_or v i 0) (rw long (omega arith))
      ∙ ap (λ (l : List ℕ). put at l s) (sym (take-suc v i 0 h) ∙ rw add-one)

-- two puts side by side are one: the later one in front of the earlier, and behind it
pub put_front : (at : ℕ) (a b s : List ℕ) → at + length a ≤ length s → put at a (put (at + length a) b s) ≡ put at (a ++ b) s
unfolding put
put_front at a b s h =
    let n : ℕ = at + length a in
    let rest : List ℕ = b ++ drop (n + length b) s in
    let long : length (take n s) ≡ n = length-take-le n s h in
    ap₂ (λ (l r : List ℕ). l ++ (a ++ r))
    (take-append-le at (take n s) rest (rw long (omega arith)) ∙ take-take at n s (omega arith))
    (drop_at (take n s) rest n long)
    ∙ simp (append_assoc, length-append, ← add_assoc)

pub put_behind : (at : ℕ) (a b s : List ℕ) → at + length a ≤ length s → put (at + length a) b (put at a s) ≡ put at (a ++ b) s
unfolding put
put_behind at a b s h =
    let n : ℕ = at + length a in
    let p : List ℕ = take at s ++ a in
    let long : length p ≡ n = length-append (take at s) a ∙ ap (λ (k : ℕ). k + length a) (length-take-le at s (omega arith)) in
    ap (λ (l : List ℕ). take n l ++ (b ++ drop (n + length b) l)) (sym (append_assoc (take at s) a (drop n s)))
    ∙ ap₂ (λ (l r : List ℕ). l ++ (b ++ r)) (take_at p (drop n s) n long)
    (sym (drop-drop (length b) n (p ++ drop n s)) ∙ ap (drop (length b)) (drop_at p (drop n s) n long) ∙ drop-drop (length b) n s)
    ∙ simp (append_assoc, length-append, ← add_assoc)

-- what is put in place of a stretch x of the list, and a stretch taken out of it
pub put_over : (a x z v : List ℕ) (at : ℕ) → length a ≡ at → length v ≡ length x → put at v (a ++ (x ++ z)) ≡ a ++ (v ++ z)
unfolding put
put_over a x z v at ea ev =
    ap₂ (λ (l r : List ℕ). l ++ (v ++ r)) (take_at a (x ++ z) at ea)
    (sym (drop-drop (length v) at (a ++ (x ++ z))) ∙ ap (drop (length v)) (drop_at a (x ++ z) at ea) ∙ drop_at x z (length v) (sym ev))

pub part_of : (a x z : List ℕ) (at n : ℕ) → length a ≡ at → length x ≡ n → part at n (a ++ (x ++ z)) ≡ x
part_of a x z at n ea ex = ap (take n) (drop_at a (x ++ z) at ea) ∙ take_at x z n ex

pub length_part : (at n : ℕ) (s : List ℕ) → at + n ≤ length s → length (part at n s) ≡ n
length_part at n s h = length-take-le n (drop at s) (rw length-drop (omega arith))

-- A part that was lent, `&mut s[a..e]`, and came back as v: how the borrow checker has the whole, and how `put` has it. v is as long as the part was.
pub put_lent : (a e : ℕ) (s v : List ℕ) → a ≤ e → e ≤ length s → length v ≡ length (part a (e - a) s) → take a s ++ (v ++ drop (e - a) (drop a s)) ≡ put a v s
unfolding put
put_lent a e s v h l q =
    let long : length v ≡ e - a = q ∙ length_part a (e - a) s (omega arith) in
    ap (λ (r : List ℕ). take a s ++ (v ++ r)) (drop-drop (e - a) a s ∙ ap (λ (n : ℕ). drop (a + n) s) (sym long))

-- the octets i to j of a list copied to `at`, as std has the whole afterwards
pub put_copied : (i j at : ℕ) (s : List ℕ) → i ≤ j → j ≤ length s → paste s at (drop i s) (j - i) ≡ put at (part i (j - i) s) s
unfolding put
put_copied i j at s h l = append_assoc (take at s) (part i (j - i) s) (drop (at + (j - i)) s) ∙ rw (length_part i (j - i) s (omega arith))

-- an octet of a part
pub get_d_part : (at n i : ℕ) (s : List ℕ) → i < n → get_or (part at n s) i 0 ≡ get_or s (at + i) 0
get_d_part at n i s h = get_or-take n (drop at s) i 0 h ∙ get_or-drop at s i 0

-- What holds in a loop that writes the n octets v at `at` from the front: s₀ is the slice before the loop, s the slice at
-- its head, and i octets are written.
pub record Ahead (v : List ℕ) (at n : ℕ) (s₀ s : List ℕ) (i : ℕ) : Type 0 where
  pub size : length v ≡ n
  pub fits : at + n ≤ length s₀
  pub within : i ≤ n
  pub long : length s ≡ length s₀
  pub state : s ≡ put at (take i v) s₀

module _ {v : List ℕ} {at n : ℕ} {s₀ : List ℕ} where
  pub ahead_none : length v ≡ n → at + n ≤ length s₀ → Ahead v at n s₀ s₀ 0
  ahead_none e h = record { size = e; fits = h; within = omega arith; long = refl; state = sym (put_nil at s₀) }

  pub ahead_more : {s : List ℕ} {i x : ℕ} → Ahead v at n s₀ s i → i < n → x ≡ get_or v i 0 → Ahead v at n s₀ (set s (at + i) x) (i + 1)
  ahead_more {s} {i} {x} a h e = record {
    size = a.size;
    fits = a.fits;
    within = omega arith;
    long = length-set s (at + i) x ∙ a.long;
    state = ap₂ (λ (l : List ℕ) (y : ℕ). set l (at + i) y) a.state e ∙ put_up at v s₀ (omega arith) i (omega arith);
  }

  pub ahead_all : {s : List ℕ} {i : ℕ} → Ahead v at n s₀ s i → n ≤ i → s ≡ put at v s₀
  ahead_all {s} {i} a h = a.state ∙ ap (λ (l : List ℕ). put at l s₀) (take_all i v (omega arith))

-- ---- stores and puts in turn

pub put_none : (at : ℕ) (xs s : List ℕ) → length xs ≤ 0 → put at xs s ≡ s
put_none at [] s h = put_nil at s
put_none at (x ∷ xs) s h = absurd (not-suc-le-zero h)

-- a turn of a loop that stores the last of the octets that are left, and counts down
pub put_turn : (at n : ℕ) (xs ys : List ℕ) (b : ℕ) (s t : List ℕ) → ys ≡ xs ++ (b ∷ []) → length xs ≡ n - 1 → 0 < n → at + n ≤ length s
    → put at ys s ≡ t → put at xs (set s (at + (n - 1)) b) ≡ t
unfolding put
put_turn at n xs ys b s t y e p h q =
    let m : ℕ = at + (n - 1) in
    let k : at + length xs ≡ m = ap (λ (i : ℕ). at + i) e in
    let l : at + (n - 1 + 1) ≡ suc m = omega arith in
    let r : take at s ++ ((xs ++ (b ∷ [])) ++ drop (suc m) s) ≡ t = rw (y, length-append, e, l) at q in
    rw (k, take-set-le at s m b (omega arith), drop-cons (set s m b) m 0 (simp length-set (omega arith)), get_or-set_same s m b 0 (omega arith), drop-set-lt (suc m) s m b (omega arith))
    (simp append_assoc at r)

-- octets put after octets, of which there are n
pub put_put : (at n : ℕ) (xs ys s : List ℕ) → length xs ≡ n → at + n ≤ length s → put (at + n) ys (put at xs s) ≡ put at (xs ++ ys) s
put_put at n xs ys s e h = rw (← e) (put_behind at xs ys s (omega arith))

-- a store
pub set_put : (at b : ℕ) (s : List ℕ) → at < length s → set s at b ≡ put at (b ∷ []) s
unfolding put
set_put at b s h = rw (set_split s at b h, add-one)

-- octets b at place q, behind the octets a at place `at`; and one octet there
pub next_put : (at q : ℕ) (a b s : List ℕ) {s₁ s₂ : List ℕ} → s₁ ≡ put at a s → s₂ ≡ put q b s₁ → q ≡ at + length a → q ≤ length s → s₂ ≡ put at (a ++ b) s
next_put at q a b s {s₁} {s₂} e f l h = f ∙ rw (e, l) (put_behind at a b s (omega arith))

pub next_set : (at q : ℕ) (a : List ℕ) (x : ℕ) (s : List ℕ) {s₁ : List ℕ} → s₁ ≡ put at a s → q ≡ at + length a → q < length s → set s₁ q x ≡ put at (a ++ (x ∷ [])) s
next_set at q a x s {s₁} e l h =
    let long : length s₁ ≡ length s = ap length e ∙ length_put at a s (omega arith) in
    next_put at q a (x ∷ []) s e (set_put q x s₁ (omega arith)) l (omega arith)

-- octets over a whole list
pub put_whole : (a s : List ℕ) → length a ≡ length s → put 0 a s ≡ a
unfolding put
put_whole a s e = ap (λ (l : List ℕ). a ++ l) (drop_of_length-le s {i = 0 + length a} (omega arith)) ∙ append-nil a

-- two parts side by side
pub part_two : (at n m : ℕ) (s : List ℕ) → part at n s ++ part (at + n) m s ≡ part at (n + m) s
part_two at n m s = rw (take-add n m (drop at s), drop-drop n at s)

-- the part `&s[n..]`
pub part_from : (n : ℕ) (s : List ℕ) → take (length s - n) (drop n s) ≡ drop n s
part_from n s = take_all (length s - n) (drop n s) (omega (arith, length-drop n s))

-- a front without its own front
pub drop_take : {A : Type 0} (m n : ℕ) (l : List A) → drop m (take (m + n) l) ≡ take n (drop m l)
drop_take zero n l = rw zero-add
drop_take (suc m) n [] = rw suc-add (sym (take-nil n))
drop_take (suc m) n (x ∷ l) = rw suc-add (drop_take m n l)

-- a part of a part
pub part_part : (at n i k : ℕ) (s : List ℕ) → i + k ≤ n → part i k (part at n s) ≡ part (at + i) k s
part_part at n i k s h =
    let split : n ≡ i + (n - i) = omega arith in
    ap (λ (m : ℕ). take k (drop i (take m (drop at s)))) split
    ∙ ap (take k) (drop_take i (n - i) (drop at s))
    ∙ take-take k (n - i) (drop i (drop at s)) (omega arith)
    ∙ ap (take k) (drop-drop i at s)

-- what is put within a part, which is put back
pub put_within : (at n i : ℕ) (v s : List ℕ) → i + length v ≤ n → at + n ≤ length s → put at (put i v (part at n s)) s ≡ put (at + i) v s
unfolding put
put_within at n i v s h l =
    let p : List ℕ = part at n s in
    let front : List ℕ = take at s in
    let long : length p ≡ n = length_part at n s l in
    let size : length (take i p ++ (v ++ drop (i + length v) p)) ≡ n = length_put i v p (omega arith) ∙ long in
    ap (λ (k : ℕ). front ++ ((take i p ++ (v ++ drop (i + length v) p)) ++ drop (at + k) s)) size
    ∙ ap (λ (r : List ℕ). front ++ r) (append_assoc (take i p) (v ++ drop (i + length v) p) (drop (at + n) s) ∙ ap (λ (r : List ℕ). take i p ++ r) (append_assoc v (drop (i + length v) p) (drop (at + n) s)))
    ∙ ap₂ (λ (b z : List ℕ). front ++ (b ++ (v ++ z))) (take-take i n (drop at s) (omega arith)) rest
    ∙ sym (append_assoc front (take i (drop at s)) (v ++ drop (at + i + length v) s))
    ∙ ap (λ (b : List ℕ). b ++ (v ++ drop (at + i + length v) s)) (sym (take-add at i s))
  where
    rest : drop (i + length v) (part at n s) ++ drop (at + n) s ≡ drop (at + i + length v) s
    rest =
        let k : ℕ = i + length v in
        let m : n ≡ k + (n - k) = omega arith in
        ap (λ (x : ℕ). drop k (take x (drop at s)) ++ drop (at + n) s) m
        ∙ ap (λ (b : List ℕ). b ++ drop (at + n) s) (drop_take k (n - k) (drop at s))
        ∙ ap (λ (z : List ℕ). take (n - k) (drop k (drop at s)) ++ z) (sym (drop-drop (n - k) k (drop at s) ∙ drop-drop (k + (n - k)) at s ∙ ap (λ (x : ℕ). drop (at + x) s) (sym m)))
        ∙ take-append-drop (n - k) (drop k (drop at s))
        ∙ drop-drop k at s
        ∙ ap (λ (x : ℕ). drop x s) (omega arith)

-- octets copied within a part that was lent
pub put_moved : (at e i j to : ℕ) (s v : List ℕ) → at ≤ e → e ≤ length s → i ≤ j → j ≤ e - at → to + (j - i) ≤ e - at
    → v ≡ paste (part at (e - at) s) to (drop i (part at (e - at) s)) (j - i)
    → take at s ++ (v ++ drop (e - at) (drop at s)) ≡ put (at + to) (part (at + i) (j - i) s) s
put_moved at e i j to s v h l o f t q =
    let p : List ℕ = part at (e - at) s in
    let x : List ℕ = part i (j - i) p in
    let long : length p ≡ e - at = length_part at (e - at) s (omega arith) in
    let size : length x ≡ j - i = length_part i (j - i) p (omega arith) in
    let is : v ≡ put to x p = q ∙ put_copied i j to p o (omega arith) in
    put_lent at e s v h l (ap length is ∙ length_put to x p (omega arith))
    ∙ ap (λ (w : List ℕ). put at w s) is
    ∙ put_within at (e - at) to x s (omega arith) (omega arith)
    ∙ ap (λ (w : List ℕ). put (at + to) w s) (part_part at (e - at) i (j - i) s (omega arith))
