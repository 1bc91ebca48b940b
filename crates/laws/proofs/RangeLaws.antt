-- The numbers of a range that are not held: each is in the range and not held, they ascend, and there are as many as the range has less the
-- different ones that are held. TEIDs and addresses are two uses of these laws.
-- Assumes nothing.
use mathlib.Core.Path.{◌≡◌, refl, sym, ap, ◌∙◌, subst}
use Prim.Native.Nat.{ℕ, zero, suc, ◌+◌, ◌-◌, ◌≤◌, ◌<◌, zero-le, suc-le-suc}
use native.Mathlib.Nat.{le_refl, le_trans, le_antisymm}
use native.Mathlib.Omega.{arith}
use mathlib.Core.Bool.{Bool, true, false, not, ◌&&◌, ◌||◌}
use mathlib.Core.List.{List, [], ◌∷◌}
use lib.ListN.{length}
use lib.Dec.{T, T_not, leb, ltb, eqb, leb→le, ltb→lt, eqb→eq, lt→ltb}
use mir.Facts.{yes_leb}
use Rattle.octets.specs.Choice.{pick, flag}
use Rattle.octets.specs.Lists.{member, all, all_pairs, range, without, has_repeat, distinct}
use Rattle.octets.proofs.Tests.{pick_either, both, and_left, and_right, all_head, all_tail, all_cons, neither_one, no_eqb}
use Rattle.octets.proofs.Ordered.{pairs_head, pairs_tail, pairs_cons, ne_of}
use Rattle.octets.proofs.ListLaws.{by_test, or_right, or_by_left, or_by_right, all_imply, pairs_imply}
use Rattle.octets.proofs.MemberLaws.{differ_turn, member_without}
use Rattle.octets.proofs.Bools.{not_or}

pub above_not_member : (x : ℕ) (xs : List ℕ) → T (all (λ n. ltb x n) xs) → T (not (member x xs))
unfolding member
above_not_member x [] h = tt
above_not_member x (y ∷ xs) h =
    let over = ltb→lt x y (all_head (λ n. ltb x n) y xs h) in
    neither_one (eqb x y) (member x xs) (no_eqb x y (omega arith)) (above_not_member x xs (all_tail (λ n. ltb x n) y xs h))

-- ---- numbers from one on

pub range_above : (x y n : ℕ) → x < y → T (all (λ k. ltb x k) (range y n))
unfolding all range
range_above x y zero h = tt
range_above x y (suc n) h = all_cons (λ k. ltb x k) y (range (y + 1) n) (lt→ltb x y h) (range_above x (y + 1) n (omega arith))

range_once : (x n : ℕ) → T (not (has_repeat (range x n)))
unfolding has_repeat range
range_once x zero = tt
range_once x (suc n) = neither_one (member x (range (x + 1) n)) (has_repeat (range (x + 1) n)) (above_not_member x (range (x + 1) n) (range_above x (x + 1) n (omega arith))) (range_once (x + 1) n)

pub length_range : (x n : ℕ) → length (range x n) ≡ n
unfolding range
length_range x zero = refl
length_range x (suc n) = ap suc (length_range (x + 1) n)

-- ---- one more number held takes at most one away

-- a number that is not there takes none away
without_absent : (rs : List ℕ) (x : ℕ) (xs : List ℕ) → T (not (member x rs)) → without rs (x ∷ xs) ≡ without rs xs
unfolding without member
without_absent [] x xs h = refl
without_absent (r ∷ rs) x xs h =
    let k = not_or (eqb x r) (member x rs) h in
    one (eqb r x) (member r xs) (without rs (x ∷ xs)) (without rs xs) (no_eqb r x (λ e. differ k.0 (sym e))) (without_absent rs x xs k.1)
  where
    differ : T (not (eqb x r)) → x ≡ r → ⊥
    differ g e = lib.Dec.T_not (eqb x r) g (mir.Facts.yes_eqb e)

    one : (a b : Bool) (u v : List ℕ) → T (not a) → u ≡ v → pick (a || b) u (r ∷ u) ≡ pick b v (r ∷ v)
    one true b u v g e = absurd g
    one false b u v g e = ap (λ (w : List ℕ). pick b w (r ∷ w)) e

without_one : (rs : List ℕ) (x : ℕ) (xs : List ℕ) → T (not (has_repeat rs)) → length (without rs xs) ≤ length (without rs (x ∷ xs)) + flag (not (member x xs))
unfolding without has_repeat member
without_one [] x xs h = zero-le
without_one (r ∷ rs) x xs h =
    let k = not_or (member r rs) (has_repeat rs) h in
    let ih = without_one rs x xs k.1 in
    one (eqb r x) refl (member r xs) refl k.0 ih
  where
    u : List ℕ
    u = without rs (x ∷ xs)

    v : List ℕ
    v = without rs xs

    one : (a : Bool) → eqb r x ≡ a → (b : Bool) → member r xs ≡ b → T (not (member r rs)) → length v ≤ length u + flag (not (member x xs))
        → length (pick b v (r ∷ v)) ≤ length (pick (a || b) u (r ∷ u)) + flag (not (member x xs))
    one true e true g absent ih = ih
    one true e false g absent ih =
        let same : r ≡ x = eqb→eq r x (subst T (sym e) tt) in
        let gone : member x xs ≡ false = ap (λ (z : ℕ). member z xs) (sym same) ∙ g in
        let equal : u ≡ v = without_absent rs x xs (subst (λ (z : ℕ). T (not (member z rs))) same absent) in
        let one' : flag (not (member x xs)) ≡ 1 = ap (λ (c : Bool). flag (not c)) gone in
        let len : length u ≡ length v = ap length equal in
        omega arith
    one false e true g absent ih = ih
    one false e false g absent ih = omega arith

without_nil : (rs : List ℕ) → without rs [] ≡ rs
unfolding without member
without_nil [] = refl
without_nil (r ∷ rs) = ap (λ (l : List ℕ). r ∷ l) (without_nil rs)

without_distinct : (rs held : List ℕ) → T (not (has_repeat rs)) → length rs ≤ length (without rs held) + distinct held
unfolding distinct
without_distinct rs [] h = let e = ap length (without_nil rs) in omega arith
without_distinct rs (x ∷ held) h =
    let a = without_distinct rs held h in
    let b = without_one rs x held h in
    omega arith

-- ---- one more number held leaves no more

without_more : (rs : List ℕ) (x : ℕ) (held : List ℕ) → length (without rs (x ∷ held)) ≤ length (without rs held)
unfolding without member
without_more [] x held = zero-le
without_more (r ∷ rs) x held = one (eqb r x) (member r held) (without_more rs x held)
  where
    one : (a b : Bool) → length (without rs (x ∷ held)) ≤ length (without rs held)
        → length (pick (a || b) (without rs (x ∷ held)) (r ∷ without rs (x ∷ held))) ≤ length (pick b (without rs held) (r ∷ without rs held))
    one true true ih = ih
    one true false ih = le_trans ih (omega arith)
    one false true ih = ih
    one false false ih = suc-le-suc ih

-- a number that was left and is now held leaves one fewer at least
without_fewer : (rs : List ℕ) (x : ℕ) (held : List ℕ) → T (member x rs) → T (not (member x held)) → length (without rs (x ∷ held)) < length (without rs held)
unfolding without member
without_fewer [] x held h g = absurd h
without_fewer (r ∷ rs) x held h g = one (eqb r x) refl (member r held) refl (without_more rs x held) (λ k. without_fewer rs x held k g)
  where
    one : (a : Bool) → eqb r x ≡ a → (b : Bool) → member r held ≡ b → length (without rs (x ∷ held)) ≤ length (without rs held)
        → (T (member x rs) → length (without rs (x ∷ held)) < length (without rs held))
        → length (pick (a || b) (without rs (x ∷ held)) (r ∷ without rs (x ∷ held))) < length (pick b (without rs held) (r ∷ without rs held))
    one true e true f more ih =
        absurd (T_not (member x held) g (subst (λ (n : ℕ). T (member n held)) (eqb→eq r x (subst T (sym e) tt)) (subst T (sym f) tt)))
    one true e false f more ih = suc-le-suc more
    one false e b f more ih = later b (ih (or_right (eqb x r) (member x rs) h (differ_turn r x (subst (λ (c : Bool). T (not c)) (sym e) tt))))
      where
        later : (c : Bool) → length (without rs (x ∷ held)) < length (without rs held)
            → length (pick c (without rs (x ∷ held)) (r ∷ without rs (x ∷ held))) < length (pick c (without rs held) (r ∷ without rs held))
        later true k = k
        later false k = suc-le-suc k

-- different numbers of a list that are held, and those that are left, are no more than the list
pub without_count : (rs held : List ℕ) → T (all (λ n. member n rs) held) → length (without rs held) + distinct held ≤ length rs
unfolding distinct
without_count rs [] h = let k = without_short rs [] in omega arith
  where
    without_short : (ys zs : List ℕ) → length (without ys zs) ≤ length ys
    without_short [] zs = unfold without in zero-le
    without_short (y ∷ ys) zs = short_step (without_short ys zs)
      where
        short_step : length (without ys zs) ≤ length ys → length (without (y ∷ ys) zs) ≤ suc (length ys)
        short_step k = unfold without in (pick_either (λ (l : List ℕ). length l ≤ suc (length ys)) (member y zs) (without ys zs) (y ∷ without ys zs) (le_trans k (omega arith)) (suc-le-suc k))
without_count rs (x ∷ held) h =
    let ih = without_count rs held (all_tail (λ n. member n rs) x held h) in
    one (member x held) refl ih
  where
    one : (b : Bool) → member x held ≡ b → length (without rs held) + distinct held ≤ length rs → length (without rs (x ∷ held)) + (flag (not b) + distinct held) ≤ length rs
    one true e ih = let k = without_more rs x held in omega arith
    one false e ih = let k = without_fewer rs x held (all_head (λ n. member n rs) x held h) (subst (λ (c : Bool). T (not c)) (sym e) tt) in omega arith

-- ---- what is left

pub without_all : (p : ℕ → Bool) (xs ys : List ℕ) → T (all p xs) → T (all p (without xs ys))
unfolding all without
without_all p [] ys h = tt
without_all p (x ∷ xs) ys h =
    let k = without_all p xs ys (all_tail p x xs h) in
    pick_either (λ (l : List ℕ). T (all p l)) (member x ys) (without xs ys) (x ∷ without xs ys) k (all_cons p x (without xs ys) (all_head p x xs h) k)

without_none : (xs ys : List ℕ) → T (all (λ x. not (member x ys)) (without xs ys))
unfolding all without
without_none [] ys = tt
without_none (x ∷ xs) ys = one (member x ys) refl (without_none xs ys)
  where
    one : (b : Bool) → member x ys ≡ b → T (all (λ z. not (member z ys)) (without xs ys)) → T (all (λ z. not (member z ys)) (pick b (without xs ys) (x ∷ without xs ys)))
    one true e k = k
    one false e k = all_cons (λ z. not (member z ys)) x (without xs ys) (subst (λ (c : Bool). T (not c)) (sym e) tt) k

-- a number from one on and below another is in the range
range_member : (t x n : ℕ) → x ≤ t → t < x + n → T (member t (range x n))
unfolding member range
range_member t x zero h g = absurd (omega arith)
range_member t x (suc n) h g =
    by_test (eqb t x) (λ e. or_by_left (eqb t x) (member t (range (x + 1) n)) e)
    (λ e. let ne = ne_of t x e in or_by_right (eqb t x) (member t (range (x + 1) n)) (range_member t (x + 1) n (omega arith) (omega arith)))

-- ---- in ascending order

-- numbers from one on ascend
range_ascends : (x n : ℕ) → T (all_pairs (λ a b. ltb a b) (range x n))
unfolding all_pairs range
range_ascends x zero = tt
range_ascends x (suc n) = pairs_cons (λ a b. ltb a b) x (range (x + 1) n) (range_above x (x + 1) n (omega arith)) (range_ascends (x + 1) n)

-- what is left keeps a relation of every two
without_pairs : (r : ℕ → ℕ → Bool) (xs ys : List ℕ) → T (all_pairs r xs) → T (all_pairs r (without xs ys))
unfolding all_pairs without
without_pairs r [] ys h = tt
without_pairs r (x ∷ xs) ys h =
    let k = without_pairs r xs ys (pairs_tail r x xs h) in
    pick_either (λ (l : List ℕ). T (all_pairs r l)) (member x ys) (without xs ys) (x ∷ without xs ys) k (pairs_cons r x (without xs ys) (without_all (r x) xs ys (pairs_head r x xs h)) k)

-- ---- the numbers of a range that are not held

module _ (x n : ℕ) where
  -- is a number in the range
  abbrev pub within : ℕ → Bool
  within k = leb x k && ltb k (x + n)

  range_within : (y i : ℕ) → x ≤ y → y + i ≤ x + n → T (all within (range y i))
  unfolding all range
  range_within y zero h g = tt
  range_within y (suc i) h g =
      let below : y < x + n = omega arith in
      all_cons within y (range (y + 1) i) (both (leb x y) (ltb y (x + n)) (yes_leb h) (lt→ltb y (x + n) below)) (range_within (y + 1) i (omega arith) (omega arith))

  -- one of the range
  within_range : (k : ℕ) → T (within k) → T (member k (range x n))
  within_range k h = range_member k x n (leb→le x k (and_left (leb x k) (ltb k (x + n)) h)) (ltb→lt k (x + n) (and_right (leb x k) (ltb k (x + n)) h))

  module _ (held : List ℕ) where
    -- the numbers that are free, the lowest first
    abbrev pub unheld : List ℕ
    unheld = without (range x n) held

    pub unheld_within : T (all within unheld)
    unheld_within = without_all within (range x n) held (range_within x n (le_refl x) (le_refl (x + n)))

    pub unheld_not : T (all (λ k. not (member k held)) unheld)
    unheld_not = without_none (range x n) held

    pub unheld_there : (k : ℕ) → T (within k) → T (not (member k held)) → T (member k unheld)
    unheld_there k h g = member_without k (range x n) held (within_range k h) g

    pub unheld_ascends : T (all_pairs (λ a b. ltb a b) unheld)
    unheld_ascends = without_pairs (λ a b. ltb a b) (range x n) held (range_ascends x n)

    -- none is free twice
    pub unheld_once : T (all_pairs (λ a b. not (eqb a b)) unheld)
    unheld_once = pairs_imply (λ a b. ltb a b) (λ a b. not (eqb a b)) (λ a b h. one a b (ltb→lt a b h)) unheld unheld_ascends
      where
        one : (a b : ℕ) → a < b → T (not (eqb a b))
        one a b h = no_eqb a b (omega arith)

    -- as many at least as the range has less those held
    pub unheld_enough : n - distinct held ≤ length unheld
    unheld_enough =
        let a = without_distinct (range x n) held (range_once x n) in
        let b = length_range x n in
        omega arith

    -- and just so many where all that are held are of the range
    pub unheld_count : T (all within held) → length unheld ≡ n - distinct held
    unheld_count h =
        let a = without_count (range x n) held (all_imply within (λ k. member k (range x n)) within_range held h) in
        let b = length_range x n in
        le_antisymm (omega arith) unheld_enough
