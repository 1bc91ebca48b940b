-- What an insertion, a removal and a replacement make of an area of records of any type, and what its records are.
-- An area is the records' octets, each record w octets wide, and zeros in the room that is left of cap records.
-- Assumes nothing.
use mathlib.Core.Path.{◌≡◌, refl, sym, ap, ap₂, subst, ◌∙◌}
use mathlib.Core.List.{List, [], ◌∷◌, ◌++◌, append_assoc, map}
use Prim.Native.Nat.{ℕ, suc, ◌+◌, ◌-◌, ◌*◌, ◌≤◌, ◌<◌}
use native.Mathlib.Nat.{zero-mul, suc-mul, add_comm, mul-le-mul_right}
use native.Mathlib.Numerals.{add-one}
use native.Mathlib.Omega.{arith}
use lib.ListN.{length, take, drop, get_or, set, length-append, length-drop, length-set, replicate-append-replicate, take-append-drop}
use lib.Seq.{length-take-le, split_at, set_split, take_at, drop_at}
use Rattle.octets.specs.Octets.{put, part, zeros, padded, concat_map, slices}
use Rattle.octets.proofs.Put.{put_over, part_of}
use Rattle.octets.proofs.Numbers.{length_zeros, length_padded}
use Rattle.areas.specs.Records.{inserted, removed, replaced}
use Rattle.areas.proofs.Rows.{rows}
use Rattle.areas.proofs.Places.{insert_at, remove_at}

-- the room of m + 1 records
zeros_more : (w m : ℕ) → zeros w ++ zeros (m * w) ≡ zeros (suc m * w)
unfolding zeros
zeros_more w m = replicate-append-replicate w (m * w) 0 ∙ ap zeros (add_comm w (m * w) ∙ sym (suc-mul m w))

module _ {A : Type 0} (f : A → List ℕ) where
  -- every record has w octets
  abbrev pub Wide : ℕ → List A → Type 0
  Wide w [] = Unit {0}
  Wide w (r ∷ rs) = (length (f r) ≡ w) × Wide w rs

  -- s is an area with room for cap records of w octets, and holds rs
  pub record Area (w cap : ℕ) (rs : List A) (s : List ℕ) : Type 0 where
    pub octets : s ≡ padded (cap * w) (concat_map f rs)
    pub wide : Wide w rs
    pub fits : length rs ≤ cap

  join_append : (xs ys : List A) → concat_map f (xs ++ ys) ≡ concat_map f xs ++ concat_map f ys
  unfolding concat_map
  join_append [] ys = refl
  join_append (x ∷ xs) ys = ap (λ (l : List ℕ). f x ++ l) (join_append xs ys) ∙ sym (append_assoc (f x) (concat_map f xs) (concat_map f ys))

  pub length_join : (w : ℕ) (rs : List A) → Wide w rs → length (concat_map f rs) ≡ length rs * w
  unfolding concat_map
  length_join w [] h = sym (zero-mul w)
  length_join w (r ∷ rs) h =
      length-append (f r) (concat_map f rs) ∙ ap₂ (λ (a b : ℕ). a + b) h.0 (length_join w rs h.1) ∙ add_comm w (length rs * w) ∙ sym (suc-mul (length rs) w)

  wide_split : (w : ℕ) (xs ys : List A) → Wide w (xs ++ ys) → Wide w xs × Wide w ys
  wide_split w [] ys h = (tt, h)
  wide_split w (x ∷ xs) ys h = ((h.0, (wide_split w xs ys h.1).0), (wide_split w xs ys h.1).1)

  wide_join : (w : ℕ) (xs ys : List A) → Wide w xs → Wide w ys → Wide w (xs ++ ys)
  wide_join w [] ys h k = k
  wide_join w (x ∷ xs) ys h k = (h.0, wide_join w xs ys h.1 k)

  wide_cut : (w p : ℕ) (rs : List A) → Wide w rs → Wide w (take p rs) × Wide w (drop p rs)
  wide_cut w p rs h = wide_split w (take p rs) (drop p rs) (subst (Wide w) (sym (take-append-drop p rs)) h)

  -- an area by the records before a place and those from there on, with m records' room left
  area_parts : (w cap m : ℕ) (xs ys : List A) → Wide w xs → Wide w ys → length (xs ++ ys) + m ≡ cap
      → padded (cap * w) (concat_map f (xs ++ ys)) ≡ concat_map f xs ++ (concat_map f ys ++ zeros (m * w))
  unfolding padded
  area_parts w cap m xs ys wx wy e =
      let long : length (concat_map f (xs ++ ys)) ≡ length (xs ++ ys) * w = length_join w (xs ++ ys) (wide_join w xs ys wx wy) in
      let less : length (xs ++ ys) ≤ cap = omega arith in
      let count : cap - length (xs ++ ys) ≡ m = omega arith in
      let split : length (xs ++ ys) * w + m * w ≡ cap * w = rw count at (rows w less) in
      let room : cap * w - length (concat_map f (xs ++ ys)) ≡ m * w = omega arith in
      rw (room, join_append) (append_assoc (concat_map f xs) (concat_map f ys) (zeros (m * w)))

  module _ (w m : ℕ) (xs ys : List A) (x r : List ℕ) (wx : Wide w xs) (wy : Wide w ys) (ex : length x ≡ w) (er : length r ≡ w) where
    before : length (concat_map f xs) ≡ length xs * w
    before = length_join w xs wx

    after : length (concat_map f ys) ≡ length ys * w
    after = length_join w ys wy

    -- room for one more record
    insert_octets : inserted (length xs + length ys) (length xs) r (concat_map f xs ++ (concat_map f ys ++ zeros (suc m * w)))
        ≡ concat_map f xs ++ ((r ++ concat_map f ys) ++ zeros (m * w))
    unfolding inserted
    insert_octets =
        let a : List ℕ = concat_map f xs in
        let b : List ℕ = concat_map f ys in
        let n-is : length xs + length ys - length xs ≡ length ys = omega arith in
        rw (er, n-is)
        (ap (λ (l : List ℕ). put (length xs * w) (r ++ l) (a ++ (b ++ zeros (suc m * w)))) (part_of a b (zeros (suc m * w)) (length xs * w) (length ys * w) before after)
        ∙ ap (λ (l : List ℕ). put (length xs * w) (r ++ b) (a ++ l)) (ap (λ (l : List ℕ). b ++ l) (sym (zeros_more w m)) ∙ sym (append_assoc b (zeros w) (zeros (m * w))))
        ∙ put_over a (b ++ zeros w) (zeros (m * w)) (r ++ b) (length xs * w) before (simp (length-append, length_zeros) (omega arith)))

    remove_octets : removed w (length xs + (length ys + 1)) (length xs) (concat_map f xs ++ ((x ++ concat_map f ys) ++ zeros (m * w)))
        ≡ concat_map f xs ++ (concat_map f ys ++ zeros (suc m * w))
    unfolding removed
    remove_octets =
        let a : List ℕ = concat_map f xs in
        let b : List ℕ = concat_map f ys in
        let n-is : length xs + (length ys + 1) - (length xs + 1) ≡ length ys = omega arith in
        rw n-is
        (ap (λ (l : List ℕ). put (length xs * w) (l ++ zeros w) (a ++ ((x ++ b) ++ zeros (m * w))))
        (ap (part ((length xs + 1) * w) (length ys * w)) (simp append_assoc)
        ∙ part_of (a ++ x) b (zeros (m * w)) ((length xs + 1) * w) (length ys * w) (rw length-append (omega (arith, before))) after)
        ∙ put_over a (x ++ b) (zeros (m * w)) (b ++ zeros w) (length xs * w) before (simp (length-append, length_zeros) (omega arith))
        ∙ ap (λ (l : List ℕ). a ++ l) (append_assoc b (zeros w) (zeros (m * w)) ∙ ap (λ (l : List ℕ). b ++ l) (zeros_more w m)))

    replace_octets : replaced (length xs) r (concat_map f xs ++ ((x ++ concat_map f ys) ++ zeros (m * w))) ≡ concat_map f xs ++ ((r ++ concat_map f ys) ++ zeros (m * w))
    unfolding replaced
    replace_octets =
        let a : List ℕ = concat_map f xs in
        let b : List ℕ = concat_map f ys in
        rw er
        (ap (λ (l : List ℕ). put (length xs * w) r (a ++ l)) (append_assoc x b (zeros (m * w)))
        ∙ put_over a x (b ++ zeros (m * w)) r (length xs * w) before (omega arith)
        ∙ ap (λ (l : List ℕ). a ++ l) (sym (append_assoc r b (zeros (m * w)))))

  slices_of : (w : ℕ) (rs : List A) (z : List ℕ) → Wide w rs → slices w (length rs) (concat_map f rs ++ z) ≡ map f rs
  unfolding concat_map slices
  slices_of w [] z h = refl
  slices_of w (r ∷ rs) z h =
      ap (λ (l : List ℕ). take w l ∷ slices w (length rs) (drop w l)) (append_assoc (f r) (concat_map f rs) z)
      ∙ ap₂ (λ (l : List ℕ) (k : List (List ℕ)). l ∷ k) (take_at (f r) (concat_map f rs ++ z) w h.0)
      (ap (slices w (length rs)) (drop_at (f r) (concat_map f rs ++ z) w h.0) ∙ slices_of w rs z h.1)

  -- What the calls make of an area, with xs the records before the place.
  module _ (w cap : ℕ) (xs ys : List A) (wx : Wide w xs) (wy : Wide w ys) where
    insert_parts : (r : A) → length (f r) ≡ w → length xs + length ys < cap
        → inserted (length xs + length ys) (length xs) (f r) (padded (cap * w) (concat_map f (xs ++ ys))) ≡ padded (cap * w) (concat_map f (xs ++ (r ∷ ys)))
    unfolding concat_map
    insert_parts r er h =
        let m : ℕ = cap - (length xs + length ys + 1) in
        ap (inserted (length xs + length ys) (length xs) (f r)) (area_parts w cap (suc m) xs ys wx wy (rw length-append (omega arith)))
        ∙ insert_octets w m xs ys (f r) (f r) wx wy er er
        ∙ sym (area_parts w cap m xs (r ∷ ys) wx (er, wy) (rw length-append (omega arith)))

    remove_parts : (x : A) → length (f x) ≡ w → length xs + (length ys + 1) ≤ cap
        → removed w (length xs + (length ys + 1)) (length xs) (padded (cap * w) (concat_map f (xs ++ (x ∷ ys)))) ≡ padded (cap * w) (concat_map f (xs ++ ys))
    unfolding concat_map
    remove_parts x ex h =
        let m : ℕ = cap - (length xs + (length ys + 1)) in
        ap (removed w (length xs + (length ys + 1)) (length xs)) (area_parts w cap m xs (x ∷ ys) wx (ex, wy) (rw length-append (omega arith)))
        ∙ remove_octets w m xs ys (f x) (f x) wx wy ex ex
        ∙ sym (area_parts w cap (suc m) xs ys wx wy (rw length-append (omega arith)))

    replace_parts : (x r : A) → length (f x) ≡ w → length (f r) ≡ w → length xs + (length ys + 1) ≤ cap
        → replaced (length xs) (f r) (padded (cap * w) (concat_map f (xs ++ (x ∷ ys)))) ≡ padded (cap * w) (concat_map f (xs ++ (r ∷ ys)))
    unfolding concat_map
    replace_parts x r ex er h =
        let m : ℕ = cap - (length xs + (length ys + 1)) in
        ap (replaced (length xs) (f r)) (area_parts w cap m xs (x ∷ ys) wx (ex, wy) (rw length-append (omega arith)))
        ∙ replace_octets w m xs ys (f x) (f r) wx wy ex er
        ∙ sym (area_parts w cap m xs (r ∷ ys) wx (er, wy) (rw length-append (omega arith)))

  -- the records before a place, the one there, and those after it
  pub record Split (w n p : ℕ) (rs : List A) (x : A) : Type 0 where
    both : rs ≡ take p rs ++ (x ∷ drop (suc p) rs)
    wx : Wide w (take p rs)
    ex : length (f x) ≡ w
    wy : Wide w (drop (suc p) rs)
    lx : p ≡ length (take p rs)
    ln : n ≡ length (take p rs) + (length (drop (suc p) rs) + 1)

  split : (w n p : ℕ) (rs : List A) (d : A) → Wide w rs → length rs ≡ n → p < n → Split w n p rs (get_or rs p d)
  split w n p rs d wide size pn =
      let both : rs ≡ take p rs ++ (get_or rs p d ∷ drop (suc p) rs) = split_at rs p d (omega arith) in
      let wides : Wide w (take p rs) × Wide w (get_or rs p d ∷ drop (suc p) rs) = wide_split w (take p rs) (get_or rs p d ∷ drop (suc p) rs) (subst (Wide w) both wide) in
      record {
        both = both;
        wx = wides.0;
        ex = wides.1.0;
        wy = wides.1.1;
        lx = sym (length-take-le p rs (omega arith));
        ln = sym size ∙ ap length both ∙ length-append (take p rs) (get_or rs p d ∷ drop (suc p) rs) ∙ rw add-one;
      }

  -- a list with a place has an element
  some_of : (p : ℕ) (rs : List A) → p < length rs → A
  some_of p [] h = absurd (omega arith)
  some_of p (r ∷ rs) h = r

  -- What the calls make of octets that hold an area of n records, as the calls' contracts have it.
  module _ {w cap n p : ℕ} {rs : List A} {s e : List ℕ} (held : Area w cap rs s) (size : length rs ≡ n) where
    pub insert_held : (r : A) → length (f r) ≡ w → p ≤ n → n < cap → e ≡ inserted n p (f r) s → Area w cap (insert_at p r rs) e
    unfolding insert_at
    insert_held r er pn nc q =
        let xs : List A = take p rs in
        let ys : List A = drop p rs in
        let both : xs ++ ys ≡ rs = take-append-drop p rs in
        let wides : Wide w xs × Wide w ys = wide_cut w p rs held.wide in
        let lx : p ≡ length xs = sym (length-take-le p rs (omega arith)) in
        let ln : n ≡ length xs + length ys = sym (ap length both ∙ size) ∙ length-append xs ys in
        record {
          octets = q ∙ (λ i. inserted (ln i) (lx i) (f r) ((held.octets ∙ ap (λ (l : List A). padded (cap * w) (concat_map f l)) (sym both)) i))
              ∙ insert_parts w cap xs ys wides.0 wides.1 r er (omega arith);
          wide = wide_join w xs (r ∷ ys) wides.0 (er, wides.1);
          fits = simp (length-append, length-drop, length-take-le p rs (omega arith)) (omega arith);
        }

    module _ (pn : p < n) where
      pub remove_held : e ≡ removed w n p s → Area w cap (remove_at p rs) e
      unfolding remove_at
      remove_held q =
          let d = split w n p rs (some_of p rs (omega (arith, size))) held.wide size pn in
          record {
            octets = q ∙ (λ i. removed w (d.ln i) (d.lx i) ((held.octets ∙ ap (λ (l : List A). padded (cap * w) (concat_map f l)) d.both) i))
                ∙ remove_parts w cap (take p rs) (drop (suc p) rs) d.wx d.wy _ d.ex (omega (arith, held.fits, d.ln));
            wide = wide_join w (take p rs) (drop (suc p) rs) d.wx d.wy;
            fits = simp (length-append, length-drop, length-take-le p rs (omega arith)) (omega (arith, held.fits));
          }

      pub replace_held : (r : A) → length (f r) ≡ w → e ≡ replaced p (f r) s → Area w cap (set rs p r) e
      replace_held r er q =
          let d = split w n p rs (some_of p rs (omega (arith, size))) held.wide size pn in
          record {
            octets = q ∙ (λ i. replaced (d.lx i) (f r) ((held.octets ∙ ap (λ (l : List A). padded (cap * w) (concat_map f l)) d.both) i))
                ∙ replace_parts w cap (take p rs) (drop (suc p) rs) d.wx d.wy _ r d.ex er (omega (arith, held.fits, d.ln))
                ∙ ap (λ (l : List A). padded (cap * w) (concat_map f l)) (sym (set_split rs p r (omega (arith, size))));
            wide = rw (set_split rs p r (omega (arith, size))) (wide_join w (take p rs) (r ∷ drop (suc p) rs) d.wx (er, d.wy));
            fits = rw length-set held.fits;
          }

  module _ {w cap : ℕ} {rs : List A} {s : List ℕ} (held : Area w cap rs s) where
    -- its records, one by one, and their keys
    pub held_slices : slices w (length rs) s ≡ map f rs
    unfolding padded
    held_slices = ap (slices w (length rs)) held.octets ∙ slices_of w rs (zeros (cap * w - length (concat_map f rs))) held.wide

    pub held_length : length s ≡ cap * w
    held_length =
        let long = length_join w rs held.wide in
        ap length held.octets ∙ length_padded (cap * w) (concat_map f rs) (rw long (mul-le-mul_right w held.fits))
