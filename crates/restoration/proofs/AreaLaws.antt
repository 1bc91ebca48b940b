-- What holds in the walk over an area's records: the elements of those passed stand in the space, and those left are still to be written.
-- Assumes nothing.
use mathlib.Core.Path.{◌≡◌, refl, sym, ap, ◌∙◌, subst}
use Prim.Native.Nat.{ℕ, ◌+◌, ◌-◌, ◌≤◌, ◌<◌}
use native.Mathlib.Omega.{arith}
use mathlib.Core.List.{List, [], ◌∷◌, ◌++◌, append_assoc, append-nil}
use lib.Dec.{T}
use lib.ListN.{length, take, drop, length-append, length-take, length-drop}
use lib.Seq.{take_all}
use Rattle.octets.specs.Octets.{slices, concat_map}
use Rattle.octets.specs.Lists.{all}
use Rattle.octets.proofs.Tests.{all_head, all_tail}
use Rattle.octets.proofs.Numbers.{slices_next}
use Rattle.rules.specs.Model.{Settings}
use Rattle.writing.specs.Placed.{Placed}
use Rattle.writing.proofs.PlacedLaws.{placed_none, placed_then}
use Rattle.restoration.specs.declared.Kind.{Kind}
use Rattle.restoration.specs.Records.{record_width, record_element, record_fits}
use Rattle.restoration.proofs.KindLaws.{fits_wide}

pub record Walk (k : Kind) (w : ℕ) (s : Settings) (records : List (List ℕ)) (at : ℕ) (out₀ rest : List ℕ) (left next : ℕ) (out : List ℕ) : Type 0 where
  pub done : List ℕ
  pub placed : Placed out₀ at done next out
  pub split : concat_map (record_element k s) records ≡ done ++ concat_map (record_element k s) (slices w left rest)
  pub fits : T (all (record_fits k) (slices w left rest))
  pub width : w ≡ record_width k
  pub room : at + length (concat_map (record_element k s) records) ≤ length out₀
  pub long : length out ≡ length out₀

module _ (k : Kind) (w : ℕ) (s : Settings) (at : ℕ) (out₀ : List ℕ) where
  pub walk_none : (n : ℕ) (area : List ℕ) → w ≡ record_width k → T (all (record_fits k) (slices (record_width k) n area))
      → at + length (concat_map (record_element k s) (slices (record_width k) n area)) ≤ length out₀
      → Walk k w s (slices (record_width k) n area) at out₀ area (n - 0) at out₀
  walk_none n area e f h =
      let z : n - 0 ≡ n = omega arith in
      record {
        done = [];
        placed = placed_none out₀ at;
        split = rw (e, z);
        fits = rw (e, z) f;
        width = e;
        room = h;
        long = refl;
      }

module _ {k : Kind} {w : ℕ} {s : Settings} {at : ℕ} {out₀ : List ℕ} {records : List (List ℕ)} {rest : List ℕ} {n i next : ℕ} {out : List ℕ} where
  module _ (walk : Walk k w s records at out₀ rest (n - i) next out) (below : i < n) where
    more : 0 < n - i
    more = omega arith

    next_left : n - i - 1 ≡ n - (i + 1)
    next_left = omega arith

    abbrev first : List ℕ
    first = record_element k s (take w rest)

    abbrev later : List ℕ
    later = concat_map (record_element k s) (slices w (n - i - 1) (drop w rest))

    first_split : concat_map (record_element k s) (slices w (n - i) rest) ≡ first ++ later
    unfolding concat_map
    first_split = rw (slices_next w (n - i) rest more)

    fits_all : T (all (record_fits k) (take w rest ∷ slices w (n - i - 1) (drop w rest)))
    fits_all = subst (λ (l : List (List ℕ)). T (all (record_fits k) l)) (slices_next w (n - i) rest more) walk.fits

    pub walk_fits : T (record_fits k (take w rest))
    walk_fits = all_head (record_fits k) (take w rest) (slices w (n - i - 1) (drop w rest)) fits_all

    pub walk_wide : w ≤ length rest
    walk_wide = let l : length (take w rest) ≡ w = fits_wide k (take w rest) walk_fits ∙ sym walk.width in omega (arith, length-take w rest)

    pub walk_long : w ≡ length (take w rest)
    walk_long = walk.width ∙ sym (fits_wide k (take w rest) walk_fits)

    pub walk_room : next + length first ≤ length out
    walk_room =
        let a = walk.placed.ends in
        let b = length-append walk.done (first ++ later) in
        let c = length-append first later in
        let d : length (concat_map (record_element k s) records) ≡ length (walk.done ++ (first ++ later)) = ap length (walk.split ∙ ap (λ (l : List ℕ). walk.done ++ l) first_split) in
        let e = walk.room in
        let f = walk.long in
        omega arith

    pub walk_more : {next' : ℕ} {out' : List ℕ} → Placed out next first next' out' → length out' ≡ length out
        → Walk k w s records at out₀ (take (length rest - w) (drop w rest)) (n - (i + 1)) next' out'
    walk_more {next'} {out'} p l =
        let whole : take (length rest - w) (drop w rest) ≡ drop w rest = take_all (length rest - w) (drop w rest) (omega (arith, length-drop w rest)) in
        let b = length-append walk.done (first ++ later) in
        let d : length (concat_map (record_element k s) records) ≡ length (walk.done ++ (first ++ later)) = ap length (walk.split ∙ ap (λ (l : List ℕ). walk.done ++ l) first_split) in
        let e = walk.room in
        rw (whole, ← next_left)
        (record {
          done = walk.done ++ first;
          placed = placed_then walk.placed p (omega arith);
          split = walk.split ∙ ap (λ (l : List ℕ). walk.done ++ l) first_split ∙ sym (append_assoc walk.done first later);
          fits = all_tail (record_fits k) (take w rest) (slices w (n - i - 1) (drop w rest)) fits_all;
          width = walk.width;
          room = walk.room;
          long = l ∙ walk.long;
        })

  pub walk_all : Walk k w s records at out₀ rest (n - i) next out → n ≤ i
      → Placed out₀ at (concat_map (record_element k s) records) next out
  unfolding slices concat_map
  walk_all walk h =
      let z : n - i ≡ 0 = omega arith in
      let e : concat_map (record_element k s) records ≡ walk.done = walk.split ∙ rw z (append-nil walk.done) in
      rw e walk.placed
