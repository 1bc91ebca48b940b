-- What the calls inside each function leave, over plain lists.
-- Assumes nothing.
use Rattle.std.specs.Prelude.{Result}
use mathlib.Core.Path.{◌≡◌, sym, ap, ◌∙◌}
use mathlib.Core.List.{List}
use Prim.Native.Nat.{ℕ, ◌+◌, ◌-◌, ◌*◌, ◌≤◌, ◌<◌}
use native.Mathlib.Omega.{arith}
use lib.ListN.{length, take, drop}
use Rattle.octets.specs.Octets.{be, part, put, zeros}
use Rattle.octets.proofs.Put.{length_part, put_whole}
use Rattle.octets.proofs.Numbers.{length_zeros}
use Rattle.rules.specs.Layout.{key_width, session_width}
use Rattle.areas.specs.declared.Area.{Area}
use Rattle.areas.specs.Records.{key_of}
use Rattle.areas.specs.Counted.{Fits, count_in, area_in, place_in, removed_in, with_record}
use Rattle.session.specs.Areas.{session_area}
use Rattle.session.proofs.Steps.{part_part}

module _ (room base : ℕ) where
  abbrev sessions : Area
  sessions = session_area room base

  pub sessions_fit_lem : (a : Area) (n : ℕ) → a ≡ sessions → base + 2 + room * session_width ≤ n → Fits a n
  sessions_fit_lem a n e h = rw e (record { count = omega arith; narrow = omega arith; records = omega arith; keyed = omega arith })

  pub session_wide : (a : Area) (n : ℕ) → a ≡ sessions → n ≡ session_width → n ≡ a.width
  session_wide a n e h = rw (e, h)

  -- its key is a pair
  pub sessions_key : (a : Area) → a ≡ sessions → a.key ≡ 9
  sessions_key a e = ap (λ (b : Area). b.key) e

  pub counted_there : (a : Area) (t : List ℕ) (n : ℕ) → a ≡ sessions → n ≡ count_in a t → n ≡ count_in sessions t
  counted_there a t n e q = q ∙ ap (λ (b : Area). count_in b t) e

  pub found_there : (a : Area) (x : ℕ) (t : List ℕ) (p : Result ℕ ℕ) → a ≡ sessions → p ≡ place_in a x t → p ≡ place_in sessions x t
  found_there a x t p e q = q ∙ ap (λ (b : Area). place_in b x t) e

  -- a session put where it was looked up
  pub place_there : (a : Area) (t slot : List ℕ) {q : Result ℕ ℕ} → a ≡ sessions → place_in sessions (key_of key_width slot) t ≡ q → place_in a (key_of a.key slot) t ≡ q
  place_there a t slot e at = rw e at

  pub saved_there : (a : Area) (t slot done : List ℕ) → a ≡ sessions → done ≡ with_record a slot t → done ≡ with_record sessions slot t
  saved_there a t slot done e d = d ∙ rw e

  -- what taking the session at a place out asks and leaves
  pub place_counted : (a : Area) (t : List ℕ) (p : ℕ) → a ≡ sessions → p < count_in sessions t → p < count_in a t
  place_counted a t p e h = rw e h

  pub count_within : (a : Area) (t : List ℕ) → a ≡ sessions → count_in sessions t ≤ room → count_in a t ≤ a.room
  count_within a t e h = rw e h

  pub removed_there : (a : Area) (p : ℕ) (t done : List ℕ) → a ≡ sessions → done ≡ removed_in a p t → done ≡ removed_in sessions p t
  removed_there a p t done e q = q ∙ ap (λ (b : Area). removed_in b p t) e

  pub loaded : (p end : ℕ) (t slot done : List ℕ) → base + 2 + room * session_width ≤ length t → p < room → length slot ≡ session_width → end ≡ base + 2 + p * session_width + session_width
      → done ≡ put 0 (take (end - (base + 2 + p * session_width)) (drop (base + 2 + p * session_width) t)) slot → done ≡ part (p * session_width) session_width (area_in sessions t)
  unfolding area_in
  loaded p end t slot done long less size ee q =
      let e : end - (base + 2 + p * session_width) ≡ session_width = omega arith in
      q ∙ rw e (put_whole (part (base + 2 + p * session_width) session_width t) slot (length_part (base + 2 + p * session_width) session_width t (omega arith) ∙ sym size)) ∙ sym (part_part (base + 2) (room * session_width) (p * session_width) session_width t (omega arith))

pub fresh_made : (peer seid : ℕ) (slot mid next done : List ℕ) → length slot ≡ session_width → mid ≡ put 0 (zeros session_width) slot → next ≡ put 0 (be 1 peer) mid → done ≡ put 1 (be 8 seid) next
    → done ≡ put 1 (be 8 seid) (put 0 (be 1 peer) (zeros session_width))
fresh_made peer seid slot mid next done size m p d =
    d ∙ ap (put 1 (be 8 seid)) (p ∙ ap (put 0 (be 1 peer)) (m ∙ put_whole (zeros session_width) slot (length_zeros session_width ∙ sym size)))
