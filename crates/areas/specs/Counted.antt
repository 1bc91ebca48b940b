-- Octets that hold an area of records and, elsewhere, how many there are: what is found there, and what putting a record in and taking one
-- out leave. Assumes nothing.
use Rattle.std.specs.Prelude.{Result, Ok, Err, List, map, ℕ, ◌+◌, ◌-◌, ◌*◌, ◌≤◌, ltb}
use Rattle.octets.specs.Choice.{pick}
use Rattle.octets.specs.Octets.{be, number_at, part, put, zeros, slices}
use Rattle.areas.specs.Records.{key_of, lookup, inserted, removed, replaced}
use Rattle.areas.specs.declared.Area.{Area}

-- octets of a length have room for the count and the records
pub record Fits (a : Area) (n : ℕ) : Type 0 where
  pub count : a.count_at + a.count_width ≤ n
  pub narrow : a.count_width ≤ 4
  pub records : a.at + a.room * a.width ≤ n
  pub keyed : a.key ≤ a.width

unfoldable pub count_in : Area → List ℕ → ℕ
count_in a s = number_at a.count_at a.count_width s

-- the records' octets, used and unused
unfoldable pub area_in : Area → List ℕ → List ℕ
area_in a s = part a.at (a.room * a.width) s

-- where a key stands or has its place; an area that counts more than it has room for has none
unfoldable pub place_in : Area → ℕ → List ℕ → Result ℕ ℕ
place_in a x s = pick (ltb a.room (count_in a s)) (Err 0) (lookup x (map (key_of a.key) (slices a.width (count_in a s) (area_in a s))))

-- ---- what is left after a change at a place

unfoldable pub inserted_in : Area → ℕ → List ℕ → List ℕ → List ℕ
inserted_in a p r s = put a.count_at (be a.count_width (count_in a s + 1)) (put a.at (inserted (count_in a s) p r (area_in a s)) s)

unfoldable pub removed_in : Area → ℕ → List ℕ → List ℕ
removed_in a p s = put a.count_at (be a.count_width (count_in a s - 1)) (put a.at (removed a.width (count_in a s) p (area_in a s)) s)

unfoldable pub replaced_in : Area → ℕ → List ℕ → List ℕ → List ℕ
replaced_in a p r s = put a.at (replaced p r (area_in a s)) s

unfoldable pub cleared_in : Area → List ℕ → List ℕ
cleared_in a s = put a.count_at (be a.count_width 0) (put a.at (zeros (a.room * a.width)) s)

-- ---- by key

-- by whether the key is there
abbrev pub at_place : Result ℕ ℕ → (ℕ → List ℕ) → (ℕ → List ℕ) → List ℕ
at_place (Ok p) there absent = there p
at_place (Err p) there absent = absent p

-- r over the record of its key, or put in where there is room
unfoldable pub with_record : Area → List ℕ → List ℕ → List ℕ
with_record a r s =
    at_place (place_in a (key_of a.key r) s) (λ p. replaced_in a p r s) (λ p. pick (ltb (count_in a s) a.room) (inserted_in a p r s) s)

-- the record of a key taken out
unfoldable pub without_record : Area → ℕ → List ℕ → List ℕ
without_record a x s = at_place (place_in a x s) (λ p. removed_in a p s) (λ p. s)
