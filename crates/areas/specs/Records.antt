-- Records of one width that stand one after the other in octets, each with a key in its first octets.
-- Assumes nothing.
use Rattle.std.specs.Prelude.{Result, Ok, Err, List, [], ◌∷◌, ◌++◌, ℕ, suc, ◌+◌, ◌-◌, ◌*◌, ◌^◌, leb, eqb, length, take}
use Rattle.octets.specs.Choice.{pick}
use Rattle.octets.specs.Octets.{part, put, number, zeros}

-- a record's key: the number of its first k octets
unfoldable pub key_of : ℕ → List ℕ → ℕ
key_of k r = number (take k r)

-- a key of nine octets in two numbers: the first octet, and the other eight
abbrev pub pair_key : ℕ → ℕ → ℕ
pair_key hi lo = hi * 2 ^ 64 + lo

-- where the key x stands among the keys, or has its place, counted from i: the first key that is not below x
unfoldable pub lookup_from : ℕ → ℕ → List ℕ → Result ℕ ℕ
lookup_from i x [] = Err i
lookup_from i x (y ∷ ys) = let t = lookup_from (suc i) x ys in pick (leb x y) (pick (eqb y x) (Ok i) (Err i)) t

abbrev pub lookup : ℕ → List ℕ → Result ℕ ℕ
lookup x keys = lookup_from 0 x keys

-- the first n records of s, with r put in at place p: the records from p on stand one place further
unfoldable pub inserted : ℕ → ℕ → List ℕ → List ℕ → List ℕ
inserted n p r s = put (p * length r) (r ++ part (p * length r) ((n - p) * length r) s) s

-- the first n records of w octets in s without the one at place p: those after it stand one place earlier, and zeros after them
unfoldable pub removed : ℕ → ℕ → ℕ → List ℕ → List ℕ
removed w n p s = put (p * w) (part ((p + 1) * w) ((n - (p + 1)) * w) s ++ zeros w) s

-- s with r in place of the record at place p
unfoldable pub replaced : ℕ → List ℕ → List ℕ → List ℕ
replaced p r s = put (p * length r) r s
