-- Entries of the list of grants, from the rows of a plan.
-- Assumes nothing.
use mathlib.Core.List.{List}
use Prim.Native.Nat.{ℕ, ◌+◌, ◌≤◌, ◌<◌}
use lib.Dec.{T, leb→le}
use lib.ListN.{length, get_or}
use Rattle.octets.proofs.Tests.{all_at}
use Rattle.plan.specs.Rows.{row_width}
use Rattle.created.specs.Entries.{within}

module _ (plan places : List ℕ) (i : ℕ) (h : i < length places) (t : T (within plan places)) where
  pub row_inside : get_or places i 0 + row_width ≤ length plan
  row_inside = leb→le (get_or places i 0 + row_width) (length plan) (all_at _ 0 places i h t)
