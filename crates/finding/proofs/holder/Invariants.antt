-- `finding::holder` meets its contract: what is left of the sessions gives the same answer.
-- Assumes nothing.
use mathlib.Core.Path.{◌≡◌}
use Prim.Native.Nat.{◌≤◌, ◌-◌}
use lib.ListN.{length, drop}
use Rattle.rules.specs.Limits.{max_sessions}
use Rattle.rules.specs.Layout.{table_length, view_settings, view_sessions}
use Rattle.rules.specs.Finding.{place_from, is_holder, holder_place}
use Rattle.finding.proofs.holder.Given as goal

abbrev pub invariant-loop-i : goal.invariant-loop-i
invariant-loop-i l = (l.i ≤ l.n) × (l.n ≤ max_sessions) × (l.n ≤ (view_settings l.t).limit) × (length l.t ≡ table_length (view_settings l.t).limit) × (place_from l.i (is_holder l.teid) (drop l.i (view_sessions l.t)) ≡ holder_place l.teid (view_sessions l.t))

abbrev pub decreases-loop-i : goal.decreases-loop-i
decreases-loop-i l = l.n - l.i
