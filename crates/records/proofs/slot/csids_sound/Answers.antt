-- `records::slot::csids_sound` meets its contract.
-- Assumes nothing.
use Rattle.std.proofs.Common.{ℕ, ◌<◌, ◌≤◌, List, [], length, take, sym, ap, ◌∙◌, arith}
use Rattle.octets.specs.Octets.{number}
use Rattle.rules.specs.Layout.{csid_width}
use Rattle.records.specs.Kept.{csid_sound}
use Rattle.records.proofs.Chunks.{row_at, rows_long}
use Rattle.records.proofs.Turns.{rows_none, rows_low, rows_bad, rows_more, rows_room}
use Rattle.records.proofs.slot.csids_sound.Goals as goal
use Rattle.records.proofs.slot.csids_sound.Goals.{then-node-next-via-then-node-next, then-node-next-via-else-node-next+then-not-csid_sound}

pub loop-row-init : goal.loop-row-init
loop-row-init c = rows_none csid_sound csid_width 1 c.args.a.now c.args.n

pub returns-then-node-next : goal.returns-then-node-next
returns-then-node-next c =
    let enough : c.args.n ≤ length c.as_chunks.result.0.now = omega (arith, c.requires, c.as_chunks.ensures.front_len) in
    let long = rows_long csid_width c.args.n _ c.args.a.now _ c.as_chunks.ensures.front enough in
    let here = row_at csid_width c.args.n _ c.args.a.now _ c.as_chunks.ensures.front enough c.loop-row.row-index [] c.loop-row-test.true in
    let within : c.loop-row.row-index < c.args.n = omega (arith, c.loop-row-test.true, long) in
    elim c.then-node-next.branch [
      | then-node-next-via-then-node-next w ↦ sym (rows_low csid_sound csid_width 1 c.args.a.now c.args.n c.loop-row.invariant within _ (c.read-node.ensures.0 ∙ ap (λ (r : List ℕ). number (take 1 r)) here) w.if-node-next.true)
      | then-node-next-via-else-node-next+then-not-csid_sound w ↦ sym (rows_bad csid_sound csid_width 1 c.args.a.now c.args.n c.loop-row.invariant within (ap csid_sound (sym here) ∙ sym w.csid_sound.ensures ∙ w.if-not-csid_sound.true))
    ]

pub loop-row-preserved : goal.loop-row-preserved
loop-row-preserved c =
    let enough : c.args.n ≤ length c.as_chunks.result.0.now = omega (arith, c.requires, c.as_chunks.ensures.front_len) in
    let long = rows_long csid_width c.args.n _ c.args.a.now _ c.as_chunks.ensures.front enough in
    let here = row_at csid_width c.args.n _ c.args.a.now _ c.as_chunks.ensures.front enough c.loop-row.row-index [] c.loop-row-test.true in
    let within : c.loop-row.row-index < c.args.n = omega (arith, c.loop-row-test.true, long) in
    rows_more csid_sound csid_width 1 c.args.a.now c.args.n c.loop-row.invariant within _ (c.read-node.ensures.0 ∙ ap (λ (r : List ℕ). number (take 1 r)) here) c.if-node-next.false (ap csid_sound (sym here) ∙ sym c.csid_sound.ensures ∙ c.if-not-csid_sound.false)

pub returns : goal.returns
returns c =
    let enough : c.args.n ≤ length c.as_chunks.result.0.now = omega (arith, c.requires, c.as_chunks.ensures.front_len) in
    let long = rows_long csid_width c.args.n _ c.args.a.now _ c.as_chunks.ensures.front enough in
    rows_room csid_sound csid_width 1 c.args.a.now c.args.n c.loop-row.invariant (omega (arith, c.loop-row-test.false, long)) c.requires c.is_zero.result c.is_zero.ensures
