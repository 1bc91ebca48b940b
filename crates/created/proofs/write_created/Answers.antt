-- `created::write_created` meets its contract: the list is filled from the rows, and its groups are written, those of PDRs first.
-- Assumes nothing.
use Rattle.std.proofs.Common.{◌≡◌, ◌≤◌, ◌+◌, ◌∙◌, ℕ, List, arith, ap, sym, length, take}
use Rattle.rules.specs.Model.{Settings}
use Rattle.rules.specs.Reply.{created}
use Rattle.unit.specs.Meaning.{settings_of}
use Rattle.writing.proofs.PlacedLaws.{placed_then}
use Rattle.created.specs.Groups.{Told, kind_in, groups, all_reports}
use Rattle.created.specs.Entries.{listed, entry_at, tolds_at, reports_at, filled}
use Rattle.created.specs.declared.Grant.{Grant as Entry}
use Rattle.created.proofs.GroupSteps.{created_two, length_created}
use Rattle.created.proofs.ListLaws.{listed_filled, listed_all}
use Rattle.created.proofs.write_created.Goals as goal

-- what the filled list tells is what the rows tell, and how long the groups of both kinds are
told : (plan places : List ℕ) (l es : List Entry) → es ≡ filled (entry_at plan places) (length places) l → listed (length places) es ≡ tolds_at plan places
told plan places l es e = ap (listed (length places)) e ∙ listed_filled plan places l

both_long : (s : Settings) (plan places : List ℕ) (l es : List Entry) → es ≡ filled (entry_at plan places) (length places) l
    → length (created s (reports_at plan places)) ≡ length (groups (kind_in 1) s (listed (length places) es)) + length (groups (kind_in 127) s (listed (length places) es))
both_long s plan places l es e = sym (ap (λ (ts : List Told). length (created s (all_reports ts))) (told plan places l es e)) ∙ length_created s (listed (length places) es)

pub write_groups-next-requires : goal.write_groups-next-requires
write_groups-next-requires c =
    let g = c.args in
    let f = c.fill in (
      rw (listed_all (take (length g.places.now) f.new.grants), told g.plan.now g.places.now _ f.new.grants f.ensures) c.requires.2,
      rw (listed_all (take (length g.places.now) f.new.grants)) (omega (arith, both_long (settings_of g.u) g.plan.now g.places.now _ f.new.grants f.ensures, c.requires.3)),
    )

pub write_groups-requires : goal.write_groups-requires
write_groups-requires c =
    let g = c.args in
    let f = c.fill in (
      rw (listed_all (take (length g.places.now) f.new.grants), told g.plan.now g.places.now _ f.new.grants f.ensures) c.requires.2,
      rw (listed_all (take (length g.places.now) f.new.grants))
          (omega (arith, both_long (settings_of g.u) g.plan.now g.places.now _ f.new.grants f.ensures, c.requires.3, (rw (listed_all (take (length g.places.now) f.new.grants)) at c.write_groups-next.ensures).ends, c.write_groups-next.auto.out)),
    )

pub returns : goal.returns
returns c =
    let g = c.args in
    let f = c.fill in
    let s = settings_of g.u in
    let ts = told g.plan.now g.places.now _ f.new.grants f.ensures in
    let both = sym (created_two s (listed (length g.places.now) f.new.grants)) ∙ ap (λ (gs : List Told). created s (all_reports gs)) ts in
    let fits : g.at + length (groups (kind_in 1) s (listed (length g.places.now) f.new.grants)) ≤ length g.out.now =
    omega (arith, both_long s g.plan.now g.places.now _ f.new.grants f.ensures, c.requires.3) in
    let all = listed_all (take (length g.places.now) f.new.grants) in
    rw (← both) (placed_then (rw all at c.write_groups-next.ensures) (rw all at c.write_groups.ensures) fits)
