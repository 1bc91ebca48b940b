-- `table::front_sound` meets its contract.
-- Assumes nothing.
use Rattle.std.proofs.Common.{◌≡◌, ℕ, ◌<◌, List, length, Bor, sym, ap, ◌∙◌, arith}
use Rattle.std.proofs.lemmas.Grind.{common_steps}
use Rattle.std.proofs.lemmas.Option.{MatchOption-at_some}
use Rattle.std.specs.Array.{IsFirstChunk}
use Rattle.octets.specs.Octets.{part}
use Rattle.rules.specs.Layout.{settings_width, view_settings}
use Rattle.records.specs.Kept.{settings_sound}
use Rattle.table.proofs.Examining.{slot_settings, front_room, front_is}
use Rattle.table.proofs.front_sound.Goals as goal

pub settings_sound-requires : goal.settings_sound-requires
settings_sound-requires c =
    let front : c.unwrap.result.now ≡ part 0 settings_width c.args.t.now = (MatchOption-at_some (length c.args.t.now < settings_width) (λ (p : Bor (List ℕ)). IsFirstChunk c.args.t.now p.now settings_width) c.unwrap.result c.unwrap.ensures c.first_chunk.ensures.cases).same in
    slot_settings c.args.t.now c.args.u c.requires.1 ∙ ap view_settings (sym front)

pub overflow_mul-u : goal.overflow_mul-u
overflow_mul-u c =
    let front : c.unwrap.result.now ≡ part 0 settings_width c.args.t.now = (MatchOption-at_some (length c.args.t.now < settings_width) (λ (p : Bor (List ℕ)). IsFirstChunk c.args.t.now p.now settings_width) c.unwrap.result c.unwrap.ensures c.first_chunk.ensures.cases).same in
    omega (arith, front_room c.args.t.now c.args.u c.requires.1 (ap settings_sound (sym front) ∙ sym c.settings_sound.ensures ∙ c.if-settings_sound.true))

pub overflow_add-u : goal.overflow_add-u
overflow_add-u c =
    let front : c.unwrap.result.now ≡ part 0 settings_width c.args.t.now = (MatchOption-at_some (length c.args.t.now < settings_width) (λ (p : Bor (List ℕ)). IsFirstChunk c.args.t.now p.now settings_width) c.unwrap.result c.unwrap.ensures c.first_chunk.ensures.cases).same in
    omega (arith, front_room c.args.t.now c.args.u c.requires.1 (ap settings_sound (sym front) ∙ sym c.settings_sound.ensures ∙ c.if-settings_sound.true))

pub returns-then-n-u : goal.returns-then-n-u
returns-then-n-u c =
    let front : c.unwrap.result.now ≡ part 0 settings_width c.args.t.now = (MatchOption-at_some (length c.args.t.now < settings_width) (λ (p : Bor (List ℕ)). IsFirstChunk c.args.t.now p.now settings_width) c.unwrap.result c.unwrap.ensures c.first_chunk.ensures.cases).same in
    grind (arith, front, front_is c.args.t.now c.args.u c.requires.1 c.read-n.result c.read-n.ensures.0)

pub returns-else-n-u : goal.returns-else-n-u
returns-else-n-u c =
    let front : c.unwrap.result.now ≡ part 0 settings_width c.args.t.now = (MatchOption-at_some (length c.args.t.now < settings_width) (λ (p : Bor (List ℕ)). IsFirstChunk c.args.t.now p.now settings_width) c.unwrap.result c.unwrap.ensures c.first_chunk.ensures.cases).same in
    grind (arith, common_steps, front, front_is c.args.t.now c.args.u c.requires.1 c.read-n.result c.read-n.ensures.0)
