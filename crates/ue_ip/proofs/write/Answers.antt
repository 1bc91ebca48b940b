-- `ue_ip::write` meets its contract, by the arms of its match. Assumes nothing.
use mathlib.Core.Path.{sym, ap, ◌∙◌}
use Rattle.rules.specs.Elements.{write_ue_ip}
use Rattle.ue_ip.specs.Meaning.{ue_of}
use Rattle.ue_ip.specs.declared.UeIp.{UeIp}
use Rattle.ue_ip.proofs.ValueLaws.{write_other}
use Rattle.ue_ip.proofs.write.Goals as goal

pub returns-in-Given : goal.returns-in-Given
returns-in-Given c =
    c.write_given.ensures ∙ ap (λ (v : UeIp). write_ue_ip (ue_of v) c.args.out.now) (sym c.in-Given.is)

pub returns-in-Choose : goal.returns-in-Choose
returns-in-Choose c =
    c.write_choose.ensures ∙ ap (λ (v : UeIp). write_ue_ip (ue_of v) c.args.out.now) (sym c.in-Choose.is)

pub returns-in-Other : goal.returns-in-Other
returns-in-Other c =
    let s = c.args.out.now in
    write_other s ∙ ap (λ (v : UeIp). write_ue_ip (ue_of v) s) (sym c.in-Other.is)
