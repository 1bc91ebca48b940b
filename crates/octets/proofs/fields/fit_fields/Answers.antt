-- `octets::fields::fit_fields` meets its contract: std's test of all pairs. Assumes nothing.
use Rattle.std.proofs.Common.{◌^◌, ◌∙◌, ltb, rules, ℕ}
use Rattle.std.proofs.lemmas.Iterator.{YieldsList-from_slice, YieldsList-from_zip}
use Rattle.std.proofs.lemmas.Iterator.Search.{all_from_yields_List}
use Rattle.octets.proofs.FieldLaws.{fit_pairs}
use Rattle.octets.proofs.fields.fit_fields.Goals as goal

pub returns : goal.returns
returns c =
    let a = c.args in
    all_from_yields_List (λ (p : ℕ × ℕ). ltb p.1 (256 ^ p.0)) c.all.new.self _ _ c.all.ensures.ran (YieldsList-from_zip (YieldsList-from_slice a.ws.now cc) (YieldsList-from_slice a.vs.now cc)) (λ x b q. search rules)
    ∙ fit_pairs a.ws.now a.vs.now c.requires
