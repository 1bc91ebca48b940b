-- CHOOSEs that are read from octets fit. Assumes nothing.
use mathlib.Core.Bool.{true, ◌||◌}
use mathlib.Core.Option.{Option, none, some}
use mathlib.Core.List.{List}
use Prim.Native.Nat.{ℕ}
use lib.Dec.{T, ltb}
use lib.Pow.{are_bytes}
use Rattle.octets.specs.Lists.{all}
use Rattle.octets.proofs.Tests.{both}
use Rattle.octets.proofs.ListLaws.{OnSome, all_always, all_know}
use Rattle.rules.specs.Reading.{read_request}
use Rattle.rules.specs.Grants.{of_pdr, same_kind, choices}
use Rattle.laws.proofs.GrantLaws.{ChoiceRead, choices_read}
use Rattle.grants.proofs.ChoiceLaws.{id_is_octet, choice_fits}

-- CHOOSEs that are read from octets fit
pub read_choices_fit : (msg : List ℕ) → T (are_bytes msg) → T (all choice_fits (choices (read_request msg)))
read_choices_fit msg h =
    all_know ChoiceRead (λ _. true) choice_fits
    (λ c r _. both (id_is_octet c.choose_id) (same_kind of_pdr c.kind || ltb c.id 256) (octet c.choose_id r.octet) r.endpoint_id) (choices (read_request msg)) (choices_read msg h)
    (all_always (λ _. true) (λ _. tt) (choices (read_request msg)))
  where
    octet : (o : Option ℕ) → OnSome (λ i. T (ltb i 256)) o → T (id_is_octet o)
    octet none g = tt
    octet (some i) g = g
