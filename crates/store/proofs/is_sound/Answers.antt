-- `store::is_sound` meets its contract: the walk's answer is the store's. Assumes nothing.
use Rattle.std.proofs.Common.{sym, ◌∙◌, leb-true, leb-false, eqb-true}
use Rattle.octets.proofs.Digits.{octets_known}
use Rattle.store.proofs.StoreLaws.{other_length, too_many, by_walk}
use Rattle.store.proofs.is_sound.Goals as goal
use Rattle.store.proofs.is_sound.Goals.{then-s-eq-LENGTH, else-s-eq-LENGTH}

pub returns-then-is_count : goal.returns-then-is_count
returns-then-is_count c =
    elim c.if-s-eq-LENGTH.branch [
      | then-s-eq-LENGTH w ↦ by_walk _ w.if-s-eq-LENGTH.true (octets_known _ (λ i. (c.type_inv.s i).fits)) (leb-true _ _ (sym w.is_count.ensures ∙ sym w.value-is ∙ c.if-is_count.true)) _ c.sound_from.ensures
      | else-s-eq-LENGTH w ↦ absurd (w.if-s-eq-LENGTH.false (eqb-true _ _ (sym w.value-is ∙ c.if-is_count.true)))
    ]

pub returns-else-is_count : goal.returns-else-is_count
returns-else-is_count c =
    elim c.if-s-eq-LENGTH.branch [
      | then-s-eq-LENGTH w ↦ c.if-is_count.false ∙ too_many _ w.if-s-eq-LENGTH.true (leb-false _ _ (sym w.is_count.ensures ∙ sym w.value-is ∙ c.if-is_count.false))
      | else-s-eq-LENGTH w ↦ c.if-is_count.false ∙ other_length _ w.if-s-eq-LENGTH.false
    ]
