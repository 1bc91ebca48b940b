-- `fqcsid::keeps_rules` meets its contract: at each return, what the calls answered. Assumes nothing.
use mathlib.Core.Path.{sym, ◌∙◌}
use Rattle.octets.proofs.Bools.{and-true}
use Rattle.fqcsid.proofs.keeps_rules.Goals as goal

pub returns-then-not-is_kept : goal.returns-then-not-is_kept
returns-then-not-is_kept c = rw (sym c.is_kept.ensures ∙ c.if-not-is_kept.true)

pub returns-then-not-is_operator : goal.returns-then-not-is_operator
returns-then-not-is_operator c =
    rw (
      sym c.is_kept.ensures ∙ c.if-not-is_kept.false,
      sym c.is_operator.ensures ∙ c.if-not-is_operator.true,
    )

pub returns : goal.returns
returns c =
    rw (
      sym c.is_kept.ensures ∙ c.if-not-is_kept.false,
      sym c.is_operator.ensures ∙ c.if-not-is_operator.false,
    )
    (c.is_right_count.ensures ∙ sym (and-true _))
