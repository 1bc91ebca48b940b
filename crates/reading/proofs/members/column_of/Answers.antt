-- `column_of` meets its contract. Assumes nothing.
use mathlib.Core.Path.{sym}
use native.Mathlib.Omega.{arith}
use Rattle.reading.specs.Rows.{there_word}
use Rattle.reading.proofs.RowLaws.{column_none}
use Rattle.reading.proofs.members.column_of.Goals as goal

pub returns-in-56 : goal.returns-in-56
unfolding there_word
returns-in-56 c = (sym (rw c.in-56.is), omega arith)

pub returns-in-29 : goal.returns-in-29
unfolding there_word
returns-in-29 c = (sym (rw c.in-29.is), omega arith)

pub returns-in-108 : goal.returns-in-108
unfolding there_word
returns-in-108 c = (sym (rw c.in-108.is), omega arith)

pub returns-in-20 : goal.returns-in-20
unfolding there_word
returns-in-20 c = (sym (rw c.in-20.is), omega arith)

pub returns-in-131 : goal.returns-in-131
unfolding there_word
returns-in-131 c = (sym (rw c.in-131.is), omega arith)

pub returns-in-2 : goal.returns-in-2
unfolding there_word
returns-in-2 c = (sym (rw c.in-2.is), omega arith)

pub returns-in-21 : goal.returns-in-21
unfolding there_word
returns-in-21 c = (sym (rw c.in-21.is), omega arith)

pub returns-in-93 : goal.returns-in-93
unfolding there_word
returns-in-93 c = (sym (rw c.in-93.is), omega arith)

pub returns-in_default : goal.returns-in_default
returns-in_default c =
    (column_none _ (grind arith) (grind arith) (grind arith) (grind arith) (grind arith) (grind arith) (grind arith) (grind arith), omega arith)
