-- `marking::added` meets its contract.
-- Assumes nothing.
use Rattle.marking.proofs.Entering.{fits_one, fits_ones, fits_two, fits_twos}
use Rattle.marking.proofs.added.Goals as goal

pub overflow_mul-result : goal.overflow_mul-result
overflow_mul-result c = search fits_one

pub overflow_add-result : goal.overflow_add-result
overflow_add-result c = search fits_ones

pub overflow_mul-result-2 : goal.overflow_mul-result-2
overflow_mul-result-2 c = search fits_two

pub overflow_add-result-2 : goal.overflow_add-result-2
overflow_add-result-2 c = search fits_twos
