-- `grants::find_places` meets its contract: the places found and those of the rows that are left make all. Assumes nothing.
use Rattle.grants.specs.Choosing.{chosen_by}
use Rattle.grants.proofs.PlaceLaws.{Finding}
use Rattle.grants.proofs.find_places.Given as goal

abbrev pub invariant-loop-i : goal.invariant-loop-i
invariant-loop-i l = Finding l.rows (chosen_by l.anything l.tag) l.initial.places l.k l.places l.i l.found
