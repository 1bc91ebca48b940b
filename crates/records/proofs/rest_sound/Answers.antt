-- `records::rest_sound` meets its contract.
-- Assumes nothing.
use Rattle.records.proofs.Answers.{rest_law}
use Rattle.records.proofs.rest_sound.Goals as goal

pub returns : goal.returns
returns c = search rest_law
