-- What a peer has, as the rules have it.
-- Assumes nothing.
use Rattle.std.specs.Prelude.{Result, Ok, Err}
use Rattle.rules.specs.Finding.{Share, unshared}
use Rattle.finding.specs.declared.Share as code
use Rattle.finding.specs.declared.Untold.{Untold}
use Rattle.finding.specs.Answers.{outcome_of}

abbrev pub share_told : Result code.Share Untold → Share
share_told (Ok r) = record { outcome = 0; sessions = r.sessions; teids = r.teids }
share_told (Err e) = unshared (outcome_of e)
