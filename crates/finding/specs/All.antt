-- All counts of a table, as the rules have them.
-- Assumes nothing.
use Rattle.std.specs.Prelude.{Result, Ok, Err}
use Rattle.rules.specs.Finding.{Counts, uncounted}
use Rattle.finding.specs.declared.counts.Counts as code
use Rattle.finding.specs.declared.Untold.{Untold}
use Rattle.finding.specs.Answers.{outcome_of}

abbrev pub counts_told : Result code.Counts Untold → Counts
counts_told (Ok r) =
    record {
      outcome = 0;
      sessions1 = r.peer1.sessions;
      teids1 = r.peer1.teids;
      sessions2 = r.peer2.sessions;
      teids2 = r.peer2.teids;
      free = r.free;
      free_addresses = r.addresses;
    }
counts_told (Err e) = uncounted (outcome_of e)
