-- Demand 3: every accepted request keeps the rules, and so does every sequence of calls. And each peer has its due after every sequence (02 (xiv)).
-- Assumes nothing.
use Rattle.rules.specs.Claim.{Demand3, EachItsDue}
use Rattle.invariants.proofs.Steps.{keeps}
use Rattle.invariants.proofs.Accepting.{accepting}
use Rattle.invariants.proofs.After.{sound_after}
use Rattle.invariants.proofs.Changed.{changed_sound}
use Rattle.claim.proofs.Runs.{claim, dues}

pub demand3 : Demand3
demand3 = claim (keeps (accepting (sound_after changed_sound)))

pub each_its_due : EachItsDue
each_its_due = dues (keeps (accepting (sound_after changed_sound)))
