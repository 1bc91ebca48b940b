-- One name that opens every definition, for the worked examples.
-- Assumes nothing.
use Prim.Native.Nat.{ℕ}
use Rattle.octets.specs.Octets
use Rattle.octets.specs.Lists
use Rattle.rules.specs.Model
use Rattle.rules.specs.Elements
use Rattle.rules.specs.Layout
use Rattle.rules.specs.Sound
use Rattle.rules.specs.Message
use Rattle.rules.specs.Reading
use Rattle.rules.specs.Grants
use Rattle.rules.specs.Stages
use Rattle.rules.specs.Apply
use Rattle.rules.specs.Reply
use Rattle.rules.specs.Serve
use Rattle.rules.specs.Live
use Rattle.rules.specs.Restoration
use Rattle.rules.specs.Restoring
use Rattle.rules.specs.Finding
use Rattle.rules.specs.Calls
use Rattle.rules.specs.Claim
use Rattle.rules.specs.Bare

unfoldable pub computing : ℕ
unfolding Octets.computing Lists.computing Model.computing Elements.computing Layout.computing Sound.computing Message.computing Reading.computing Grants.computing Stages.computing Apply.computing Reply.computing Serve.computing Live.computing Restoration.computing Restoring.computing Finding.computing Calls.computing Claim.computing Bare.computing
computing = 0
