-- `read_header` meets its contract: each return picks a case of `header_of`. Assumes nothing.
use mathlib.Core.Path.{sym, ◌∙◌}
use native.Mathlib.Omega.{arith}
use Rattle.frame.proofs.HeaderLaws.{allowed_long, too_long, malformed, not_served, a_set, a_request, request_long}
use Rattle.frame.proofs.header.read_header.Goals as goal

pub returns-then-msg-gt-MESSAGE : goal.returns-then-msg-gt-MESSAGE
returns-then-msg-gt-MESSAGE c = search too_long

pub returns-then-not-allowed : goal.returns-then-not-allowed
returns-then-not-allowed c = search malformed

pub read-kind-requires : goal.read-kind-requires
read-kind-requires c = omega (arith, allowed_long _ (sym c.if-not-allowed.false ∙ c.allowed.ensures))

pub returns-then-not-is_served : goal.returns-then-not-is_served
returns-then-not-is_served c = search not_served

pub returns-then-kind-eq-SET_DELETION : goal.returns-then-kind-eq-SET_DELETION
returns-then-kind-eq-SET_DELETION c = search a_set

pub read-requires : goal.read-requires
read-requires c = omega (arith, request_long _ c.if-msg-gt-MESSAGE.false _ c.allowed.ensures c.if-not-allowed.false _ c.read-kind.ensures.0 _ c.is_served.ensures c.if-kind-eq-SET_DELETION.false)

pub returns : goal.returns
returns c = search a_request
