-- `store::front` meets its contract, by the tests in turn. Assumes nothing.
use borrow.Author.Tests.{not-true}
use Rattle.store.proofs.FrontLaws.{short_front, cut_message, no_request, no_reply, long_reply, cut_reply, an_entry}
use Rattle.store.proofs.front.Goals as goal
use Rattle.store.proofs.front.Goals.{then-s-message_end-via-then-s-message_end, then-s-message_end-via-else-s-message_end+then-not-is_request, then-n-eq0-via-then-n-eq0, then-n-eq0-via-else-n-eq0+then-n-gt-REPLY, then-n-eq0-via-else-n-eq0+else-n-gt-REPLY+then-s-message_end-2}

pub returns-then-s-lt4 : goal.returns-then-s-lt4
returns-then-s-lt4 c = search short_front

pub returns-then-s-message_end : goal.returns-then-s-message_end
returns-then-s-message_end c =
    elim c.then-s-message_end.branch [
      | then-s-message_end-via-then-s-message_end w ↦ search cut_message
      | then-s-message_end-via-else-s-message_end+then-not-is_request w ↦ search (no_request, not-true)
    ]

pub returns-then-n-eq0 : goal.returns-then-n-eq0
returns-then-n-eq0 c =
    elim c.then-n-eq0.branch [
      | then-n-eq0-via-then-n-eq0 w ↦ search no_reply
      | then-n-eq0-via-else-n-eq0+then-n-gt-REPLY w ↦ search long_reply
      | then-n-eq0-via-else-n-eq0+else-n-gt-REPLY+then-s-message_end-2 w ↦ search cut_reply
    ]

pub returns : goal.returns
returns c = search an_entry
