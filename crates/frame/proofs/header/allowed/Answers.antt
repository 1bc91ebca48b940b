-- `allowed` meets its contract: each return picks a case of `header_allowed`. Assumes nothing.
use Rattle.frame.proofs.HeaderLaws.{short_header, cut_header, wrong_octet, by_length}
use Rattle.frame.proofs.header.allowed.Goals as goal

pub returns-then-msg-lt-LIST_BODY : goal.returns-then-msg-lt-LIST_BODY
returns-then-msg-lt-LIST_BODY c = search short_header

pub returns-then-msg-length_of : goal.returns-then-msg-length_of
returns-then-msg-length_of c = search cut_header

pub returns-then-not-first_octet : goal.returns-then-not-first_octet
returns-then-not-first_octet c = search wrong_octet

pub returns : goal.returns
returns c = by_length _ _ c.length_of.ensures c.if-msg-lt-LIST_BODY.false c.if-msg-length_of.false _ c.read-kind.ensures.0 _ c.first_octet.ensures c.if-not-first_octet.false _ c.read.ensures.0
