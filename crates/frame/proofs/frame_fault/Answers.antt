-- `frame::frame_fault` meets its contract: the framing of what follows the header, three deep. Assumes nothing.
use Rattle.frame.proofs.MessageFrame.{no_header, no_elements, by_elements}
use Rattle.frame.proofs.frame_fault.Goals as goal

pub returns-then-msg-lt-LIST_BODY : goal.returns-then-msg-lt-LIST_BODY
returns-then-msg-lt-LIST_BODY c = search no_header

pub returns-then-msg-at : goal.returns-then-msg-at
returns-then-msg-at c = search no_elements

pub returns : goal.returns
returns c = search by_elements
