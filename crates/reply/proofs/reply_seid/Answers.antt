-- `reply::reply_seid` meets its contract: each test takes the case of the rule's.
-- Assumes nothing.
use Rattle.reply.proofs.ReplySteps.{seid_new, seid_refused, seid_unknown, seid_header}
use Rattle.reply.proofs.reply_seid.Goals as goal

pub returns-then-cause-eq1 : goal.returns-then-cause-eq1
returns-then-cause-eq1 c = search seid_new

pub returns-then-msg-eq-ESTABLISHMENT_OCTET : goal.returns-then-msg-eq-ESTABLISHMENT_OCTET
returns-then-msg-eq-ESTABLISHMENT_OCTET c = search seid_refused

pub returns-then-cause-eq65 : goal.returns-then-cause-eq65
returns-then-cause-eq65 c = search seid_unknown

pub returns : goal.returns
returns c = search seid_header
