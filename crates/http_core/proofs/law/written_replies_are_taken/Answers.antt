use Rattle.http_core.proofs.WrittenReplies.{written_is_reply, reply_once}
use Rattle.http_core.proofs.law.written_replies_are_taken.Goals as goal

pub returns-clause-taken : goal.returns-clause-taken
returns-clause-taken c = written_is_reply

pub returns-clause-one : goal.returns-clause-one
returns-clause-one c = reply_once
