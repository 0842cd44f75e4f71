use Rattle.std.proofs.Common.{rules, append_assoc}
use Rattle.http_core.proofs.writing.reply_head.Goals as goal

pub returns : goal.returns
returns c = search (rules, c.format.ensures.ok, append_assoc)
