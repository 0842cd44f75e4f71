use Rattle.sage.proofs.Opened.{all_may_later}
use Rattle.sage.proofs.answer.answer_store.Goals as goal

pub returns-clause-refused : goal.returns-clause-refused
returns-clause-refused g c = all_may_later c.answer_part.result c.args.store.now c.new.new.store c.answer_part.new.store c.new.ensures.kept c.answer_part.ensures.refused
