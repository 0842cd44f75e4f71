use Rattle.sparql_read.proofs.Laws.{not-both-answers, some-answer}
use Rattle.sparql_read.proofs.law.symbols_or_refusal.Goals as goal

pub returns : goal.returns
returns c = record { not_both = not-both-answers; always = some-answer }
