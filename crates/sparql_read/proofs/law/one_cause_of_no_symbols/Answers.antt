use Rattle.sparql_read.proofs.Laws.{one-refusal}
use Rattle.sparql_read.proofs.law.one_cause_of_no_symbols.Goals as goal

pub returns : goal.returns
returns c = one-refusal
