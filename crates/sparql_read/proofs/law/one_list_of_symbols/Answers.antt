use Rattle.sparql_read.proofs.Laws.{one-symbols}
use Rattle.sparql_read.proofs.law.one_list_of_symbols.Goals as goal

pub returns : goal.returns
returns c = one-symbols
