use Rattle.sparql_print.proofs.ReadQueries.{query-reads-back}
use Rattle.sparql_print.proofs.law.read_queries_read_back.Goals as goal

pub returns : goal.returns
returns c = query-reads-back
