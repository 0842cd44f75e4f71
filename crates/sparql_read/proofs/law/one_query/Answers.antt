use Rattle.sparql_read.proofs.Refused.{one_query}
use Rattle.sparql_read.proofs.law.one_query.Goals as goal

pub returns : goal.returns
returns c = one_query
