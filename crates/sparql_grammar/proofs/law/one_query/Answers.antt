use Rattle.sparql_grammar.proofs.Spelled.{one_query}
use Rattle.sparql_grammar.proofs.law.one_query.Goals as goal

pub returns : goal.returns
returns c = one_query
